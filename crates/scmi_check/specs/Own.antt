-- Where another platform may answer otherwise by the profile: the rules that are its own, each as a
-- test of a command, the payload that is due and the one that was seen.
use Rattle.std.specs.Prelude.{ℕ, ◌==◌, ◌&&◌, nat_lt, not, Bool, true, false, List, [], ◌∷◌, Option, Result, Ok}
use Rattle.std.specs.List.{find}
use Rattle.scmi_codec.specs.Status.{status_word}
use Rattle.scmi_codec.specs.declared.base_command.BaseCommand.TheVariants as base
use Rattle.scmi_codec.specs.declared.clock_command.ClockCommand.TheVariants as clock
use Rattle.scmi_codec.specs.declared.command.Command.{Command}
use Rattle.scmi_codec.specs.declared.command.Command.TheVariants.{Base, Power, Clock}
use Rattle.scmi_codec.specs.declared.power_command.PowerCommand.TheVariants as power
use Rattle.scmi_codec.specs.declared.status.Status.{Status}
use Rattle.scmi_codec.specs.declared.status.Status.TheVariants.{Success, InvalidParameters, NotFound, OutOfRange}
use Rattle.scmi_check.specs.declared.own_rule.OwnRule.{OwnRule}
use Rattle.scmi_check.specs.declared.own_rule.OwnRule.TheVariants.{UnknownId, ReservedFlags, Skip, Index, ErrorForm, Version, BoardName}
use Rattle.scmi_check.specs.declared.own_rule.TheConstants.{BOARD_NAME, ERROR_FORM, INDEX, OWN_RULES, RESERVED_FLAGS, SKIP, UNKNOWN_ID, VERSION}

-- a payload begins with a status
abbrev pub begins_with : List ℕ → Status → Bool
begins_with [] status = false
begins_with (word ∷ words) status = word == status_word status

-- a payload is SUCCESS and one word more: a number of protocols, or of rates, and none of them
abbrev pub is_nothing_given : List ℕ → Bool
is_nothing_given (word ∷ number ∷ []) = word == status_word Success
is_nothing_given _ = false

-- an error is due, and the same is seen with words after it
abbrev pub is_longer_error : List ℕ → List ℕ → Bool
is_longer_error (due ∷ []) (first ∷ second ∷ others) =
    due == first && not (due == status_word Success)
is_longer_error _ _ = false

-- a reserved bit of a command's flags is set: bits 31 to 1, and of a rate's set bits 31 to 4
abbrev pub has_reserved_flags : Result Command Status → Bool
has_reserved_flags (Ok (Base (base.Permit a device flags))) = nat_lt 1 flags
has_reserved_flags (Ok (Base (base.PermitProtocol a device protocol flags))) = nat_lt 1 flags
has_reserved_flags (Ok (Base (base.ResetAgent a flags))) = nat_lt 1 flags
has_reserved_flags (Ok (Power (power.Set flags domain state))) = nat_lt 1 flags
has_reserved_flags (Ok (Clock (clock.SetRate flags clock rate))) = nat_lt 15 flags
has_reserved_flags (Ok (Clock (clock.Config clock attributes))) = nat_lt 1 attributes
has_reserved_flags _ = false

-- a command that asks for the list of protocols
abbrev pub asks_protocols : Result Command Status → Bool
asks_protocols (Ok (Base (base.Protocols skip))) = true
asks_protocols _ = false

-- a command that asks for the rates of a clock
abbrev pub describes_rates : Result Command Status → Bool
describes_rates (Ok (Clock (clock.Describe clock index))) = true
describes_rates _ = false

-- a command that asks for the version of a protocol
abbrev pub asks_version : Result Command Status → Bool
asks_version (Ok (Base base.Version)) = true
asks_version (Ok (Power power.Version)) = true
asks_version (Ok (Clock clock.Version)) = true
asks_version _ = false

-- a command asks for the board's vendor, sub-vendor or version
abbrev pub asks_board : Result Command Status → Bool
asks_board (Ok (Base base.Vendor)) = true
asks_board (Ok (Base base.SubVendor)) = true
asks_board (Ok (Base base.Implementation)) = true
asks_board _ = false

-- a reply to a command, which was read as this one, differs by a rule from the one that is due
abbrev pub is_by : OwnRule → Result Command Status → List ℕ → List ℕ → Bool
is_by UnknownId command due seen = begins_with due NotFound && begins_with seen InvalidParameters
is_by ReservedFlags command due seen =
    has_reserved_flags command && begins_with due InvalidParameters
is_by Skip command due seen =
    asks_protocols command && begins_with due InvalidParameters && is_nothing_given seen
is_by Index command due seen =
    describes_rates command && begins_with due OutOfRange && is_nothing_given seen
is_by ErrorForm command due seen = is_longer_error due seen
is_by Version command due seen =
    asks_version command && begins_with due Success && begins_with seen Success
is_by BoardName command due seen =
    asks_board command && begins_with due Success && begins_with seen Success

-- the first rule by which a reply differs
unfoldable pub own_rule : Result Command Status → List ℕ → List ℕ → Option OwnRule
own_rule command due seen = find (λ rule. is_by rule command due seen) OWN_RULES

-- the name of a rule
abbrev pub rule_name : OwnRule → List ℕ
rule_name UnknownId = UNKNOWN_ID.now
rule_name ReservedFlags = RESERVED_FLAGS.now
rule_name Skip = SKIP.now
rule_name Index = INDEX.now
rule_name ErrorForm = ERROR_FORM.now
rule_name Version = VERSION.now
rule_name BoardName = BOARD_NAME.now
