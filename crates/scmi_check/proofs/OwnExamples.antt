-- Replies that differ by each rule of the profile's own, and some that do not, computed.
use Rattle.std.proofs.Common.{◌≡◌, [], ◌∷◌, Some, None, Result, Ok, refl}
use Rattle.scmi_codec.specs.declared.base_command.BaseCommand.TheVariants as base
use Rattle.scmi_codec.specs.declared.clock_command.ClockCommand.TheVariants as clock
use Rattle.scmi_codec.specs.declared.command.Command.{Command}
use Rattle.scmi_codec.specs.declared.command.Command.TheVariants.{Base, Power, Clock}
use Rattle.scmi_codec.specs.declared.power_command.PowerCommand.TheVariants as power
use Rattle.scmi_codec.specs.declared.status.Status.{Status}
use Rattle.scmi_check.specs.Own.{own_rule}
use Rattle.scmi_check.specs.declared.own_rule.OwnRule.TheVariants.{UnknownId, ReservedFlags, Skip, Index, ErrorForm, Version, BoardName}

abbrev read : Command → Result Command Status
read command = Ok command

each_rule : own_rule (read (Power (power.Get 9))) (0xfffffffc ∷ []) (0xfffffffe ∷ [])
    ∷ own_rule (read (Clock (clock.Config 1 2))) (0xfffffffe ∷ []) (0 ∷ [])
    ∷ own_rule (read (Base (base.Protocols 3))) (0xfffffffe ∷ []) (0 ∷ 0 ∷ [])
    ∷ own_rule (read (Clock (clock.Describe 0 3))) (0xfffffffb ∷ []) (0 ∷ 0 ∷ [])
    ∷ own_rule (read (Power (power.Get 9))) (0xfffffffc ∷ []) (0xfffffffc ∷ 0 ∷ [])
    ∷ own_rule (read (Clock clock.Version)) (0 ∷ 0x10000 ∷ []) (0 ∷ 0x20000 ∷ [])
    ∷ own_rule (read (Base base.Implementation)) (0 ∷ 0x10000 ∷ []) (0 ∷ 0 ∷ []) ∷ []
    ≡ Some UnknownId ∷ Some ReservedFlags ∷ Some Skip ∷ Some Index ∷ Some ErrorForm ∷ Some Version
    ∷ Some BoardName ∷ []
unfolding own_rule
each_rule = refl

-- a state, a denied set, flags without a reserved bit, a list when none was due, and a longer
-- success
no_rule : own_rule (read (Power (power.Get 0))) (0 ∷ 0 ∷ []) (0 ∷ 0x40000000 ∷ [])
    ∷ own_rule (read (Power (power.Set 0 0 0))) (0xfffffffd ∷ []) (0 ∷ [])
    ∷ own_rule (read (Power (power.Set 1 0 5))) (0xfffffffe ∷ []) (0 ∷ [])
    ∷ own_rule (read (Base (base.Protocols 3))) (0xfffffffe ∷ []) (0 ∷ 2 ∷ 0x1411 ∷ [])
    ∷ own_rule (read (Power (power.Get 0))) (0 ∷ []) (0 ∷ 0 ∷ []) ∷ []
    ≡ None ∷ None ∷ None ∷ None ∷ None ∷ []
unfolding own_rule
no_rule = refl
