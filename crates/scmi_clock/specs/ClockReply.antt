-- The replies of the clock protocol (DEN0056B, clock management protocol), 0x14.
use Rattle.std.specs.Prelude.{ℕ, ◌+◌, ◌-◌, ◌*◌, ◌/◌, ◌^◌, ◌&&◌, ◌||◌, Bool, true, false, not, nat_le, min, if◌then◌else◌, List, [], ◌∷◌, length, take, drop, Option, Some, is_none}
use Rattle.std.specs.List.{flat_map}
use Rattle.scmi_codec.specs.Listing.{is_listed}
use Rattle.scmi_codec.specs.declared.clock_command.ClockCommand.{ClockCommand}
use Rattle.scmi_codec.specs.declared.clock_command.ClockCommand.TheVariants as clock
use Rattle.scmi_codec.specs.declared.status.Status.TheVariants.{NotFound, InvalidParameters, NotSupported, OutOfRange, Denied, Busy}
use Rattle.scmi_plan.specs.Board.{Board, clock_at, is_absent, is_free, is_kept}
use Rattle.scmi_plan.specs.declared.agent_channel.AgentChannel.{AgentChannel}
use Rattle.scmi_plan.specs.declared.resource.Resource.TheVariants as resource
use Rattle.scmi_plan.specs.Rates.{SupportedRates}
use Rattle.scmi_plan.specs.Rates as rates
use Rattle.scmi_codec.specs.Name.{name_words}
use Rattle.scmi_codec.specs.Rate.{rate_words}
use Rattle.scmi_codec.specs.Reply.{Check, bit_0, reply_unless, other_bits}
use Rattle.scmi_clock.specs.Rounding.{round_to}
use Rattle.scmi_clock.specs.SetFlags.{rounding_of, is_asynchronous, has_unknown_flags}

-- what the replies to a caller depend on, besides the board: of each clock its rate in Hz, whether
-- it is enabled, whether the caller may change it and whether it has a pending set; whether another
-- pending set has room; and what the caller's channels are
pub record ClockView : Type 0 where
  pub rate : ℕ → ℕ
  pub enabled : ℕ → Bool
  pub may : ℕ → Bool
  pub busy : ℕ → Bool
  pub room : Bool
  pub channel : AgentChannel

-- the board has no such clock, or it is not there; they are numbered from 0
abbrev pub no_clock : Board → ℕ → Bool
no_clock board c = nat_le (length board.clocks) c || is_absent board (resource.Clock c)

-- the supported rate that a set's flags ask for, if there is one
abbrev pub rounded_rate : SupportedRates → ℕ → ℕ → Option ℕ
rounded_rate rates flags asked = round_to (rounding_of flags) rates asked

-- the rate that is asked for, where the clock is free, else the rounded one
abbrev pub rate_if : (free : Bool) → (asked : ℕ) → (rounded : Option ℕ) → Option ℕ
rate_if true asked rounded = Some asked
rate_if false asked rounded = rounded

-- the rate that a set's flags ask for, if there is one: of a free clock the rate that is asked for,
-- whatever it is (own)
abbrev pub rate_for : Board → (c flags asked : ℕ) → Option ℕ
rate_for board c flags asked =
    rate_if (is_free board c) asked (rounded_rate (clock_at board c).rates flags asked)

-- the index is past the end of a list of rates; a triplet is described whatever the index (own)
abbrev pub past_end : SupportedRates → ℕ → Bool
past_end (rates.list list) index = nat_le (length list) index
past_end (rates.steps low high step) index = false

-- the most rates of one reply on a channel: two words each, after the status and the flags word
abbrev pub most_rates : AgentChannel → ℕ
most_rates channel = (channel.words - 2) / 2

-- the flags word of rates: in bits 31 to 16 those that remain after this reply, in bits 11 to 0
-- those returned
abbrev pub rates_word : ℕ → ℕ → ℕ
rates_word remaining returned = remaining * 2 ^ 16 + returned

-- the flags word of a triplet: bit 12, and three rates
abbrev pub triplet_word : ℕ
triplet_word = 2 ^ 12 + 3

-- the flags word of a description, and its rates in Hz: those of a list from an index on that a
-- channel has room for, or the lowest, the highest and the step
abbrev pub rates_words : AgentChannel → SupportedRates → ℕ → List ℕ
rates_words channel (rates.list list) index =
    let left = length list - index in
    let count = min (most_rates channel) left in
    rates_word (left - count) count ∷ flat_map rate_words (take count (drop index list))
rates_words channel (rates.steps low high step) index =
    triplet_word ∷ flat_map rate_words (low ∷ high ∷ step ∷ [])

-- the most pending sets that an agent learns of: its share, none where the platform can't send to
-- it (own)
abbrev pub pending_announced : AgentChannel → ℕ
pending_announced channel = if channel.one_way then 0 else channel.share

-- the reply to 0x1: in bits 23 to 16 the most pending sets, in bits 15 to 0 the number of clocks
abbrev pub attributes_reply : Board → AgentChannel → List ℕ
attributes_reply board channel = 0 ∷ (pending_announced channel * 2 ^ 16 + length board.clocks) ∷ []

-- the reply to 0x2: an id of the protocol's table is supported, with no attributes
abbrev pub message_reply : ℕ → List ℕ
message_reply message = reply_unless ((not (is_listed 0x14 message), NotFound) ∷ []) (0 ∷ 0 ∷ [])

-- the reply to 0x3: in bit 0 whether the clock is enabled, and its name
abbrev pub clock_attributes_reply : Board → Bool → ℕ → List ℕ
clock_attributes_reply board enabled c =
    reply_unless ((no_clock board c, NotFound) ∷ [])
    (0 ∷ (if enabled then 1 else 0) ∷ name_words (clock_at board c).name)

-- the reply to 0x4: the rates from an index on, as many as the channel has room for
abbrev pub describe_reply : Board → AgentChannel → ℕ → ℕ → List ℕ
describe_reply board channel c index =
    reply_unless
    ((no_clock board c, NotFound) ∷ (past_end (clock_at board c).rates index, OutOfRange) ∷ [])
    (0 ∷ rates_words channel (clock_at board c).rates index)

-- the checks of 0x5, in order (own): clock, flags and rate, a delayed response that could not be
-- sent, permission, pending sets
abbrev pub set_checks : Board → AgentChannel → Bool → Bool → Bool → ℕ → ℕ → ℕ → List Check
set_checks board channel may busy room flags c rate =
    (no_clock board c, NotFound)
    ∷ (has_unknown_flags flags || is_none (rate_for board c flags rate), InvalidParameters)
    ∷ (channel.one_way && is_asynchronous flags, NotSupported)
    ∷ (not may, Denied)
    ∷ (busy || (is_asynchronous flags && not room), Busy)
    ∷ []

-- the reply to 0x6: the rate
abbrev pub rate_reply : Board → ℕ → ℕ → List ℕ
rate_reply board rate c = reply_unless ((no_clock board c, NotFound) ∷ []) (0 ∷ rate_words rate)

-- whether a configuration would disable a clock that its board keeps (own)
abbrev pub disables_kept : Board → (c attributes : ℕ) → Bool
disables_kept board c attributes = is_kept board (resource.Clock c) && not (bit_0 attributes)

-- the checks of 0x7, in order (own): clock, attributes, whether the caller may make the change
abbrev pub config_checks : Board → Bool → ℕ → ℕ → List Check
config_checks board may c attributes = (no_clock board c, NotFound)
    ∷ (other_bits attributes, InvalidParameters) ∷ (not may, Denied) ∷ []

-- the reply to a command of a caller (DEN0056B, clock management protocol)
unfoldable pub clock_reply : Board → ClockView → ClockCommand → List ℕ
clock_reply board v clock.Version = 0 ∷ 0x00010000 ∷ []
clock_reply board v clock.Attributes = attributes_reply board v.channel
clock_reply board v (clock.MessageAttributes message) = message_reply message
clock_reply board v (clock.ClockAttributes c) = clock_attributes_reply board (v.enabled c) c
clock_reply board v (clock.Describe c index) = describe_reply board v.channel c index
clock_reply board v (clock.SetRate flags c rate) =
    reply_unless (set_checks board v.channel (v.may c) (v.busy c) v.room flags c rate) (0 ∷ [])
clock_reply board v (clock.GetRate c) = rate_reply board (v.rate c) c
clock_reply board v (clock.Config c attributes) = reply_unless
    (config_checks board (v.may c && not (disables_kept board c attributes)) c attributes) (0 ∷ [])
