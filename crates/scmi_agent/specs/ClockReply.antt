-- The replies of the clock protocol (DEN0056B, clock management protocol), 0x14, behind the status
-- SUCCESS.
use Rattle.std.specs.Prelude.{ℕ, ◌*◌, ◌%◌, ◌^◌, ◌==◌, ◌&&◌, nat_lt, Bool, if◌then◌else◌, List, [], ◌∷◌, length, Option, Some, None, slice_index}
use Rattle.scmi_codec.specs.Rate.{rate_of}
use Rattle.scmi_codec.specs.Listing.{clock_rows}
use Rattle.scmi_codec.specs.declared.messages.Part.{Part}
use Rattle.scmi_agent.specs.Reading.{exactly, read_among, name_at}
use Rattle.scmi_agent.specs.declared.clock_reply.ClockReply.{ClockReply}
use Rattle.scmi_agent.specs.declared.clock_reply.ClockReply.TheVariants as clock

-- whether a flags word says that it has rates of this many words, one rate at least
abbrev pub has_rates : ℕ → ℕ → Bool
has_rates flags words = nat_lt 0 (flags % 2 ^ 12) && (words == 2 * (flags % 2 ^ 12))

-- a flags word, and as many rates as it says
abbrev pub rates_of : List ℕ → Option ClockReply
rates_of [] = None
rates_of (flags ∷ rates) = if has_rates flags (length rates)
    then Some (clock.Describe flags (record { items = rates })) else None

-- the readings in the order of the table
abbrev pub clock_readings : List (List Part → List ℕ → Option ClockReply)
clock_readings =
    exactly (λ w. clock.Version (slice_index w 0))
    ∷ exactly (λ w. clock.Attributes (slice_index w 0))
    ∷ exactly (λ w. clock.MessageAttributes (slice_index w 0))
    ∷ exactly (λ w. clock.ClockAttributes (slice_index w 0) (name_at 1 w))
    ∷ (λ parts words. rates_of words)
    ∷ exactly (λ w. clock.SetRate)
    ∷ exactly (λ w. clock.GetRate (rate_of (slice_index w 0) (slice_index w 1)))
    ∷ exactly (λ w. clock.Config)
    ∷ []

-- what words give as the reply to a message of an id
abbrev pub clock_reply : ℕ → List ℕ → Option ClockReply
clock_reply id words = read_among clock_rows clock_readings id words
