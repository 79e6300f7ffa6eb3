-- The replies of the power domain protocol (DEN0056B, power domain management protocol), 0x11,
-- behind the status SUCCESS.
use Rattle.std.specs.Prelude.{ℕ, List, [], ◌∷◌, Option, slice_index}
use Rattle.scmi_codec.specs.Listing.{power_rows}
use Rattle.scmi_codec.specs.declared.messages.Part.{Part}
use Rattle.scmi_agent.specs.Reading.{exactly, read_among, name_at}
use Rattle.scmi_agent.specs.declared.power_reply.PowerReply.{PowerReply}
use Rattle.scmi_agent.specs.declared.power_reply.PowerReply.TheVariants as power

-- the readings in the order of the table
abbrev pub power_readings : List (List Part → List ℕ → Option PowerReply)
power_readings =
    exactly (λ w. power.Version (slice_index w 0))
    ∷ exactly (λ w. power.Attributes (slice_index w 0)
    (slice_index w 1 ∷ slice_index w 2 ∷ slice_index w 3 ∷ []))
    ∷ exactly (λ w. power.MessageAttributes (slice_index w 0))
    ∷ exactly (λ w. power.DomainAttributes (slice_index w 0) (name_at 1 w))
    ∷ exactly (λ w. power.Set)
    ∷ exactly (λ w. power.Get (slice_index w 0))
    ∷ exactly (λ w. power.Notify)
    ∷ []

-- what words give as the reply to a message of an id
abbrev pub power_reply : ℕ → List ℕ → Option PowerReply
power_reply id words = read_among power_rows power_readings id words
