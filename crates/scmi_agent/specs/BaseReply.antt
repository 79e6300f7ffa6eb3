-- The replies of the base protocol (DEN0056B, base protocol), 0x10, behind the status SUCCESS.
use Rattle.std.specs.Prelude.{ℕ, ◌+◌, ◌/◌, ◌==◌, if◌then◌else◌, List, [], ◌∷◌, length, Option, Some, None, slice_index}
use Rattle.scmi_codec.specs.Listing.{base_rows}
use Rattle.scmi_codec.specs.declared.messages.Part.{Part}
use Rattle.scmi_agent.specs.Reading.{exactly, read_among, name_at}
use Rattle.scmi_agent.specs.declared.base_reply.BaseReply.{BaseReply}
use Rattle.scmi_agent.specs.declared.base_reply.BaseReply.TheVariants as base

-- a count, and as many ids of protocols, four to a word
abbrev pub protocols_of : List ℕ → Option BaseReply
protocols_of [] = None
protocols_of (count ∷ ids) = if length ids == (count + 3) / 4
    then Some (base.Protocols count (record { items = ids })) else None

-- the readings in the order of the table
abbrev pub base_readings : List (List Part → List ℕ → Option BaseReply)
base_readings =
    exactly (λ w. base.Version (slice_index w 0))
    ∷ exactly (λ w. base.Attributes (slice_index w 0))
    ∷ exactly (λ w. base.MessageAttributes (slice_index w 0))
    ∷ exactly (λ w. base.Vendor (name_at 0 w))
    ∷ exactly (λ w. base.SubVendor (name_at 0 w))
    ∷ exactly (λ w. base.Implementation (slice_index w 0))
    ∷ (λ parts words. protocols_of words)
    ∷ exactly (λ w. base.Agent (slice_index w 0) (name_at 1 w))
    ∷ exactly (λ w. base.Permit) ∷ exactly (λ w. base.PermitProtocol)
    ∷ exactly (λ w. base.ResetAgent)
    ∷ []

-- what words give as the reply to a message of an id
abbrev pub base_reply : ℕ → List ℕ → Option BaseReply
base_reply id words = read_among base_rows base_readings id words
