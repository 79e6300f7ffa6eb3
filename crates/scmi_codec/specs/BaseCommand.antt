-- The commands of the base protocol (DEN0056B, base protocol), 0x10.
use Rattle.std.specs.Prelude.{ℕ, List, [], ◌∷◌, Result, slice_index}
use Rattle.scmi_codec.specs.Listing.{base_rows, table_of}
use Rattle.scmi_codec.specs.Row.{Row, from_table}
use Rattle.scmi_codec.specs.declared.status.Status.{Status}
use Rattle.scmi_codec.specs.declared.base_command.BaseCommand.{BaseCommand}
use Rattle.scmi_codec.specs.declared.base_command.BaseCommand.TheVariants as base

-- the messages in the order of their table, with the command that their payload words give
abbrev pub base_table : List (Row BaseCommand)
base_table = table_of base_rows
    ((λ w. base.Version) ∷ (λ w. base.Attributes)
    ∷ (λ w. base.MessageAttributes (slice_index w 0))
    ∷ (λ w. base.Vendor) ∷ (λ w. base.SubVendor) ∷ (λ w. base.Implementation)
    ∷ (λ w. base.Protocols (slice_index w 0))
    ∷ (λ w. base.Agent (slice_index w 0))
    ∷ (λ w. base.Permit (slice_index w 0) (slice_index w 1) (slice_index w 2))
    ∷ (λ w. base.PermitProtocol (slice_index w 0) (slice_index w 1) (slice_index w 2)
    (slice_index w 3))
    ∷ (λ w. base.ResetAgent (slice_index w 0) (slice_index w 1))
    ∷ [])

-- the command of a message id and payload words, or the status of the first check that fails
abbrev pub base_of : ℕ → List ℕ → Result BaseCommand Status
base_of id words = from_table base_table id words

-- the message id of a command
abbrev pub base_id : BaseCommand → ℕ
base_id base.Version = 0x0
base_id base.Attributes = 0x1
base_id (base.MessageAttributes message) = 0x2
base_id base.Vendor = 0x3
base_id base.SubVendor = 0x4
base_id base.Implementation = 0x5
base_id (base.Protocols skip) = 0x6
base_id (base.Agent agent) = 0x7
base_id (base.Permit agent device flags) = 0x9
base_id (base.PermitProtocol agent device protocol flags) = 0xA
base_id (base.ResetAgent agent flags) = 0xB

-- the payload words of a command
abbrev pub base_words : BaseCommand → List ℕ
base_words (base.MessageAttributes message) = message ∷ []
base_words (base.Protocols skip) = skip ∷ []
base_words (base.Agent agent) = agent ∷ []
base_words (base.Permit agent device flags) = agent ∷ device ∷ flags ∷ []
base_words (base.PermitProtocol agent device protocol flags) =
    agent ∷ device ∷ protocol ∷ flags ∷ []
base_words (base.ResetAgent agent flags) = agent ∷ flags ∷ []
base_words _ = []
