-- The commands of the power domain protocol (DEN0056B, power domain management protocol), 0x11.
use Rattle.std.specs.Prelude.{ℕ, List, [], ◌∷◌, Result, slice_index}
use Rattle.scmi_codec.specs.Listing.{power_rows, table_of}
use Rattle.scmi_codec.specs.Row.{Row, from_table}
use Rattle.scmi_codec.specs.declared.status.Status.{Status}
use Rattle.scmi_codec.specs.declared.power_command.PowerCommand.{PowerCommand}
use Rattle.scmi_codec.specs.declared.power_command.PowerCommand.TheVariants as power

-- the messages in the order of their table, with the command that their payload words give
abbrev pub power_table : List (Row PowerCommand)
power_table = table_of power_rows
    ((λ w. power.Version) ∷ (λ w. power.Attributes)
    ∷ (λ w. power.MessageAttributes (slice_index w 0))
    ∷ (λ w. power.DomainAttributes (slice_index w 0))
    ∷ (λ w. power.Set (slice_index w 0) (slice_index w 1) (slice_index w 2))
    ∷ (λ w. power.Get (slice_index w 0))
    ∷ (λ w. power.Notify (slice_index w 0) (slice_index w 1))
    ∷ [])

-- the command of a message id and payload words, or the status of the first check that fails
abbrev pub power_of : ℕ → List ℕ → Result PowerCommand Status
power_of id words = from_table power_table id words

-- the message id of a command
abbrev pub power_id : PowerCommand → ℕ
power_id power.Version = 0x0
power_id power.Attributes = 0x1
power_id (power.MessageAttributes message) = 0x2
power_id (power.DomainAttributes domain) = 0x3
power_id (power.Set flags domain state) = 0x4
power_id (power.Get domain) = 0x5
power_id (power.Notify domain enable) = 0x6

-- the payload words of a command
abbrev pub power_words : PowerCommand → List ℕ
power_words (power.MessageAttributes message) = message ∷ []
power_words (power.DomainAttributes domain) = domain ∷ []
power_words (power.Set flags domain state) = flags ∷ domain ∷ state ∷ []
power_words (power.Get domain) = domain ∷ []
power_words (power.Notify domain enable) = domain ∷ enable ∷ []
power_words _ = []
