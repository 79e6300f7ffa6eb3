-- The commands of the clock protocol (DEN0056B, clock management protocol), 0x14.
use Rattle.std.specs.Prelude.{ℕ, List, [], ◌∷◌, Result, slice_index}
use Rattle.scmi_codec.specs.Listing.{clock_rows, table_of}
use Rattle.scmi_codec.specs.Row.{Row, from_table}
use Rattle.scmi_codec.specs.Rate.{rate_of, rate_words}
use Rattle.scmi_codec.specs.declared.status.Status.{Status}
use Rattle.scmi_codec.specs.declared.clock_command.ClockCommand.{ClockCommand}
use Rattle.scmi_codec.specs.declared.clock_command.ClockCommand.TheVariants as clock

-- the messages in the order of their table, with the command that their payload words give
abbrev pub clock_table : List (Row ClockCommand)
clock_table = table_of clock_rows
    ((λ w. clock.Version) ∷ (λ w. clock.Attributes)
    ∷ (λ w. clock.MessageAttributes (slice_index w 0))
    ∷ (λ w. clock.ClockAttributes (slice_index w 0))
    ∷ (λ w. clock.Describe (slice_index w 0) (slice_index w 1))
    ∷ (λ w. clock.SetRate (slice_index w 0) (slice_index w 1)
    (rate_of (slice_index w 2) (slice_index w 3)))
    ∷ (λ w. clock.GetRate (slice_index w 0))
    ∷ (λ w. clock.Config (slice_index w 0) (slice_index w 1))
    ∷ [])

-- the command of a message id and payload words, or the status of the first check that fails
abbrev pub clock_of : ℕ → List ℕ → Result ClockCommand Status
clock_of id words = from_table clock_table id words

-- the message id of a command
abbrev pub clock_id : ClockCommand → ℕ
clock_id clock.Version = 0x0
clock_id clock.Attributes = 0x1
clock_id (clock.MessageAttributes message) = 0x2
clock_id (clock.ClockAttributes clock) = 0x3
clock_id (clock.Describe clock index) = 0x4
clock_id (clock.SetRate flags clock rate) = 0x5
clock_id (clock.GetRate clock) = 0x6
clock_id (clock.Config clock attributes) = 0x7

-- the payload words of a command
abbrev pub clock_words : ClockCommand → List ℕ
clock_words (clock.MessageAttributes message) = message ∷ []
clock_words (clock.ClockAttributes clock) = clock ∷ []
clock_words (clock.Describe clock index) = clock ∷ index ∷ []
clock_words (clock.SetRate flags clock rate) = flags ∷ clock ∷ rate_words rate
clock_words (clock.GetRate clock) = clock ∷ []
clock_words (clock.Config clock attributes) = clock ∷ attributes ∷ []
clock_words _ = []
