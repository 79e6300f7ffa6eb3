-- What fills the holes of lines.
use Rattle.std.specs.Prelude.{ℕ, List, decimal}
use Rattle.scmi_text.specs.Words.{message_text, words_text}
use Rattle.scmi_text.specs.declared.value.Value.{Value}
use Rattle.scmi_text.specs.declared.value.Value.TheVariants as value

-- a value as it is written
abbrev pub value_text : Value → List ℕ
value_text (value.Number number) = decimal number
value_text (value.Count count) = decimal count
value_text (value.Name name) = name.now
value_text (value.Words words) = words_text words.now
value_text (value.Message message) = message_text message.now
