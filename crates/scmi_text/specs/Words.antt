-- Words and messages as they are written.
use Rattle.std.specs.Prelude.{ℕ, ◌-◌, List, ◌++◌, length, replicate, flat_map, false}
use Rattle.std.specs.Fmt.{digits}
use Rattle.scmi_codec.specs.Header.{header_word}
use Rattle.scmi_codec.specs.declared.message.Message.{Message}
use Rattle.scmi_text.specs.declared.words.TheConstants.{WORD_MARK}

-- a word as eight lower-case hexadecimal digits
abbrev pub digits_text : ℕ → List ℕ
digits_text word = replicate (8 - length (digits 16 false word)) 48 ++ digits 16 false word

-- a word behind its mark
abbrev pub word_text : ℕ → List ℕ
word_text word = WORD_MARK ++ digits_text word

-- words, one behind the other
abbrev pub words_text : List ℕ → List ℕ
words_text words = flat_map word_text words

-- a message as its header word and its payload words
abbrev pub message_text : Message → List ℕ
message_text message = word_text (header_word message.header) ++ words_text message.payload.items
