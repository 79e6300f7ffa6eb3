-- Words, numbers and names, as a chart has them.
use Rattle.std.specs.Prelude.{ℕ, ◌-◌, false, List, [], ◌∷◌, ◌++◌, flat_map}
use Rattle.std.specs.Fmt.{digits}
use Rattle.scmi_chart.specs.declared.words.TheConstants.{HEX, SPACE}

-- a number, hexadecimal
unfoldable pub hex_text : ℕ → List ℕ
hex_text n = HEX.now ++ digits 16 false n

-- words, hexadecimal, with a space before each
abbrev pub spaced_text : List ℕ → List ℕ
spaced_text words = flat_map (λ w. SPACE ∷ hex_text w) words

-- words, hexadecimal, with a space between two
abbrev pub words_text : List ℕ → List ℕ
words_text [] = []
words_text (w ∷ ws) = hex_text w ++ spaced_text ws
