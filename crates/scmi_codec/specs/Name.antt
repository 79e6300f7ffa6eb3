-- Names of agents, domains, clocks and vendors.
use Rattle.std.specs.Prelude.{ℕ, ◌≤◌, List, [], ◌∷◌, length}
use Rattle.std.specs.List.{All}
use Rattle.scmi_codec.specs.Word.{word_at}
use Rattle.scmi_codec.specs.declared.name.TheConstants.{NAME_BYTES}

-- each byte is a printable one of ASCII, and no space
abbrev pub IsPrintable : List ℕ → Type 0
IsPrintable bytes = All (λ byte. (0x21 ≤ byte) × (byte ≤ 0x7E)) bytes

-- each byte is a printable one of ASCII, or a space
abbrev pub IsText : List ℕ → Type 0
IsText bytes = All (λ byte. (0x20 ≤ byte) × (byte ≤ 0x7E)) bytes

-- what a name may be (own)
pub record IsName (bytes : List ℕ) : Type 0 where
  pub some : 1 ≤ length bytes
  pub few : length bytes ≤ NAME_BYTES
  pub printable : IsPrintable bytes

-- what a name of a board that is loose may be: empty, and with spaces (own)
pub record IsLooseName (bytes : List ℕ) : Type 0 where
  pub few : length bytes ≤ NAME_BYTES
  pub text : IsText bytes

-- sixteen bytes in a reply: those given and zeros after them, four to a word, the first lowest
abbrev pub four_words : List ℕ → List ℕ
four_words bytes = word_at 0 bytes ∷ word_at 4 bytes ∷ word_at 8 bytes ∷ word_at 12 bytes ∷ []

-- a name in a reply
abbrev pub name_words : List ℕ → List ℕ
name_words name = four_words name
