-- What an input of `run` or `chart` is run as.
use Rattle.std.specs.Prelude.{◌≡◌, ℕ, ◌||◌, Bool, true, false, List, [], ◌∷◌, ◌++◌, Option, Some, None, ⊤}
use Rattle.std.specs.Str.{bytes_eq}
use Rattle.scmi_io.specs.Lines.{after_line, first_line}
use Rattle.scmi_live.specs.Hertz.{in_hertz}
use Rattle.scmi_live.specs.Numbered.{IsInNumbers}
use Rattle.scmi_modes.specs.declared.mode_lines.TheConstants.{HARDWARE_RINGS, HARDWARE_WORDS}

-- whether a first line is a mode `hardware`
abbrev pub is_hardware : List ℕ → Bool
is_hardware line = bytes_eq line HARDWARE_RINGS.now || bytes_eq line HARDWARE_WORDS.now

-- an input, by whether its mode is one of `hardware`: then its board is in Hz and it has numbers in
-- place of names, else it is as it was
abbrev pub IsGivenBy : Bool → (input given : List ℕ) → Type 0
IsGivenBy false input given = given ≡ input
IsGivenBy true input given =
    (first_line given ≡ first_line input)
    × IsInNumbers (in_hertz (after_line input)) (after_line given)

-- an input, and what it is run as
abbrev pub IsGiven : (input given : List ℕ) → Type 0
IsGiven input given = IsGivenBy (is_hardware (first_line input)) input given

-- a task is done of what an input is run as, if that is known
abbrev pub OfGiven : (Option (List ℕ) → Type 0) → Option (List ℕ) → Type 0
OfGiven Does None = ⊤
OfGiven Does (Some input) = (given : List ℕ) × IsGiven input given × Does (Some given)

-- a first line, and the line feed that ended it, if one did
abbrev pub with_end : List ℕ → Bool → List ℕ
with_end line true = line ++ 10 ∷ []
with_end line false = line

-- a line, and what a text behind it becomes
pub record IsBehindLine (line text given : List ℕ) : Type 0 where
  pub made : List ℕ
  pub numbers : IsInNumbers (in_hertz text) made
  pub given_is : given ≡ line ++ 10 ∷ made
