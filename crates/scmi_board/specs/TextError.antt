-- What the refusal of an input speaks of.
use Rattle.std.specs.Prelude.{⊤}
use Rattle.scmi_board.specs.declared.text_error.TextError.{TextError}
use Rattle.scmi_board.specs.declared.text_error.TextError.TheVariants.{Board, Script, Memory}

-- a refusal names a line of a board, or out of memory
abbrev pub IsOfBoard : TextError → Type 0
IsOfBoard (Board line) = ⊤
IsOfBoard (Script line) = ⊥
IsOfBoard Memory = ⊤

-- a refusal names a line of a script, or out of memory
abbrev pub IsOfScript : TextError → Type 0
IsOfScript (Board line) = ⊥
IsOfScript (Script line) = ⊤
IsOfScript Memory = ⊤
