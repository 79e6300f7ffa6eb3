-- The refusal of an input by a line that was not read.
use Rattle.std.specs.Prelude.{◌≡◌, ℕ, ⊤, Option, Some, None, Result, Ok, Err}
use Rattle.scmi_board.specs.declared.line_error.LineError.{LineError}
use Rattle.scmi_board.specs.declared.line_error.LineError.TheVariants.{Form, Memory}
use Rattle.scmi_board.specs.declared.text_error.TextError.{TextError}
use Rattle.scmi_board.specs.declared.text_error.TextError.TheVariants.{Board, Script, Memory as NoMemory}

-- where the line of this number is read as a board's
abbrev pub board_refusal : LineError → ℕ → TextError
board_refusal Form number = Board number
board_refusal Memory number = NoMemory

-- where it is read as a script's
abbrev pub script_refusal : LineError → ℕ → TextError
script_refusal Form number = Script number
script_refusal Memory number = NoMemory

-- a reader of a line that takes no memory fails so, if nothing is there
abbrev pub Fails : {Y : Type 0} → LineError → Option Y → Type 0
Fails Form there = there ≡ None
Fails Memory there = ⊥

-- what it gives, seen by view, is what is there
abbrev pub Gives : {X Y : Type 0} → (X → Y) → Result X LineError → Option Y → Type 0
Gives view (Ok value) there = there ≡ Some (view value)
Gives view (Err error) there = Fails error there

-- the same of a reader that takes memory, unless that is refused
abbrev pub FailsUnless : {Y : Type 0} → LineError → Option Y → Type 0
FailsUnless Form there = there ≡ None
FailsUnless Memory there = ⊤

-- what a reader gives is what a line encodes, or its error is true
abbrev pub GivesUnless : {X Y : Type 0} → (X → Y) → Result X LineError → Option Y → Type 0
GivesUnless view (Ok value) there = there ≡ Some (view value)
GivesUnless view (Err error) there = FailsUnless error there
