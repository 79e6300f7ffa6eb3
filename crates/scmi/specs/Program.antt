-- What the program writes.
use Rattle.std.specs.Prelude.{ℕ, List, Option, None, Some, IfSome, IsTrue, ⊤}
use Rattle.scmi_modes.specs.Program.{AnswersOnce, RunsHardware, RunsSteps, RunsThreads}
use Rattle.scmi_decode.specs.Decoded.{has_area}
use Rattle.scmi_decode.specs.Finding.{any_area, parts_found}
use Rattle.scmi_decode.specs.declared.layout.Layout.{Layout}
use Rattle.scmi_decode.specs.declared.layout.Layout.TheVariants.{Whole}
use Rattle.scmi_chart.specs.Picture.{IsDiagram}
use Rattle.scmi_live.specs.Hertz.{in_hertz}
use Rattle.scmi.specs.TableRun.{HoldsBoard}
use Rattle.scmi.specs.Given.{OfGiven}
use Rattle.scmi.specs.declared.request.Request.{Request}
use Rattle.scmi.specs.declared.request.Request.TheVariants.{Do, Dumps, Bytes, Diagram}
use Rattle.scmi.specs.declared.request.Task.TheVariants.{Run, Decode, Session, Check, Table}

-- an input has an area, if it is known
abbrev pub HasArea : Layout → Option (List ℕ) → Type 0
HasArea l input = IfSome input (λ bytes. IsTrue (has_area l bytes))

-- what a run of an input writes
abbrev pub Runs : Option (List ℕ) → Option (List ℕ) → Option (List ℕ) → Type 0
Runs input old new = AnswersOnce input old new × RunsThreads input old new × RunsSteps input old new
    × RunsHardware input old new

-- what is written of a script of numbers
abbrev pub AnswersOf : Request → Option (List ℕ) → Option (List ℕ) → Option (List ℕ) → Type 0
AnswersOf (Do Run) given old new = Runs given old new
AnswersOf Diagram given old new = IsDiagram given old new
AnswersOf asked given old new = ⊤

-- what is written for a request, if its task writes a text that is proved: a run and a diagram are
-- of the input with numbers in place of names, if its mode is one of `hardware`; of dumps and
-- bytes, that an area is found; of tables, that the input holds a board. A session needs the file
-- of its board, and without one nothing is answered
abbrev pub Answers : Request → Option (List ℕ) → Option (List ℕ) → Option (List ℕ) → Type 0
Answers (Do Run) input old new = OfGiven (λ given. AnswersOf (Do Run) given old new) input
Answers (Do Decode) input old new = HasArea Whole input
Answers (Dumps l) input old new = HasArea l input
Answers (Bytes l) input old new =
    IfSome input (λ bytes. IsTrue (any_area (parts_found l None bytes)))
Answers (Do Session) input old new = ⊥
Answers (Do Check) input old new = ⊥
Answers (Do Table) input old new = IfSome input (λ text. HoldsBoard (Some (in_hertz text)))
Answers Diagram input old new = OfGiven (λ given. AnswersOf Diagram given old new) input
Answers asked input old new = ⊤
