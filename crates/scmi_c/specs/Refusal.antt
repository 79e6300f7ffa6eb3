-- Why calls did nothing, and their numbers for C.
use Rattle.std.specs.Prelude.{ℕ, Result, Ok, Err}
use Rattle.scmi_c.specs.declared.refusal.Refusal.{Refusal}
use Rattle.scmi_c.specs.declared.refusal.Refusal.TheVariants.{Nothing, NoAgent, NotFree, NoFrame, WrongSize, WrongStatus, NoResource, NoState, NoRate, Other, Asked}

-- what a call gave, as the number that C is given
abbrev pub code_of : {A : Type 0} → Result A Refusal → ℕ
code_of (Ok done) = 0
code_of (Err Nothing) = 1
code_of (Err NoAgent) = 3
code_of (Err NotFree) = 4
code_of (Err NoFrame) = 8
code_of (Err WrongSize) = 10
code_of (Err WrongStatus) = 15
code_of (Err NoResource) = 11
code_of (Err NoState) = 32
code_of (Err NoRate) = 33
code_of (Err Other) = 34
code_of (Err Asked) = 12
