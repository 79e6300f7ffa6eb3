-- What a listener is given.
use Rattle.std.specs.Prelude.{◌≡◌, ◌⊎◌, List, ◌++◌, Option, Some, None, ⊤}
use Rattle.scmi_text.specs.declared.step.Step.{Step}
use Rattle.scmi_text.specs.declared.step_line.StepLine.{StepLine}

-- a step that was taken, and its line; at the end a line without a step
abbrev pub Heard : Type 0
Heard = Option Step × StepLine

-- what a listener was given grows by these, if it is known
abbrev pub Gives : Option (List Heard) → Option (List Heard) → List Heard → Type 0
Gives None new more = ⊤
Gives (Some all) None more = ⊥
Gives (Some all) (Some grown) more = grown ≡ all ++ more

-- a listener that refuses these was given what it was given before, or these too
abbrev pub MayGive : Option (List Heard) → Option (List Heard) → List Heard → Type 0
MayGive old new more = (new ≡ old) ⊎ Gives old new more
