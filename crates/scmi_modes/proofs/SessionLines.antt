-- The lines of steps, one step more.
use Rattle.std.proofs.Common.{List, [], ◌∷◌, ◌++◌}
use Rattle.scmi_modes.specs.StepLines.{AreLinesOf, IsLineOf}
use Rattle.scmi_text.specs.declared.step.Step.{Step}
use Rattle.scmi_text.specs.declared.step_line.StepLine.{StepLine}

pub follow_more : (steps : List Step) (lines : List StepLine) (s : Step) (line : StepLine)
    → AreLinesOf steps lines → IsLineOf s line → AreLinesOf (steps ++ s ∷ []) (lines ++ line ∷ [])
follow_more [] [] s line all one = (one, tt)
follow_more [] (x ∷ lines) s line all one = absurd all
follow_more (t ∷ steps) [] s line all one = absurd all
follow_more (t ∷ steps) (x ∷ lines) s line all one =
    (all.0, follow_more steps lines s line all.1 one)
