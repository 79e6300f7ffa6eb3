-- Steps made one after the other, one step more.
use Rattle.std.proofs.Common.{Bool, List, [], ◌∷◌, ◌++◌, Result, refl, subst}
use Rattle.scmi_link.specs.View.{CallerView}
use Rattle.scmi_link.specs.declared.closing.Closing.{Closing}
use Rattle.scmi_link.specs.declared.close_error.CloseError.{CloseError}
use Rattle.scmi_plan.specs.Board.{Board}
use Rattle.scmi_text.specs.declared.step.Step.{Step}
use Rattle.scmi_text.specs.declared.step_line.StepLine.{StepLine}
use Rattle.scmi_modes.specs.SessionView.{SessionView}
use Rattle.scmi_modes.specs.SessionSteps.{Steps}
use Rattle.scmi_modes.specs.Run.{AllSteps, Runs, IsNewSession}

module _ (full : Bool) (Shows : CallerView → Result Closing CloseError → Type 0) where
  steps_more : (steps : List Step) (lines : List StepLine) (s : Step) (line : StepLine)
      (old mid new : SessionView) → AllSteps full Shows steps lines old mid → Steps full Shows s
      line mid new → AllSteps full Shows (steps ++ s ∷ []) (lines ++ line ∷ []) old new
  steps_more [] [] s line old mid new all one =
      (new, subst (λ v. Steps full Shows s line v new) all one, refl)
  steps_more [] (x ∷ lines) s line old mid new all one = absurd all
  steps_more (t ∷ steps) [] s line old mid new all one = absurd all
  steps_more (t ∷ steps) (x ∷ lines) s line old mid new all one =
      (all.0, all.1, steps_more steps lines s line all.0 mid new all.2 one)

  pub runs_none : (board : Board) (session : SessionView) → IsNewSession board session
      → Runs full Shows board [] [] session
  runs_none board session new = record { first = session; new = new; made = refl }

  pub runs_more : (board : Board) (steps : List Step) (lines : List StepLine) (s : Step)
      (line : StepLine) (mid new : SessionView) → Runs full Shows board steps lines mid → Steps full
      Shows s line mid new → Runs full Shows board (steps ++ s ∷ []) (lines ++ line ∷ []) new
  runs_more board steps lines s line mid new runs one = record {
    first = runs.first;
    new = runs.new;
    made = steps_more steps lines s line runs.first mid new runs.made one;
  }
