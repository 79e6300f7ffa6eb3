-- The steps of a script, by its lines.
use Rattle.std.specs.Prelude.{◌≡◌, ℕ, true, List, map, unwrap_or}
use Rattle.std.specs.Borrow.{Bor}
use Rattle.std.specs.List.{All}
use Rattle.std.specs.Option.{is_some}
use Rattle.scmi_text.specs.StepText.{step_of_line}
use Rattle.scmi_text.specs.declared.step.Step.{Step}
use Rattle.scmi_text.specs.declared.step.Step.TheVariants.{Advance}
use Rattle.scmi_text.specs.declared.step_kinds.StepKinds.{StepKinds}

-- the step of a line that has one
abbrev pub step_in : StepKinds → ℕ → Bor (List ℕ) → Step
step_in kinds agents line = unwrap_or (step_of_line kinds agents line.now) Advance

-- the steps of lines, each of which has one
abbrev pub steps_in : StepKinds → ℕ → List (Bor (List ℕ)) → List Step
steps_in kinds agents lines = map (step_in kinds agents) lines

-- a line has a step
abbrev pub HasStep : StepKinds → ℕ → Bor (List ℕ) → Type 0
HasStep kinds agents line = is_some (step_of_line kinds agents line.now) ≡ true

-- each of the lines has one
abbrev pub HaveSteps : StepKinds → ℕ → List (Bor (List ℕ)) → Type 0
HaveSteps kinds agents lines = All (HasStep kinds agents) lines
