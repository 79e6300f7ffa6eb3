-- What the steps of a script are.
use Rattle.std.specs.Prelude.{◌≡◌, ℕ, List, [], ◌∷◌, ◌++◌, Option, Some, None, IfSome}
use Rattle.scmi_plan.specs.Agent.{IsAgent}
use Rattle.scmi_text.specs.declared.step.Step.{Step}
use Rattle.scmi_text.specs.declared.step.Step.TheVariants.{Agent, Platform, Do, Advance, Fail, AdvanceFailed, Report, Restart}
use Rattle.scmi_text.specs.declared.step_kinds.StepKinds.{StepKinds}
use Rattle.scmi_text.specs.declared.step_kinds.StepKinds.TheVariants.{WithoutHardware}

-- the agent that a step names, if it names one
abbrev pub step_agent : Step → Option ℕ
step_agent (Agent agent step) = Some agent
step_agent (Platform agent step) = Some agent
step_agent (Do agent call) = Some agent
step_agent Advance = None
step_agent (Fail agent fault call) = Some agent
step_agent (AdvanceFailed fault) = None
step_agent (Report report) = None
step_agent (Restart agent) = Some agent

-- the agent that a step names is one of the board's
abbrev pub IsStepOf : ℕ → Step → Type 0
IsStepOf agents step = IfSome (step_agent step) (IsAgent agents)

-- a step is neither one beside hardware, which refuses or reports, nor the restart of an agent
abbrev pub IsWithoutHardware : Step → Type 0
IsWithoutHardware (Fail agent fault call) = ⊥
IsWithoutHardware (AdvanceFailed fault) = ⊥
IsWithoutHardware (Report report) = ⊥
IsWithoutHardware (Restart agent) = ⊥
IsWithoutHardware step = Unit {0}

-- a script of these kinds of steps may have the step
abbrev pub Allows : StepKinds → Step → Type 0
Allows kinds step = kinds ≡ WithoutHardware → IsWithoutHardware step

-- one step more, of these kinds, whose agent is one of the board's
pub record AddsStepOf (kinds : StepKinds) (agents : ℕ) (old new : List Step) : Type 0 where
  pub step : Step
  pub allowed : Allows kinds step
  pub of_agent : IsStepOf agents step
  pub added : new ≡ old ++ step ∷ []
