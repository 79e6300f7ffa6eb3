-- Which lines a step gives.
use Rattle.std.specs.Prelude.{◌≡◌, ℕ, List, [], ◌∷◌}
use Rattle.scmi_text.specs.declared.step.AgentStep.{AgentStep}
use Rattle.scmi_text.specs.declared.step.AgentStep.TheVariants.{Call, Raw, Malformed, Collect, P2a, Close}
use Rattle.scmi_text.specs.declared.step.PlatformStep.{PlatformStep}
use Rattle.scmi_text.specs.declared.step.PlatformStep.TheVariants.{Serve, Flush, Shut}
use Rattle.scmi_text.specs.declared.step.Step.{Step}
use Rattle.scmi_text.specs.declared.step.Step.TheVariants.{Agent, Platform, Do, Advance, Fail, AdvanceFailed, Report, Restart}
use Rattle.scmi_text.specs.declared.step_line.StepLine.{StepLine}
use Rattle.scmi_text.specs.declared.step_line.StepLine.TheVariants as line

-- the line reports what came of this call of the agent
abbrev pub IsAgentLine : ℕ → AgentStep → StepLine → Type 0
IsAgentLine a (Call call) (line.Token b token) = b ≡ a
IsAgentLine a (Call call) (line.NotPosted b refusal) = b ≡ a
IsAgentLine a (Raw message) (line.Posted b) = b ≡ a
IsAgentLine a (Raw message) (line.NotPosted b refusal) = b ≡ a
IsAgentLine a (Malformed len header) (line.Posted b) = b ≡ a
IsAgentLine a (Malformed len header) (line.NotPosted b refusal) = b ≡ a
IsAgentLine a Collect (line.Collected b collected) = b ≡ a
IsAgentLine a P2a (line.P2a b frame) = b ≡ a
IsAgentLine a Close (line.Closed b closing) = b ≡ a
IsAgentLine a _ _ = ⊥

-- the line reports what came of this call of the platform
abbrev pub IsPlatformLine : ℕ → PlatformStep → StepLine → Type 0
IsPlatformLine a Serve (line.Served b served) = b ≡ a
IsPlatformLine a Flush (line.Flushed b flushed) = b ≡ a
IsPlatformLine a Shut (line.Shut b closing) = b ≡ a
IsPlatformLine a _ _ = ⊥

-- the line reports what came of the step, and names its agent
abbrev pub IsLineOf : Step → StepLine → Type 0
IsLineOf (Agent a step) l = IsAgentLine a step l
IsLineOf (Platform a step) l = IsPlatformLine a step l
IsLineOf (Do a call) (line.NotPosted b refusal) = b ≡ a
IsLineOf (Do a call) (line.Collected b collected) = b ≡ a
IsLineOf Advance (line.Advanced more) = Unit {0}
IsLineOf (Fail a fault call) (line.NotPosted b refusal) = b ≡ a
IsLineOf (Fail a fault call) (line.Collected b collected) = b ≡ a
IsLineOf (AdvanceFailed fault) (line.AdvanceFailed more) = Unit {0}
IsLineOf (Report report) (line.Reported taken) = Unit {0}
IsLineOf (Restart a) (line.Restarted b) = b ≡ a
IsLineOf _ _ = ⊥

-- one line for each step, in order
abbrev pub AreLinesOf : List Step → List StepLine → Type 0
AreLinesOf [] [] = Unit {0}
AreLinesOf (s ∷ steps) (line ∷ lines) = IsLineOf s line × AreLinesOf steps lines
AreLinesOf _ _ = ⊥
