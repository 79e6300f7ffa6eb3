-- What steps without hardware add to the history: commands, advances and postings alone.
use Rattle.std.proofs.Common.{◌≡◌, ℕ, Bool, true, false, List, [], ◌∷◌, Result, sym, subst}
use Rattle.std.specs.List.{All}
use Rattle.std.proofs.lemmas.List.Elements.{All-head, All-nil, All-push, All-tail}
use Rattle.scmi_core.specs.Plain.{IsPlain}
use Rattle.scmi_core.specs.declared.event.Event.TheVariants as event
use Rattle.scmi_ends.proofs.PlainCalls.{flushed_plain, served_plain}
use Rattle.scmi_ends.specs.AgentView.{AgentView}
use Rattle.scmi_ends.specs.ControllerView.{ControllerView}
use Rattle.scmi_ends.specs.Serve.{Serves}
use Rattle.scmi_link.specs.View.{CallerView}
use Rattle.scmi_link.specs.declared.closing.Closing.{Closing}
use Rattle.scmi_link.specs.declared.close_error.CloseError.{CloseError}
use Rattle.scmi_link.specs.declared.collected.Collected.{Collected}
use Rattle.scmi_plan.specs.Board.{Board}
use Rattle.scmi_text.specs.Step.{IsWithoutHardware}
use Rattle.scmi_text.specs.declared.step.Call.{Call}
use Rattle.scmi_text.specs.declared.step.PlatformStep.{PlatformStep}
use Rattle.scmi_text.specs.declared.step.PlatformStep.TheVariants.{Serve, Flush, Shut}
use Rattle.scmi_text.specs.declared.step.Step.{Step}
use Rattle.scmi_text.specs.declared.step.Step.TheVariants.{Agent, Platform, Do, Advance, Fail, AdvanceFailed, Report, Restart}
use Rattle.scmi_text.specs.declared.step_line.StepLine.{StepLine}
use Rattle.scmi_text.specs.declared.step_line.StepLine.TheVariants as line
use Rattle.scmi_modes.specs.Run.{AllSteps, Runs}
use Rattle.scmi_modes.specs.SessionView.{SessionView}
use Rattle.scmi_modes.specs.SessionSteps.{Advances, AtAgent, Exchanges, PlatformMakes, Steps}

at_agent : (a : ℕ) (Makes : AgentView → AgentView → Type 0) (old new : SessionView)
    → AtAgent a Makes old new → All IsPlain old.platform.history → All IsPlain new.platform.history
at_agent a Makes old new made all =
    subst (λ (s : SessionView). All IsPlain s.platform.history) (sym made.same) all

unchanged : (old new : SessionView) → new ≡ old → All IsPlain old.platform.history
    → All IsPlain new.platform.history
unchanged old new is all = subst (λ (s : SessionView). All IsPlain s.platform.history) (sym is) all

advanced : (more : Bool) (old new : ControllerView) → Advances old more new
    → All IsPlain old.history → All IsPlain new.history
advanced true old new made all = subst (λ (c : ControllerView). All IsPlain c.history) (sym made.1)
    (All-push IsPlain old.history event.Advance all tt)
advanced false old new made all =
    subst (λ (c : ControllerView). All IsPlain c.history) (sym made.1) all

exchanged : (a : ℕ) (call : Call) (answer : Collected) (old new : SessionView)
    → Exchanges (Serves a) a call answer old new → All IsPlain old.platform.history
    → All IsPlain new.platform.history
exchanged a call answer old new made all =
    at_agent a _ made.executed new made.collects (served_plain a made.posted.platform made.served
    made.executed.platform made.serves.makes (at_agent a _ old made.posted made.calls all))

module _ (full : Bool) (Shows : CallerView → Result Closing CloseError → Type 0) where
  at_platform : (a : ℕ) (s : PlatformStep) (l : StepLine) (old new : ControllerView)
      → PlatformMakes full Shows a s l old new → All IsPlain old.history → All IsPlain new.history
  at_platform a Serve (line.Served b served) old new made all =
      served_plain a old served new made.1 all
  at_platform a Flush (line.Flushed b flushed) old new made all =
      flushed_plain full a old flushed new made.1 all
  at_platform a Shut (line.Shut b closing) old new made all =
      subst (λ (c : ControllerView). All IsPlain c.history) (sym made.1.same) all
  at_platform a s l old new made all = absurd made

  one_step : (s : Step) (l : StepLine) (old new : SessionView) → IsWithoutHardware s → Steps full
      Shows s l old new → All IsPlain old.platform.history → All IsPlain new.platform.history
  one_step (Agent a s) l old new without made all = at_agent a _ old new made all
  one_step (Platform a s) l old new without made all =
      at_platform a s l old.platform new.platform made.makes all
  one_step (Do a call) (line.NotPosted b refusal) old new without made all =
      at_agent a _ old new made.1 all
  one_step (Do a call) (line.Collected b answer) old new without made all =
      exchanged a call answer old new made.1 all
  one_step Advance (line.Advanced more) old new without made all =
      advanced more old.platform new.platform made.makes all
  one_step (Fail a fault call) l old new without made all = absurd without
  one_step (AdvanceFailed fault) l old new without made all = absurd without
  one_step (Report report) l old new without made all = absurd without
  one_step (Restart a) l old new without made all = absurd without
  one_step s l old new without made all = absurd made

  all_steps : (steps : List Step) (lines : List StepLine) (old new : SessionView)
      → AllSteps full Shows steps lines old new → All IsWithoutHardware steps
      → All IsPlain old.platform.history → All IsPlain new.platform.history
  all_steps [] [] old new made without all = unchanged old new made all
  all_steps [] (l ∷ lines) old new made without all = absurd made
  all_steps (s ∷ steps) [] old new made without all = absurd made
  all_steps (s ∷ steps) (l ∷ lines) old new made without all =
      all_steps steps lines made.0 new made.2 (All-tail IsWithoutHardware s steps without)
      (one_step s l old made.0 (All-head IsWithoutHardware s steps without) made.1 all)

  -- the history of a session whose steps are all without hardware
  pub runs_plain : (board : Board) (steps : List Step) (lines : List StepLine) (last : SessionView)
      → Runs full Shows board steps lines last → All IsWithoutHardware steps
      → All IsPlain last.platform.history
  runs_plain board steps lines last runs without = all_steps steps lines runs.first last runs.made
      without (subst (All IsPlain) (sym runs.new.history) (All-nil IsPlain))
