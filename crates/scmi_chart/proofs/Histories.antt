-- The steps of a run's history, one event after another.
use Rattle.std.proofs.Common.{◌≡◌, ℕ, ◌+◌, ◌≤◌, Bool, true, false, cond, List, [], ◌∷◌, ◌++◌, length, sym, ap, ◌∙◌, append_assoc, subst, Result, Ok, Err, IfOk, vec_len, refl, arith}
use Rattle.std.specs.Prelude.{nat_eq, nat_lt, is_some}
use Rattle.std.specs.List.{All, count_by}
use Rattle.std.proofs.lemmas.List.Elements.{All-append, All-cons, All-nil}
use Rattle.scmi_codec.specs.declared.fault.Fault.{Fault}
use Rattle.scmi_codec.specs.declared.frame.Frame.{Frame}
use Rattle.scmi_codec.specs.declared.frame.Frame.TheVariants as frame
use Rattle.scmi_core.specs.Legal.{CanFollow, IsLegal}
use Rattle.scmi_core.specs.declared.event.Event.{Event}
use Rattle.scmi_core.specs.declared.event.Event.TheVariants as event
use Rattle.scmi_plan.specs.Agent.{IsAgent}
use Rattle.scmi_plan.specs.Board.{Board}
use Rattle.scmi_plan.specs.declared.report.Report.TheVariants as report
use Rattle.scmi_link.specs.declared.script.Script.{Script}
use Rattle.scmi_link.specs.Scripts.{orders_of}
use Rattle.scmi_text.specs.Step.{IsStepOf}
use Rattle.scmi_text.specs.declared.step.Step.{Step}
use Rattle.scmi_text.specs.declared.step.Step.TheVariants as step
use Rattle.scmi_text.specs.declared.step.AgentStep.{AgentStep}
use Rattle.scmi_text.specs.declared.step.AgentStep.TheVariants as agent_step
use Rattle.scmi_text.specs.declared.step.PlatformStep.TheVariants as platform_step
use Rattle.scmi_threads.specs.declared.agent_log.AgentLog.{AgentLog}
use Rattle.scmi_threads.specs.declared.outcome.Outcome.{Outcome}
use Rattle.scmi_threads.specs.Logs.{LogHeadline}
use Rattle.scmi_threads.specs.ScriptLogs.{IsScriptLog}
use Rattle.scmi_ends.specs.Each.{AllFrom}
use Rattle.scmi_link.specs.View.{CallerView}
use Rattle.scmi_link.specs.declared.closing.Closing.{Closing}
use Rattle.scmi_link.specs.declared.close_error.CloseError.{CloseError}
use Rattle.scmi_chart.specs.declared.chart.Chart.{Chart}
use Rattle.scmi_chart.specs.Run.{ShowsRun}
use Rattle.scmi_modes.specs.Runs.{may_be_full}
use Rattle.scmi_modes.specs.Steps.{shows_close}
use Rattle.scmi_chart.specs.Threads.{HasScripts, ShowsOutcome, ShowsScripts, ShowsThreads}
use Rattle.scmi_modes.specs.declared.kind.Kind.{Kind}
use Rattle.scmi_modes.specs.declared.run_error.RunError.{RunError}
use Rattle.scmi_chart.specs.History.{call_of, closes_from, closing_steps, command_steps, malformed_steps, receivers, refusal_steps, steps_after, steps_of_event, steps_of_run, taken_by, taking_steps}

module _ (board : Board) where
  -- a step is of an agent of the board
  abbrev OfBoard : Step → Type 0
  OfBoard = IsStepOf (length board.agents)

  none_of_board : All OfBoard []
  none_of_board = All-nil OfBoard

  one_of_board : (s : Step) → OfBoard s → All OfBoard (s ∷ [])
  one_of_board s is = All-cons OfBoard s [] is none_of_board

  malformed_of_board : (a len header : ℕ) → IsAgent (length board.agents) a
      → All OfBoard (malformed_steps a len header)
  malformed_of_board a len header is =
      let post : Step = step.Agent a (agent_step.Malformed len header) in
      let serve : Step = step.Platform a platform_step.Serve in
      let collect : Step = step.Agent a agent_step.Collect in
      All-cons OfBoard post (serve ∷ collect ∷ []) is
      (All-cons OfBoard serve (collect ∷ []) is (one_of_board collect is))

  command_of_board : (a : ℕ) (f : Frame) → IsAgent (length board.agents) a
      → All OfBoard (command_steps a f)
  command_of_board a (frame.Good m) is = one_of_board (step.Do a (call_of m)) is
  command_of_board a (frame.Malformed len header) is = malformed_of_board a len header is

  refusal_of_board : (a : ℕ) (fault : Fault) (f : Frame) → IsAgent (length board.agents) a
      → All OfBoard (refusal_steps a fault f)
  refusal_of_board a fault (frame.Good m) is = one_of_board (step.Fail a fault (call_of m)) is
  refusal_of_board a fault (frame.Malformed len header) is = malformed_of_board a len header is

  maybe_of_board : (a : ℕ) (of_agent : AgentStep) (does : Bool) → IsAgent (length board.agents) a
      → All OfBoard (cond does (step.Agent a of_agent ∷ []) [])
  maybe_of_board a of_agent true is = one_of_board (step.Agent a of_agent) is
  maybe_of_board a of_agent false is = none_of_board

  event_of_board : (logs : List AgentLog) (sent : List ℕ) (before : List Event) (e : Event)
      → CanFollow board before e → All OfBoard (steps_of_event logs sent e)
  event_of_board logs sent before (event.Command a f) may = command_of_board a f may
  event_of_board logs sent before event.Advance may = one_of_board step.Advance tt
  event_of_board logs sent before (event.Sent a) may =
      let is : IsAgent (length board.agents) a = (may.0, may.1) in
      All-cons OfBoard (step.Platform a platform_step.Flush) (taking_steps logs sent a) is
      (maybe_of_board a agent_step.P2a (nat_lt (count_by (nat_eq a) sent) (taken_by logs a)) is)
  event_of_board logs sent before (event.CommandFailed a f fault) may =
      refusal_of_board a fault f may.0
  event_of_board logs sent before (event.AdvanceFailed fault) may =
      one_of_board (step.AdvanceFailed fault) tt
  event_of_board logs sent before (event.Restarted a) may = one_of_board (step.Restart a) may
  event_of_board logs sent before (event.Reported effect) may =
      one_of_board (step.Report (report.Changed effect)) tt
  event_of_board logs sent before (event.Promoted place) may =
      one_of_board (step.Report (report.First place)) tt
  event_of_board logs sent before (event.Settled clock rate) may =
      one_of_board (step.Report (report.Settled clock rate)) tt

  events_of_board : (h : List Event) → IsLegal board h → (logs : List AgentLog) (sent : List ℕ)
      (before after : List Event) → h ≡ before ++ after → All OfBoard (steps_after logs sent after)
  events_of_board h legal logs sent before [] parted = none_of_board
  events_of_board h legal logs sent before (e ∷ after) parted =
      All-append OfBoard (steps_of_event logs sent e) (steps_after logs (sent ++ receivers e) after)
      (event_of_board logs sent before e (legal.each before after e parted))
      (events_of_board h legal logs (sent ++ receivers e) (before ++ e ∷ []) after
      (parted ∙ sym (append_assoc before (e ∷ []) after)))

  closes_of_board : (a : ℕ) (logs : List AgentLog) → 1 ≤ a
      → a + length logs ≤ length board.agents + 1 → All OfBoard (closes_from a logs)
  closes_of_board a [] first few = none_of_board
  closes_of_board a (log ∷ logs) first few =
      let is : IsAgent (length board.agents) a = (first, omega (arith, few)) in
      All-append OfBoard (closing_steps a log) (closes_from (a + 1) logs)
      (maybe_of_board a agent_step.Close (is_some log.closing) is)
      (closes_of_board (a + 1) logs (omega (arith, first)) (omega (arith, few)))

  -- each step of a run is of an agent of the board
  pub steps_of_board : (h : List Event) (logs : List AgentLog) → IsLegal board h
      → length logs ≤ length board.agents → All OfBoard (steps_of_run h logs)
  steps_of_board h logs legal few =
      All-append OfBoard (steps_after logs [] h) (closes_from 1 logs)
      (events_of_board h legal logs [] [] h refl)
      (closes_of_board 1 logs (omega arith) (omega (arith, few)))

-- a chart of the steps of what a run left shows that
pub shows_outcome : (full : Bool) (Shows : CallerView → Result Closing CloseError → Type 0)
    (plan again board : Board) (scripts : List Script) (outcome : Outcome)
    (logs : List AgentLog) (steps drawn : List Step) (r : Result Chart RunError) → plan ≡ board
    → again ≡ board → IsLegal plan outcome.trace.events → vec_len outcome.logs ≡ length plan.agents
    → AllFrom (λ a log. IsScriptLog full (orders_of scripts a) log) 1 outcome.logs.items
    → AllFrom (λ a log. LogHeadline plan outcome.trace.events a log) 1 outcome.logs.items
    → logs ≡ outcome.logs.items → steps ≡ steps_of_run outcome.trace.events logs
    → drawn ≡ steps → length steps ≤ 2000 → IfOk r (ShowsRun full Shows again board drawn)
    → IfOk r (ShowsScripts full Shows board scripts)
shows_outcome full Shows plan again board scripts outcome logs steps drawn
    (Err e) same twice legal count follow headline are made passed few shown = tt
shows_outcome full Shows plan again board scripts outcome logs steps drawn
    (Ok chart) same twice legal count follow headline are made passed few shown =
    let whole : drawn ≡ steps_of_run outcome.trace.events outcome.logs.items = passed ∙ made
    ∙ ap (λ ls. steps_of_run outcome.trace.events ls) are in
    let shows : ShowsOutcome full Shows board scripts outcome chart = record {
      legal = subst (λ (b : Board). IsLegal b outcome.trace.events) same legal;
      count = count ∙ ap (λ (b : Board). length b.agents) same;
      follow = follow;
      headline = subst (λ (b : Board). AllFrom
          (λ a log. LogHeadline b outcome.trace.events a log) 1 outcome.logs.items) same headline;
      few = subst (λ (ss : List Step). length ss ≤ 2000) (sym passed ∙ whole) few;
      shown = subst (λ (b : Board). ShowsRun full Shows b board
          (steps_of_run outcome.trace.events outcome.logs.items) chart) twice
          (subst (λ (ss : List Step). ShowsRun full Shows again board ss chart) whole shown);
    } in
    (outcome, shows)

-- a chart of what a run of the scripts of an input left is one of the input
pub shows_threads : (kind : Kind) (input : List ℕ) (board : Board) (scripts given : List Script)
    (r : Result Chart RunError) → HasScripts input board scripts → given ≡ scripts
    → IfOk r (ShowsScripts (may_be_full kind) (shows_close kind) board given)
    → IfOk r (ShowsThreads kind input)
shows_threads kind input board scripts given (Err e) has same shown = tt
shows_threads kind input board scripts given (Ok chart) has same shown = record {
  board = board;
  scripts = scripts;
  of_input = has;
  shown = subst (λ (ss : List Script). ShowsScripts (may_be_full kind)
      (shows_close kind) board ss chart) same shown;
}
