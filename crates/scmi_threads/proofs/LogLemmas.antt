-- The headline in the words of the logs.
use Rattle.std.proofs.Common.{◌≡◌, ◌+◌, ℕ, Bool, false, true, refl, rules, Option, List, [], ◌∷◌, Some}
use Rattle.std.specs.List.{All, AllZip}
use Rattle.std.proofs.lemmas.List.Elements.{All-head, All-tail}
use Rattle.scmi_link.specs.View.{CallerView, CalleeView}
use Rattle.scmi_link.specs.declared.closing.Closing.{Closing}
use Rattle.scmi_link.specs.declared.closing.Closing.TheVariants.{Idle, Withdrawn}
use Rattle.scmi_plan.specs.Board.{Board}
use Rattle.scmi_core.specs.declared.event.Event.{Event}
use Rattle.scmi_ends.specs.Each.{AllFrom}
use Rattle.scmi_ends.specs.AgentView.{AgentView}
use Rattle.scmi_ends.specs.Headline.{Headline, Headlines}
use Rattle.scmi_threads.specs.declared.agent_log.AgentLog.{AgentLog}
use Rattle.scmi_threads.specs.Closes.{IsClosedAs}
use Rattle.scmi_threads.specs.Logs.{IsLogOf, LogHeadline}

-- if the platform's endpoint is open, the agent was notified of no close
pub never_told : (told closed : Bool) → (told ≡ true → closed ≡ true) → closed ≡ false
    → told ≡ false
never_told false closed h o = refl
never_told true closed h o = absurd (search (rules, h refl, o))

left_behind : (closing : Option Closing) (caller : CallerView) → IsClosedAs closing caller
    → closing ≡ Some Withdrawn → caller.left ≡ true
left_behind closing caller is at = (rw at at is).1

closed_idle : (closing : Option Closing) (caller : CallerView) → IsClosedAs closing caller
    → closing ≡ Some Idle → caller.closed ≡ true × (caller.told ≡ false → caller.left ≡ false)
closed_idle closing caller is at = let now = rw at at is in (now.0, now.2)

log_headline : (board : Board) (h : List Event) (a : ℕ) (e : AgentView) (d : CalleeView)
    (c : CallerView) (log : AgentLog) → Headline board h a e d c → d.closed ≡ false → IsLogOf e log
    → LogHeadline board h a log
log_headline board h a e d c log p o is = record {
  executed = rw is.posted p.commands.executed;
  replies = rw is.read p.commands.replies;
  withdrawn = λ w. rw (is.posted, is.read)
      (p.commands.left (left_behind log.closing e.caller is.closing w));
  idle = λ w. let at = closed_idle log.closing e.caller is.closing w in rw (is.posted, is.read)
      (p.commands.idle at.0 (at.1 (never_told e.caller.told d.closed p.commands.agent_told o)));
  taken = rw is.p2a p.messages.taken;
  made = rw is.p2a p.messages.made;
  messages = log.messages_are;
  closing = log.closing_is;
  tokens = log.tokens_are;
}

pub log_headlines : (board : Board) (h : List Event) (a : ℕ) (es : List AgentView) (ds : List
    CalleeView) (cs : List CallerView) (logs : List AgentLog) → Headlines board h a es ds cs
    → All (λ d. d.closed ≡ false) ds → AllZip IsLogOf es logs → AllFrom (LogHeadline board h) a logs
log_headlines board h a [] ds cs [] p o z = tt
log_headlines board h a [] ds cs (log ∷ logs) p o z = absurd z
log_headlines board h a (e ∷ es) ds cs [] p o z = absurd z
log_headlines board h a (e ∷ es) [] cs (log ∷ logs) p o z = absurd p
log_headlines board h a (e ∷ es) (d ∷ ds) [] (log ∷ logs) p o z = absurd p
log_headlines board h a (e ∷ es) (d ∷ ds) (c ∷ cs) (log ∷ logs) p o z = (
  log_headline board h a e d c log p.0 (All-head (λ d. d.closed ≡ false) d ds o) z.0,
  log_headlines board h (a + 1) es ds cs logs p.1 (All-tail (λ d. d.closed ≡ false) d ds o) z.1,
)
