-- What every legal history keeps between its agents: who changed what, and what a refused command
-- is to the others.
use Rattle.std.specs.Prelude.{◌≡◌, ◌≢◌, ◌⊎◌, ℕ, ◌&&◌, Bool, true, false, not, if◌then◌else◌, List, [], ◌∷◌, ◌++◌, length, Option, Some, None, option_map}
use Rattle.std.specs.List.{All}
use Rattle.std.specs.Option.{is_some, option_and_then, option_or}
use Rattle.scmi_codec.specs.Payload.{begins_with_success}
use Rattle.scmi_codec.specs.declared.message.Message.{Message}
use Rattle.scmi_codec.specs.declared.frame.Frame.TheVariants.{Good}
use Rattle.scmi_plan.specs.Agent.{IsAgent}
use Rattle.scmi_plan.specs.Board.{Board, is_free, is_kept}
use Rattle.scmi_base.specs.Permission.{may}
use Rattle.scmi_plan.specs.declared.scope.Scope.{Scope}
use Rattle.scmi_core.specs.declared.event.Event.{Event}
use Rattle.scmi_plan.specs.declared.effect.Effect.{Effect}
use Rattle.scmi_core.specs.declared.event.Event.TheVariants.{Command, Reported, Settled}
use Rattle.scmi_core.specs.Agents.{answers_to, frame_from, frames_of}
use Rattle.scmi_core.specs.Deed.{Success, flat_map_with_prefix, success_at, successes}
use Rattle.scmi_core.specs.History.{deed_after, deeds, delivered_messages, made_for}
use Rattle.scmi_core.specs.Legal.{IsLegal}
use Rattle.scmi_core.specs.Outbox.{situation_after}
use Rattle.scmi_core.specs.Pending.{acceptance}
use Rattle.scmi_core.specs.Commands.{permission_in}
use Rattle.scmi_core.specs.Permissions.{has_permission}
use Rattle.scmi_core.specs.Value.{Change, IsReportable, Rate, Thing, change_now, change_reported, changes, completion, is_off, resource_of}

-- whether an event is a command of agent a, done or failed, that was answered with another status
-- than 0, or was malformed
abbrev pub is_refused : Board → ℕ → List Event → Event → Bool
is_refused board a before event = is_some (frame_from a event)
    && not (begins_with_success (deed_after board (deeds board before) event).reply)

-- a history without the refused commands of agent a, each judged at its place
unfoldable pub without_refused : Board → ℕ → List Event → List Event
without_refused board a h = flat_map_with_prefix
    (λ before event. if is_refused board a before event then [] else event ∷ []) h

-- two histories differ by nothing but what agent a asked and was answered: each other agent asked
-- the same and got the same answers, each agent was made and posted the same messages, the same was
-- changed, and each agent's situation is that in the other
pub record AreAlikeBut (board : Board) (a : ℕ) (h k : List Event) : Type 0 where
  pub frames : (b : ℕ) → b ≢ a → frames_of b h ≡ frames_of b k
  pub answers : (b : ℕ) → b ≢ a → answers_to board b h ≡ answers_to board b k
  pub made : (b : ℕ) → made_for board b h ≡ made_for board b k
  pub delivered : (b : ℕ) → delivered_messages board b h ≡ delivered_messages board b k
  pub changed : changes board (deeds board h) ≡ changes board (deeds board k)
  pub situations : (b : ℕ)
      → situation_after board b (deeds board h) ≡ situation_after board b (deeds board k)

-- without the refused commands of agent a this history is as legal, and the same to all others
pub record HasIsolation (board : Board) (h : List Event) : Type 0 where
  pub legal : (a : ℕ) → IsLegal board (without_refused board a h)
  pub alike : (a : ℕ) → AreAlikeBut board a (without_refused board a h) h

-- whether agent a may change a thing after a history
abbrev pub may_after : Board → List Event → ℕ → Thing → Bool
may_after board h a x =
    may board (λ device scope. has_permission board a device scope (deeds board h)) (resource_of x)

-- a change does not switch off what the board keeps
abbrev pub IsKeptOn : Board → Change → Type 0
IsKeptOn board change =
    (is_kept board (resource_of change.thing) && is_off change.thing change.value) ≡ false

-- a change by an agent does not switch off what the board keeps; the hardware may report that it
-- has switched it off by itself
abbrev pub IsKeptOnByAgents : Board → Change → Type 0
IsKeptOnByAgents board change = change.causer ≢ 0 → IsKeptOn board change

-- no change of a history by an agent switches off what the board keeps
abbrev pub KeepsOn : Board → List Event → Type 0
KeepsOn board h = All (IsKeptOnByAgents board) (changes board (deeds board h))

-- the change that a success asks for: at once, or when its set completes
abbrev pub change_asked : Board → Success → Option Change
change_asked board s = option_or (change_now board s) (option_map completion (acceptance board s))

-- what was wanted is the rate of a free clock, the hardware settled it in these events, and the
-- change has the rate that it gave
pub record IsSettled (board : Board) (events : List Event) (wanted change : Change) : Type 0 where
  pub clock : ℕ
  pub rate : ℕ
  pub earlier : List Event
  pub later : List Event
  pub thing : wanted.thing ≡ Rate clock
  pub free : is_free board clock ≡ true
  pub place : events ≡ earlier ++ Settled clock rate ∷ later
  pub gives : change ≡ record wanted { value = rate }

-- the command that a change came of: it is in the history, was its causer's, and succeeded; the
-- change is what it asked for, or the hardware settled it after the command; its agent might change
-- that thing there, and the board did not keep it from that
pub record HasCause (board : Board) (h : List Event) (change : Change) : Type 0 where
  pub before : List Event
  pub message : Message
  pub after : List Event
  pub wanted : Change
  pub place : h ≡ before ++ Command change.causer (Good message) ∷ after
  pub agent : IsAgent (length board.agents) change.causer
  pub asked : option_and_then (change_asked board)
      (success_at board (Command change.causer (Good message)) (deed_after board
      (deeds board before) (Command change.causer (Good message))).reply) ≡ Some wanted
  pub given : (change ≡ wanted) ⊎ IsSettled board after wanted change
  pub allowed : may_after board before change.causer change.thing ≡ true
  pub kept : IsKeptOn board change

-- the report that a change came of: it is in the history, it is of this change, and the board has
-- that domain or clock
pub record IsReported (board : Board) (h : List Event) (change : Change) : Type 0 where
  pub before : List Event
  pub effect : Effect
  pub after : List Event
  pub place : h ≡ before ++ Reported effect ∷ after
  pub says : change ≡ change_reported effect
  pub known : IsReportable board effect

-- a change came of such a command, or the hardware reported it
abbrev pub HasOrigin : Board → List Event → Change → Type 0
HasOrigin board h change = HasCause board h change ⊎ IsReported board h change

-- and so did each change
abbrev pub HasIntegrity : Board → List Event → Type 0
HasIntegrity board h = All (HasOrigin board h) (changes board (deeds board h))

-- a success that sets what an agent may do is one of the trusted agent
abbrev pub IsTrusted : Board → Success → Type 0
IsTrusted board s = (a d : ℕ) (scope : Scope) → permission_in board a d scope s.command ≢ None
    → s.caller ≡ board.trusted

-- what agents may do is said by the trusted agent alone
abbrev pub HasTrustedPermissions : Board → List Event → Type 0
HasTrustedPermissions board h = All (IsTrusted board) (successes board (deeds board h))
