-- What every legal history keeps.
use Rattle.std.specs.Prelude.{◌≡◌, ℕ, ◌+◌, ◌≤◌, ◌==◌, ◌&&◌, if◌then◌else◌, List, [], ◌++◌, length, take, map, Option, None, Some, option_map}
use Rattle.std.specs.List.{filter}
use Rattle.std.specs.Option.{option_to_list}
use Rattle.scmi_codec.specs.declared.message.Message.{Message}
use Rattle.scmi_plan.specs.Board.{Board}
use Rattle.scmi_core.specs.declared.pending_set.PendingSet.{PendingSet}
use Rattle.scmi_core.specs.declared.event.Event.{Event}
use Rattle.scmi_codec.specs.declared.fault.Fault.{Fault}
use Rattle.scmi_core.specs.declared.event.Event.TheVariants.{Advance, AdvanceFailed}
use Rattle.scmi_core.specs.Deed.{Deed, flat_map_with_prefix, fold_with_prefix}
use Rattle.scmi_core.specs.Value.{completed_set, failed_set}
use Rattle.scmi_core.specs.Pending.{accepted_sets, advances, pending_sets, pending_of}
use Rattle.scmi_core.specs.Outbox.{failed_response_to, is_restart_of, outbox_after, messages_made, response_to, restart_count, sent_count}
use Rattle.scmi_plan.specs.declared.limits.TheConstants.{PENDING_SETS}
use Rattle.scmi_core.specs.declared.outboxes.TheConstants.{OUTBOX_ROOM}

-- the sets that have ended, in order
abbrev pub ended_sets : Board → List Deed → List PendingSet
ended_sets board h = take (advances h) (accepted_sets board h)

-- how a set ended: it completed, or the hardware refused its change with a fault
pub record Ending : Type 0 where
  pub set : PendingSet
  pub fault : Option Fault

-- the end of a set that an event makes, given the deeds before it
abbrev pub ending_by : Board → List Deed → Event → Option Ending
ending_by board before Advance =
    option_map (λ p. record { set = p; fault = None }) (completed_set board before Advance)
ending_by board before (AdvanceFailed fault) = option_map
    (λ p. record { set = p; fault = Some fault }) (failed_set board before (AdvanceFailed fault))
ending_by board before _ = None

-- the ends of sets, in order
abbrev pub endings : Board → List Deed → List Ending
endings board h =
    flat_map_with_prefix (λ before deed. option_to_list (ending_by board before deed.event)) h

-- the delayed response to a set that ended so
abbrev pub response_at : Ending → Message
response_at e = response e.fault where
  response : Option Fault → Message
  response None = response_to e.set.header e.set.setting
  response (Some fault) = failed_response_to e.set.header fault

-- the delayed responses among some messages
abbrev pub delayed_responses : List Message → List Message
delayed_responses messages = filter (λ m. m.header.kind == 2) messages

-- the delayed responses for agent a, in order: one for each set of it that ended and wanted one;
-- but a restart of the agent leaves those that were posted
abbrev pub responses_for : Board → ℕ → List Deed → List Message
responses_for board a h =
    fold_with_prefix
    (λ before so_far deed.
    (if is_restart_of a deed.event then delayed_responses
    (take (sent_count a before) (messages_made board a before)) else so_far)
    ++ map response_at (filter (λ e. e.set.agent == a && e.set.wanted)
    (option_to_list (ending_by board before deed.event))))
    [] [] h

-- at most 8 sets are pending, and an agent's outbox and its pending sets are at most 16 together
-- (own)
pub record HasBounds (board : Board) (h : List Deed) : Type 0 where
  pub pending : length (pending_sets board h) ≤ PENDING_SETS
  pub loads : (a : ℕ)
      → length (outbox_after board a h) + length (pending_of board a h) ≤ OUTBOX_ROOM

-- no delayed response is lost but those that a restart of their agent drops: the accepted sets end
-- in order, and for an agent that never restarted one response is made for each set of it that
-- ended and wanted one
pub record HasResponses (board : Board) (h : List Deed) : Type 0 where
  pub each : map (λ e. e.set) (endings board h) ≡ ended_sets board h
  pub delayed : (a : ℕ) → delayed_responses (messages_made board a h) ≡ responses_for board a h
  pub undropped : (a : ℕ) → restart_count a h ≡ 0 → delayed_responses (messages_made board a h)
      ≡ map response_at (filter (λ e. e.set.agent == a && e.set.wanted) (endings board h))
