-- Which commands only read, and a history without those of one agent.
use Rattle.std.specs.Prelude.{◌≡◌, ℕ, ◌&&◌, ◌||◌, Bool, true, false, if◌then◌else◌, List, [], ◌∷◌, None, Result, Ok, Err}
use Rattle.std.specs.Option.{option_map_or}
use Rattle.scmi_codec.specs.declared.status.Status.{Status}
use Rattle.scmi_codec.specs.declared.frame.Frame.{Frame}
use Rattle.scmi_codec.specs.declared.frame.Frame.TheVariants.{Good, Malformed}
use Rattle.scmi_codec.specs.declared.command.Command as codec
use Rattle.scmi_plan.specs.Board.{Board}
use Rattle.scmi_plan.specs.declared.scope.Scope.{Scope}
use Rattle.scmi_core.specs.ReadCommand.{command_on}
use Rattle.scmi_core.specs.declared.event.Event.{Event}
use Rattle.scmi_core.specs.Agents.{frame_from}
use Rattle.scmi_core.specs.Deed.{Success, flat_map_with_prefix}
use Rattle.scmi_core.specs.Laws.{AreAlikeBut, is_refused}
use Rattle.scmi_core.specs.Legal.{IsLegal}
use Rattle.scmi_core.specs.Pending.{acceptance}
use Rattle.scmi_core.specs.Commands.{changes_nothing, grants_nothing, permission_in}
use Rattle.scmi_core.specs.Subscriptions.{subscription}
use Rattle.scmi_core.specs.Value.{change_now}

-- whether a command only reads: it sets no permission, state, rate or configuration, resets no
-- agent, and asks for no notifications
abbrev pub is_read : codec.Command → Bool
is_read c = changes_nothing c && grants_nothing c

-- a success does nothing: it changes no value, leaves no set pending, and says nothing of what any
-- agent may do or is notified of
pub record DoesNothing (board : Board) (s : Success) : Type 0 where
  pub change : change_now board s ≡ None
  pub set : acceptance board s ≡ None
  pub permission : (a d : ℕ) (scope : Scope) → permission_in board a d scope s.command ≡ None
  pub subscription : (a d : ℕ) → subscription a d s ≡ None

-- whether a message was read as a command that only reads
abbrev pub only_reads : Result codec.Command Status → Bool
only_reads (Ok c) = is_read c
only_reads (Err e) = false

-- whether a frame is a message that is such a command
abbrev pub is_read_frame : Board → Frame → Bool
is_read_frame board (Good m) = only_reads (command_on board m)
is_read_frame board (Malformed len header) = false

-- whether an event is a command of agent a, done or failed, that was refused or only reads
abbrev pub is_quiet : Board → ℕ → List Event → Event → Bool
is_quiet board a before event =
    is_refused board a before event
    || option_map_or (is_read_frame board) (frame_from a event) false

-- a history without agent a's commands that were refused or only read, each judged at its place
unfoldable pub without_quiet : Board → ℕ → List Event → List Event
without_quiet board a h =
    flat_map_with_prefix
    (λ before event. if is_quiet board a before event then [] else event ∷ []) h

-- without the refused commands and the reads of any one agent this history is as legal, and the
-- same to all others
pub record HasQuietReads (board : Board) (h : List Event) : Type 0 where
  pub legal : (a : ℕ) → IsLegal board (without_quiet board a h)
  pub alike : (a : ℕ) → AreAlikeBut board a (without_quiet board a h) h
