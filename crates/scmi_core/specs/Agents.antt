-- What one agent did and was notified of.
use Rattle.std.specs.Prelude.{ℕ, ◌==◌, if◌then◌else◌, List, [], ◌∷◌, Option, Some, None}
use Rattle.std.specs.List.{filter_map}
use Rattle.scmi_codec.specs.declared.frame.Frame.{Frame}
use Rattle.scmi_codec.specs.declared.frame.Answer.{Answer}
use Rattle.scmi_plan.specs.Board.{Board}
use Rattle.scmi_core.specs.declared.event.Event.{Event}
use Rattle.scmi_core.specs.declared.event.Event.TheVariants.{Command, CommandFailed}
use Rattle.scmi_core.specs.History.{answer_to}
use Rattle.scmi_core.specs.Reply.{failed_answer}
use Rattle.scmi_core.specs.Deed.{flat_map_with_prefix}

-- the frame of an event, if it is a command of agent a, done or failed
abbrev pub frame_from : ℕ → Event → Option Frame
frame_from a (Command b frame) = if a == b then Some frame else None
frame_from a (CommandFailed b frame fault) = if a == b then Some frame else None
frame_from a _ = None

-- the frames that agent a had executed, done or failed, in order
unfoldable pub frames_of : ℕ → List Event → List Frame
frames_of a h = filter_map (frame_from a) h

-- the answer to an event after a history, if it is a command of agent a, done or failed
abbrev pub answer_for : Board → ℕ → List Event → Event → List Answer
answer_for board a before (Command b frame) = if a == b
    then answer_to board b frame before ∷ [] else []
answer_for board a before (CommandFailed b frame fault) = if a == b
    then failed_answer frame fault ∷ [] else []
answer_for board a before _ = []

-- the answers to the frames of agent a, in order
unfoldable pub answers_to : Board → ℕ → List Event → List Answer
answers_to board a h = flat_map_with_prefix (answer_for board a) h
