-- The entries that lines show, and the commands among them that are answered later.
use Rattle.std.specs.Prelude.{ℕ, ◌==◌, ◌&&◌, ◌++◌, not, Bool, true, false, if◌then◌else◌, List, [], ◌∷◌, position, replicate, slice_set, Option, Some, None}
use Rattle.std.specs.Option.{is_some}
use Rattle.scmi_codec.specs.declared.frame.Frame.{Frame}
use Rattle.scmi_codec.specs.declared.frame.Frame.TheVariants.{Good, Malformed}
use Rattle.scmi_judge.specs.declared.entry.Entry.{Entry}
use Rattle.scmi_judge.specs.declared.entry.Entry.TheVariants.{Asked, GivenUp}
use Rattle.scmi_judge.specs.declared.outstanding.TheConstants.{OUTSTANDING}
use Rattle.scmi_check.specs.LeftOut.{is_judged}
use Rattle.scmi_check.specs.declared.asking.Asking.{Asking}
use Rattle.scmi_check.specs.declared.record.Placed.{Placed}
use Rattle.scmi_check.specs.declared.waiting.Waiting.{Waiting}

-- the entries, and the line of the command at each place
pub record AskingView : Type 0 where
  pub entries : List Placed
  pub asked : List (Option ℕ)

-- the same as the program has it
abbrev pub asking_view : Asking → AskingView
asking_view asking = record { entries = asking.entries.items; asked = asking.asked }

-- no entry, and no command at any place
abbrev pub nothing_asked : AskingView
nothing_asked = record { entries = []; asked = replicate OUTSTANDING None }

-- one entry more, at the line of this number
abbrev pub with_one : AskingView → ℕ → Entry → AskingView
with_one asking line entry =
    record asking { entries = asking.entries ++ record { line = line; entry = entry } ∷ [] }

-- whether a place is that of the command of this line
abbrev pub is_of : ℕ → Option ℕ → Bool
is_of line None = false
is_of line (Some other) = other == line

-- whether a place is free
abbrev pub is_free : Option ℕ → Bool
is_free None = true
is_free (Some line) = false

-- the place of the command of this line, if it has one
abbrev pub place_of_line : AskingView → ℕ → Option ℕ
place_of_line asking line = position (is_of line) asking.asked

-- a place is free again
abbrev pub with_free : AskingView → ℕ → AskingView
with_free asking place = record asking { asked = slice_set asking.asked place None }

-- whether commands of this frame are judged: those of protocols that are, and what is no message
abbrev pub is_frame_judged : List ℕ → Frame → Bool
is_frame_judged judged (Good message) = is_judged judged message.header.protocol
is_frame_judged judged (Malformed length header) = true

-- a command that is answered later, at this place, if there is one
abbrev pub with_place : AskingView → Waiting → Option ℕ → AskingView
with_place asking command None = asking
with_place asking command (Some place) = record {
  entries = asking.entries
      ++ record { line = command.line; entry = Asked place command.agent command.frame } ∷ [];
  asked = slice_set asking.asked place (Some command.line);
}

-- whether a command is still to be asked: it is judged, and has no place yet
abbrev pub is_to_ask : List ℕ → AskingView → Waiting → Bool
is_to_ask judged asking command =
    is_frame_judged judged command.frame && not (is_some (place_of_line asking command.line))

-- a command that is answered later, at the first place that is free; if none is, it is executed at
-- the place of its answer (own)
unfoldable pub with_asked : List ℕ → AskingView → Waiting → AskingView
with_asked judged asking command =
    if is_to_ask judged asking command
    then with_place asking command (position is_free asking.asked) else asking

-- the same of each of these commands, in order
abbrev pub with_all_asked : List ℕ → AskingView → List Waiting → AskingView
with_all_asked judged asking [] = asking
with_all_asked judged asking (command ∷ commands) =
    with_all_asked judged (with_asked judged asking command) commands

-- no answer comes to the command of a line, which has this place, if it has one
abbrev pub without_answer : AskingView → ℕ → Option ℕ → AskingView
without_answer asking line None = asking
without_answer asking line (Some place) = with_free (with_one asking line (GivenUp place)) place

-- a command to which no answer comes: it was executed before this, or never
unfoldable pub with_given_up : AskingView → Waiting → AskingView
with_given_up asking command =
    without_answer asking command.line (place_of_line asking command.line)

-- the same of each of these commands, in order
abbrev pub with_all_given_up : AskingView → List Waiting → AskingView
with_all_given_up asking [] = asking
with_all_given_up asking (command ∷ commands) =
    with_all_given_up (with_given_up asking command) commands
