-- What a record has that is not judged.
use Rattle.std.specs.Prelude.{ℕ, ◌==◌, ◌++◌, Bool, if◌then◌else◌, List, [], ◌∷◌, Option, Some, None}
use Rattle.std.specs.List.{list_any}
use Rattle.scmi_board.specs.Lines.{number_behind}
use Rattle.scmi_codec.specs.declared.frame.Frame.{Frame}
use Rattle.scmi_codec.specs.declared.frame.Frame.TheVariants.{Good, Malformed}
use Rattle.scmi_check.specs.declared.left_out.LeftOut.{LeftOut}
use Rattle.scmi_check.specs.declared.note.Note.{Note}
use Rattle.scmi_check.specs.declared.note.NoteKind.TheVariants.{Unanswered}
use Rattle.scmi_check.specs.declared.waiting.Waiting.{Waiting}

-- what is noted, how many entries and notes are of protocols that are not judged, and these
-- protocols
pub record LeftView : Type 0 where
  pub notes : List Note
  pub skipped : ℕ
  pub protocols : List ℕ

-- the same as the program has it
abbrev pub left_view : LeftOut → LeftView
left_view left =
    record { notes = left.notes.items; skipped = left.skipped; protocols = left.protocols.items }

-- nothing is left out
abbrev pub nothing_left : LeftView
nothing_left = record { notes = []; skipped = 0; protocols = [] }

-- a protocol is one of these, which are judged
abbrev pub is_judged : List ℕ → ℕ → Bool
is_judged judged protocol = list_any (λ other. other == protocol) judged

-- a protocol among others, once
abbrev pub with_protocol : List ℕ → ℕ → List ℕ
with_protocol protocols protocol = if is_judged protocols protocol then protocols
    else protocols ++ protocol ∷ []

-- something of a protocol that is not judged; the number stays at 2^32 - 1
abbrev pub with_skipped : LeftView → ℕ → LeftView
with_skipped left protocol = record left {
  skipped = number_behind left.skipped;
  protocols = with_protocol left.protocols protocol;
}

-- the same with other notes
abbrev pub with_notes : LeftView → List Note → LeftView
with_notes left notes = record { notes = notes; skipped = left.skipped; protocols = left.protocols }

-- one note more
abbrev pub with_note : LeftView → Note → LeftView
with_note left note = record left { notes = left.notes ++ note ∷ [] }

-- the same, if the note is of a message of this protocol: it is skipped unless the protocol is
-- judged
abbrev pub with_left : List ℕ → LeftView → Option ℕ → Note → LeftView
with_left judged left None note = with_note left note
with_left judged left (Some protocol) note = if is_judged judged protocol then with_note left note
    else with_skipped left protocol

-- the protocol of a frame, if it is well formed
abbrev pub frame_protocol : Frame → Option ℕ
frame_protocol (Good message) = Some message.header.protocol
frame_protocol (Malformed len header) = None

-- a command that has no answer
abbrev pub with_no_answer : List ℕ → LeftView → Waiting → LeftView
with_no_answer judged left command = with_left judged left (frame_protocol command.frame)
    (record { line = command.line; kind = Unanswered })

-- commands that have no answer, one after the other
abbrev pub with_no_answers : List ℕ → LeftView → List Waiting → LeftView
with_no_answers judged left [] = left
with_no_answers judged left (command ∷ commands) =
    with_no_answers judged (with_no_answer judged left command) commands
