-- The record that a text encodes.
use Rattle.std.specs.Prelude.{◌≡◌, ⊤, ℕ, ◌+◌, ◌-◌, ◌%◌, ◌==◌, ◌&&◌, ◌++◌, nat_le, Bool, false, if◌then◌else◌, List, [], ◌∷◌, get_or, position, remove, replicate, slice_get, slice_set, Option, Some, None, Result, Ok, Err}
use Rattle.scmi_board.specs.Items.{◌>>=◌}
use Rattle.scmi_board.specs.Lines.{Line, LinesView, lines_left}
use Rattle.scmi_codec.specs.Command.{protocol_header}
use Rattle.scmi_codec.specs.declared.frame.Answer.{Answer}
use Rattle.scmi_codec.specs.declared.frame.Answer.TheVariants.{Reply}
use Rattle.scmi_codec.specs.declared.frame.Frame.{Frame}
use Rattle.scmi_codec.specs.declared.frame.Frame.TheVariants.{Good, Malformed}
use Rattle.scmi_codec.specs.declared.header.TheConstants.{TOKENS}
use Rattle.scmi_codec.specs.declared.message.Message.{Message}
use Rattle.scmi_plan.specs.declared.limits.TheConstants.{AGENTS}
use Rattle.scmi_judge.specs.declared.entry.Entry.{Entry}
use Rattle.scmi_judge.specs.declared.entry.Entry.TheVariants.{Answered, Asked, Delivered, GivenUp, Replied, Told}
use Rattle.scmi_text.specs.TextLines.{after_each_line}
use Rattle.scmi_check.specs.Asking.{AskingView, asking_view, nothing_asked, place_of_line, with_all_asked, with_all_given_up, with_asked, with_free, with_given_up, with_one}
use Rattle.scmi_text.specs.declared.step.Call.{Call}
use Rattle.scmi_check.specs.LeftOut.{LeftView, frame_protocol, is_judged, left_view, nothing_left, with_left, with_no_answer, with_no_answers, with_note, with_notes, with_skipped}
use Rattle.scmi_check.specs.Shown.{shown_at}
use Rattle.scmi_check.specs.declared.note.Lost.{Lost as LostEvents}
use Rattle.scmi_check.specs.declared.note.Note.{Note}
use Rattle.scmi_check.specs.declared.note.NoteKind.TheVariants.{Unmatched, Lost}
use Rattle.scmi_check.specs.declared.record.Placed.{Placed}
use Rattle.scmi_check.specs.declared.record.Record.{Record}
use Rattle.scmi_check.specs.declared.shown.Shown.{Shown}
use Rattle.scmi_check.specs.declared.shown.Shown.TheVariants as seen
use Rattle.scmi_check.specs.declared.shown.Shown.TheVariants.{Called, Posted, PostedBeside, Got, Responded, Took, Missed, Skipped}
use Rattle.scmi_check.specs.declared.so_far.SoFar.{SoFar}
use Rattle.scmi_check.specs.declared.waiting.Early.{Early}
use Rattle.scmi_check.specs.declared.waiting.Waiting.{Waiting}

-- a record: its entries, and what it has that is not judged
pub record RecordView : Type 0 where
  pub entries : List Placed
  pub left : LeftView

-- the same as the program has it
abbrev pub record_view : Record → RecordView
record_view read = record { entries = read.entries.items; left = left_view read.left }

-- what lines show: entries at their lines, the line of the command at each place, what is not
-- judged, the protocols that are judged, the commands whose answers are still to come, in order,
-- and those of traces, the last response of a trace that answers no command, if no command of a
-- trace is behind it, and the next token of each agent
pub record Shows : Type 0 where
  pub entries : List Placed
  pub asked : List (Option ℕ)
  pub left : LeftView
  pub judged : List ℕ
  pub waiting : List Waiting
  pub traced : List Waiting
  pub early : Option Early
  pub tokens : List ℕ

-- the same as the program has it
abbrev pub shows_of : SoFar → Shows
shows_of so_far =
    record {
      entries = (asking_view so_far.asking).entries;
      asked = (asking_view so_far.asking).asked;
      left = left_view so_far.left;
      judged = so_far.judged.now;
      waiting = so_far.waiting.items;
      traced = so_far.traced.items;
      early = so_far.early;
      tokens = so_far.tokens;
    }

-- entries and notes before those of what lines show
abbrev pub onto : List Placed → List Note → Shows → Shows
onto placed notes shows = record shows {
  entries = placed ++ shows.entries;
  left = with_notes shows.left (notes ++ shows.left.notes);
}

-- what lines show without the entries and the notes
abbrev pub told : Shows → Shows
told shows = record shows { entries = []; left = with_notes shows.left [] }

-- no line shows anything, and these protocols are judged
abbrev pub nothing_shown : List ℕ → Shows
nothing_shown judged =
    record {
      entries = [];
      asked = nothing_asked.asked;
      left = nothing_left;
      judged = judged;
      waiting = [];
      traced = [];
      early = None;
      tokens = replicate AGENTS 0;
    }

-- the protocol of an entry, of a message that is well formed
abbrev pub entry_protocol : Entry → Option ℕ
entry_protocol (Answered a frame answer) = frame_protocol frame
entry_protocol (Delivered a message) = Some message.header.protocol
entry_protocol (Asked place a frame) = frame_protocol frame
entry_protocol (Replied place a frame answer) = frame_protocol frame
entry_protocol (GivenUp place) = None
entry_protocol (Told report) = None

-- the entries that are shown, and the commands among them that are answered later
abbrev pub asking_of : Shows → AskingView
asking_of shows = record { entries = shows.entries; asked = shows.asked }

-- the same of what lines show
abbrev pub with_asking : Shows → AskingView → Shows
with_asking shows asking = record shows { entries = asking.entries; asked = asking.asked }

-- before another entry: the commands that wait are answered later
abbrev pub ready : Shows → AskingView
ready shows = with_all_asked shows.judged
    (with_all_asked shows.judged (asking_of shows) shows.waiting) shows.traced

-- one entry more, at the line of this number
abbrev pub with_judged : Shows → ℕ → Entry → Shows
with_judged shows line entry = with_asking shows (with_one (ready shows) line entry)

-- the same of an entry of this protocol: it is skipped unless the protocol is judged
abbrev pub with_entry_of : Option ℕ → Shows → ℕ → Entry → Shows
with_entry_of None shows line entry = with_judged shows line entry
with_entry_of (Some protocol) shows line entry = if is_judged shows.judged protocol
    then with_judged shows line entry else record shows { left = with_skipped shows.left protocol }

-- the same of any entry
abbrev pub with_entry : Shows → ℕ → Entry → Shows
with_entry shows line entry = with_entry_of (entry_protocol entry) shows line entry

-- a message of a protocol in a trace that is not judged, at the line of this number
abbrev pub with_unmatched : Shows → ℕ → ℕ → Shows
with_unmatched shows line protocol = record shows {
  left = with_left shows.judged shows.left
      (Some protocol) (record { line = line; kind = Unmatched });
}

-- whether a command is this agent's
abbrev pub is_by : ℕ → Waiting → Bool
is_by a waiting = waiting.agent == a

-- a command that waits for its answer
abbrev pub with_waiting : Shows → ℕ → ℕ → Frame → Shows
with_waiting shows line a frame = record shows
    { waiting = shows.waiting ++ record { line = line; agent = a; frame = frame } ∷ [] }

-- a command, if none of its agent waits for its answer
unfoldable pub with_posted : Shows → ℕ → ℕ → Frame → Option Shows
with_posted shows line a frame = elim (position (is_by a) shows.waiting)
    [ None ↦ Some (with_waiting shows line a frame) | Some place ↦ None ]

-- the next token of an agent, as a session counts it, and what is shown once it is taken; none if
-- no board has the agent
unfoldable pub token_taken : Shows → ℕ → Option (ℕ × Shows)
token_taken shows a =
    if nat_le 1 a && nat_le a AGENTS then
    (let token = get_or shows.tokens (a - 1) 0 % TOKENS in
    Some (token, record shows { tokens = slice_set shows.tokens (a - 1) (token + 1) }))
    else None

-- a command with the next token of its agent
unfoldable pub with_called : Shows → ℕ → ℕ → Call → Option Shows
with_called shows line a call = do
  token ← token_taken shows a
  with_posted token.1 line a (Good (record
      { header = protocol_header call.protocol token.0 call.message; payload = call.payload }))

-- the command at a place among those that wait for their answers, and the others
abbrev pub taken_at : List Waiting → ℕ → Option (Waiting × List Waiting)
taken_at waiting place = slice_get waiting place >>= λ command. Some (command, remove waiting place)

-- the command of an agent among those that wait for their answers, and the others; none if no
-- command of the agent waits
unfoldable pub command_taken : List Waiting → ℕ → Option (Waiting × List Waiting)
command_taken waiting a = position (is_by a) waiting >>= λ place. taken_at waiting place

-- whether a frame is a message with this token
abbrev pub has_token : ℕ → Frame → Bool
has_token token (Good message) = message.header.token == token
has_token token (Malformed len header) = false

-- whether a command is this agent's and has this token
abbrev pub is_with : ℕ → ℕ → Waiting → Bool
is_with a token waiting = waiting.agent == a && has_token token waiting.frame

-- the command of an agent with a token among those that wait, and the others; none if no such
-- command waits
unfoldable pub taken_with : List Waiting → ℕ → ℕ → Option (Waiting × List Waiting)
taken_with waiting a token = position (is_with a token) waiting >>= λ place. slice_get waiting place
    >>= λ command. Some (command, remove waiting place)

-- whether a response that answered no command is this agent's and has this token
abbrev pub is_early : Option Early → ℕ → ℕ → Bool
is_early None a token = false
is_early (Some response) a token = response.agent == a && response.token == token

-- a command of a trace that waits for its response
abbrev pub with_trace : Shows → ℕ → ℕ → Frame → Shows
with_trace shows line a frame =
    record shows { traced = shows.traced ++ record { line = line; agent = a; frame = frame } ∷ [] }

-- what lines show once no answer comes to a command that waited: it and those that still wait are
-- asked before this
abbrev pub given_up : Shows → Waiting → Shows
given_up shows command =
    let asked = with_asking shows (with_asked shows.judged (asking_of shows) command) in
    with_asking shows (with_given_up (ready asked) command)

-- a token is free again in a trace: the command of the agent that has it gets no answer
abbrev pub token_free : Shows → ℕ → ℕ → Shows
token_free shows a token = elim (taken_with shows.traced a token) [
  | None ↦ shows
  | Some taken ↦ given_up (record shows {
    traced = taken.1;
    left = with_no_answer shows.judged shows.left taken.0;
  }) taken.0
]

-- no response is early any more
abbrev pub none_early : Shows → Shows
none_early shows = record shows { early = None }

-- a command of a trace: it waits for its response, but if the last response before it is the one to
-- it, the two are not judged, since a trace may show the payload of the response in both
abbrev pub with_traced : Shows → ℕ → ℕ → Message → Shows
with_traced shows line a message =
    let free = token_free shows a message.header.token in
    if is_early free.early a message.header.token
    then with_unmatched (none_early free) line message.header.protocol
    else with_trace (none_early free) line a (Good message)

-- a command with its answer, which comes to this place, if the command has one
abbrev pub answered_at : Option ℕ → Shows → ℕ → Waiting → Answer → Shows
answered_at None shows line command answer =
    with_entry shows line (Answered command.agent command.frame answer)
answered_at (Some place) shows line command answer =
    let after = with_entry shows line (Replied place command.agent command.frame answer) in
    with_asking after (with_free (asking_of after) place)

-- a command with its answer
abbrev pub with_answered : Shows → ℕ → Waiting → Answer → Shows
with_answered shows line command answer =
    answered_at (place_of_line (asking_of shows) command.line) shows line command answer

-- the answer to the command of its agent that waits
unfoldable pub with_answer : Shows → ℕ → ℕ → Answer → Option Shows
with_answer shows line a answer = do
  taken ← command_taken shows.waiting a
  Some (with_answered (record shows { waiting = taken.1 }) line taken.0 answer)

-- the response of a trace to the command of its agent that waits with its token; if none waits it
-- is not judged
abbrev pub with_response : Shows → ℕ → ℕ → Message → Shows
with_response shows line a message = elim (taken_with shows.traced a message.header.token) [
  | None ↦ with_unmatched (record shows {
    early = Some
        (record { agent = a; token = message.header.token });
  }) line message.header.protocol
  | Some taken ↦ with_answered (record shows { traced = taken.1 }) line taken.0 (Reply message)
]

-- no answers come to the commands of a trace that wait
abbrev pub all_given_up : Shows → Shows
all_given_up shows = record (with_asking shows (with_all_given_up (ready shows) shows.traced)) {
  traced = [];
}

-- events of a trace are lost: the commands of it that wait get no answer
abbrev pub with_lost : Shows → ℕ → LostEvents → Shows
with_lost shows line lost =
    record (all_given_up shows) {
      left = with_note (with_no_answers shows.judged shows.left shows.traced)
          (record { line = line; kind = Lost lost });
      early = None;
    }

-- with what the line of this number shows
unfoldable pub with_shown : Shows → ℕ → Shown → Option Shows
with_shown shows line (Called a call) = with_called shows line a call
with_shown shows line (Posted a frame) = with_posted shows line a frame
with_shown shows line (PostedBeside a message) = Some (with_traced shows line a message)
with_shown shows line (Got a answer) = with_answer shows line a answer
with_shown shows line (Responded a message) = Some (with_response shows line a message)
with_shown shows line (Took a message) = Some (with_entry shows line (Delivered a message))
with_shown shows line (seen.Told report) = Some (with_entry shows line (Told report))
with_shown shows line (Missed lost) = Some (with_lost shows line lost)
with_shown shows line Skipped = Some shows

-- with a line, on a board with this number of agents; none if the line can't be there
unfoldable pub with_line : ℕ → Shows → Line → Option Shows
with_line agents shows line = do
  shown ← shown_at agents line.text
  with_shown shows line.number shown

-- the record of what lines show
abbrev pub record_shown : Shows → RecordView
record_shown shows = record { entries = shows.entries; left = shows.left }

-- the record once no line is left: the commands that wait have no answer
abbrev pub finished : Shows → RecordView
finished shows =
    record {
      entries = shows.entries;
      left = with_no_answers shows.judged
          (with_no_answers shows.judged shows.left shows.waiting) shows.traced;
    }

-- the same of what lines show, unless one of them can't be there
abbrev pub all_finished : Result Shows ℕ → Result RecordView ℕ
all_finished (Err number) = Err number
all_finished (Ok shows) = Ok (finished shows)

-- the record that these lines encode, if these protocols are judged, on a board with this number of
-- agents; else the number of the first line that is not of it
abbrev pub record_of : List ℕ → ℕ → List Line → Result RecordView ℕ
record_of judged agents lines =
    all_finished (after_each_line (with_line agents) (nothing_shown judged) lines)

-- lines, and what is read in their places: each has its number
abbrev pub AreMeant : (List ℕ → List ℕ → Type 0) → List Line → List Line → Type 0
AreMeant Means [] [] = ⊤
AreMeant Means (line ∷ lines) (given ∷ givens) = (given.number ≡ line.number)
    × Means line.text given.text × AreMeant Means lines givens
AreMeant Means lines givens = ⊥

-- the same of the lines that are left
abbrev pub record_left : List ℕ → ℕ → LinesView → Result RecordView ℕ
record_left judged agents lines = record_of judged agents (lines_left lines)
