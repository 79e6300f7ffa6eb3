-- Texts of records, and the entries that they encode, computed.
use Rattle.std.proofs.Common.{ℕ, ◌≡◌, false, List, [], ◌∷◌, map, Ok, Err, refl}
use Rattle.std.specs.Prelude.{codes}
use Rattle.scmi_board.specs.Items.{behind_spaces, first_number, item_at, items_up_to}
use Rattle.scmi_board.specs.Lines.{lines_behind, lines_of, whole}
use Rattle.scmi_board.specs.Number.{number_of}
use Rattle.scmi_codec.specs.Command.{protocol_header}
use Rattle.scmi_codec.specs.declared.frame.Answer.TheVariants.{Reply, Released, ChannelError}
use Rattle.scmi_codec.specs.declared.frame.Frame.{Frame}
use Rattle.scmi_codec.specs.declared.frame.Frame.TheVariants.{Good, Malformed}
use Rattle.scmi_judge.specs.declared.entry.Entry.{Entry}
use Rattle.scmi_judge.specs.declared.entry.Entry.TheVariants.{Answered, Asked, Delivered, Replied, Told}
use Rattle.scmi_plan.specs.declared.effect.Effect.TheVariants.{State, Rate, Enabled}
use Rattle.scmi_plan.specs.declared.report.Report.TheVariants.{Changed, First, Settled}
use Rattle.scmi_text.specs.Fields.{first_agent, first_clock_rate, first_flag, first_message, payload_behind, with_word}
use Rattle.scmi_text.specs.StepHead.{raw_with}
use Rattle.scmi_text.specs.StepText.{agent_head, command_head, first_head, first_report, head_of, payload_of, report_head, report_left, report_of, step_of_line}
use Rattle.scmi_text.specs.TextLines.{after_each_line}
use Rattle.scmi_check.specs.LeftOut.{LeftView, nothing_left}
use Rattle.scmi_check.specs.Asking.{with_asked, with_given_up}
use Rattle.scmi_check.specs.RecordText.{RecordView, command_taken, record_left, token_taken, with_answer, with_called, with_line, with_posted, with_shown}
use Rattle.scmi_check.specs.declared.run.TheConstants.{PROTOCOLS}
use Rattle.scmi_check.specs.Shown.{first_words, happened_at, seen_at, seen_behind, session_shown, shown_at, told_left}
use Rattle.scmi_check.specs.TraceLine.{cpu_left, stamp_left}
use Rattle.scmi_check.specs.declared.note.Note.{Note}
use Rattle.scmi_check.specs.declared.note.NoteKind.{NoteKind}
use Rattle.scmi_check.specs.declared.note.NoteKind.TheVariants.{Unanswered}
use Rattle.scmi_check.specs.declared.record.Placed.{Placed}

-- the command of a protocol, a token, a message id and these payload words
abbrev pub command : ℕ → ℕ → ℕ → List ℕ → Frame
command protocol token id words =
    Good (record { header = protocol_header protocol token id; payload = record { items = words } })

abbrev pub at : ℕ → Entry → Placed
at line entry = record { line = line; entry = entry }

abbrev pub noted : ℕ → NoteKind → Note
noted line k = record { line = line; kind = k }

-- these notes, and nothing that is skipped
abbrev pub with_notes : List Note → LeftView
with_notes notes = record { notes = notes; skipped = 0; protocols = [] }

-- a record of which nothing is left out
abbrev pub only : List Placed → RecordView
only entries = record { entries = entries; left = nothing_left }

-- each form of a line, with a comment and a blank line; a message is between a command and its
-- answer; the second `do` of agent 1 has its next token, and `raw` its own
whole_record : record_left PROTOCOLS 2 (whole (codes
    "do 1 0x11 5 0\n1 reply 0x4405 0 7\n# later\nraw 2 0x4000 9\n\n2 error\n1 p2a 0x4604 0\ndo 1 16 3\n1 p2a 0x4700\n1 released\nbad 2 5 0x4000\n2 error\n"))
    ≡ Ok (only (
    at 2 (Answered 1 (command 0x11 0 5 (0 ∷ [])) (Reply (raw_with 0x4405 (0 ∷ 7 ∷ []))))
    ∷ at 6 (Answered 2 (Good (raw_with 0x4000 (9 ∷ []))) ChannelError)
    ∷ at 7 (Delivered 1 (raw_with 0x4604 (0 ∷ [])))
    ∷ at 8 (Asked 0 1 (command 0x10 1 3 []))
    ∷ at 9 (Delivered 1 (raw_with 0x4700 []))
    ∷ at 10 (Replied 0 1 (command 0x10 1 3 []) Released)
    ∷ at 12 (Answered 2 (Malformed 5 0x4000) ChannelError) ∷ []))
unfolding behind_spaces first_number item_at items_up_to number_of first_agent first_message payload_behind with_word agent_head command_head first_head head_of payload_of step_of_line after_each_line lines_of lines_behind cpu_left stamp_left first_words happened_at seen_at seen_behind session_shown shown_at command_taken token_taken with_answer with_asked with_called with_given_up with_line with_posted with_shown
whole_record = refl

-- two agents' commands that wait for their answers, in order, at a message; one has its answer
-- behind it, and one none
no_answers : record_left PROTOCOLS 2
    (whole (codes "#\ndo 2 16 3\ndo 1 16 3\n2 p2a 0x4700\n1 released\nraw 1 0x4000\n"))
    ≡ Ok (record {
      entries = at 2 (Asked 0 2 (command 0x10 0 3 [])) ∷ at 3 (Asked 1 1 (command 0x10 0 3 []))
          ∷ at 4 (Delivered 2 (raw_with 0x4700 []))
          ∷ at 5 (Replied 1 1 (command 0x10 0 3 []) Released) ∷ [];
      left = with_notes (noted 2 Unanswered ∷ noted 6 Unanswered ∷ []);
    })
unfolding behind_spaces first_number item_at items_up_to number_of first_agent first_message payload_behind with_word agent_head command_head first_head head_of payload_of step_of_line after_each_line lines_of lines_behind cpu_left stamp_left first_words happened_at seen_at seen_behind session_shown shown_at command_taken token_taken with_answer with_asked with_called with_given_up with_line with_posted with_shown
no_answers = refl

-- of other protocols than those that are judged: a command with its answer, a message, and a
-- command that has no answer
other_protocols : record_left (0x10 ∷ 0x13 ∷ []) 2 (whole (codes
    "raw 1 0x4c00\n1 error\n2 p2a 0x4700\nraw 1 0x5005 7\n1 released\nraw 2 0x4405\nraw 1 0x5005\n"))
    ≡ Ok (record {
      entries = at 2 (Answered 1 (Good (raw_with 0x4c00 [])) ChannelError) ∷ [];
      left = record { notes = []; skipped = 4; protocols = 0x11 ∷ 0x14 ∷ [] };
    })
unfolding behind_spaces first_number item_at items_up_to number_of first_agent first_message payload_behind with_word agent_head command_head first_head head_of payload_of step_of_line after_each_line lines_of lines_behind cpu_left stamp_left first_words happened_at seen_at seen_behind session_shown shown_at command_taken token_taken with_answer with_asked with_called with_given_up with_line with_posted with_shown
other_protocols = refl

-- an answer before a command, to another agent's, a command before the one of its agent that waits
-- has its answer, an agent that the board lacks, and a step that posts nothing
first_faults : map (λ text. record_left PROTOCOLS 2 (whole text)) (
    codes "1 error" ∷ codes "do 1 16 3\n2 error" ∷ codes "do 1 16 3\ndo 1 16 3\n"
    ∷ codes "3 p2a 0x4700" ∷ codes "serve 1" ∷ [])
    ≡ Err 1 ∷ Err 2 ∷ Err 2 ∷ Err 1 ∷ Err 1 ∷ []
unfolding behind_spaces first_number item_at items_up_to number_of first_agent first_message payload_behind with_word agent_head command_head first_head head_of payload_of step_of_line after_each_line lines_of lines_behind cpu_left stamp_left first_words happened_at seen_at seen_behind session_shown shown_at command_taken token_taken with_answer with_asked with_called with_given_up with_line with_posted with_shown
first_faults = refl

-- what the hardware told, in each of its forms; a command that waits there is answered later
told_lines : record_left PROTOCOLS 1 (whole (codes
    "report state 1 0x40000000\nreport rate 2 5 1\nreport enabled 2 0\ndo 1 16 3\nreport first 3\nreport settled 2 5 0\n1 released\n"))
    ≡ Ok (only (
    at 1 (Told (Changed (State 1 0x40000000)))
    ∷ at 2 (Told (Changed (Rate 2 0x100000005)))
    ∷ at 3 (Told (Changed (Enabled 2 false)))
    ∷ at 4 (Asked 0 1 (command 0x10 0 3 []))
    ∷ at 5 (Told (First 3))
    ∷ at 6 (Told (Settled 2 5))
    ∷ at 7 (Replied 0 1 (command 0x10 0 3 []) Released) ∷ []))
unfolding behind_spaces first_number item_at items_up_to number_of first_agent first_message payload_behind with_word agent_head command_head first_clock_rate first_flag first_head first_report head_of payload_of report_head report_left report_of step_of_line after_each_line lines_of lines_behind cpu_left stamp_left first_words happened_at seen_at seen_behind session_shown shown_at told_left command_taken token_taken with_answer with_asked with_called with_given_up with_line with_posted with_shown
told_lines = refl

-- lines that have the word and are no report
untold_lines : map (λ text. record_left PROTOCOLS 2 (whole text)) (
    codes "report" ∷ codes "report first" ∷ codes "report first 0 0" ∷ codes "report state 0"
    ∷ codes "report enabled 0 2" ∷ codes "1 report first 0" ∷ [])
    ≡ Err 1 ∷ Err 1 ∷ Err 1 ∷ Err 1 ∷ Err 1 ∷ Err 1 ∷ []
unfolding behind_spaces first_number item_at items_up_to number_of first_agent first_message payload_behind with_word agent_head command_head first_clock_rate first_flag first_head first_report head_of payload_of report_head report_left report_of step_of_line after_each_line lines_of lines_behind cpu_left stamp_left first_words happened_at seen_at seen_behind session_shown shown_at told_left command_taken token_taken with_answer with_asked with_called with_given_up with_line with_posted with_shown
untold_lines = refl
