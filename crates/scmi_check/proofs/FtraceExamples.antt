-- Records of Linux's ftrace, and what they encode, computed.
use Rattle.std.proofs.Common.{◌≡◌, [], ◌∷◌, map, Ok, Err, refl}
use Rattle.std.specs.Prelude.{codes}
use Rattle.hex.specs.Hex.{decode_pairs}
use Rattle.scmi_board.specs.Lines.{lines_behind, lines_of, whole}
use Rattle.scmi_board.specs.Number.{number_of}
use Rattle.scmi_codec.specs.declared.frame.Answer.TheVariants.{Reply}
use Rattle.scmi_decode.specs.Event.{event_header, event_payload, signed_word}
use Rattle.scmi_decode.specs.Traced.{event_traced}
use Rattle.scmi_judge.specs.declared.entry.Entry.TheVariants.{Answered, Asked, Delivered, GivenUp, Replied}
use Rattle.scmi_text.specs.StepHead.{raw_with}
use Rattle.scmi_text.specs.TextLines.{after_each_line}
use Rattle.scmi_check.specs.Asking.{with_asked, with_given_up}
use Rattle.scmi_check.specs.RecordText.{record_left, taken_with, with_line, with_shown}
use Rattle.scmi_check.specs.declared.run.TheConstants.{PROTOCOLS}
use Rattle.scmi_check.specs.Shown.{shown_at}
use Rattle.scmi_check.specs.TraceLine.{cpu_left, stamp_left}
use Rattle.scmi_check.specs.declared.note.Lost.TheVariants.{Events, Unknown}
use Rattle.scmi_check.specs.declared.note.NoteKind.TheVariants.{Unanswered, Unmatched, Lost}
use Rattle.scmi_check.proofs.RecordExamples.{at, command, noted, only, with_notes}

-- a command and its response, between other lines of the trace, which are skipped; an event without
-- an instance is agent 1's
one_command : record_left PROTOCOLS 1 (whole (codes
    "# tracer: nop\ncpus=4\n scmi_xfer_begin: seq=1\n a-1 [000] 1.5: scmi_msg_dump: pt=11 t=CMND msg_id=05 seq=0001 s=0 pyld=00000000\n a-1 [000] d.h1. 1.55: irq: irq=5\n a-1 [000] 1.6: scmi_msg_dump: pt=11 t=RESP msg_id=05 seq=0001 s=-3 pyld=\n scmi_xfer_end: seq=1\n"))
    ≡ Ok (only (at 6
    (Answered 1 (command 0x11 1 5 (0 ∷ [])) (Reply (raw_with 0x44405 (0xFFFFFFFD ∷ [])))) ∷ []))
unfolding after_each_line cpu_left decode_pairs event_header event_payload event_traced lines_behind lines_of shown_at signed_word stamp_left taken_with with_asked with_given_up with_line with_shown
one_command = refl

-- commands of two agents that overlap
two_agents : record_left PROTOCOLS 2 (whole (codes
    "scmi_msg_dump: id=0 pt=11 t=CMND msg_id=05 seq=0001 s=0 pyld=00000000\nscmi_msg_dump: id=1 pt=10 t=CMND msg_id=00 seq=0002 s=0 pyld=\nscmi_msg_dump: id=0 pt=11 t=RESP msg_id=05 seq=0001 s=0 pyld=00000040\nscmi_msg_dump: id=1 pt=10 t=RESP msg_id=00 seq=0002 s=0 pyld=00000200\n"))
    ≡ Ok (only (
    at 2 (Asked 0 2 (command 0x10 2 0 []))
    ∷ at 3 (Answered 1 (command 0x11 1 5 (0 ∷ [])) (Reply (raw_with 0x44405 (0 ∷ 0x40000000 ∷ []))))
    ∷ at 4 (Replied 0 2 (command 0x10 2 0 []) (Reply (raw_with 0x84000 (0 ∷ 0x20000 ∷ [])))) ∷ []))
unfolding after_each_line cpu_left decode_pairs event_header event_payload event_traced lines_behind lines_of shown_at signed_word stamp_left taken_with with_asked with_given_up with_line with_shown
two_agents = refl

-- a delayed response and a notification, which no command awaits
messages : record_left PROTOCOLS 2 (whole (codes
    "scmi_msg_dump: id=0 pt=11 t=DLYD msg_id=04 seq=0001 s=0 pyld=0000000000000040\nscmi_msg_dump: id=1 pt=11 t=NOTI msg_id=00 seq=0000 s=0 pyld=010000000000000000000000\n"))
    ≡ Ok (only (at 1 (Delivered 1 (raw_with 0x44604 (0 ∷ 0 ∷ 0x40000000 ∷ [])))
    ∷ at 2 (Delivered 2 (raw_with 0x4700 (1 ∷ 0 ∷ 0 ∷ []))) ∷ []))
unfolding after_each_line cpu_left decode_pairs event_header event_payload event_traced lines_behind lines_of shown_at signed_word stamp_left taken_with with_asked with_given_up with_line with_shown
messages = refl

-- two commands of an agent that wait at a time; the second has its response, and one with another
-- token answers none
two_commands : record_left PROTOCOLS 1 (whole (codes
    "scmi_msg_dump: pt=11 t=CMND msg_id=05 seq=0001 s=0 pyld=00000000\nscmi_msg_dump: pt=10 t=CMND msg_id=00 seq=0002 s=0 pyld=\nscmi_msg_dump: pt=10 t=RESP msg_id=00 seq=0002 s=0 pyld=00000200\nscmi_msg_dump: pt=11 t=RESP msg_id=05 seq=0003 s=0 pyld=00000040\n"))
    ≡ Ok (record {
      entries = at 1 (Asked 0 1 (command 0x11 1 5 (0 ∷ []))) ∷ at 3
          (Answered 1 (command 0x10 2 0 []) (Reply (raw_with 0x84000 (0 ∷ 0x20000 ∷ [])))) ∷ [];
      left = with_notes (noted 4 Unmatched ∷ noted 1 Unanswered ∷ []);
    })
unfolding after_each_line cpu_left decode_pairs event_header event_payload event_traced lines_behind lines_of shown_at signed_word stamp_left taken_with with_asked with_given_up with_line with_shown
two_commands = refl

-- events are lost, twice: the command before them has no answer, and the response after them
-- answers no command
lost_events : record_left PROTOCOLS 1 (whole (codes
    "scmi_msg_dump: pt=10 t=CMND msg_id=00 seq=0001 s=0 pyld=\nCPU:1 [LOST 12 EVENTS]\nCPU:0 [LOST EVENTS]\nscmi_msg_dump: pt=10 t=RESP msg_id=00 seq=0001 s=0 pyld=00000200\n"))
    ≡ Ok (record {
      entries = at 1 (Asked 0 1 (command 0x10 1 0 [])) ∷ at 1 (GivenUp 0) ∷ [];
      left = with_notes (noted 1 Unanswered ∷ noted 2 (Lost (Events 12)) ∷ noted 3 (Lost Unknown)
          ∷ noted 4 Unmatched ∷ []);
    })
unfolding after_each_line cpu_left decode_pairs event_header event_payload event_traced lines_behind lines_of number_of shown_at signed_word stamp_left taken_with with_asked with_given_up with_line with_shown
lost_events = refl

-- a response before its command: neither is judged, nor does the command take the next response
early_response : record_left PROTOCOLS 1 (whole (codes
    "scmi_msg_dump: pt=10 t=RESP msg_id=00 seq=0001 s=0 pyld=00000200\nscmi_msg_dump: pt=10 t=CMND msg_id=00 seq=0001 s=0 pyld=00000200\nscmi_msg_dump: pt=10 t=CMND msg_id=00 seq=0002 s=0 pyld=\nscmi_msg_dump: pt=10 t=RESP msg_id=00 seq=0002 s=0 pyld=00000200\nscmi_msg_dump: pt=10 t=RESP msg_id=00 seq=0001 s=0 pyld=00000200\n"))
    ≡ Ok (record {
      entries = at 4
          (Answered 1 (command 0x10 2 0 []) (Reply (raw_with 0x84000 (0 ∷ 0x20000 ∷ [])))) ∷ [];
      left = with_notes (noted 1 Unmatched ∷ noted 2 Unmatched ∷ noted 5 Unmatched ∷ []);
    })
unfolding after_each_line cpu_left decode_pairs event_header event_payload event_traced lines_behind lines_of shown_at signed_word stamp_left taken_with with_asked with_given_up with_line with_shown
early_response = refl

-- a token that another command of the agent has again: the first one is given up, and another
-- agent's waits
token_again : record_left PROTOCOLS 2 (whole (codes
    "scmi_msg_dump: id=1 pt=10 t=CMND msg_id=01 seq=0001 s=0 pyld=\nscmi_msg_dump: pt=10 t=CMND msg_id=00 seq=0001 s=0 pyld=\nscmi_msg_dump: pt=10 t=CMND msg_id=01 seq=0001 s=0 pyld=\nscmi_msg_dump: pt=10 t=RESP msg_id=01 seq=0001 s=0 pyld=03020000\n"))
    ≡ Ok (record {
      entries = at 2 (Asked 0 1 (command 0x10 1 0 [])) ∷ at 1 (Asked 1 2 (command 0x10 1 1 []))
          ∷ at 2 (GivenUp 0) ∷ at 4
          (Answered 1 (command 0x10 1 1 []) (Reply (raw_with 0x44001 (0 ∷ 0x203 ∷ [])))) ∷ [];
      left = with_notes (noted 2 Unanswered ∷ noted 1 Unanswered ∷ []);
    })
unfolding after_each_line cpu_left decode_pairs event_header event_payload event_traced lines_behind lines_of shown_at signed_word stamp_left taken_with with_asked with_given_up with_line with_shown
token_again = refl

-- an agent that the board lacks, a payload of no whole words, and a field that is missing
ftrace_faults : map (λ text. record_left PROTOCOLS 2 (whole text)) (
    codes "scmi_msg_dump: id=2 pt=11 t=NOTI msg_id=00 seq=0000 s=0 pyld=" ∷
    codes "scmi_msg_dump: id=0 pt=11 t=NOTI msg_id=00 seq=0000 s=0 pyld=000000" ∷
    codes "scmi_msg_dump: id=0 pt=11 t=NOTI msg_id=00 s=0 pyld=" ∷ [])
    ≡ Err 1 ∷ Err 1 ∷ Err 1 ∷ []
unfolding after_each_line cpu_left decode_pairs event_header event_payload event_traced lines_behind lines_of shown_at signed_word stamp_left taken_with with_asked with_given_up with_line with_shown
ftrace_faults = refl
