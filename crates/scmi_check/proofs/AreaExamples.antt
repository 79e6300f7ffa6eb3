-- Records of areas, and the entries that they encode, computed.
use Rattle.std.proofs.Common.{◌≡◌, [], ◌∷◌, map, Ok, Err, refl}
use Rattle.std.specs.Prelude.{codes}
use Rattle.scmi_board.specs.Items.{behind_spaces, first_number, item_at, items_up_to}
use Rattle.scmi_board.specs.Lines.{lines_behind, lines_of, whole}
use Rattle.scmi_board.specs.Number.{number_of}
use Rattle.scmi_codec.specs.Listing.{rows_of}
use Rattle.scmi_codec.specs.Word.{words_at}
use Rattle.scmi_codec.specs.declared.frame.Answer.TheVariants.{Reply, ChannelError}
use Rattle.scmi_codec.specs.declared.frame.Frame.TheVariants.{Malformed}
use Rattle.scmi_judge.specs.declared.entry.Entry.TheVariants.{Answered, Delivered}
use Rattle.scmi_text.specs.Fields.{first_agent}
use Rattle.scmi_text.specs.StepHead.{raw_with}
use Rattle.scmi_text.specs.StepText.{agent_head, command_head, first_head, head_of, payload_of, step_of_line}
use Rattle.scmi_text.specs.TextLines.{after_each_line}
use Rattle.scmi_check.specs.AreaShown.{area_behind, area_described, with_area_word}
use Rattle.scmi_check.specs.Asking.{with_asked, with_given_up}
use Rattle.scmi_check.specs.RecordText.{command_taken, record_left, with_answer, with_line, with_posted, with_shown}
use Rattle.scmi_check.specs.declared.run.TheConstants.{PROTOCOLS}
use Rattle.scmi_check.specs.Shown.{happened_at, seen_at, seen_behind, session_shown, shown_at}
use Rattle.scmi_check.specs.TraceLine.{cpu_left, stamp_left}
use Rattle.scmi_check.proofs.RecordExamples.{at, command, only}

-- a command, its response, and a message of the platform
areas : record_left PROTOCOLS 1 (whole (codes
    "1 area 0 0 0 0 0 8 0x44405 7 0 0 0 0 0 0 0\n1 area 0 1 0 0 0 12 0x44405 0 5 0 0 0 0 0 0\n1 p2a-area 0 0 0 0 0 8 0x4700 9 0 0 0 0 0 0 0"))
    ≡ Ok (only (at 2 (Answered 1 (command 0x11 1 5 (7 ∷ [])) (Reply
    (raw_with 0x44405 (0 ∷ 5 ∷ [])))) ∷ at 3 (Delivered 1 (raw_with 0x4700 (9 ∷ []))) ∷ []))
unfolding area_behind area_described with_area_word behind_spaces first_number item_at items_up_to number_of first_agent agent_head command_head first_head head_of payload_of step_of_line after_each_line lines_of lines_behind rows_of words_at cpu_left stamp_left happened_at seen_at seen_behind session_shown shown_at command_taken with_answer with_asked with_given_up with_line with_posted with_shown
areas = refl

-- a frame of 5 bytes, and its channel error
area_error : record_left PROTOCOLS 1 (whole
    (codes "1 area 0 0 0 0 0 5 0x4000 0 0 0 0 0 0 0 0\n1 area 0 3 0 0 0 5 0x4000 0 0 0 0 0 0 0 0"))
    ≡ Ok (only (at 2 (Answered 1 (Malformed 5 0x4000) ChannelError) ∷ []))
unfolding area_behind area_described with_area_word behind_spaces first_number item_at items_up_to number_of first_agent agent_head command_head first_head head_of payload_of step_of_line after_each_line lines_of lines_behind rows_of words_at cpu_left stamp_left happened_at seen_at seen_behind session_shown shown_at command_taken with_answer with_asked with_given_up with_line with_posted with_shown
area_error = refl

-- a response before a command, a command before the one of its agent that waits has its answer, 14
-- words, a free channel without a message for its agent, and an area that nothing was posted in
area_faults : map (λ text. record_left PROTOCOLS 1 (whole text)) (
    codes "1 area 0 1 0 0 0 8 0x4405 0 0 0 0 0 0 0 0" ∷
    codes "1 area 0 0 0 0 0 4 0x4000 0 0 0 0 0 0 0 0\n1 area 0 0 0 0 0 4 0x4000 0 0 0 0 0 0 0 0" ∷
    codes "1 area 0 0 0 0 0 4 0x4000 0 0 0 0 0 0 0" ∷
    codes "1 p2a-area 0 1 0 0 0 8 0x4700 9 0 0 0 0 0 0 0" ∷
    codes "1 area 0 1 0 0 0 0 0 0 0 0 0 0 0 0 0" ∷ [])
    ≡ Err 1 ∷ Err 2 ∷ Err 1 ∷ Err 1 ∷ Err 1 ∷ []
unfolding area_behind area_described with_area_word behind_spaces first_number item_at items_up_to number_of first_agent agent_head command_head first_head head_of payload_of step_of_line after_each_line lines_of lines_behind rows_of words_at cpu_left stamp_left happened_at seen_at seen_behind session_shown shown_at command_taken with_answer with_asked with_given_up with_line with_posted with_shown
area_faults = refl
