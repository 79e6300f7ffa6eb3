-- Whether two messages, two frames, two answers or two outstanding commands are the same.
use Rattle.std.specs.Prelude.{◌&&◌, ◌==◌, nat_eq, Bool, true, false}
use Rattle.std.specs.Cmp.Lexicographic.{pointwise}
use Rattle.scmi_codec.specs.Header.{is_same_header}
use Rattle.scmi_codec.specs.declared.message.Message.{Message}
use Rattle.std.specs.Option.{option_eq}
use Rattle.scmi_codec.specs.declared.frame.Frame.{Frame}
use Rattle.scmi_codec.specs.declared.frame.Frame.TheVariants.{Good, Malformed}
use Rattle.scmi_codec.specs.declared.frame.Answer.{Answer}
use Rattle.scmi_codec.specs.declared.frame.Answer.TheVariants.{Reply, Released, ChannelError}
use Rattle.scmi_judge.specs.declared.outstanding.Outstanding.{Outstanding}

-- whether two messages have the same header and the same words
abbrev pub is_same_message : Message → Message → Bool
is_same_message a b =
    is_same_header a.header b.header && pointwise nat_eq a.payload.items b.payload.items

-- whether two answers are the same
abbrev pub is_same_answer : Answer → Answer → Bool
is_same_answer (Reply a) (Reply b) = is_same_message a b
is_same_answer Released Released = true
is_same_answer ChannelError ChannelError = true
is_same_answer _ _ = false

-- whether two frames are the same
abbrev pub is_same_frame : Frame → Frame → Bool
is_same_frame (Good a) (Good b) = is_same_message a b
is_same_frame (Malformed l h) (Malformed m k) = l == m && h == k
is_same_frame _ _ = false

-- whether two outstanding commands are the same, with the same answer
abbrev pub is_same_outstanding : Outstanding → Outstanding → Bool
is_same_outstanding a b = a.agent == b.agent
    && (is_same_frame a.frame b.frame && option_eq is_same_answer a.answer b.answer)
