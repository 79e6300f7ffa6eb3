-- The calls of a channel's ends, as the counts of their accesses to shared words see them.
use Rattle.std.specs.Prelude.{Option, Result}
use Rattle.scmi_codec.specs.declared.frame.Frame.{Frame}
use Rattle.scmi_codec.specs.declared.frame.Answer.{Answer}
use Rattle.scmi_link.specs.declared.collected.Collected.{Collected}
use Rattle.scmi_link.specs.declared.post_error.PostError.{PostError}
use Rattle.scmi_link.specs.declared.closing.Closing.{Closing}
use Rattle.scmi_link.specs.declared.close_error.CloseError.{CloseError}

-- one call of a caller: what it was handed, and what it answered
pub data CallerCall : Type 0 where
  call_post : Frame → Result (Unit {0}) PostError → CallerCall
  call_collect : Collected → CallerCall
  call_close : Result Closing CloseError → CallerCall

-- one call of a callee: what it was handed, and what it answered
pub data CalleeCall : Type 0 where
  call_take : Option Frame → CalleeCall
  call_answer : Answer → CalleeCall
  call_close_callee : Result (Unit {0}) CloseError → CalleeCall
