-- What each call leaves, by what it answers.
use Rattle.std.specs.Prelude.{◌≡◌, Bool, true, false, not, ◌||◌, [], ◌∷◌, ◌++◌, length, Option, Some, None, Result, Ok, Err}
use Rattle.scmi_codec.specs.declared.frame.Frame.{Frame}
use Rattle.scmi_codec.specs.declared.frame.Answer.{Answer}
use Rattle.scmi_link.specs.declared.collected.Collected.{Collected}
use Rattle.scmi_link.specs.declared.collected.Collected.TheVariants.{Nothing, Got, Closed}
use Rattle.scmi_link.specs.declared.looked.Looked.{Looked}
use Rattle.scmi_link.specs.declared.looked.Looked.TheVariants as looked
use Rattle.scmi_link.specs.declared.post_error.PostError.{PostError}
use Rattle.scmi_link.specs.declared.post_error.PostError.TheVariants as refused
use Rattle.scmi_link.specs.declared.closing.Closing.{Closing}
use Rattle.scmi_link.specs.declared.closing.Closing.TheVariants as closing
use Rattle.scmi_link.specs.declared.close_error.CloseError.{CloseError}
use Rattle.scmi_link.specs.declared.close_error.CloseError.TheVariants.{InService, ReplyWaiting}
use Rattle.scmi_link.specs.View.{CallerView, CalleeView, IsOutstanding, Owes, knows_close, callee_knows_close, one_more}

-- a caller that was answered `Closed`: where it had not closed, it was notified that the callee has
abbrev pub with_word : CallerView → CallerView
with_word v = record v { told = v.told || not v.closed }

-- a caller's post is refused as `Closed`: it has closed, or was notified that the callee has
pub record IsRefused (old new : CallerView) : Type 0 where
  pub told : new ≡ record (with_word old) { posts = one_more old.posts }
  pub known : knows_close new ≡ true

-- an open caller with nothing outstanding posts a frame
pub record PostsFrame (old : CallerView) (frame : Frame) (new : CallerView) : Type 0 where
  pub unclosed : knows_close old ≡ false
  pub none_outstanding : ¬ (IsOutstanding old)
  pub posted : new ≡ record old { posted = old.posted ++ frame ∷ []; posts = one_more old.posts }

-- a post finds no place, which only a channel that may be full answers
pub record FindsNoPlace (may_be_full : Bool) (old new : CallerView) : Type 0 where
  pub may : may_be_full ≡ true
  pub unclosed : knows_close old ≡ false
  pub none_outstanding : ¬ (IsOutstanding old)
  pub same : new ≡ record old { posts = one_more old.posts }

-- what a refused post leaves, by its reason: the first that applies; it is one call, as one that
-- posts is
abbrev pub RefusesPost : Bool → CallerView → PostError → CallerView → Type 0
RefusesPost may_be_full old refused.Outstanding new = IsOutstanding old
    × (new ≡ record old { posts = one_more old.posts })
RefusesPost may_be_full old refused.Closed new = (¬ (IsOutstanding old)) × IsRefused old new
RefusesPost may_be_full old refused.Full new = FindsNoPlace may_be_full old new
RefusesPost may_be_full old refused.WellFormed new = ⊥

-- what a post of this frame leaves; where the frame is malformed, its length was looked at before
abbrev pub Posts : {T : Type 0} → Bool → CallerView → Frame → Result T PostError
    → CallerView → Type 0
Posts may_be_full old frame (Ok done) new = PostsFrame old frame new
Posts may_be_full old frame (Err reason) new = RefusesPost may_be_full old reason new

-- an end has closed and no answer stands: a post that was outstanding is given up
pub record GivesUp (old new : CallerView) : Type 0 where
  pub told : new ≡ record (with_word old) { left = new.left; collects = one_more old.collects }
  pub known : knows_close new ≡ true
  pub given_up : IsOutstanding old → new.left ≡ true
  pub idle : ¬ (IsOutstanding old) → new.left ≡ old.left
  pub none_outstanding : ¬ (IsOutstanding new)

-- the caller reads the answer to its outstanding post
pub record Reads (old : CallerView) (answer : Answer) (new : CallerView) : Type 0 where
  pub was_outstanding : IsOutstanding old
  pub read : new ≡ record old { read = old.read ++ answer ∷ []; collects = one_more old.collects }

-- what a `collect` leaves: after `Nothing` only its count has changed
abbrev pub Collects : CallerView → Collected → CallerView → Type 0
Collects old Nothing new = new ≡ record old { collects = one_more old.collects }
Collects old (Got answer) new = Reads old answer new
Collects old Closed new = GivesUp old new

-- a caller with nothing outstanding closes
pub record ClosesIdle (old new : CallerView) : Type 0 where
  pub none_outstanding : ¬ (IsOutstanding old)
  pub closed : new ≡ record old { closed = true }

-- a caller closes and withdraws its outstanding post
pub record ClosesAndWithdraws (old new : CallerView) : Type 0 where
  pub was_outstanding : IsOutstanding old
  pub closed : new ≡ record old { closed = true; left = true }

-- what a caller's close leaves: it is refused only where a post is outstanding, and then nothing
-- changed
abbrev pub ClosesCaller : CallerView → Result Closing CloseError → CallerView → Type 0
ClosesCaller old (Ok closing.Idle) new = ClosesIdle old new
ClosesCaller old (Ok closing.Withdrawn) new = ClosesAndWithdraws old new
ClosesCaller old (Err error) new = IsOutstanding old × (new ≡ old)

-- an open callee that owed nothing takes a frame
pub record TakesFrame (old : CalleeView) (frame : Frame) (new : CalleeView) : Type 0 where
  pub open_before : callee_knows_close old ≡ false
  pub owed_nothing : length old.taken ≡ length old.answered
  pub taken : new ≡ record old { taken = old.taken ++ frame ∷ []; takes = one_more old.takes }

-- a callee takes nothing: it may have been notified that the caller has closed
pub record TakesNone (old new : CalleeView) : Type 0 where
  pub same : new ≡ record old { told = new.told; takes = one_more old.takes }
  pub kept : old.told ≡ true → new.told ≡ true

-- what a `take` leaves
abbrev pub Takes : CalleeView → Option Frame → CalleeView → Type 0
Takes old None new = TakesNone old new
Takes old (Some frame) new = TakesFrame old frame new

-- what a callee's close leaves: it is refused if and only if an answer is owed, and then nothing
-- changed
abbrev pub ClosesCallee : CalleeView → Result (Unit {0}) CloseError → CalleeView → Type 0
ClosesCallee old (Ok done) new = (¬ (Owes old)) × (new ≡ record old { closed = true })
ClosesCallee old (Err InService) new = Owes old × (new ≡ old)
ClosesCallee old (Err ReplyWaiting) new = ⊥

-- what a `take_into` gave, by its answer and the frame that it left
abbrev pub frame_if : Bool → Frame → Option Frame
frame_if true frame = Some frame
frame_if false frame = None

-- what a `collect_into` gave, by its answer and the answer that it left
abbrev pub collected_by : Looked → Answer → Collected
collected_by looked.Nothing answer = Nothing
collected_by looked.Got answer = Got answer
collected_by looked.Closed answer = Closed
