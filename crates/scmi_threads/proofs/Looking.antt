-- How often an agent has polled.
use Rattle.std.proofs.Common.{◌≡◌, ℕ, ◌+◌, ◌%◌, ◌^◌, ◌<◌, ◌≤◌, Option, Some, None, Result, Ok, Err, arith, refl, sym, ap, subst, ◌∙◌}
use Rattle.scmi_codec.specs.declared.frame.Frame.{Frame}
use Rattle.scmi_codec.specs.declared.frame.Answer.TheVariants.{Reply, Released, ChannelError}
use Rattle.scmi_link.specs.View.{CallerView, CalleeView, one_more}
use Rattle.scmi_link.specs.Calls.{Posts, ClosesCaller}
use Rattle.scmi_link.specs.declared.closing.Closing.{Closing}
use Rattle.scmi_link.specs.declared.closing.Closing.TheVariants.{Idle, Withdrawn}
use Rattle.scmi_link.specs.declared.collected.Collected.{Collected}
use Rattle.scmi_link.specs.declared.collected.Collected.TheVariants as collected
use Rattle.scmi_link.specs.declared.post_error.PostError.{PostError}
use Rattle.scmi_link.specs.declared.post_error.PostError.TheVariants as post
use Rattle.scmi_link.specs.Lines.{answer_line}
use Rattle.scmi_link.specs.declared.line.Line.{Line}
use Rattle.scmi_link.specs.declared.line.Line.TheVariants as line
use Rattle.scmi_ends.specs.Poll.{Looks, EndsAfter, Receives, more_calls}
use Rattle.scmi_ends.proofs.Counts.{no_calls, next_call, calls_after, some_calls}
use Rattle.scmi_threads.specs.Orders.{AreLooksBy, HasLookedFor, HasWaited}
use Rattle.scmi_threads.specs.Parts.{AreLooksOf}
use Rattle.scmi_threads.specs.declared.agent_log.AgentLog.{AgentLog}
use Rattle.scmi_threads.specs.declared.limits.TheConstants.{TURNS}
use Rattle.scmi_threads.specs.declared.stop.Stop.{Stop}
use Rattle.scmi_threads.specs.declared.stop.Stop.TheVariants as stop

-- counts

pub none_counted : (before after : ℕ) → after ≡ before → after ≡ more_calls 0 before
none_counted before after same = same ∙ sym (no_calls before)

pub then_counted : (m n before mid after : ℕ) → mid ≡ more_calls m before → after ≡ more_calls n mid
    → after ≡ more_calls (m + n) before
then_counted m n before mid after first then' = then' ∙ ap (more_calls n) first
    ∙ calls_after m n before

pub counted_since : (n first before after : ℕ) → before ≡ first → after ≡ more_calls n before
    → after ≡ more_calls n first
counted_since n first before after same counted = counted ∙ ap (more_calls n) same

pub next_counted : (n before mid after : ℕ) → mid ≡ more_calls n before → after ≡ one_more mid
    → after ≡ more_calls (n + 1) before
next_counted n before mid after first then' = then' ∙ ap one_more first ∙ next_call n before

-- waits

pub no_waits : AreLooksOf 0 0
no_waits = record { least = omega arith; most = omega arith }

pub one_wait_more : (waits a b : ℕ) → AreLooksOf waits a → AreLooksOf 1 b
    → AreLooksOf (waits + 1) (a + b)
one_wait_more waits a b first last = record {
  least = omega (arith, first.least, last.least);
  most = omega (arith, first.most, last.most);
}

-- a post, and a close, are no poll for a reply
pub post_looks : {T : Type 0} (full : _) (v w : CallerView) (frame : Frame) (r : Result T PostError)
    → Posts full v frame r w → w.collects ≡ v.collects
post_looks full v w frame (Ok done) p = ap (λ x. x.collects) p.posted
post_looks full v w frame (Err post.Outstanding) p = ap (λ x. x.collects) p.1
post_looks full v w frame (Err post.Closed) p = ap (λ x. x.collects) p.1.told
post_looks full v w frame (Err post.Full) p = ap (λ x. x.collects) p.same
post_looks full v w frame (Err post.WellFormed) p = absurd p

pub close_looks : (closing : Closing) (v w : CallerView) → ClosesCaller v (Ok closing) w
    → w.collects ≡ v.collects
close_looks Idle v w closes = ap (λ u. u.collects) closes.closed
close_looks Withdrawn v w closes = ap (λ u. u.collects) closes.closed

-- a poll for a message is one
pub look_counted : (v w : CalleeView) (frame : Option Frame) → Receives v frame w
    → w.takes ≡ one_more v.takes
look_counted v w None s = ap (λ u. u.takes) s.same
look_counted v w (Some frame) s = ap (λ u. u.takes) s.1

-- a wait for a message that the next poll ended
pub message_came : (n : ℕ) (before mid after : AgentLog)
    → n < TURNS → mid.message_looks ≡ more_calls n before.message_looks
    → after.message_looks ≡ one_more mid.message_looks → HasLookedFor (Ok tt) before after
message_came n before mid after below so_far last = record {
  looks = n + 1;
  many = record { least = omega arith; most = omega (arith, below) };
  counted = next_counted n before.message_looks mid.message_looks after.message_looks so_far last;
}

-- memory was refused before a poll
pub not_looked : (r : Result (Unit {0}) Stop) (before after : AgentLog) → r ≡ Err stop.Memory
    → after.message_looks ≡ before.message_looks → HasLookedFor r before after
not_looked r before after is same = subst (λ x. HasLookedFor x before after) (sym is) (record {
  looks = 0;
  many = refl;
  counted = none_counted before.message_looks after.message_looks same;
})

-- the line of a wait
abbrev pub wait_line : Collected → Line
wait_line collected.Nothing = line.Limit
wait_line (collected.Got answer) = answer_line answer
wait_line collected.Closed = line.Closed

some_looks : (answer : Collected) (looks : ℕ) → EndsAfter TURNS answer looks → 1 ≤ looks
some_looks collected.Nothing looks many = omega (arith, many)
some_looks (collected.Got answer) looks many = many.0
some_looks collected.Closed looks many = many.0

-- the log counts as the end does
pub wait_counted : (answer : Collected) (looks before after : ℕ) (v w : CallerView) → Looks TURNS
    answer looks v w → before ≡ v.collects → after ≡ (before + looks) % 2 ^ 64 → after ≡ w.collects
wait_counted answer looks before after v w waited is more = more
    ∙ sym (some_calls looks before (some_looks answer looks waited.many)) ∙ ap (more_calls looks) is
    ∙ sym waited.counted

looks_by : (answer : Collected) (looks : ℕ) → EndsAfter TURNS answer looks
    → AreLooksBy (wait_line answer) looks
looks_by collected.Nothing looks many = many
looks_by (collected.Got (Reply m)) looks many =
    record { least = many.0; most = omega (arith, many.1) }
looks_by (collected.Got Released) looks many =
    record { least = many.0; most = omega (arith, many.1) }
looks_by (collected.Got ChannelError) looks many =
    record { least = many.0; most = omega (arith, many.1) }
looks_by collected.Closed looks many = record { least = many.0; most = omega (arith, many.1) }

pub has_waited : (answer : Collected) (looks : ℕ) (l : Line) (v w : CallerView)
    (before after : AgentLog) → Looks TURNS answer looks v w → l ≡ wait_line answer
    → after.reply_looks ≡ (before.reply_looks + looks) % 2 ^ 64 → HasWaited l before after
has_waited answer looks l v w before after waited is more = record {
  looks = looks;
  many = subst (λ x. AreLooksBy x looks) (sym is) (looks_by answer looks waited.many);
  counted = more ∙ sym (some_calls looks before.reply_looks (some_looks answer looks waited.many));
}

pub waited_since : (l : Line) (first before after : AgentLog)
    → before.reply_looks ≡ first.reply_looks → HasWaited l before after → HasWaited l first after
waited_since l first before after same waited =
    record {
      looks = waited.looks;
      many = waited.many;
      counted = counted_since waited.looks
          first.reply_looks before.reply_looks after.reply_looks same waited.counted;
    }
