-- What the answer of the first close says, after each call.
use Rattle.std.proofs.Common.{◌≡◌, ℕ, Bool, true, false, not, ◌||◌, Option, Some, None, Ok, refl, sym, ap, ◌∙◌, rules}
use Rattle.std.specs.Option.{option_or}
use Rattle.scmi_link.specs.View.{CallerView, CalleeView, IsOutstanding, callee_knows_close, one_more}
use Rattle.scmi_link.specs.Calls.{with_word, IsRefused, ClosesCaller}
use Rattle.scmi_link.specs.declared.closing.Closing.{Closing}
use Rattle.scmi_link.specs.declared.closing.Closing.TheVariants.{Idle, Withdrawn}
use Rattle.scmi_link.specs.declared.collected.Collected.{Collected}
use Rattle.scmi_link.specs.declared.collected.Collected.TheVariants as collected
use Rattle.scmi_ends.specs.Poll.{Waits}
use Rattle.scmi_threads.specs.Closes.{IsClosedAs}

not_both : {b : Bool} → b ≡ true → b ≡ false → ⊥
not_both {b} t f = search (rules, t, f)

neither : (b c : Bool) → (b || c) ≡ false → b ≡ false
neither false c h = refl
neither true c h = absurd (not_both refl h)

-- an end that takes a message has not closed
pub takes_open : (v : CallerView) (d : CalleeView) → d.closed ≡ v.closed
    → callee_knows_close d ≡ false → v.closed ≡ false
takes_open v d same is = sym same ∙ neither d.closed d.told is

-- the endpoint is open, and neither closes nor is notified of a close
pub stays_open : (closing : Option Closing) (v w : CallerView) → v.closed ≡ false → w.closed
    ≡ v.closed → w.told ≡ v.told → w.left ≡ v.left → IsClosedAs closing v → IsClosedAs closing w
stays_open None v w o c t l is = (c ∙ is.0, λ h. l ∙ is.1 (sym t ∙ h))
stays_open (Some Idle) v w o c t l is = absurd (not_both is.0 o)
stays_open (Some Withdrawn) v w o c t l is = absurd (not_both is.0 o)

-- the endpoint is open, and is notified of a close
pub is_told : (closing : Option Closing) (v w : CallerView) → v.closed ≡ false → w.closed ≡ v.closed
    → w.told ≡ true → IsClosedAs closing v → IsClosedAs closing w
is_told None v w o c t is = (c ∙ is.0, λ h. absurd (not_both t h))
is_told (Some Idle) v w o c t is = absurd (not_both is.0 o)
is_told (Some Withdrawn) v w o c t is = absurd (not_both is.0 o)

-- a post is refused
pub is_refused : (closing : Option Closing) (v w : CallerView) → IsRefused v w
    → IsClosedAs closing v → IsClosedAs closing w
is_refused closing v w r is = rw r.told (go closing is) where
  go : (closing : Option Closing) → IsClosedAs closing v
      → IsClosedAs closing (record (with_word v) { posts = one_more v.posts })
  go None is = (is.0, λ h. is.1 (neither v.told (not v.closed) h))
  go (Some Idle) is = (
    is.0,
    (λ out. is.1 (record { unread = out.unread; stays = out.stays })),
    λ h. is.2 (neither v.told (not v.closed) h),
  )
  go (Some Withdrawn) is = is

-- a wait of an open end
pub has_waited : (closing : Option Closing) (turns : ℕ) (v w : CallerView) (r : Collected)
    → v.closed ≡ false → Waits turns v r w → IsClosedAs closing v → IsClosedAs closing w
has_waited closing turns v w collected.Nothing o s is =
    stays_open closing v w o (ap (λ u. u.closed) s) (ap (λ u. u.told) s) (ap (λ u. u.left) s) is
has_waited closing turns v w (collected.Got answer) o s is =
    let e = s.2.read in
    stays_open closing v w o (ap (λ u. u.closed) e) (ap (λ u. u.told) e) (ap (λ u. u.left) e) is
has_waited closing turns v w collected.Closed o s is =
    let e = s.2.told in
    is_told closing v w o (ap (λ u. u.closed) e)
    (ap (λ u. u.told) e ∙ word v.told v.closed o) is where
      word : (told closed : Bool) → closed ≡ false → (told || not closed) ≡ true
      word true closed h = refl
      word false closed h = ap not h

-- a close with nothing outstanding
pub closes_idle : (closing closing' : Option Closing) (v w : CallerView) → ¬ (IsOutstanding v)
    → w ≡ record v { closed = true } → closing' ≡ option_or closing (Some Idle)
    → IsClosedAs closing v → IsClosedAs closing' w
closes_idle closing closing' v w idle e n is = rw (e, n) (go closing is) where
  go : (closing : Option Closing) → IsClosedAs closing v
      → IsClosedAs (option_or closing (Some Idle)) (record v { closed = true })
  go None is = (refl, (λ out. idle (record { unread = out.unread; stays = out.stays })), is.1)
  go (Some Idle) is =
      (refl, (λ out. idle (record { unread = out.unread; stays = out.stays })), is.2)
  go (Some Withdrawn) is = (refl, is.1)

-- a close that succeeds closes
pub is_shut : (closing : Closing) (v w : CallerView) → ClosesCaller v (Ok closing) w
    → w.closed ≡ true
is_shut Idle v w closes = ap (λ u. u.closed) closes.closed
is_shut Withdrawn v w closes = ap (λ u. u.closed) closes.closed

-- a close that takes a post back
pub closes_withdrawn : (closing closing' : Option Closing) (v w : CallerView) → IsOutstanding v
    → w ≡ record v { closed = true; left = true } → closing' ≡ option_or closing (Some Withdrawn)
    → IsClosedAs closing v → IsClosedAs closing' w
closes_withdrawn closing closing' v w out e n is = rw (e, n) (go closing is) where
  go : (closing : Option Closing) → IsClosedAs closing v
      → IsClosedAs (option_or closing (Some Withdrawn)) (record v { closed = true; left = true })
  go None is = (refl, refl)
  go (Some Idle) is = absurd (is.1 out)
  go (Some Withdrawn) is = absurd (not_both is.1 out.stays)
