-- A round, call by call.
use Rattle.std.proofs.Common.{◌≡◌, ◌≢◌, ◌⊎◌, inl, inr, ℕ, zero, suc, ◌+◌, ◌-◌, ◌*◌, ◌<◌, ◌≤◌, Bool, true, false, List, [], ◌∷◌, ◌++◌, length, drop, get_or, set, refl, sym, ap, ◌∙◌, subst, arith, if◌then◌else◌}
use Rattle.std.specs.Prelude.{IsTrue}
use Rattle.std.specs.List.{All}
use Rattle.std.specs.Option.{option_and_then, option_to_list}
use Rattle.std.proofs.lemmas.List.{append_assoc, append-nil, get_or-set_other, get_or-set_same, length-append, length-set}
use Rattle.std.proofs.lemmas.List.Elements.{All-cons, All-nil}
use Rattle.std.proofs.lemmas.Bool.{cases_eq, false≢true}
use Rattle.scmi_codec.specs.declared.frame.Frame.TheVariants.{Good}
use Rattle.scmi_link.specs.View.{CalleeView, CallerView, IsOutstanding, Owes, knows_close, new_callee, new_caller, one_more}
use Rattle.scmi_link.specs.Calls.{Collects, FindsNoPlace}
use Rattle.scmi_link.specs.declared.collected.Collected.{Collected}
use Rattle.scmi_link.specs.declared.collected.Collected.TheVariants as collected
use Rattle.scmi_plan.specs.Agent.{IsAgent}
use Rattle.scmi_plan.specs.Board.{Board}
use Rattle.scmi_core.specs.declared.event.Event.{Event}
use Rattle.scmi_core.specs.declared.event.Event.TheVariants.{Command, Advance, Sent, CommandFailed, AdvanceFailed}
use Rattle.scmi_core.specs.declared.pending_set.PendingSet.{PendingSet}
use Rattle.scmi_core.specs.Asked.{Asked}
use Rattle.scmi_core.specs.Deed.{Deed}
use Rattle.scmi_core.specs.Driven.{HappensOn, IsCommandOf, IsEnd}
use Rattle.scmi_core.specs.History.{deed_after, deeds, outbox}
use Rattle.scmi_core.specs.Legal.{IsLegal}
use Rattle.scmi_core.specs.Pending.{acceptance, is_advance, pending_change, pending_left, pending_sets}
use Rattle.scmi_core.proofs.Deeds.{added_success}
use Rattle.scmi_core.proofs.Laws.{as_many}
use Rattle.scmi_core.proofs.Legal.{IsLegal-front, deed-event}
use Rattle.scmi_link.specs.declared.flushed.Flushed.{Flushed}
use Rattle.scmi_link.specs.declared.flushed.Flushed.TheVariants as flushed
use Rattle.scmi_link.specs.declared.served.Served.{Served}
use Rattle.scmi_link.specs.declared.served.Served.TheVariants as served
use Rattle.scmi_ends.specs.Agreement.{IsInStep, IsServed}
use Rattle.scmi_ends.specs.ControllerView.{ControllerView, callee_of, caller_of}
use Rattle.scmi_ends.specs.Each.{AllFrom}
use Rattle.scmi_ends.specs.Flush.{Flushes, FlushesOne}
use Rattle.scmi_ends.specs.ServeOn.{ServesOn, ServesOneOn}
use Rattle.scmi_laws.specs.Round.{AddsAtMostOneEach, AddsFairly, AtMostOneEach, EndsFirst, HasPostedAll, IsCommand, IsFlushedOnce, IsOrderly, IsPosting, IsServedOnce}
use Rattle.scmi_laws.proofs.Added.{pending-more}
use Rattle.scmi_laws.proofs.Events.{sent}

-- AT MOST ONE EVENT OF EACH AGENT

module _ (IsOf : ℕ → Event → Type 0) where
  pub each-push : (first end : ℕ) (es : List Event) (e : Event) → first ≤ end
      → AtMostOneEach IsOf first end es → IsOf end e
      → AtMostOneEach IsOf first (end + 1) (es ++ e ∷ [])
  each-push first end [] e le had is = (end, le, omega arith, is, tt)
  each-push first end (x ∷ es) e le had is =
      let a = had.0 in
      let below : a < end = had.2 in
      (a, had.1, omega arith, had.3, each-push (a + 1) end es e (omega arith) had.4 is)

  pub each-wider : (first end wider : ℕ) (es : List Event) → end ≤ wider
      → AtMostOneEach IsOf first end es → AtMostOneEach IsOf first wider es
  each-wider first end wider [] le had = tt
  each-wider first end wider (x ∷ es) le had =
      let a = had.0 in
      let below : a < end = had.2 in
      (a, had.1, omega arith, had.3, each-wider (a + 1) end wider es le had.4)

  pub each-few : (first end : ℕ) (es : List Event) → first ≤ end → AtMostOneEach IsOf first end es
      → length es + first ≤ end
  each-few first end [] le had = omega arith
  each-few first end (x ∷ es) le had =
      let a = had.0 in
      let from : first ≤ a = had.1 in
      let below : a < end = had.2 in
      let rest : length es + (a + 1) ≤ end = each-few (a + 1) end es (omega arith) had.4 in
      omega arith

  -- one more is added to a history
  pub on-more : (end : ℕ) (h k h' : List Event) → 1 ≤ end → AddsAtMostOneEach IsOf end h k
      → (e : Event) → IsOf end e → h' ≡ k ++ e ∷ [] → AddsAtMostOneEach IsOf (end + 1) h h'
  on-more end h k h' le had e is same = record {
    events = had.events ++ e ∷ [];
    history = same ∙ ap (λ xs. xs ++ e ∷ []) had.history ∙ append_assoc h had.events (e ∷ []);
    one_each = each-push 1 end had.events e le had.one_each is;
  }

  -- or none
  pub on-same : (end wider : ℕ) (h k h' : List Event) → end ≤ wider
      → AddsAtMostOneEach IsOf end h k → h' ≡ k → AddsAtMostOneEach IsOf wider h h'
  on-same end wider h k h' le had same = record {
    events = had.events;
    history = same ∙ had.history;
    one_each = each-wider 1 end wider had.events le had.one_each;
  }

  pub on-none : (end : ℕ) (h : List Event) → AddsAtMostOneEach IsOf end h h
  on-none end h = record { events = []; history = sym (append-nil h); one_each = tt }

-- THE ENDPOINT OF ONE AGENT

-- that of agent a is set
module _ {V : Type 0} (vs vs' : List V) (a n : ℕ) (v none : V) (is : vs' ≡ set vs (a - 1) v)
    (count : length vs' ≡ n) (agent : IsAgent n a) where
  set-there : get_or vs' (a - 1) none ≡ v
  set-there =
      let inside : a - 1 < length vs
      = omega (arith, ap length is, length-set vs (a - 1) v, count, agent.0, agent.1) in
      ap (λ us. get_or us (a - 1) none) is ∙ get_or-set_same vs (a - 1) v none inside

  set-other : (b : ℕ) → 1 ≤ b → b ≢ a → get_or vs' (b - 1) none ≡ get_or vs (b - 1) none
  set-other b from differ =
      let one : 1 ≤ a = agent.0 in
      let places : b - 1 ≢ a - 1 = (λ same. differ (omega arith)) in
      ap (λ us. get_or us (b - 1) none) is ∙ get_or-set_other vs (a - 1) (b - 1) v none places

-- AN AGENT IS SERVED

-- the endpoints agree with a history: none owes an answer
unowed : (board : Board) (h : List Event) (n i a : ℕ) (vs : List CalleeView) → a ≡ n + i
    → i < length vs → AllFrom (IsServed board h) n vs → ¬ (Owes (get_or vs i new_callee))
unowed board h n i a [] e lt all = absurd (omega arith)
unowed board h n zero a (v ∷ vs) e lt all = λ owes.
    omega (arith, owes, ap length all.0.taken, ap length all.0.answered, as_many board n h)
unowed board h n (suc i) a (v ∷ vs) e lt all =
    unowed board h (n + 1) i a vs (omega arith) (omega arith) all.1

pub owes-none : (p : ControllerView) (a : ℕ) → IsInStep p → IsAgent (length p.board.agents) a
    → ¬ (Owes (callee_of p a))
owes-none p a agrees agent =
    unowed p.board p.history 1 (a - 1) a p.callees (omega (arith, agent.0))
    (omega (arith, agent.0, agent.1, agrees.callees_count)) agrees.served

served-once : (board : Board) (a : ℕ) (h h' : List Event) (asked asked' : List Asked → Type 0)
    (old new : CalleeView) (r : Served) → ServesOneOn board a h asked old r h' asked' new
    → ¬ (Owes new) → IsServedOnce old new
served-once board a h h' asked asked' old new served.Nothing s none = record {
  frames = [];
  answers = [];
  taken = ap (λ v. v.taken) s.2.same ∙ sym (append-nil old.taken);
  at_most_one = omega arith;
  answered = ap (λ v. v.answered) s.2.same ∙ sym (append-nil old.answered);
  each_answered = refl;
  polled = ap (λ v. v.takes) s.2.same;
  owes_none = none;
}
served-once board a h h' asked asked' old new served.Done s none = record {
  frames = s.frame ∷ [];
  answers = s.answer ∷ [];
  taken = ap (λ v. v.taken) s.end;
  at_most_one = omega arith;
  answered = ap (λ v. v.answered) s.end;
  each_answered = refl;
  polled = ap (λ v. v.takes) s.end;
  owes_none = none;
}

-- what one call leaves
module _ {a : ℕ} {c c' : ControllerView} {asked asked' : List Asked → Type 0} {r : Served}
    (s : ServesOn a c asked r c' asked') (agrees : IsInStep c')
    (agent : IsAgent (length c.board.agents) a) where
  there : IsAgent (length c'.board.agents) a
  there = subst (λ b. IsAgent (length b.agents) a) (sym (ap (λ v. v.board) s.same)) agent

  callee-is : callee_of c' a ≡ s.callee
  callee-is =
      set-there c.callees c'.callees a (length c'.board.agents) s.callee new_callee
      (ap (λ v. v.callees) s.same) agrees.callees_count there

  pub serves-own : IsServedOnce (callee_of c a) (callee_of c' a)
  serves-own =
      subst (IsServedOnce (callee_of c a)) (sym callee-is)
      (served-once c.board a c.history c'.history asked asked' (callee_of c a) s.callee r s.step
      (subst (λ v. ¬ (Owes v)) callee-is (owes-none c' a agrees there)))

  pub serves-other : (b : ℕ) → 1 ≤ b → b ≢ a → callee_of c' b ≡ callee_of c b
  serves-other =
      set-other c.callees c'.callees a (length c'.board.agents) s.callee new_callee
      (ap (λ v. v.callees) s.same) agrees.callees_count there

  pub serves-on : (h : List Event) → AddsAtMostOneEach IsCommand a h c.history
      → AddsAtMostOneEach IsCommand (a + 1) h c'.history
  serves-on h had = by r s.step
    where
      by : (r : Served)
          → ServesOneOn c.board a c.history asked (callee_of c a) r c'.history asked' s.callee
          → AddsAtMostOneEach IsCommand (a + 1) h c'.history
      by served.Nothing t =
          on-same IsCommand a (a + 1) h c.history c'.history (omega arith) had t.0
      by served.Done t =
          let one = t.executes.happens in
          on-more IsCommand a h c.history c'.history agent.0 had one.event (t.frame, one.is_one)
          one.history

  pub serves-callers : c'.callers ≡ c.callers
  serves-callers = ap (λ v. v.callers) s.same

-- AN OUTBOX IS FLUSHED

orderly-collects : (v : CallerView) (r : Collected) (w : CallerView) → Collects v r w → IsOrderly v
    → IsOrderly w
orderly-collects v collected.Nothing w s is =
    subst IsOrderly (sym s)
    (record {
      answers = is.answers;
      at_most_one_unread = is.at_most_one_unread;
      left = is.left;
    })
orderly-collects v (collected.Got answer) w s is =
    let unread = s.was_outstanding.unread in
    subst IsOrderly (sym s.read)
    (record {
      answers = omega (arith, length-append v.read (answer ∷ []));
      at_most_one_unread = omega (arith, length-append v.read (answer ∷ []));
      left = is.left;
    })
orderly-collects v collected.Closed w s is =
    let posted : length w.posted ≡ length v.posted = ap (λ u. length u.posted) s.told in
    let read : length w.read ≡ length v.read = ap (λ u. length u.read) s.told in
    let before : length v.read ≤ length v.posted = is.answers in
    let most : length v.posted ≤ length v.read + 1 = is.at_most_one_unread in
    record { answers = omega arith; at_most_one_unread = omega arith; left = λ left. s.known }

collects-once : (v : CallerView) (r : Collected) (w : CallerView) → Collects v r w
    → (w.posted ≡ v.posted) × (w.collects ≡ one_more v.collects)
collects-once v collected.Nothing w s = (ap (λ u. u.posted) s, ap (λ u. u.collects) s)
collects-once v (collected.Got answer) w s =
    (ap (λ u. u.posted) s.read, ap (λ u. u.collects) s.read)
collects-once v collected.Closed w s =
    (ap (λ u. u.posted) s.told, ap (λ u. u.collects) s.told)

-- an end that is open has left no post
open_left : (left knows : Bool) → (left ≡ true → knows ≡ true) → knows ≡ false → left ≡ false
open_left false knows known unclosed = refl
open_left true knows known unclosed = let yes = known refl in absurd (cc)

-- where nothing is outstanding and the end is open, each answer was read
all_read : (v : CallerView) → IsOrderly v → knows_close v ≡ false → ¬ (IsOutstanding v)
    → length v.posted ≡ length v.read
all_read v is unclosed none =
    let stays = open_left v.left (knows_close v) is.left unclosed in
    let differ : length v.posted ≢ length v.read + 1 =
    λ unread. none (record { unread = unread; stays = stays }) in
    let least = is.answers in let most = is.at_most_one_unread in omega (arith, least, most, differ)

-- what follows the `collect`
module _ (full : Bool) (board : Board) (a : ℕ) (h h' : List Event) (w z : CallerView) where
  -- a post is outstanding, or there is no place
  abbrev CanPostNone : Type 0
  CanPostNone =
      (IsOutstanding w × (z ≡ w)) ⊎ (FindsNoPlace full w z × (0 < length (outbox board a h)))

  orderly-flushes : (r : Flushed) → FlushesOne full board a h w r h' z → IsOrderly w → IsOrderly z
  orderly-flushes flushed.Waiting s is = by s.1
    where
      by : CanPostNone → IsOrderly z
      by (inl waits) = subst IsOrderly (sym waits.1) is
      by (inr none) =
          subst IsOrderly (sym none.0.same)
          (record {
            answers = is.answers;
            at_most_one_unread = is.at_most_one_unread;
            left = is.left;
          })
  orderly-flushes flushed.Nothing s is = subst IsOrderly (sym s.1) is
  orderly-flushes flushed.Closed s is =
      let posted : length z.posted ≡ length w.posted = ap (λ u. length u.posted) s.1.told in
      let read : length z.read ≡ length w.read = ap (λ u. length u.read) s.1.told in
      let before : length w.read ≤ length w.posted = is.answers in
      let most : length w.posted ≤ length w.read + 1 = is.at_most_one_unread in
      record { answers = omega arith; at_most_one_unread = omega arith; left = λ left. s.1.known }
  orderly-flushes flushed.Posted s is =
      let read = all_read w is s.unclosed s.none_outstanding in
      let more = length-append w.posted (Good s.message ∷ []) in
      subst IsOrderly (sym s.end)
      (record {
        answers = omega (arith, read, more);
        at_most_one_unread = omega (arith, read, more);
        left = is.left;
      })

  flushed-once : (v : CallerView) (answer : Collected) (r : Flushed) → Collects v answer w
      → FlushesOne full board a h w r h' z → IsFlushedOnce v z
  flushed-once v answer r collects s = by r s
    where
      none : z.posted ≡ w.posted → z.collects ≡ w.collects → IsFlushedOnce v z
      none posted looks =
          let once = collects-once v answer w collects in
          record {
            messages = [];
            posted = posted ∙ once.0 ∙ sym (append-nil v.posted);
            at_most_one = omega arith;
            collected = looks ∙ once.1;
          }

      waits : CanPostNone → IsFlushedOnce v z
      waits (inl is) = none (ap (λ u. u.posted) is.1) (ap (λ u. u.collects) is.1)
      waits (inr is) = none (ap (λ u. u.posted) is.0.same) (ap (λ u. u.collects) is.0.same)

      by : (r : Flushed) → FlushesOne full board a h w r h' z → IsFlushedOnce v z
      by flushed.Waiting t = waits t.1
      by flushed.Nothing t = none (ap (λ u. u.posted) t.1) (ap (λ u. u.collects) t.1)
      by flushed.Closed t = none (ap (λ u. u.posted) t.1.told) (ap (λ u. u.collects) t.1.told)
      by flushed.Posted t =
          let once = collects-once v answer w collects in
          record {
            messages = Good t.message ∷ [];
            posted = ap (λ u. u.posted) t.end ∙ ap (λ ms. ms ++ Good t.message ∷ []) once.0;
            at_most_one = omega arith;
            collected = ap (λ u. u.collects) t.end ∙ once.1;
          }

  flushed-all : (r : Flushed) → FlushesOne full board a h w r h' z → IsOrderly w
      → HasPostedAll full board a h' z
  flushed-all flushed.Waiting s is = by s.1
    where
      by : CanPostNone → HasPostedAll full board a h' z
      by (inl waits) =
          inr (inl (subst IsOutstanding (sym waits.1) waits.0))
      by (inr none) = inr (inr (inr none.0.may))
  flushed-all flushed.Nothing s is = inl (ap (outbox board a) s.0 ∙ s.3)
  flushed-all flushed.Closed s is = inr (inr (inl s.1.known))
  flushed-all flushed.Posted s is =
      let read = all_read w is s.unclosed s.none_outstanding in
      inr (inl (subst IsOutstanding (sym s.end)
      (record {
        unread = omega (arith, read, length-append w.posted (Good s.message ∷ []));
        stays = open_left w.left (knows_close w) is.left s.unclosed;
      })))

-- a posting to an agent leaves the outbox of another
outbox-other : (board : Board) (h : List Event) (a b : ℕ) → IsLegal board h → b ≢ a
    → outbox board b (h ++ Sent a ∷ []) ≡ outbox board b h
unfolding outbox
outbox-other board h a b legal differ =
    ap (λ s. s.outbox) (sent board h a b legal (λ same. differ (sym same)))

pub posted-other : (full : Bool) (board : Board) (h h' : List Event) (b : ℕ) (v : CallerView)
    → outbox board b h' ≡ outbox board b h → HasPostedAll full board b h v
    → HasPostedAll full board b h' v
posted-other full board h h' b v same (inl none) = inl (same ∙ none)
posted-other full board h h' b v same (inr why) = inr why

-- what one call leaves
module _ {full : Bool} {a : ℕ} {c c' : ControllerView} {r : Flushed} (s : Flushes full a c r c')
    (agrees : IsInStep c') (agent : IsAgent (length c.board.agents) a) where
  board-is : c'.board ≡ c.board
  board-is = ap (λ v. v.board) s.same

  at : IsAgent (length c'.board.agents) a
  at = subst (λ b. IsAgent (length b.agents) a) (sym board-is) agent

  caller-is : caller_of c' a ≡ s.caller
  caller-is =
      set-there c.callers c'.callers a (length c'.board.agents) s.caller new_caller
      (ap (λ v. v.callers) s.same) agrees.callers_count at

  pub flushes-own : IsFlushedOnce (caller_of c a) (caller_of c' a)
  flushes-own =
      subst (IsFlushedOnce (caller_of c a)) (sym caller-is)
      (flushed-once full c.board a c.history c'.history s.step.collected s.caller (caller_of c a)
      s.step.answer r s.step.collects s.step.step)

  pub flushes-orderly : IsOrderly (caller_of c a) → IsOrderly (caller_of c' a)
  flushes-orderly is =
      subst IsOrderly (sym caller-is)
      (orderly-flushes full c.board a c.history c'.history s.step.collected s.caller r s.step.step
      (orderly-collects (caller_of c a) s.step.answer s.step.collected s.step.collects is))

  pub flushes-all : IsOrderly (caller_of c a)
      → HasPostedAll full c.board a c'.history (caller_of c' a)
  flushes-all is =
      subst (HasPostedAll full c.board a c'.history) (sym caller-is)
      (flushed-all full c.board a c.history c'.history s.step.collected s.caller r s.step.step
      (orderly-collects (caller_of c a) s.step.answer s.step.collected s.step.collects is))

  pub flushes-other : (b : ℕ) → 1 ≤ b → b ≢ a → caller_of c' b ≡ caller_of c b
  flushes-other =
      set-other c.callers c'.callers a (length c'.board.agents) s.caller new_caller
      (ap (λ v. v.callers) s.same) agrees.callers_count at

  pub flushes-on : (h : List Event) → AddsAtMostOneEach IsPosting a h c.history
      → AddsAtMostOneEach IsPosting (a + 1) h c'.history
  flushes-on h had = by r s.step.step
    where
      by : (r : Flushed)
          → FlushesOne full c.board a c.history s.step.collected r c'.history s.caller
          → AddsAtMostOneEach IsPosting (a + 1) h c'.history
      by flushed.Waiting t =
          on-same IsPosting a (a + 1) h c.history c'.history (omega arith) had t.0
      by flushed.Nothing t =
          on-same IsPosting a (a + 1) h c.history c'.history (omega arith) had t.0
      by flushed.Closed t =
          on-same IsPosting a (a + 1) h c.history c'.history (omega arith) had t.0
      by flushed.Posted t =
          on-more IsPosting a h c.history c'.history agent.0 had (Sent a) refl t.event

  pub flushes-kept : (b : ℕ) → b ≢ a → outbox c.board b c'.history ≡ outbox c.board b c.history
  flushes-kept b differ = by r s.step.step
    where
      by : (r : Flushed)
          → FlushesOne full c.board a c.history s.step.collected r c'.history s.caller
          → outbox c.board b c'.history ≡ outbox c.board b c.history
      by flushed.Waiting t = ap (outbox c.board b) t.0
      by flushed.Nothing t = ap (outbox c.board b) t.0
      by flushed.Closed t = ap (outbox c.board b) t.0
      by flushed.Posted t =
          let legal = subst (λ board. IsLegal board c'.history) board-is agrees.legal in
          let front =
          IsLegal-front c.board c.history (Sent a) (subst (IsLegal c.board) t.event legal) in
          ap (outbox c.board b) t.event ∙ outbox-other c.board c.history a b front differ

  pub flushes-callees : c'.callees ≡ c.callees
  flushes-callees = ap (λ v. v.callees) s.same

-- ONE AGENT AFTER THE OTHERS

-- what each agent before has, this one has, and no other call took it from those
pub one-by-one : (P : ℕ → Type 0) (Q : ℕ → Type 0) (a : ℕ)
    → ((b : ℕ) → 1 ≤ b → b < a → P b) → ((b : ℕ) → 1 ≤ b → b ≢ a → P b → Q b) → Q a
    → (b : ℕ) → 1 ≤ b → b < a + 1 → Q b
one-by-one P Q a had kept here b from below = by (cases_eq b a)
  where
    by : (b ≡ a) ⊎ (b ≢ a) → Q b
    by (inl same) = subst Q (sym same) here
    by (inr differ) =
        let before : b < a = omega arith in
        kept b from differ (had b from before)

-- THE SETS THAT ARE PENDING

-- the beginning of a legal history is legal
legal-part : (board : Board) (h k : List Event) → IsLegal board (h ++ k) → IsLegal board h
legal-part board h k legal = record {
  each = λ before after event is.
      legal.each before (after ++ k) event
      (ap (λ xs. xs ++ k) is ∙ append_assoc before (event ∷ after) k);
}

-- those after one more event, if it is this one
module _ (board : Board) (h : List Event) (e x : Event)
    (legal : IsLegal board h) (same : e ≡ x) where
  abbrev deed : Deed
  deed = deed_after board (deeds board h) e

  abbrev left_by : Event → List PendingSet
  left_by it =
      let ps = pending_sets board (deeds board h) in
      if is_advance it then drop 1 ps
      else pending_left (pending_change it) ps
      ++ option_to_list (option_and_then (acceptance board) (added_success board deed))

  pending-by : pending_sets board (deeds board (h ++ e ∷ [])) ≡ left_by x
  pending-by = pending-more board h e legal ∙ ap left_by (deed-event board (deeds board h) e ∙ same)

-- some sets come after those that were pending
record LeavesMore (board : Board) (h h' : List Event) : Type 0 where
  pub accepted : List PendingSet
  pub left : pending_sets board (deeds board h') ≡ pending_sets board (deeds board h) ++ accepted

command-leaves : (board : Board) (h : List Event) (a : ℕ) (e : Event) → IsCommand a e
    → IsLegal board h → LeavesMore board h (h ++ e ∷ [])
command-leaves board h a e is legal = by is.1
  where
    by : IsCommandOf a is.0 e → LeavesMore board h (h ++ e ∷ [])
    by (inl same) =
        record { accepted = _; left = pending-by board h e (Command a is.0) legal same }
    by (inr (fault, same)) =
        record { accepted = _; left = pending-by board h e (CommandFailed a is.0 fault) legal same }

leaves-on : (board : Board) (h k l : List Event) → LeavesMore board h k → LeavesMore board k l
    → LeavesMore board h l
leaves-on board h k l first more = record {
  accepted = first.accepted ++ more.accepted;
  left =
      more.left
      ∙ ap (λ ps. ps ++ more.accepted) first.left
      ∙ append_assoc (pending_sets board (deeds board h)) first.accepted more.accepted;
}

commands-leave : (board : Board) (first end : ℕ) (h es : List Event)
    → AtMostOneEach IsCommand first end es → IsLegal board (h ++ es)
    → LeavesMore board h (h ++ es)
commands-leave board first end h [] each legal =
    record {
      accepted = [];
      left =
          ap (λ xs. pending_sets board (deeds board xs)) (append-nil h)
          ∙ sym (append-nil (pending_sets board (deeds board h)));
    }
commands-leave board first end h (e ∷ es) each legal =
    let same = append_assoc h (e ∷ []) es in
    let rest = subst (IsLegal board) (sym same) legal in
    let begun = command-leaves board h each.0 e each.3 (legal-part board h (e ∷ es) legal) in
    subst (LeavesMore board h) same
    (leaves-on board h (h ++ e ∷ []) ((h ++ e ∷ []) ++ es) begun
    (commands-leave board (each.0 + 1) end (h ++ e ∷ []) es each.4 rest))

postings-leave : (board : Board) (first end : ℕ) (h es : List Event)
    → AtMostOneEach IsPosting first end es → IsLegal board (h ++ es)
    → pending_sets board (deeds board (h ++ es)) ≡ pending_sets board (deeds board h)
postings-leave board first end h [] each legal =
    ap (λ xs. pending_sets board (deeds board xs)) (append-nil h)
postings-leave board first end h (e ∷ es) each legal =
    let same = append_assoc h (e ∷ []) es in
    let rest = subst (IsLegal board) (sym same) legal in
    let pending = λ (xs : List Event). pending_sets board (deeds board xs) in
    ap pending (sym same)
    ∙ postings-leave board (each.0 + 1) end (h ++ e ∷ []) es each.4 rest
    ∙ ap (λ it. pending (h ++ it ∷ [])) each.3
    ∙ pending-by board h (Sent each.0) (Sent each.0) (legal-part board h (e ∷ es) legal) refl
    ∙ append-nil (pending h)

-- an end takes the first
ends-first : (board : Board) (h : List Event) (e : Event) → IsEnd e → IsLegal board h
    → pending_sets board (deeds board (h ++ e ∷ []))
    ≡ drop 1 (pending_sets board (deeds board h))
ends-first board h e (inl is) legal = pending-by board h e Advance legal is
ends-first board h e (inr (fault, is)) legal =
    pending-by board h e (AdvanceFailed fault) legal is

-- THE ROUND AS A WHOLE

-- what `advance_on` adds
pub record EndsOne (h h' : List Event) : Type 0 where
  pub ends : List Event
  pub history : h' ≡ h ++ ends
  pub one : length ends ≤ 1
  pub each : All IsEnd ends

pub ends-none : (h : List Event) → EndsOne h h
ends-none h = record {
  ends = [];
  history = sym (append-nil h);
  one = omega arith;
  each = All-nil IsEnd;
}

abbrev pub fairly : (agents : ℕ) (h k l h' : List Event)
    → AddsAtMostOneEach IsCommand (agents + 1) h k → EndsOne k l
    → AddsAtMostOneEach IsPosting (agents + 1) l h' → AddsFairly agents h h'
fairly agents h k l h' commands ends postings = record {
  commands = commands.events;
  ends = ends.ends;
  postings = postings.events;
  history =
      postings.history
      ∙ ap (λ xs. xs ++ postings.events)
      (ends.history ∙ ap (λ xs. xs ++ ends.ends) commands.history)
      ∙ append_assoc (h ++ commands.events) ends.ends postings.events
      ∙ append_assoc h commands.events (ends.ends ++ postings.events);
  one_command_each = commands.one_each;
  one_end = ends.one;
  each_ends = ends.each;
  one_posting_each = postings.one_each;
}

pub fair-bound : (agents : ℕ) (h h' : List Event) → AddsFairly agents h h'
    → length h' ≤ length h + (2 * agents + 1)
fair-bound agents h h' fair =
    let commands : length fair.commands + 1 ≤ agents + 1
    = each-few IsCommand 1 (agents + 1) fair.commands (omega arith) fair.one_command_each in
    let postings : length fair.postings + 1 ≤ agents + 1
    = each-few IsPosting 1 (agents + 1) fair.postings (omega arith) fair.one_posting_each in
    let end : length fair.ends ≤ 1 = fair.one_end in
    let whole = ap length fair.history in
    omega (
      arith,
      whole,
      length-append h (fair.commands ++ (fair.ends ++ fair.postings)),
      length-append fair.commands (fair.ends ++ fair.postings),
      length-append fair.ends fair.postings,
    )

-- the part of a round up to where it is cut off, or as a whole
pub fair-served : (agents : ℕ) (h h' : List Event) → AddsAtMostOneEach IsCommand (agents + 1) h h'
    → AddsFairly agents h h'
fair-served agents h h' commands =
    fairly agents h h' h' h' commands (ends-none h') (on-none IsPosting (agents + 1) h')

pub ends-pending : (board : Board) (h k l h' : List Event)
    → (commands : AddsAtMostOneEach IsCommand (length board.agents + 1) h k) → (ends : EndsOne k l)
    → (postings : AddsAtMostOneEach IsPosting (length board.agents + 1) l h')
    → IsLegal board h'
    → pending_sets board (deeds board l) ≡ drop 1 (pending_sets board (deeds board k))
    → EndsFirst board h h'
ends-pending board h k l h' commands ends postings legal ended =
    let at_l = subst (IsLegal board) postings.history legal in
    let to_l = legal-part board l postings.events at_l in
    let at_k = subst (IsLegal board) ends.history to_l in
    let to_k = legal-part board k ends.ends at_k in
    let at_h = subst (IsLegal board) commands.history to_k in
    let end = length board.agents + 1 in
    let left = commands-leave board 1 end h commands.events commands.one_each at_h in
    let pending = λ (xs : List Event). pending_sets board (deeds board xs) in
    record {
      round = fairly (length board.agents) h k l h' commands ends postings;
      accepted = left.accepted;
      served = left.left;
      ended =
          ap pending postings.history
          ∙ postings-leave board 1 end l postings.events postings.one_each at_l
          ∙ ended
          ∙ ap (λ xs. drop 1 (pending xs)) commands.history;
    }

-- what `advance_on` leaves of the pending sets
pub ended-first : (board : Board) (did : Bool) (k l : List Event)
    (asked asked' : List Asked → Type 0)
    → IsLegal board l → (IsTrue did → HappensOn board IsEnd k asked l asked')
    → (¬ (IsTrue did) → l ≡ k)
    → (0 < length (pending_sets board (deeds board k)) → IsTrue did)
    → pending_sets board (deeds board l) ≡ drop 1 (pending_sets board (deeds board k))
ended-first board true k l asked asked' legal happens still waiting =
    let one = happens refl in
    let at = subst (IsLegal board) one.history legal in
    ap (λ xs. pending_sets board (deeds board xs)) one.history
    ∙ ends-first board k one.event one.is_one (legal-part board k (one.event ∷ []) at)
ended-first board false k l asked asked' legal happens still waiting =
    let none : pending_sets board (deeds board k) ≡ []
    = nothing-waits (pending_sets board (deeds board k)) (λ some. false≢true (waiting some)) in
    ap (λ xs. pending_sets board (deeds board xs)) (still false≢true)
    ∙ none
    ∙ ap (drop 1) (sym none)
  where
    nothing-waits : (ps : List PendingSet) → (0 < length ps → ⊥) → ps ≡ []
    nothing-waits [] none = refl
    nothing-waits (p ∷ ps) none = absurd (none (omega arith))

pub one-end : (board : Board) (did : Bool) (k l : List Event) (asked asked' : List Asked → Type 0)
    → (IsTrue did → HappensOn board IsEnd k asked l asked') → (¬ (IsTrue did) → l ≡ k)
    → EndsOne k l
one-end board true k l asked asked' happens still =
    let done = happens refl in
    record {
      ends = done.event ∷ [];
      history = done.history;
      one = omega arith;
      each = All-cons IsEnd done.event [] done.is_one (All-nil IsEnd);
    }
one-end board false k l asked asked' happens still =
    subst (EndsOne k) (sym (still false≢true)) (ends-none k)

-- the three parts of a round
module _ (old p q new : ControllerView) (did : Bool) (asked asked' : List Asked → Type 0)
    (served_board : p.board ≡ old.board) (ended_board : q.board ≡ p.board)
    (flushed_board : new.board ≡ q.board)
    (commands : AddsAtMostOneEach IsCommand (length old.board.agents + 1) old.history p.history)
    (happens : IsTrue did → HappensOn p.board IsEnd p.history asked q.history asked')
    (still : ¬ (IsTrue did) → q ≡ p)
    (waiting : 0 < length (pending_sets p.board (deeds p.board p.history)) → IsTrue did)
    (ended_agrees : IsInStep q)
    (postings : AddsAtMostOneEach IsPosting (length q.board.agents + 1) q.history new.history)
    (agrees : IsInStep new) where
  ends : EndsOne p.history q.history
  ends =
      one-end p.board did p.history q.history asked asked' happens
      (λ none. ap (λ v. v.history) (still none))

  to_new : AddsAtMostOneEach IsPosting (length old.board.agents + 1) q.history new.history
  to_new =
      subst (λ b. AddsAtMostOneEach IsPosting (length b.agents + 1) q.history new.history)
      (ended_board ∙ served_board) postings

  pub round-pending : EndsFirst old.board old.history new.history
  round-pending =
      let to_q = subst (λ b. IsLegal b q.history) ended_board ended_agrees.legal in
      let first =
      ended-first p.board did p.history q.history asked asked' to_q happens
      (λ none. ap (λ v. v.history) (still none)) waiting in
      ends-pending old.board old.history p.history q.history new.history commands ends to_new
      (subst (λ b. IsLegal b new.history) (flushed_board ∙ ended_board ∙ served_board) agrees.legal)
      (subst (λ b. pending_sets b (deeds b q.history) ≡ drop 1 (pending_sets b (deeds b p.history)))
      served_board first)
