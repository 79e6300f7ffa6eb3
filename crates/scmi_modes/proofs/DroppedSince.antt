-- The notifications that were dropped, by what was kept before.
use Rattle.std.proofs.Common.{◌≡◌, ◌<◌, ◌-◌, ℕ, zero, suc, Bool, if◌then◌else◌, Option, get_or, List, [], ◌∷◌, ◌++◌, ◌+◌, length, refl, ap, ◌∙◌, append_assoc, arith}
use native.Mathlib.Numerals.{unary_clauses}
use Rattle.scmi_plan.specs.Agent.{IsAgent}
use Rattle.scmi_plan.specs.Board.{Board}
use Rattle.scmi_core.specs.History.{deeds, is_subscriber_after, outbox, value_after}
use Rattle.scmi_core.specs.Pending.{pending_sets}
use Rattle.scmi_core.specs.Value.{State}
use Rattle.scmi_core.specs.declared.event.Event.{Event}
use Rattle.scmi_modes.specs.Standing.{IsStandingAfter, dropped_at, dropped_between, dropped_for, dropped_of, is_dropped, is_dropped_since, is_lost, responds_to, responses_after}
use Rattle.scmi_modes.specs.declared.standing.Dropped.{Dropped}
use Rattle.scmi_modes.specs.declared.standing.Standing.{Standing}

for_same : (f g : (a d : ℕ) → Bool) (a n : ℕ) → ((d : ℕ) → d < n → f a d ≡ g a d)
    → dropped_for f a n ≡ dropped_for g a n
for_same f g a zero same = refl
for_same f g a (suc n) same =
    ap (λ (xs : List Dropped). xs ++ (if f a n then record { agent = a; domain = n } ∷ [] else []))
    (for_same f g a n (λ d below. same d (omega (arith, below))))
    ∙ ap (λ (is : Bool). dropped_for g a n
    ++ (if is then record { agent = a; domain = n } ∷ [] else [])) (same n (omega arith))

all_same : (f g : (a d : ℕ) → Bool) (domains agents : ℕ) → ((a d : ℕ) → IsAgent agents a
    → d < domains → f a d ≡ g a d) → dropped_of f domains agents ≡ dropped_of g domains agents
all_same f g domains zero same = refl
all_same f g domains (suc n) same =
    ap (λ (xs : List Dropped). xs ++ dropped_for f (suc n) domains)
    (all_same f g domains n (λ a d is below. same a d (is.0, omega (arith, is.1)) below))
    ∙ ap (λ (xs : List Dropped). dropped_of g domains n ++ xs)
    (for_same f g (suc n) domains (λ d below. same (suc n) d (omega arith, omega arith) below))

-- the notifications of one domain more
pub domain_more : (f : (a d : ℕ) → Bool) (a d : ℕ) (before so_far new : List Dropped)
    → so_far ≡ before ++ dropped_for f a d → new ≡ so_far ++ dropped_at f a d
    → new ≡ before ++ dropped_for f a (d + 1)
domain_more f a d before so_far new is more =
    more ∙ ap (λ (xs : List Dropped). xs ++ dropped_at f a d) is
    ∙ append_assoc before (dropped_for f a d) (dropped_at f a d)
    ∙ simp unary_clauses refl

-- the notifications for one agent more
pub agent_more : (f : (a d : ℕ) → Bool) (domains a : ℕ) (so_far new : List Dropped)
    → so_far ≡ dropped_of f domains a → new ≡ so_far ++ dropped_for f (a + 1) domains
    → new ≡ dropped_of f domains (a + 1)
agent_more f domains a so_far new is more =
    more ∙ ap (λ (xs : List Dropped). xs ++ dropped_for f (a + 1) domains) is
    ∙ simp unary_clauses refl

-- a notification was dropped since that was kept if and only if it was dropped between the two
-- histories
pub since : (board : Board) (before now : List Event) (s : Standing)
    → IsStandingAfter board before s → (a d : ℕ) → IsAgent (length board.agents) a
    → d < length board.domains → is_dropped_since board s now a d ≡ is_dropped board before now a d
since board before now s kept a d agent domain =
    let state = value_after board (State d) before in
    let now_is = value_after board (State d) now in
    let notified = is_subscriber_after board a d now in
    let waits = length (outbox board a now) in
    let sets = length (pending_sets board (deeds board now)) in
    ap (λ (old : ℕ). is_lost old now_is notified (get_or s.waiting (a - 1) 0) waits
    (responses_after s.responds_to s.pending sets a)) (kept.states d domain)
    ∙ ap (λ (waited : ℕ). is_lost state now_is notified waited waits
    (responses_after s.responds_to s.pending sets a)) (kept.outboxes a agent)
    ∙ ap (λ (to : Option ℕ). is_lost state now_is notified (length (outbox board a before)) waits
    (responses_after to s.pending sets a)) kept.first
    ∙ ap (λ (count : ℕ). is_lost state now_is notified (length (outbox board a before)) waits
    (responses_after (responds_to (pending_sets board (deeds board before))) count sets a))
    kept.pending

-- these are the notifications that were dropped between the two histories
pub all_since : (board : Board) (before now : List Event) (s : Standing)
    → IsStandingAfter board before s → dropped_of (is_dropped_since board s now)
    (length board.domains) (length board.agents) ≡ dropped_between board before now
all_since board before now s kept = all_same _ _ _ _ (since board before now s kept)
