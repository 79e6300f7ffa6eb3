-- What one more deed adds to subscriptions, pending sets and outboxes, and when a history stays
-- legal.
use Rattle.std.proofs.Common.{◌≡◌, ℕ, zero, suc, ◌+◌, ◌≤◌, true, false, List, [], ◌∷◌, ◌++◌, length, take, drop, slice_get, Option, Some, None, Bool, unwrap_or, refl, sym, ap, ◌∙◌, subst, arith, if◌then◌else◌}
use Rattle.std.specs.List.{filter_map, cons_option}
use Rattle.std.proofs.lemmas.List.{append_assoc, append-nil, drop-append-le, drop-drop, drop_at, length-append, length-map, length-take-le, same_from_push, take-append-drop, take-append-le, take_at}
use Rattle.std.proofs.lemmas.List.Elements.{filter_map-append}
use Rattle.std.proofs.lemmas.Grind.{fold-append}
use Rattle.scmi_codec.specs.declared.message.Message.{Message}
use Rattle.scmi_plan.specs.Board.{Board}
use Rattle.scmi_base.specs.Permission.{is_allowed}
use Rattle.scmi_core.specs.declared.event.Event.{Event}
use Rattle.scmi_codec.specs.declared.fault.Fault.{Fault}
use Rattle.scmi_core.specs.declared.pending_set.PendingSet.{PendingSet}
use Rattle.scmi_core.specs.declared.event.Event.TheVariants.{Command, Advance, Sent, CommandFailed, AdvanceFailed, Restarted, Promoted, Settled, Reported}
use Rattle.std.specs.Option.{option_to_list, option_and_then, option_map_or}
use Rattle.scmi_core.specs.Deed.{Deed, Success, fold_with_prefix, latest, successes, success_at}
use Rattle.scmi_core.specs.Value.{Thing, changes, change_by, commanded_by, commanded_changes, completed_set, failed_set, fault_in, value, value_at_start, value_in}
use Rattle.scmi_plan.specs.declared.scope.Scope.{Scope}
use Rattle.scmi_core.specs.Commands.{permission_in}
use Rattle.scmi_core.specs.Permissions.{has_permission}
use Rattle.scmi_core.specs.Subscriptions.{subscription_at, is_subscriber}
use Rattle.scmi_core.specs.Pending.{PendingChange, First, Settled as Gives, Unwanted, acceptance, accepted_sets, advances, is_advance, pending_change, pending_left, pending_sets, sets_left, settled, unwanted}
use Rattle.scmi_core.specs.Outbox.{failed_response_for, is_restart_of, messages_left, messages_made, made_by, made_in, outbox_after, sent_count, is_sent_by, situation_with}
use Rattle.scmi_core.specs.Legal.{IsLegal, CanFollow}
use Rattle.scmi_core.proofs.Promotions.{promoted-length}

pub fold_with_prefix-push : {X S : Type 0} (step : List X → S → X → S)
    (before : List X) (s : S) (xs : List X) (x : X) → fold_with_prefix step before s (xs ++ x ∷ [])
    ≡ step (before ++ xs) (fold_with_prefix step before s xs) x
unfolding fold_with_prefix
fold_with_prefix-push step before s [] x = ap (λ b. step b s x) (sym (append-nil before))
fold_with_prefix-push step before s (y ∷ ys) x =
    fold_with_prefix-push step (before ++ y ∷ []) (step before s y) ys x
    ∙ ap (λ b. step b (fold_with_prefix step (before ++ y ∷ []) (step before s y) ys) x)
    (append_assoc before (y ∷ []) ys)

pub latest-append : {A : Type 0} (d : A) (xs : List A) (o : Option A)
    → latest d (xs ++ option_to_list o) ≡ unwrap_or o (latest d xs)
latest-append d [] None = refl
latest-append d [] (Some x) = refl
latest-append d (y ∷ ys) o = latest-append y ys o

cons-to_list : {Y : Type 0} (o : Option Y) → cons_option o [] ≡ option_to_list o
cons-to_list None = refl
cons-to_list (Some y) = refl

pub filter_map-to_list : {X Y : Type 0} (f : X → Option Y) (o : Option X)
    → filter_map f (option_to_list o) ≡ option_to_list (option_and_then f o)
filter_map-to_list f None = refl
filter_map-to_list f (Some x) = cons-to_list (f x)

-- the last of a filter, after at most one more
pub latest-filter_map : {X Y : Type 0} (f : X → Option Y) (d : Y) (xs : List X) (o : Option X)
    → latest d (filter_map f (xs ++ option_to_list o))
    ≡ unwrap_or (option_and_then f o) (latest d (filter_map f xs))
latest-filter_map f d xs o =
    ap (latest d) (filter_map-append f xs (option_to_list o)
    ∙ ap (λ ys. filter_map f xs ++ ys) (filter_map-to_list f o))
    ∙ latest-append d (filter_map f xs) (option_and_then f o)

-- what a deed adds to the successes
abbrev pub added_success : Board → Deed → Option Success
added_success board deed = success_at board deed.event deed.reply

pub successes-push : (board : Board) (h : List Deed) (deed : Deed) → successes board
    (h ++ deed ∷ []) ≡ successes board h ++ option_to_list (added_success board deed)
successes-push board h deed =
    filter_map-append (λ e. success_at board e.event e.reply) h (deed ∷ [])
    ∙ ap (λ ys. successes board h ++ ys) (cons-to_list (added_success board deed))

pub has_permission-push : (board : Board) (a d : ℕ) (scope : Scope) (h : List Deed) (deed : Deed)
    → has_permission board a d scope (h ++ deed ∷ []) ≡ unwrap_or
    (option_and_then (λ s. permission_in board a d scope s.command) (added_success board deed))
    (has_permission board a d scope h)
has_permission-push board a d scope h deed =
    ap (λ ss. latest (is_allowed board.denied a d scope) (filter_map
    (λ s. permission_in board a d scope s.command) ss)) (successes-push board h deed)
    ∙ latest-filter_map (λ s. permission_in board a d scope s.command)
    (is_allowed board.denied a d scope) (successes board h) (added_success board deed)

pub changes-push : (board : Board) (h : List Deed) (deed : Deed)
    → changes board (h ++ deed ∷ []) ≡ changes board h ++ option_to_list (change_by board h deed)
changes-push board h deed = fold_with_prefix-push
    (λ before so_far x. so_far ++ option_to_list (change_by board before x)) [] [] h deed

pub commanded_changes-push : (board : Board) (h : List Deed) (deed : Deed) → commanded_changes board
    (h ++ deed ∷ []) ≡ commanded_changes board h ++ option_to_list (commanded_by board h deed)
commanded_changes-push board h deed = fold_with_prefix-push
    (λ before so_far x. so_far ++ option_to_list (commanded_by board before x)) [] [] h deed

pub value-push : (board : Board) (t : Thing) (h : List Deed) (deed : Deed)
    → value board t (h ++ deed ∷ [])
    ≡ unwrap_or (option_and_then (value_in t) (change_by board h deed)) (value board t h)
value-push board t h deed =
    ap (λ cs. latest (value_at_start board t) (filter_map (value_in t) cs))
    (changes-push board h deed)
    ∙ latest-filter_map (value_in t) (value_at_start board t) (changes board h)
    (change_by board h deed)

pub is_subscriber-push : (board : Board) (a d : ℕ) (h : List Deed) (deed : Deed)
    → is_subscriber board a d (h ++ deed ∷ [])
    ≡ unwrap_or (subscription_at board a d deed) (is_subscriber board a d h)
is_subscriber-push board a d h deed =
    latest-filter_map (subscription_at board a d) false h (Some deed)

pub accepted_sets-push : (board : Board) (h : List Deed) (deed : Deed)
    → accepted_sets board (h ++ deed ∷ [])
    ≡ sets_left (advances h) (pending_change deed.event) (accepted_sets board h)
    ++ option_to_list (option_and_then (acceptance board) (added_success board deed))
accepted_sets-push board h deed =
    fold_with_prefix-push
    (λ before so_far x. sets_left (advances before) (pending_change x.event) so_far
    ++ option_to_list (option_and_then (acceptance board) (added_success board x)))
    [] [] h deed

-- a list with other items from a place on, and as many
as-long : (n : ℕ) (xs ys : List PendingSet) → length ys ≡ length (drop n xs)
    → length (take n xs ++ ys) ≡ length xs
as-long n xs ys same =
    length-append (take n xs) ys
    ∙ ap (λ k. length (take n xs) + k) same
    ∙ sym (length-append (take n xs) (drop n xs))
    ∙ ap length (take-append-drop n xs)

-- has the same before that place
same-before : (n : ℕ) (xs ys more : List PendingSet) → n ≤ length xs
    → take n ((take n xs ++ ys) ++ more) ≡ take n xs
same-before n xs ys more enough =
    ap (take n) (append_assoc (take n xs) ys more)
    ∙ take_at (take n xs) (ys ++ more) n (length-take-le n xs enough)

-- a restart, a promotion and a settled rate leave as many sets
pending_left-length : (change : Option PendingChange) (sets : List PendingSet)
    → length (pending_left change sets) ≡ length sets
pending_left-length None sets = refl
pending_left-length (Some (Unwanted a)) sets = length-map sets (unwanted a)
pending_left-length (Some (First place)) sets = promoted-length place sets
pending_left-length (Some (Gives clock rate)) sets = length-map sets (settled clock rate)

pub sets_left-length : (ended : ℕ) (change : Option PendingChange) (sets : List PendingSet)
    → length (sets_left ended change sets) ≡ length sets
sets_left-length ended None sets = refl
sets_left-length ended (Some change) sets = as-long ended sets (pending_left (Some change)
    (drop ended sets)) (pending_left-length (Some change) (drop ended sets))

-- those that ended as they were
pub sets_left-ended : (ended : ℕ) (change : Option PendingChange) (sets more : List PendingSet)
    → ended ≤ length sets
    → take ended (sets_left ended change sets ++ more) ≡ take ended sets
sets_left-ended ended None sets more enough = take-append-le ended sets more enough
sets_left-ended ended (Some change) sets more enough =
    same-before ended sets (pending_left (Some change) (drop ended sets)) more enough

sets_left-pending : (ended : ℕ) (change : Option PendingChange) (sets : List PendingSet)
    → ended ≤ length sets
    → drop ended (sets_left ended change sets) ≡ pending_left change (drop ended sets)
sets_left-pending ended None sets enough = refl
sets_left-pending ended (Some change) sets enough = drop_at (take ended sets)
    (pending_left (Some change) (drop ended sets)) ended (length-take-le ended sets enough)

pub messages_made-push : (board : Board) (a : ℕ) (h : List Deed) (deed : Deed)
    → messages_made board a (h ++ deed ∷ [])
    ≡ messages_left (sent_count a h) (is_restart_of a deed.event) (messages_made board a h)
    ++ made_by board a h (messages_made board a h) deed
messages_made-push board a h deed =
    fold_with_prefix-push (λ before so_far x. messages_left (sent_count a before)
    (is_restart_of a x.event) so_far ++ made_by board a before so_far x) [] [] h deed

-- a restart leaves what was posted
pub messages_left-posted : (posted : ℕ) (restarted : Bool) (ms more : List Message)
    → posted ≤ length ms → take posted (messages_left posted restarted ms ++ more) ≡ take posted ms
messages_left-posted zero restarted ms more enough = refl
messages_left-posted (suc n) true [] more enough = elim enough [ ]
messages_left-posted (suc n) false [] more enough = elim enough [ ]
messages_left-posted (suc n) true (m ∷ ms) more enough =
    ap (λ zs. m ∷ zs) (messages_left-posted n true ms more (omega arith))
messages_left-posted (suc n) false (m ∷ ms) more enough =
    ap (λ zs. m ∷ zs) (messages_left-posted n false ms more (omega arith))

pub messages_left-enough : (posted : ℕ) (restarted : Bool) (ms : List Message) → posted ≤ length ms
    → posted ≤ length (messages_left posted restarted ms)
messages_left-enough zero restarted ms enough = omega arith
messages_left-enough (suc n) true [] enough = elim enough [ ]
messages_left-enough (suc n) false [] enough = elim enough [ ]
messages_left-enough (suc n) true (m ∷ ms) enough =
    let less = messages_left-enough n true ms (omega arith) in
    omega arith
messages_left-enough (suc n) false (m ∷ ms) enough = enough

-- and nothing else
pub messages_left-waiting : (posted : ℕ) (restarted : Bool) (ms : List Message)
    → drop posted (messages_left posted restarted ms) ≡ (if restarted then [] else drop posted ms)
messages_left-waiting posted false ms = refl
messages_left-waiting zero true ms = refl
messages_left-waiting (suc n) true [] = refl
messages_left-waiting (suc n) true (m ∷ ms) = messages_left-waiting n true ms

-- a deed that ends no set as failed
pub made_by-unfailed : (board : Board) (a : ℕ) (h : List Deed) (so_far : List Message) (deed : Deed)
    → failed_set board h deed.event ≡ None
    → made_by board a h so_far deed ≡ made_in a (situation_with board a so_far h) (pending_sets
    board (h ++ deed ∷ [])) (completed_set board h deed.event) (change_by board h deed)
made_by-unfailed board a h so_far deed none =
    ap (λ failed. option_map_or (failed_response_for a (fault_in deed.event)) failed []
    ++ made_in a (situation_with board a so_far h) (pending_sets board (h ++ deed ∷ []))
    (completed_set board h deed.event) (change_by board h deed)) none

pub advances-push : (h : List Deed) (deed : Deed)
    → advances (h ++ deed ∷ []) ≡ advances h + (if is_advance deed.event then 1 else 0)
advances-push h deed =
    fold-append (λ n e. n + (if is_advance e.event then 1 else 0)) 0 h (deed ∷ [])

-- an event that is no Advance leaves the pending sets, though a restart makes some unwanted, a
-- promotion puts one first and a settled rate is that of one, and may add one
pub pending_sets-push : (board : Board) (h : List Deed) (deed : Deed)
    → is_advance deed.event ≡ false → advances h ≤ length (accepted_sets board h)
    → pending_sets board (h ++ deed ∷ []) ≡ pending_left (pending_change deed.event) (pending_sets
    board h) ++ option_to_list (option_and_then (acceptance board) (added_success board deed))
pending_sets-push board h deed other enough =
    let zero_more : advances h + 0 ≡ advances h = omega arith in
    let same : advances (h ++ deed ∷ []) ≡ advances h = advances-push h deed
    ∙ ap (λ b. advances h + (if b then 1 else 0)) other ∙ zero_more in
    let left = sets_left (advances h) (pending_change deed.event) (accepted_sets board h) in
    let size = sets_left-length (advances h) (pending_change deed.event) (accepted_sets board h) in
    let more = option_to_list (option_and_then (acceptance board) (added_success board deed)) in
    ap (λ n. drop n (accepted_sets board (h ++ deed ∷ []))) same
    ∙ ap (drop (advances h)) (accepted_sets-push board h deed)
    ∙ drop-append-le (advances h) left more (omega arith)
    ∙ ap (λ sets. sets ++ more)
    (sets_left-pending (advances h) (pending_change deed.event) (accepted_sets board h) enough)

abbrev advance : Deed
advance = record { event = Advance; reply = [] }

-- an Advance takes the first
pub pending_sets-advance : (board : Board) (h : List Deed)
    → pending_sets board (h ++ advance ∷ []) ≡ drop 1 (pending_sets board h)
pending_sets-advance board h =
    ap (λ n. drop n (accepted_sets board (h ++ advance ∷ []))) (advances-push h advance)
    ∙ ap (drop (advances h + 1))
    (accepted_sets-push board h advance ∙ append-nil (accepted_sets board h))
    ∙ sym (drop-drop 1 (advances h) (accepted_sets board h))

abbrev advance_failed : Fault → Deed
advance_failed fault = record { event = AdvanceFailed fault; reply = [] }

-- and so does one that failed
pub pending_sets-failed : (board : Board) (h : List Deed) (fault : Fault)
    → pending_sets board (h ++ advance_failed fault ∷ []) ≡ drop 1 (pending_sets board h)
pending_sets-failed board h fault =
    ap (λ n. drop n (accepted_sets board (h ++ advance_failed fault ∷ [])))
    (advances-push h (advance_failed fault))
    ∙ ap (drop (advances h + 1))
    (accepted_sets-push board h (advance_failed fault) ∙ append-nil (accepted_sets board h))
    ∙ sym (drop-drop 1 (advances h) (accepted_sets board h))

pub sent_count-push : (a : ℕ) (h : List Deed) (deed : Deed)
    → sent_count a (h ++ deed ∷ []) ≡ sent_count a h + (if is_sent_by a deed.event then 1 else 0)
sent_count-push a h deed =
    fold-append (λ n e. n + (if is_sent_by a e.event then 1 else 0)) 0 h (deed ∷ [])

-- an event that is no Sent of a adds to a's outbox what it makes, which a restart of a has emptied
pub outbox-push : (board : Board) (a : ℕ) (h : List Deed) (deed : Deed)
    → is_sent_by a deed.event ≡ false → sent_count a h ≤ length (messages_made board a h)
    → outbox_after board a (h ++ deed ∷ []) ≡ (if is_restart_of a deed.event then []
    else outbox_after board a h) ++ made_by board a h (messages_made board a h) deed
outbox-push board a h deed other enough =
    let zero_more : sent_count a h + 0 ≡ sent_count a h = omega arith in
    let same : sent_count a (h ++ deed ∷ []) ≡ sent_count a h = sent_count-push a h deed
    ∙ ap (λ b. sent_count a h + (if b then 1 else 0)) other ∙ zero_more in
    let made = messages_made board a h in
    let left = messages_left (sent_count a h) (is_restart_of a deed.event) made in
    ap (λ n. drop n (messages_made board a (h ++ deed ∷ []))) same
    ∙ ap (drop (sent_count a h)) (messages_made-push board a h deed)
    ∙ drop-append-le (sent_count a h) left (made_by board a h made deed)
    (messages_left-enough (sent_count a h) (is_restart_of a deed.event) made enough)
    ∙ ap (λ ms. ms ++ made_by board a h made deed)
    (messages_left-waiting (sent_count a h) (is_restart_of a deed.event) made)

-- and leaves what was posted to a
pub posted-kept : (board : Board) (a : ℕ) (h : List Deed) (deed : Deed)
    → is_sent_by a deed.event ≡ false → sent_count a h ≤ length (messages_made board a h)
    → take (sent_count a (h ++ deed ∷ [])) (messages_made board a (h ++ deed ∷ []))
    ≡ take (sent_count a h) (messages_made board a h)
posted-kept board a h deed other enough =
    let zero_more : sent_count a h + 0 ≡ sent_count a h = omega arith in
    let same : sent_count a (h ++ deed ∷ []) ≡ sent_count a h = sent_count-push a h deed
    ∙ ap (λ b. sent_count a h + (if b then 1 else 0)) other ∙ zero_more in
    ap (λ n. take n (messages_made board a (h ++ deed ∷ []))) same
    ∙ ap (take (sent_count a h)) (messages_made-push board a h deed)
    ∙ messages_left-posted (sent_count a h) (is_restart_of a deed.event) (messages_made board a h)
    (made_by board a h (messages_made board a h) deed) enough

take_first : {X : Type 0} (n : ℕ) (xs ys : List X) (x : X) → slice_get (drop n xs) 0 ≡ Some x
    → take (n + 1) (xs ++ ys) ≡ take n xs ++ x ∷ []
take_first zero [] ys x first = absurd (cc)
take_first zero (z ∷ zs) ys x first = ap (λ o. unwrap_or o x ∷ []) first
take_first (suc n) [] ys x first = absurd (cc)
take_first (suc n) (z ∷ zs) ys x first =
    let on : suc n + 1 ≡ suc (n + 1) = omega arith in
    rw on (ap (λ ws. z ∷ ws) (take_first n zs ys x first))

-- a Sent is no restart
sent_only : (a : ℕ) (e : Event) → is_sent_by a e ≡ true → is_restart_of a e ≡ false
sent_only a (Sent b) own = refl
sent_only a (Command b frame) own = absurd (cc)
sent_only a (CommandFailed b frame fault) own = absurd (cc)
sent_only a Advance own = absurd (cc)
sent_only a (AdvanceFailed fault) own = absurd (cc)
sent_only a (Restarted b) own = absurd (cc)
sent_only a (Promoted place) own = absurd (cc)
sent_only a (Settled clock rate) own = absurd (cc)
sent_only a (Reported effect) own = absurd (cc)

-- a Sent of a posts the first message of a's outbox
pub posted-front : (board : Board) (a : ℕ) (h : List Deed) (deed : Deed) (m : Message)
    → is_sent_by a deed.event ≡ true → slice_get (outbox_after board a h) 0 ≡ Some m
    → take (sent_count a (h ++ deed ∷ [])) (messages_made board a (h ++ deed ∷ []))
    ≡ take (sent_count a h) (messages_made board a h) ++ m ∷ []
posted-front board a h deed m own first =
    ap (λ n. take n (messages_made board a (h ++ deed ∷ [])))
    (sent_count-push a h deed ∙ ap (λ b. sent_count a h + (if b then 1 else 0)) own)
    ∙ ap (take (sent_count a h + 1)) (messages_made-push board a h deed
    ∙ ap (λ b. messages_left (sent_count a h) b (messages_made board a h)
    ++ made_by board a h (messages_made board a h) deed) (sent_only a deed.event own))
    ∙ take_first (sent_count a h) (messages_made board a h)
    (made_by board a h (messages_made board a h) deed) m first

-- a list is empty or has a last item
data Snoc {X : Type 0} : List X → Type 0 where
  nothing : Snoc []
  last : (xs : List X) (x : X) → Snoc (xs ++ x ∷ [])

snoc : {X : Type 0} (xs : List X) → Snoc xs
snoc [] = nothing
snoc (x ∷ xs) = onto x (snoc xs) where
  onto : {X : Type 0} (x : X) {xs : List X} → Snoc xs → Snoc (x ∷ xs)
  onto x nothing = last [] x
  onto x (last ys y) = last (x ∷ ys) y

-- a legal history stays legal with an event that may follow
pub IsLegal-push : (board : Board) (h : List Event) (e : Event) → IsLegal board h
    → CanFollow board h e → IsLegal board (h ++ e ∷ [])
IsLegal-push board h e legal follows = record {
  each = λ before after event is. at before after event (snoc after) is;
} where
  at : (before after : List Event) (event : Event) → Snoc after
      → h ++ e ∷ [] ≡ before ++ event ∷ after → CanFollow board before event
  at before [] event nothing is =
      let same = same_from_push h before e event is in
      subst (λ b. CanFollow board b event) same.0 (subst (λ x. CanFollow board h x) same.1 follows)
  at before after event (last xs x) is =
      let shifted : h ++ e ∷ [] ≡ (before ++ event ∷ xs) ++ x ∷ [] = is
      ∙ sym (append_assoc before (event ∷ xs) (x ∷ [])) in
      legal.each before xs event (same_from_push h (before ++ event ∷ xs) e x shifted).0
