-- In a legal history no more is completed than was accepted.
use Rattle.std.proofs.Common.{◌≡◌, ◌⊎◌, inl, inr, ◌==◌, ℕ, ◌<◌, ◌≤◌, true, false, List, [], ◌∷◌, ◌++◌, length, Some, refl, sym, ap, ◌∙◌, subst, arith}
use Rattle.std.proofs.lemmas.List.{append_assoc, length-append, length-drop}
use Rattle.std.proofs.lemmas.Grind.{fold-append}
use Rattle.std.proofs.lemmas.Bool.{cases_Bool, eqb-true}
use Rattle.scmi_plan.specs.Board.{Board}
use Rattle.scmi_codec.specs.declared.frame.Frame.TheVariants.{Good, Malformed}
use Rattle.scmi_core.specs.declared.event.Event.{Event}
use Rattle.scmi_core.specs.declared.event.Event.TheVariants.{Command, Advance, Sent, CommandFailed, AdvanceFailed, Restarted, Promoted, Settled, Reported}
use Rattle.std.specs.Option.{option_to_list, option_and_then}
use Rattle.scmi_core.specs.Deed.{Deed}
use Rattle.scmi_core.specs.Pending.{First, Settled as Gives, Unwanted, accepted_sets, advances, is_advance, pending_sets, acceptance, sets_left}
use Rattle.scmi_core.specs.Outbox.{sent_count, messages_left, messages_made, made_by, outbox_after, is_sent_by}
use Rattle.scmi_core.specs.History.{deeds, deed_after, outbox}
use Rattle.scmi_core.specs.Legal.{IsLegal, CanFollow}
use Rattle.scmi_core.proofs.Deeds.{added_success, accepted_sets-push, advances-push, sent_count-push, messages_left-enough, messages_made-push, sets_left-length}

-- a list grown at its end
pub data Grown {X : Type 0} : List X → Type 0 where
  empty : Grown []
  grow : {xs : List X} → Grown xs → (x : X) → Grown (xs ++ x ∷ [])

onto : {X : Type 0} (x : X) {xs : List X} → Grown xs → Grown (x ∷ xs)
onto x empty = grow empty x
onto x (grow g y) = grow (onto x g) y

pub grown : {X : Type 0} (xs : List X) → Grown xs
grown [] = empty
grown (x ∷ xs) = onto x (grown xs)

pub deeds-push : (board : Board) (h : List Event) (e : Event)
    → deeds board (h ++ e ∷ []) ≡ deeds board h ++ deed_after board (deeds board h) e ∷ []
unfolding deeds
deeds-push board h e =
    fold-append (λ before event. before ++ deed_after board before event ∷ []) [] h (e ∷ [])

-- a deed is of its event
pub deed-event : (board : Board) (h : List Deed) (e : Event) → (deed_after board h e).event ≡ e
deed-event board h (Command a (Good m)) = refl
deed-event board h (Command a (Malformed len header)) = refl
deed-event board h Advance = refl
deed-event board h (Sent a) = refl
deed-event board h (CommandFailed a (Good m) fault) = refl
deed-event board h (CommandFailed a (Malformed len header) fault) = refl
deed-event board h (AdvanceFailed fault) = refl
deed-event board h (Restarted a) = refl
deed-event board h (Promoted place) = refl
deed-event board h (Settled clock rate) = refl
deed-event board h (Reported effect) = refl

-- no event is in the empty history
pub IsLegal-nil : (board : Board) → IsLegal board []
IsLegal-nil board = record { each = nothing } where
  nothing : (before after : List Event) (event : Event) → [] ≡ before ++ event ∷ after
      → CanFollow board before event
  nothing [] after event is = absurd (cc)
  nothing (x ∷ xs) after event is = absurd (cc)

pub IsLegal-front : (board : Board) (h : List Event) (e : Event) → IsLegal board (h ++ e ∷ [])
    → IsLegal board h
IsLegal-front board h e legal = record {
  each = λ before after event is.
      legal.each before (after ++ e ∷ []) event
      (ap (λ xs. xs ++ e ∷ []) is ∙ append_assoc before (event ∷ after) (e ∷ []));
}

pub IsLegal-last : (board : Board) (h : List Event) (e : Event) → IsLegal board (h ++ e ∷ [])
    → CanFollow board h e
IsLegal-last board h e legal = legal.each h [] e refl

-- one event more
one_more : (board : Board) (h : List Deed) (e : Event) → advances h ≤ length (accepted_sets board h)
    → (is_advance e ≡ true → 0 < length (pending_sets board h))
    → advances (h ++ deed_after board h e ∷ [])
    ≤ length (accepted_sets board (h ++ deed_after board h e ∷ []))
one_more board h (Command a (Good m)) enough waits =
    rw (advances-push, accepted_sets-push)
    (omega (
      arith,
      length-append (accepted_sets board h) (option_to_list (option_and_then
          (acceptance board) (added_success board (deed_after board h (Command a (Good m)))))),
    ))
one_more board h (Command a (Malformed len header)) enough waits =
    rw (advances-push, accepted_sets-push) (omega (arith, length-append (accepted_sets board h) []))
one_more board h (Sent a) enough waits =
    rw (advances-push, accepted_sets-push) (omega (arith, length-append (accepted_sets board h) []))
one_more board h (Restarted a) enough waits =
    let left = sets_left (advances h) (Some (Unwanted a)) (accepted_sets board h) in
    rw (advances-push, accepted_sets-push) (omega (
      arith,
      length-append left [],
      sets_left-length (advances h) (Some (Unwanted a)) (accepted_sets board h),
    ))
one_more board h (Promoted place) enough waits =
    let left = sets_left (advances h) (Some (First place)) (accepted_sets board h) in
    rw (advances-push, accepted_sets-push) (omega (
      arith,
      length-append left [],
      sets_left-length (advances h) (Some (First place)) (accepted_sets board h),
    ))
one_more board h (Settled clock rate) enough waits =
    let left = sets_left (advances h) (Some (Gives clock rate)) (accepted_sets board h) in
    rw (advances-push, accepted_sets-push) (omega (
      arith,
      length-append left [],
      sets_left-length (advances h) (Some (Gives clock rate)) (accepted_sets board h),
    ))
one_more board h (Reported effect) enough waits =
    rw (advances-push, accepted_sets-push) (omega (arith, length-append (accepted_sets board h) []))
one_more board h Advance enough waits =
    rw (advances-push, accepted_sets-push) (omega (
      arith,
      length-append (accepted_sets board h) [],
      waits refl,
      length-drop (advances h) (accepted_sets board h),
    ))
one_more board h (CommandFailed a (Good m) fault) enough waits =
    rw (advances-push, accepted_sets-push) (omega (arith, length-append (accepted_sets board h) []))
one_more board h (CommandFailed a (Malformed len header) fault) enough waits =
    rw (advances-push, accepted_sets-push) (omega (arith, length-append (accepted_sets board h) []))
one_more board h (AdvanceFailed fault) enough waits =
    rw (advances-push, accepted_sets-push) (omega (
      arith,
      length-append (accepted_sets board h) [],
      waits refl,
      length-drop (advances h) (accepted_sets board h),
    ))

waits_at : (board : Board) (h : List Event) (e : Event) → CanFollow board h e → is_advance e ≡ true
    → 0 < length (pending_sets board (deeds board h))
waits_at board h Advance follows is = follows
waits_at board h (AdvanceFailed fault) follows is = follows
waits_at board h (Command a frame) follows is = absurd (cc)
waits_at board h (CommandFailed a frame fault) follows is = absurd (cc)
waits_at board h (Sent a) follows is = absurd (cc)
waits_at board h (Restarted a) follows is = absurd (cc)
waits_at board h (Promoted place) follows is = absurd (cc)
waits_at board h (Settled clock rate) follows is = absurd (cc)
waits_at board h (Reported effect) follows is = absurd (cc)

enough_of : (board : Board) {h : List Event} → Grown h → IsLegal board h
    → advances (deeds board h) ≤ length (accepted_sets board (deeds board h))
unfolding deeds
enough_of board empty legal = omega arith
enough_of board (grow {xs} g e) legal =
    rw (deeds-push board xs e)
    (one_more board (deeds board xs) e (enough_of board g (IsLegal-front board xs e legal))
    (waits_at board xs e (IsLegal-last board xs e legal)))

pub advances_le-accepted : (board : Board) (h : List Event) → IsLegal board h
    → advances (deeds board h) ≤ length (accepted_sets board (deeds board h))
advances_le-accepted board h legal = enough_of board (grown h) legal

-- and no more is sent than was made
sent_more : (board : Board) (a : ℕ) (h : List Deed) (e : Event) → sent_count a h ≤ length
    (messages_made board a h) → (is_sent_by a e ≡ true → 0 < length (outbox_after board a h))
    → sent_count a (h ++ deed_after board h e ∷ [])
    ≤ length (messages_made board a (h ++ deed_after board h e ∷ []))
sent_more board a h (Command b (Good m)) enough waits =
    rw (sent_count-push, messages_made-push) (omega (
      arith,
      length-append (messages_made board a h)
          (made_by board a h (messages_made board a h) (deed_after board h (Command b (Good m)))),
    ))
sent_more board a h (Command b (Malformed len header)) enough waits =
    rw (sent_count-push, messages_made-push)
    (omega (
      arith,
      length-append (messages_made board a h) (made_by board a h
          (messages_made board a h) (deed_after board h (Command b (Malformed len header)))),
    ))
sent_more board a h Advance enough waits =
    rw (sent_count-push, messages_made-push) (omega (
      arith,
      length-append (messages_made board a h)
          (made_by board a h (messages_made board a h) (deed_after board h Advance)),
    ))
sent_more board a h (CommandFailed b (Good m) fault) enough waits =
    rw (sent_count-push, messages_made-push)
    (omega (
      arith,
      length-append (messages_made board a h) (made_by board a h
          (messages_made board a h) (deed_after board h (CommandFailed b (Good m) fault))),
    ))
sent_more board a h (CommandFailed b (Malformed len header) fault) enough waits =
    rw (sent_count-push, messages_made-push) (omega (
      arith,
      length-append (messages_made board a h) (made_by board a h (messages_made board a h)
          (deed_after board h (CommandFailed b (Malformed len header) fault))),
    ))
sent_more board a h (AdvanceFailed fault) enough waits =
    rw (sent_count-push, messages_made-push) (omega (
      arith,
      length-append (messages_made board a h)
          (made_by board a h (messages_made board a h) (deed_after board h (AdvanceFailed fault))),
    ))
sent_more board a h (Reported effect) enough waits =
    rw (sent_count-push, messages_made-push) (omega (
      arith,
      length-append (messages_made board a h)
          (made_by board a h (messages_made board a h) (deed_after board h (Reported effect))),
    ))
sent_more board a h (Promoted place) enough waits =
    rw (sent_count-push, messages_made-push) (omega (
      arith,
      length-append (messages_made board a h)
          (made_by board a h (messages_made board a h) (deed_after board h (Promoted place))),
    ))
sent_more board a h (Settled clock rate) enough waits =
    rw (sent_count-push, messages_made-push) (omega (
      arith,
      length-append (messages_made board a h)
          (made_by board a h (messages_made board a h) (deed_after board h (Settled clock rate))),
    ))
sent_more board a h (Restarted b) enough waits =
    let left = messages_left (sent_count a h) (a == b) (messages_made board a h) in
    rw (sent_count-push, messages_made-push)
    (omega (
      arith,
      length-append left
          (made_by board a h (messages_made board a h) (deed_after board h (Restarted b))),
      messages_left-enough (sent_count a h) (a == b) (messages_made board a h) enough,
    ))
sent_more board a h (Sent b) enough waits = by_case (cases_Bool (a == b)) where
  by_case : ((a == b) ≡ true) ⊎ ((a == b) ≡ false) → sent_count a (h ++ deed_after board h (Sent b)
      ∷ []) ≤ length (messages_made board a (h ++ deed_after board h (Sent b) ∷ []))
  by_case (inl same) = rw (sent_count-push, messages_made-push, same)
      (omega (
        arith,
        length-append (messages_made board a h)
            (made_by board a h (messages_made board a h) (deed_after board h (Sent b))),
        waits same,
        length-drop (sent_count a h) (messages_made board a h),
      ))
  by_case (inr other) = rw (sent_count-push, messages_made-push, other)
      (omega (
        arith,
        length-append (messages_made board a h)
            (made_by board a h (messages_made board a h) (deed_after board h (Sent b))),
      ))

front_at : (board : Board) (a : ℕ) (h : List Event) (e : Event) → CanFollow board h e
    → is_sent_by a e ≡ true → 0 < length (outbox_after board a (deeds board h))
unfolding outbox
front_at board a h (Sent b) follows is =
    subst (λ x. 0 < length (outbox_after board x (deeds board h))) (sym (eqb-true a b is)) follows.2
front_at board a h (Command b frame) follows is = absurd (cc)
front_at board a h Advance follows is = absurd (cc)
front_at board a h (CommandFailed b frame fault) follows is = absurd (cc)
front_at board a h (AdvanceFailed fault) follows is = absurd (cc)
front_at board a h (Restarted b) follows is = absurd (cc)
front_at board a h (Promoted place) follows is = absurd (cc)
front_at board a h (Settled clock rate) follows is = absurd (cc)
front_at board a h (Reported effect) follows is = absurd (cc)

sent_of : (board : Board) (a : ℕ) {h : List Event} → Grown h → IsLegal board h
    → sent_count a (deeds board h) ≤ length (messages_made board a (deeds board h))
unfolding deeds
sent_of board a empty legal = omega arith
sent_of board a (grow {xs} g e) legal =
    rw (deeds-push board xs e)
    (sent_more board a (deeds board xs) e (sent_of board a g (IsLegal-front board xs e legal))
    (front_at board a xs e (IsLegal-last board xs e legal)))

pub sent_le-made : (board : Board) (h : List Event) → IsLegal board h → (a : ℕ)
    → sent_count a (deeds board h) ≤ length (messages_made board a (deeds board h))
sent_le-made board h legal a = sent_of board a (grown h) legal
