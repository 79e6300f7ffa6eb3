-- A part of a headline, from one number of commands to another.
use Rattle.std.proofs.Common.{◌≡◌, ℕ, zero, suc, ◌+◌, ◌⊎◌, inl, inr, List, [], ◌∷◌, ◌++◌, refl, sym, ap, ◌∙◌, take, drop}
use Rattle.scmi_link.specs.Gathered.{IsAllButLast, IsPrefixOf}
use Rattle.scmi_link.specs.View.{CallerView, CalleeView}
use Rattle.scmi_plan.specs.Board.{Board}
use Rattle.scmi_core.specs.Agents.{frames_of, answers_to}
use Rattle.scmi_core.specs.declared.event.Event.{Event}
use Rattle.scmi_ends.specs.Headline.{CommandsAgree}
use Rattle.scmi_ends.specs.Life.{LifeAgrees, between}

-- the first k of a first part are a first part of the first k
take_first : {T : Type 0} (k : ℕ) (xs rest : List T) → IsPrefixOf (take k xs) (take k (xs ++ rest))
take_first zero xs rest = ([], refl)
take_first (suc k) [] rest = (take (suc k) rest, refl)
take_first (suc k) (x ∷ xs) rest =
    let first = take_first k xs rest in
    (first.0, ap (λ ys. x ∷ ys) first.1)

-- so are those after the first j
drop_first : {T : Type 0} (j : ℕ) (xs rest : List T) → IsPrefixOf (drop j xs) (drop j (xs ++ rest))
drop_first zero xs rest = (rest, refl)
drop_first (suc j) [] rest = (drop (suc j) rest, refl)
drop_first (suc j) (x ∷ xs) rest = drop_first j xs rest

between_first : {T : Type 0} (j k : ℕ) (xs ys : List T) → IsPrefixOf xs ys
    → IsPrefixOf (between j k xs) (between j k ys)
between_first j k xs ys first =
    let taken = take_first k xs first.0 in
    let dropped = drop_first j (take k xs) taken.0 in
    (dropped.0, dropped.1 ∙ ap (drop j) (taken.1 ∙ ap (take k) first.1))

-- the first k of a list without its last are all of the first k, or all but their last
take_last : {T : Type 0} (k : ℕ) (xs : List T) (last : T)
    → (take k xs ≡ take k (xs ++ last ∷ [])) ⊎ IsAllButLast (take k xs) (take k (xs ++ last ∷ []))
take_last zero xs last = inl refl
take_last (suc zero) [] last = inr (last, refl)
take_last (suc (suc k)) [] last = inr (last, refl)
take_last (suc k) (x ∷ xs) last = elim (take_last k xs last) [
  | inl e ↦ inl (ap (λ ys. x ∷ ys) e)
  | inr w ↦ inr (w.0, ap (λ ys. x ∷ ys) w.1)
]

drop_last : {T : Type 0} (j : ℕ) (xs : List T) (last : T)
    → (drop j xs ≡ drop j (xs ++ last ∷ [])) ⊎ IsAllButLast (drop j xs) (drop j (xs ++ last ∷ []))
drop_last zero xs last = inr (last, refl)
drop_last (suc zero) [] last = inl refl
drop_last (suc (suc j)) [] last = inl refl
drop_last (suc j) (x ∷ xs) last = drop_last j xs last

between_last : {T : Type 0} (j k : ℕ) (xs ys : List T) → (xs ≡ ys) ⊎ IsAllButLast xs ys
    → (between j k xs ≡ between j k ys) ⊎ IsAllButLast (between j k xs) (between j k ys)
between_last j k xs ys (inl e) = inl (ap (between j k) e)
between_last j k xs ys (inr w) = rw w.1 (from (take_last k xs w.0))
  where
    from : (take k xs ≡ take k (xs ++ w.0 ∷ []))
        ⊎ IsAllButLast (take k xs) (take k (xs ++ w.0 ∷ []))
        → (between j k xs ≡ between j k (xs ++ w.0 ∷ []))
        ⊎ IsAllButLast (between j k xs) (between j k (xs ++ w.0 ∷ []))
    from (inl e) = inl (ap (drop j) e)
    from (inr l) = rw l.1 (drop_last j (take k xs) l.0)

pub life_agrees : (board : Board) (h : List Event) (a j k : ℕ) (caller : CallerView)
    (callee : CalleeView) → CommandsAgree board h a caller callee → LifeAgrees board h a j k caller
life_agrees board h a j k caller callee s = record {
  executed = between_last j k (frames_of a h) caller.posted s.executed;
  replies = between_first j k caller.read (answers_to board a h) s.replies;
}
