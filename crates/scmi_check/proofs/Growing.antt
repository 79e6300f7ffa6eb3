-- What a listener is given, one thing after the other.
use Rattle.std.proofs.Common.{◌≡◌, ◌∙◌, List, [], ◌∷◌, ◌++◌, Option, None, Some, OnOk, IfOk, IfErr, Result, Ok, Err, refl, sym, ap, append_assoc}
use Rattle.scmi_check.specs.Listener.{Grows}

-- a list behind which nothing stands
pub append-none : {T : Type 0} → (all : List T) → all ++ [] ≡ all
append-none [] = refl
append-none (x ∷ xs) = ap (λ ys. x ∷ ys) (append-none xs)

-- nothing was given
pub grows-none : {T : Type 0} → (all : Option (List T)) → Grows all all []
grows-none None = tt
grows-none (Some all) = sym (append-none all)

-- some things, and last some more
pub grows-more : {T : Type 0} → (old now new : Option (List T)) (first last : List T)
    → Grows old now first → Grows now new last → Grows old new (first ++ last)
grows-more None now new first last gave more = tt
grows-more (Some all) None new first last gave more = absurd gave
grows-more (Some all) (Some grown) None first last gave more = absurd more
grows-more (Some all) (Some grown) (Some whole) first last gave more = more
    ∙ ap (λ l. l ++ last) gave ∙ append_assoc all first last

-- what follows from what holds of an Ok
pub on-ok : {T E A B : Type 0} (r : Result T E) → OnOk r A → (A → B) → OnOk r B
on-ok (Ok x) h f = f h
on-ok (Err e) h f = tt

pub if-ok : {T E : Type 0} {P Q : T → Type 0} (r : Result T E) → IfOk r P → ((x : T) → P x → Q x)
    → IfOk r Q
if-ok (Ok x) h f = f x h
if-ok (Err e) h f = tt

-- what follows from what holds of an Err
pub if-err : {T E : Type 0} {P Q : E → Type 0} (r : Result T E) → IfErr r P → ((e : E) → P e → Q e)
    → IfErr r Q
if-err (Ok x) h f = tt
if-err (Err e) h f = f e h
