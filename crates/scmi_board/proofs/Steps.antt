-- A step for each member of a list, in a loop.
use Rattle.std.proofs.Common.{ℕ, suc, ◌+◌, ◌<◌, ◌≤◌, ◌≡◌, List, [], ◌∷◌, ◌++◌, length, get_or, drop, Option, Some, None, refl, sym, ap, ◌∙◌, add-one, length-append}
use Rattle.std.proofs.Math.Seq.{drop-cons}
use Rattle.std.proofs.Math.ListN.{drop_of_length-le}
use Rattle.scmi_board.specs.declared.line_error.LineError.{LineError}
use Rattle.scmi_board.specs.declared.line_error.LineError.TheVariants.{Form, Memory}
use Rattle.scmi_board.specs.Items.{◌>>=◌}
use Rattle.scmi_board.specs.LineError.{Fails, FailsUnless}
use Rattle.scmi_board.specs.Rows.{after_each}

one_step : {A B : Type 0} (step : A → B → Option A) (a : A) (xs : List B) (i : ℕ)
    (x d : B) (next : Option A) → i < length xs → x ≡ get_or xs i d → step a x ≡ next
    → after_each step a (drop i xs) ≡ (next >>= λ b. after_each step b (drop (suc i) xs))
one_step {A} {B} step a xs i x d next lt is stepped =
    let parts : drop i xs ≡ get_or xs i d ∷ drop (suc i) xs = rw (drop-cons xs i d) refl in
    ap (after_each step a) (parts ∙ ap (λ (y : B). y ∷ drop (suc i) xs) (sym is))
    ∙ ap (λ (o : Option A). o >>= λ b. after_each step b (drop (suc i) xs)) stepped

pub goes_on : {A B : Type 0} (step : A → B → Option A) (a b : A) (xs : List B)
    (i : ℕ) (x d : B) (total : Option A) → i < length xs → x ≡ get_or xs i d → step a x ≡ Some b
    → after_each step a (drop i xs) ≡ total → after_each step b (drop (i + 1) xs) ≡ total
goes_on step a b xs i x d total lt is stepped so_far =
    rw add-one (sym (one_step step a xs i x d (Some b) lt is stepped) ∙ so_far)

pub stops : {A B : Type 0} (step : A → B → Option A) (a : A) (xs : List B)
    (i : ℕ) (x d : B) (total : Option A) (error : LineError) → i < length xs → x ≡ get_or xs i d
    → Fails error (step a x) → after_each step a (drop i xs) ≡ total → Fails error total
stops step a xs i x d total Form lt is stepped so_far = sym so_far
    ∙ one_step step a xs i x d None lt is stepped
stops step a xs i x d total Memory lt is stepped so_far = stepped

pub stops_unless : {A B : Type 0} (step : A → B → Option A) (a : A) (xs : List B)
    (i : ℕ) (x d : B) (total : Option A) (error : LineError) → i < length xs → x ≡ get_or xs i d
    → FailsUnless error (step a x) → after_each step a (drop i xs) ≡ total → FailsUnless error total
stops_unless step a xs i x d total Form lt is stepped so_far = sym so_far
    ∙ one_step step a xs i x d None lt is stepped
stops_unless step a xs i x d total Memory lt is stepped so_far = tt

-- the same of a loop over an iterator, which has yielded ys
pub goes_on_behind : {A B Y : Type 0} (step : A → B → Option A) (a b : A)
    (xs : List B) (ys : List Y) (y : Y) (x d : B) (total : Option A) → length ys < length xs → x
    ≡ get_or xs (length ys) d → step a x ≡ Some b → after_each step a (drop (length ys) xs) ≡ total
    → after_each step b (drop (length (ys ++ y ∷ [])) xs) ≡ total
goes_on_behind step a b xs ys y x d total lt is stepped so_far =
    rw (length-append ys (y ∷ [])) (goes_on step a b xs (length ys) x d total lt is stepped so_far)

pub all_done : {A B : Type 0} (step : A → B → Option A) (a : A) (xs : List B) (i : ℕ)
    (total : Option A) → length xs ≤ i → after_each step a (drop i xs) ≡ total → total ≡ Some a
all_done step a xs i total past so_far = sym so_far
    ∙ ap (after_each step a) (drop_of_length-le xs past)
