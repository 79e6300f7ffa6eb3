-- Facts about the agents in turn, as one of them changes.
use Rattle.std.proofs.Common.{◌≡◌, ◌≢◌, ℕ, zero, suc, ◌+◌, ◌<◌, List, [], ◌∷◌, ◌++◌, length, map, get_or, set, arith, sym, subst}
use Rattle.scmi_ends.specs.Each.{AllFrom}

-- what holds of all holds of the one at place i
pub from_at : {D E : Type 0} (P : ℕ → E → Type 0) (f : D → E) (n i a : ℕ) (ds : List D) (x : D)
    → i < length ds → a ≡ n + i → x ≡ get_or ds i x → AllFrom P n (map f ds) → P a (f x)
from_at P f n i a [] x lt e is all = absurd (omega arith)
from_at P f n zero a (y ∷ ds) x lt e is all =
    let n-is : n ≡ a = omega arith in
    subst (λ z. P a (f z)) (sym is) (rw n-is at all.0)
from_at P f n (suc i) a (y ∷ ds) x lt e is all =
    from_at P f (n + 1) i a ds x (omega arith) (omega arith) is all.1

-- what follows of each
pub from_all : {E : Type 0} (P Q : ℕ → E → Type 0) → ((b : ℕ) (x : E) → P b x → Q b x)
    → (n : ℕ) (es : List E) → AllFrom P n es → AllFrom Q n es
from_all P Q each n [] s = tt
from_all P Q each n (e ∷ es) s = (each n e s.0, from_all P Q each (n + 1) es s.1)

-- one more at the end
pub from_push : {E : Type 0} (P : ℕ → E → Type 0) (n m : ℕ) (es : List E) (e : E)
    → m ≡ n + length es → AllFrom P n es → P m e → AllFrom P n (es ++ e ∷ [])
from_push P n m [] e q h p = let k : m ≡ n = omega arith in (rw k at p, tt)
from_push P n m (x ∷ es) e q h p = (h.0, from_push P (n + 1) m es e (omega arith) h.1 p)

module _ {E : Type 0} (P Q : ℕ → E → Type 0) (a : ℕ)
    (others : (b : ℕ) (x : E) → b ≢ a → P b x → Q b x) where
  from_others : (n : ℕ) (es : List E) → a < n → AllFrom P n es → AllFrom Q n es
  from_others n [] l s = tt
  from_others n (e ∷ es) l s =
      (let ne : n ≢ a = omega arith in others n e ne s.0, from_others (n + 1) es (omega arith) s.1)

  -- the agent's own changes
  pub from_set : (n i : ℕ) (es : List E) (d : E) → a ≡ n + i → Q a d → AllFrom P n es
      → AllFrom Q n (set es i d)
  from_set n i [] d e q s = tt
  from_set n zero (x ∷ es) d e q s =
      (let e' : a ≡ n = omega arith in rw e' at q, from_others (n + 1) es (omega arith) s.1)
  from_set n (suc i) (x ∷ es) d e q s = (
    let ne : n ≢ a = omega arith in
        others n x ne s.0,
    from_set (n + 1) i es d (omega arith) q s.1,
  )
