-- One more agent's channels are gathered.
use Rattle.std.proofs.Common.{◌≡◌, ◌<◌, List, [], ◌∷◌, length, map, get_or, arith, subst}
use Rattle.std.specs.Prelude.{remove}
use Rattle.std.specs.List.{AllZip}
use Rattle.scmi_link.specs.View.{CallerView, CalleeView}
use Rattle.scmi_ends.specs.AgentView.{AgentView}
use Rattle.scmi_ends.specs.Headline.{AreGathered, AllGathered}

-- what holds of each pair holds of the pairs after the first
pub zip_rest : {A B : Type 0} (R : A → B → Type 0) (xs xs' : List A) (ys ys' : List B)
    → AllZip R xs ys → xs' ≡ remove xs 0 → ys' ≡ remove ys 0 → AllZip R xs' ys'
zip_rest R [] xs' [] ys' h e k = rw (e, k) tt
zip_rest R [] xs' (y ∷ ys) ys' h e k = absurd h
zip_rest R (x ∷ xs) xs' [] ys' h e k = absurd h
zip_rest R (x ∷ xs) xs' (y ∷ ys) ys' h e k = rw (e, k) h.1

-- the first agent's channels, and then the others'
pub gathered_step : {C D : Type 0} (f : D → CalleeView) (k : C → CallerView)
    (es es' : List AgentView) (e : AgentView) (ds ds' : List D) (d : D) (cs cs' : List C) (c : C)
    → 0 < length ds → 0 < length cs → es' ≡ remove es 0 → e ≡ get_or es 0 e → ds' ≡ remove ds 0
    → d ≡ get_or ds 0 d → cs' ≡ remove cs 0 → c ≡ get_or cs 0 c
    → AreGathered e.caller (f d) → AreGathered (k c) e.callee
    → AllGathered es' (map f ds') (map k cs') → AllGathered es (map f ds) (map k cs)
gathered_step f k [] es' e ds ds' d cs cs' c ld lc re ie rd id rc ic p q r = tt
gathered_step f k (x ∷ es) es' e [] ds' d cs cs' c ld lc re ie rd id rc ic p q r =
    absurd (omega arith)
gathered_step f k (x ∷ es) es' e (y ∷ ds) ds' d [] cs' c ld lc re ie rd id rc ic p q r =
    absurd (omega arith)
gathered_step f k (x ∷ es) es' e (y ∷ ds) ds' d (z ∷ cs) cs' c ld lc re ie rd id rc ic p q r = (
  subst (λ v. AreGathered v.caller (f y)) ie (subst (λ v. AreGathered e.caller (f v)) id p),
  subst (λ v. AreGathered (k z) v.callee) ie (subst (λ v. AreGathered (k v) e.callee) ic q),
  rw (re, rd, rc) at r,
)
