-- What a code shows about why a call did nothing.
use Rattle.std.proofs.Common.{rules, ◌≡◌, ◌↔◌, ◌⊎◌, ◌==◌, inl, inr, ℕ, if◌then◌else◌, Option, Some, Result, Ok, Err, refl, IsSomeAnd, sym, subst, ap, ◌∙◌}
use Rattle.std.specs.Prelude.{⊤}
use Rattle.scmi_c.specs.declared.refusal.Refusal.{Refusal}
use Rattle.scmi_c.specs.declared.refusal.Refusal.TheVariants.{Nothing, NoAgent, NotFree, NoFrame, WrongSize, WrongStatus, NoResource, NoState, NoRate, Other, Asked}
use Rattle.scmi_c.specs.Kept.{IsAsked, IsUnasked, Kept}
use Rattle.scmi_c.specs.Refusal.{code_of}

-- the refusal of a code
abbrev refusal_of : ℕ → Refusal
refusal_of n =
    if n == 1 then Nothing
    else if n == 3 then NoAgent
    else if n == 4 then NotFree
    else if n == 8 then NoFrame
    else if n == 10 then WrongSize
    else if n == 11 then NoResource
    else if n == 12 then Asked
    else if n == 15 then WrongStatus
    else if n == 32 then NoState
    else if n == 33 then NoRate
    else Other

again : (refusal : Refusal) → refusal_of (code_of {A = ⊤} (Err refusal)) ≡ refusal
again Nothing = refl
again NoAgent = refl
again NotFree = refl
again NoFrame = refl
again WrongSize = refl
again WrongStatus = refl
again NoResource = refl
again NoState = refl
again NoRate = refl
again Other = refl
again Asked = refl

-- so each refusal has a code of its own
code-is : (a b : Refusal) → code_of {A = ⊤} (Err a) ≡ code_of {A = ⊤} (Err b) → a ≡ b
code-is a b same = sym (again a) ∙ ap refusal_of same ∙ again b

of-refusal : (a b : Refusal) → a ≡ b → code_of {A = ⊤} (Err a) ≡ code_of {A = ⊤} (Err b)
of-refusal a b same = ap (λ (refusal : Refusal). code_of {A = ⊤} (Err refusal)) same

same-refusal : {A : Type 0} (r : Result A Refusal) (a b : Refusal) → r ≡ Err a → r ≡ Err b → a ≡ b
same-refusal r a b one two = cc

-- a call on a platform, by the code of what it was refused for
pub coded : {A : Type 0} (o : Option Kept) (k : Kept) (W : Kept → Type 0) (n : ℕ)
    (r : Result A Refusal) (refusal wanted : Refusal)
    → o ≡ Some k → r ≡ Err refusal → n ≡ code_of {A = ⊤} (Err refusal) → ((r ≡ Err wanted) ↔ W k)
    → (n ≡ code_of {A = ⊤} (Err wanted)) ↔ IsSomeAnd o W
coded o k W n r refusal wanted is err code all =
    let number = code_of {A = ⊤} (Err wanted) in
    subst (λ (o : Option Kept). (n ≡ number) ↔ IsSomeAnd o W) (sym is) (
      (λ x. all.0 (err ∙ ap (λ (e : Refusal). Err e) (code-is refusal wanted (sym code ∙ x)))),
      (λ y. code ∙ of-refusal refusal wanted (same-refusal r refusal wanted err (all.1 y))),
    )

-- and of one of which no command waits
pub coded-unasked : {A : Type 0} (o : Option Kept) (k : Kept) (W : Kept → Type 0) (n : ℕ)
    (r : Result A Refusal) (refusal wanted : Refusal) → o ≡ Some k → IsUnasked k
    → r ≡ Err refusal → n ≡ code_of {A = ⊤} (Err refusal) → ((r ≡ Err wanted) ↔ W k)
    → (n ≡ code_of {A = ⊤} (Err wanted)) ↔ IsSomeAnd o (λ p. IsUnasked p × W p)
coded-unasked o k W n r refusal wanted is free err code all =
    coded o k (λ p. IsUnasked p × W p) n r refusal wanted is err code
    ((λ same. (free, all.0 same)), (λ both. all.1 both.1))

-- so a frame was held back
pub held-back : {A : Type 0} (o : Option Kept) (k : Kept) (W : Kept → Type 0) (n : ℕ)
    (r : Result A Refusal) (refusal : Refusal) → o ≡ Some k → IsUnasked k
    → r ≡ Err refusal → n ≡ code_of {A = ⊤} (Err refusal) → ((r ≡ Err Asked) ↔ W k)
    → (n ≡ 12) ↔ IsSomeAnd o (λ p. IsAsked p ⊎ W p)
held-back o k W n r refusal is free err code all =
    coded o k (λ p. IsAsked p ⊎ W p) n r refusal Asked is err code (
      (λ same. inr (all.0 same)),
      (λ either. elim either [ inl asked ↦ absurd (asked free) | inr held ↦ all.1 held ]),
    )

-- the same, by what a call gave whole
given-code : (r : Result ⊤ Refusal) → (code_of r ≡ 3) ↔ (r ≡ Err NoAgent)
given-code (Ok done) = search rules
given-code (Err refusal) = (
  (λ code. ap (λ (e : Refusal). Err e) (code-is refusal NoAgent code)),
  (λ same. of-refusal refusal NoAgent (same-refusal (Err refusal) refusal NoAgent refl same)),
)

pub given-no-agent : (o : Option Kept) (k : Kept) (W : Kept → Type 0) (n : ℕ)
    (r : Result ⊤ Refusal) → o ≡ Some k → n ≡ code_of r → ((r ≡ Err NoAgent) ↔ W k)
    → (n ≡ 3) ↔ IsSomeAnd o W
given-no-agent o k W n r is code all =
    subst (λ (o : Option Kept). (n ≡ 3) ↔ IsSomeAnd o W) (sym is) (
      (λ x. all.0 ((given-code r).0 (sym code ∙ x))),
      (λ y. code ∙ (given-code r).1 (all.1 y)),
    )
