-- All that a reader has left, read piece by piece.
use Rattle.std.proofs.Common.{◌≡◌, ◌<◌, ◌≤◌, ◌+◌, ℕ, List, [], ◌++◌, length, take, Option, None, Some, IfSome, ◌∙◌, sym, ap, arith}
use Rattle.std.proofs.lemmas.List.{length-append, length-take-le, append-nil}
use Rattle.std.specs.Io.KnownBytes.{Consumes, IsAtEnd}

-- what was read is all, once a read gives nothing
pub all_at_end : (known mid new : Option (List ℕ)) (all buffer : List ℕ) (n : ℕ) → n ≡ 0
    → 0 < length buffer → Consumes known mid all
    → Consumes mid new (take n buffer) × (n ≡ 0 → 0 < length buffer → IsAtEnd new)
    → IfSome known (λ xs. all ≡ xs)
all_at_end None mid new all buffer n zero room before last = tt
all_at_end (Some xs) None new all buffer n zero room before last = absurd before
all_at_end (Some xs) (Some ys) None all buffer n zero room before last = absurd last.0
all_at_end (Some xs) (Some ys) (Some zs) all buffer n zero room before last =
    let end : zs ≡ [] = last.1 zero room in
    let none : take n buffer ≡ [] = rw zero in
    let ys_is : ys ≡ [] = last.0 ∙ (ap (λ (bs : List ℕ). bs ++ zs) none ∙ end) in
    sym (before ∙ (ap (λ (bs : List ℕ). all ++ bs) ys_is ∙ append-nil all))

-- there is more than a limit, once that much was read
pub past_limit : (limit : ℕ) (known mid new : Option (List ℕ)) (all buffer : List ℕ) (n : ℕ)
    → limit < length all + n → n ≤ length buffer → Consumes known mid all
    → Consumes mid new (take n buffer) × (n ≡ 0 → 0 < length buffer → IsAtEnd new)
    → IfSome known (λ xs. limit < length xs)
past_limit limit None mid new all buffer n past fits before last = tt
past_limit limit (Some xs) None new all buffer n past fits before last = absurd before
past_limit limit (Some xs) (Some ys) None all buffer n past fits before last = absurd last.0
past_limit limit (Some xs) (Some ys) (Some zs) all buffer n past fits before last =
    let whole = ap length before ∙ length-append all ys in
    let part = ap length last.0 ∙ length-append (take n buffer) zs in
    omega (arith, whole, part, length-take-le n buffer fits, past)
