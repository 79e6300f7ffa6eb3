-- Bytes that are taken from the front of those that were read ahead.
use Rattle.std.proofs.Common.{◌≡◌, ℕ, ◌+◌, ◌-◌, ◌≤◌, List, ◌++◌, length, take, drop, sym, ap, ◌∙◌, arith}
use Rattle.std.specs.List.{slice_range}
use Rattle.std.proofs.lemmas.List.{take-append-le, take_all, take-take, drop-take}
use Rattle.std.proofs.lemmas.List.Folds.{drop_split}

-- the first n of the bytes from start to end, which were copied, and the others
pub taken : (bytes buffer copied : List ℕ) (start end n : ℕ) → start + n ≤ end
    → length copied ≡ n → copied ≡ take n (drop start bytes) → drop start (take end bytes)
    ≡ take n (copied ++ drop n buffer) ++ drop (start + n) (take end bytes)
taken bytes buffer copied start end n inside count is =
    let front : take n (drop start (take end bytes)) ≡ take n (drop start bytes) =
    sym (drop-take start n (take end bytes)) ∙ ap (λ (xs : List ℕ). drop start xs)
    (take-take (start + n) end bytes inside) ∙ drop-take start n bytes in
    let whole : take n (copied ++ drop n buffer) ≡ copied = take-append-le n copied (drop n buffer)
    (omega (arith, count)) ∙ take_all n copied (omega (arith, count)) in
    let width : start + n - start ≡ n = omega arith in
    let range : slice_range (take end bytes) start (start + n) ≡ take n
    (drop start (take end bytes)) = ap (λ k. take k (drop start (take end bytes))) width in
    drop_split (take end bytes) start (start + n) (omega arith) ∙ ap (λ (xs : List ℕ). xs
    ++ drop (start + n) (take end bytes)) (range ∙ front ∙ sym is ∙ sym whole)
