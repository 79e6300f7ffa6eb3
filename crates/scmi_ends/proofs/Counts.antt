-- Calls that are counted modulo 2^64.
use Rattle.std.proofs.Common.{◌≡◌, ℕ, zero, suc, ◌+◌, ◌%◌, ◌^◌, ◌≤◌, arith, add-one, refl, sym, ap, ◌∙◌}
use Rattle.scmi_link.specs.View.{one_more}
use Rattle.scmi_ends.specs.Poll.{more_calls}

pub no_calls : (c : ℕ) → more_calls 0 c ≡ c
unfolding more_calls
no_calls c = refl

pub next_call : (n c : ℕ) → one_more (more_calls n c) ≡ more_calls (n + 1) c
unfolding more_calls
next_call n c = sym (ap (λ k. more_calls k c) (add-one n))

-- calls after calls
pub calls_after : (m n c : ℕ) → more_calls n (more_calls m c) ≡ more_calls (m + n) c
unfolding more_calls
calls_after m zero c =
    let same : m ≡ m + zero = omega arith in
    ap (λ k. more_calls k c) same
calls_after m (suc n) c =
    let next : m + suc n ≡ suc (m + n) = omega arith in
    ap one_more (calls_after m n c) ∙ sym (ap (λ k. more_calls k c) next)

-- a count that is a remainder goes on as one
pub calls_of_sum : (n s : ℕ) → more_calls n (s % 2 ^ 64) ≡ (s + n) % 2 ^ 64
unfolding more_calls
calls_of_sum zero s =
    let same : s ≡ s + zero = omega arith in
    ap (λ k. k % 2 ^ 64) same
calls_of_sum (suc n) s = ap one_more (calls_of_sum n s) ∙ omega arith

-- some calls at once
pub some_calls : (n c : ℕ) → 1 ≤ n → more_calls n c ≡ (c + n) % 2 ^ 64
unfolding more_calls
some_calls zero c some = absurd (omega arith)
some_calls (suc zero) c some = refl
some_calls (suc (suc n)) c some = ap one_more (some_calls (suc n) c (omega arith)) ∙ omega arith
