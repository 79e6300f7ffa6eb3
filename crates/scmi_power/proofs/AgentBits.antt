-- One bit of a mask of agents: bit a - 1 encodes agent a.
use Rattle.std.proofs.Common.{◌≡◌, ◌≢◌, ◌⊎◌, inl, inr, ℕ, ◌-◌, ◌*◌, ◌%◌, ◌^◌, ◌==◌, ◌≤◌, true, false, if◌then◌else◌, bit_or, bit_and, w8, ap, arith}
use Rattle.std.specs.Int.{bit_at}
use Rattle.std.proofs.lemmas.Bool.Decides.{eqb_tells}
use Rattle.std.proofs.lemmas.Nat.Bits.{bit_at_set_same, bit_at_set_other, bit_at_clear_same, bit_at_clear_other}

-- after an agent's bit is set it alone differs
pub bit_of-set : (mask agent a : ℕ) → 1 ≤ agent → agent ≤ 8 → 1 ≤ a → a ≤ 8
    → (bit_at (bit_or mask (1 * 2 ^ (agent - 1) % 256)) (a - 1) == 1)
    ≡ (if agent == a then true else (bit_at mask (a - 1) == 1))
bit_of-set mask agent a h1 h2 h3 h4 = by_case (eqb_tells agent a) where
  by_case : (((agent == a) ≡ true) × (agent ≡ a)) ⊎ (((agent == a) ≡ false) × (agent ≢ a))
      → (bit_at (bit_or mask (1 * 2 ^ (agent - 1) % 256)) (a - 1) == 1)
      ≡ (if agent == a then true else (bit_at mask (a - 1) == 1))
  by_case (inl h) =
      rw (h.0, ← h.1) (ap (λ n. n == 1) (bit_at_set_same w8 mask (agent - 1) (omega arith)))
  by_case (inr h) = let other : a - 1 ≢ agent - 1 = let apart = h.1 in omega arith in
      rw h.0 (ap (λ n. n == 1) (bit_at_set_other w8 mask (agent - 1) (omega arith) (a - 1) other))

-- after an agent's bit is cleared it alone differs
pub bit_of-clear : (mask agent a : ℕ) → 1 ≤ agent → agent ≤ 8 → 1 ≤ a → a ≤ 8
    → (bit_at (bit_and mask (255 - 1 * 2 ^ (agent - 1) % 256)) (a - 1) == 1)
    ≡ (if agent == a then false else (bit_at mask (a - 1) == 1))
bit_of-clear mask agent a h1 h2 h3 h4 = by_case (eqb_tells agent a) where
  by_case : (((agent == a) ≡ true) × (agent ≡ a)) ⊎ (((agent == a) ≡ false) × (agent ≢ a))
      → (bit_at (bit_and mask (255 - 1 * 2 ^ (agent - 1) % 256)) (a - 1) == 1)
      ≡ (if agent == a then false else (bit_at mask (a - 1) == 1))
  by_case (inl h) =
      rw (h.0, ← h.1) (ap (λ n. n == 1) (bit_at_clear_same w8 mask (agent - 1) (omega arith)))
  by_case (inr h) = let other : a - 1 ≢ agent - 1 = let apart = h.1 in omega arith in
      rw h.0 (ap (λ n. n == 1)
      (bit_at_clear_other w8 mask (agent - 1) (omega arith) (a - 1) (omega arith) other))
