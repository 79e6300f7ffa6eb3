use Rattle.std.proofs.Common.{◌≡◌, ◌≢◌, ◌⊎◌, inl, inr, refl, ap, ℕ, ◌*◌, ◌^◌, ◌%◌, ◌<◌, ◌==◌, ◌||◌, true, false, bit_or, w32}
use Rattle.std.specs.Int.{bit_at}
use Rattle.std.proofs.lemmas.Bool.Decides.{eqb_tells}
use Rattle.std.proofs.lemmas.Nat.Bits.{bit_at_set_same, bit_at_set_other}
use Rattle.scmi_plan.proofs.mask.with_bit.Goals as goal

marked : (mask bit b : ℕ) → bit < 32
    → (((b == bit) ≡ true) × (b ≡ bit)) ⊎ (((b == bit) ≡ false) × (b ≢ bit))
    → (bit_at (bit_or mask (1 * 2 ^ bit % 4294967296)) b == 1)
    ≡ ((b == bit) || (bit_at mask b == 1))
marked mask bit b h (inl t) = rw (t.0, t.1) (ap (λ n. n == 1) (bit_at_set_same w32 mask bit h))
marked mask bit b h (inr t) = rw t.0 (ap (λ n. n == 1) (bit_at_set_other w32 mask bit h b t.1))

pub returns-clause-value : goal.returns-clause-value
returns-clause-value c = refl

pub returns-clause-bits : goal.returns-clause-bits
returns-clause-bits c =
    λ b small. marked c.args.mask c.args.bit b c.requires (eqb_tells b c.args.bit)
