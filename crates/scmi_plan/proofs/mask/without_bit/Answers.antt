use Rattle.std.proofs.Common.{◌≡◌, ◌≢◌, ◌⊎◌, inl, inr, ap, ℕ, ◌-◌, ◌*◌, ◌^◌, ◌%◌, ◌<◌, ◌==◌, ◌&&◌, not, true, false, bit_and, w32}
use Rattle.std.specs.Int.{bit_at}
use Rattle.std.proofs.lemmas.Bool.Decides.{eqb_tells}
use Rattle.std.proofs.lemmas.Nat.Bits.{bit_at_clear_same, bit_at_clear_other}
use Rattle.scmi_plan.proofs.mask.without_bit.Goals as goal

cleared : (mask bit b : ℕ) → bit < 32 → b < 32
    → (((b == bit) ≡ true) × (b ≡ bit)) ⊎ (((b == bit) ≡ false) × (b ≢ bit))
    → (bit_at (bit_and mask (4294967295 - 1 * 2 ^ bit % 4294967296)) b == 1)
    ≡ (not (b == bit) && (bit_at mask b == 1))
cleared mask bit b h small (inl t) =
    rw (t.0, t.1) (ap (λ n. n == 1) (bit_at_clear_same w32 mask bit h))
cleared mask bit b h small (inr t) =
    rw t.0 (ap (λ n. n == 1) (bit_at_clear_other w32 mask bit h b small t.1))

pub returns : goal.returns
returns c = λ b small. cleared c.args.mask c.args.bit b c.requires small (eqb_tells b c.args.bit)
