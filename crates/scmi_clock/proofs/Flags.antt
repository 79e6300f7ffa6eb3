-- One bit of a word of flags, and the flags that are known.
use Rattle.std.proofs.Common.{◌≡◌, ◌≢◌, ◌⊎◌, inl, inr, ℕ, zero, suc, ◌*◌, ◌/◌, ◌%◌, ◌^◌, ◌<◌, ◌≤◌, ◌==◌, nat_le, Bool, true, false, not, if◌then◌else◌, Ok, Err, refl, sym, ap, ◌∙◌, arith}
use Rattle.std.specs.Int.{bit_at}
use Rattle.std.specs.Int.RustNames.{bit_and}
use Rattle.std.proofs.Math.Nat.{mod-lt}
use Rattle.std.proofs.lemmas.Bool.Decides.{leb_tells}
use Rattle.std.proofs.lemmas.Nat.{and_mask}
use Rattle.std.proofs.lemmas.Nat.Bits.{and_pow, bit_at-lt}
use Rattle.scmi_codec.specs.Reply.{bit_0}
use Rattle.scmi_codec.specs.declared.status.Status.TheVariants.{InvalidParameters}
use Rattle.scmi_clock.specs.declared.rounding.Rounding.{Rounding}
use Rattle.scmi_clock.specs.declared.rounding.Rounding.TheVariants as rounding
use Rattle.scmi_clock.specs.declared.set_flags.SetFlags.{SetFlags}
use Rattle.scmi_clock.specs.SetFlags.{rounding_of, is_asynchronous, is_response_wanted, set_flags}

scaled : (m b : ℕ) → (0 == m) ≡ false → (m == m) ≡ true → b < 2 → (b * m == m) ≡ (b == 1)
scaled m zero some same small = let none : 0 * m ≡ 0 = omega arith in ap (λ x. x == m) none ∙ some
scaled m (suc zero) some same small =
    let one : 1 * m ≡ m = omega arith in
    ap (λ x. x == m) one ∙ same
scaled m (suc (suc b)) some same small = absurd (omega arith)

has_bit : (n k : ℕ) → (0 == 2 ^ k) ≡ false → (2 ^ k == 2 ^ k) ≡ true
    → (bit_and n (2 ^ k) == 2 ^ k) ≡ (bit_at n k == 1)
has_bit n k some same = ap (λ x. x == 2 ^ k) (and_pow n k)
    ∙ scaled (2 ^ k) (bit_at n k) some same (bit_at-lt n k)

has_bit_0 : (n : ℕ) → (bit_and n 1 == 1) ≡ (n % 2 == 1)
has_bit_0 n =
    let whole : n / 1 ≡ n = omega arith in
    has_bit n 0 refl refl ∙ ap (λ x. x % 2 == 1) whole

has_bit_1 : (n : ℕ) → (bit_and n 2 == 2) ≡ (n / 2 % 2 == 1)
has_bit_1 n = has_bit n 1 refl refl

has_bit_2 : (n : ℕ) → (bit_and n 4 == 4) ≡ (n / 2 ^ 2 % 2 == 1)
has_bit_2 n = has_bit n 2 refl refl

has_bit_3 : (n : ℕ) → (bit_and n 8 == 8) ≡ (n / 2 ^ 3 % 2 == 1)
has_bit_3 n = has_bit n 3 refl refl

known : (n : ℕ) → bit_and n 15 ≡ n → nat_le 16 n ≡ false
known n is = pick (leb_tells 16 n) where
  small : n < 16
  small =
      let masked : bit_and n 15 ≡ n % 16 = and_mask n 4 in
      let below : n % 16 < 16 = mod-lt n (omega arith) in
      omega arith

  pick : ((nat_le 16 n ≡ true) × (16 ≤ n)) ⊎ ((nat_le 16 n ≡ false) × (n < 16))
      → nat_le 16 n ≡ false
  pick (inl t) = let large = t.1 in absurd (omega (arith, small))
  pick (inr t) = t.0

unknown : (n : ℕ) → bit_and n 15 ≢ n → nat_le 16 n ≡ true
unknown n is_not = pick (leb_tells 16 n) where
  same : n < 16 → bit_and n 15 ≡ n
  same h = let masked : bit_and n 15 ≡ n % 16 = and_mask n 4 in omega arith

  pick : ((nat_le 16 n ≡ true) × (16 ≤ n)) ⊎ ((nat_le 16 n ≡ false) × (n < 16)) → nat_le 16 n ≡ true
  pick (inl t) = t.0
  pick (inr t) = absurd (is_not (same t.1))

pub rounds_nearest : (n : ℕ) → (bit_and n 8 == 8) ≡ true → rounding.Nearest ≡ rounding_of n
rounds_nearest n h = sym (ap (λ b. if b then rounding.Nearest else if n / 2 ^ 2 % 2 == 1
    then rounding.Up else rounding.Down) (sym (has_bit_3 n) ∙ h))

pub rounds_up : (n : ℕ) → (bit_and n 8 == 8) ≡ false → (bit_and n 4 == 4) ≡ true
    → rounding.Up ≡ rounding_of n
rounds_up n g h = sym (ap (λ b. if b then rounding.Nearest else if n / 2 ^ 2 % 2 == 1
    then rounding.Up else rounding.Down) (sym (has_bit_3 n) ∙ g)
    ∙ ap (λ b. if b then rounding.Up else rounding.Down) (sym (has_bit_2 n) ∙ h))

pub rounds_down : (n : ℕ) → (bit_and n 8 == 8) ≡ false → (bit_and n 4 == 4) ≡ false
    → rounding.Down ≡ rounding_of n
rounds_down n g h = sym (ap (λ b. if b then rounding.Nearest else if n / 2 ^ 2 % 2 == 1
    then rounding.Up else rounding.Down) (sym (has_bit_3 n) ∙ g)
    ∙ ap (λ b. if b then rounding.Up else rounding.Down) (sym (has_bit_2 n) ∙ h))

pub refused : (word : ℕ) → bit_and word 15 ≢ word → Err InvalidParameters ≡ set_flags word
refused word is_not = sym (ap (λ b. if b then Err InvalidParameters
    else Ok (record {
      rounding = rounding_of word;
      asynchronous = is_asynchronous word;
      response_wanted = is_response_wanted word;
    })) (unknown word is_not))

made : Rounding → Bool → Bool → SetFlags
made r a w = record { rounding = r; asynchronous = a; response_wanted = not w }

pub accepted : (word bits : ℕ) → bits ≡ word → bit_and word 15 ≡ word → (r : Rounding) (a w : Bool)
    → r ≡ rounding_of bits → a ≡ (bit_and bits 1 == 1) → w ≡ (bit_and bits 2 == 2)
    → Ok (record { rounding = r; asynchronous = a; response_wanted = not w }) ≡ set_flags word
unfolding made
accepted word bits same masked r a w is_r is_a is_w =
    let e_r : r ≡ rounding_of word = is_r ∙ ap rounding_of same in
    let e_a : a ≡ is_asynchronous word = is_a ∙ ap (λ n. bit_and n 1 == 1) same ∙ has_bit_0 word in
    let e_w : w ≡ bit_0 (word / 2) = is_w ∙ ap (λ n. bit_and n 2 == 2) same ∙ has_bit_1 word in
    ap (λ x. Ok (made x a w)) e_r ∙ ap (λ x. Ok (made (rounding_of word) x w)) e_a
    ∙ ap (λ x. Ok (made (rounding_of word) (is_asynchronous word) x)) e_w
    ∙ sym (ap (λ b. if b then Err InvalidParameters else Ok
    (made (rounding_of word) (is_asynchronous word) (bit_0 (word / 2)))) (known word masked))
