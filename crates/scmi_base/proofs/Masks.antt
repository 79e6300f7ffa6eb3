-- Masks of devices: bit d is for device d.
use Rattle.std.proofs.Common.{◌≡◌, ◌≢◌, ◌⊎◌, inl, inr, ℕ, zero, suc, ◌+◌, ◌-◌, ◌^◌, ◌<◌, ◌≤◌, ◌==◌, nat_lt, min, Bool, true, false, not, ◌&&◌, ◌||◌, if◌then◌else◌, length, get_or, replicate, bit_and, w32, refl, sym, ap, ◌∙◌, subst, arith}
use Rattle.std.specs.Int.{bit_at, trailing_zeros}
use Rattle.std.specs.List.{list_any, range_with_len}
use Rattle.std.proofs.lemmas.Bool.Decides.{eqb_tells, leb_tells, nat_tests}
use Rattle.std.proofs.lemmas.List.Folds.{list_any_at}
use Rattle.std.proofs.lemmas.List.FromFn.{length-range_with_len, get_or-range_with_len}
use Rattle.std.proofs.lemmas.Nat.Bits.{bit_at-zero, bit_at-lt, bit_at_and, bit_at_not, bit_at-trailing_zeros}

-- a list of zeros has 0 at each place
all_zero : (n i : ℕ) → ◌≡◌ {A = ℕ} (get_or (replicate n 0) i 0) 0
all_zero zero i = refl
all_zero (suc n) zero = refl
all_zero (suc n) (suc i) = all_zero n i

-- empty masks have no device
pub no_bits : (n i d : ℕ) → (bit_at (get_or (replicate n 0) i 0) d == 0) ≡ true
no_bits n i d = ap (λ m. bit_at m d == 0) (all_zero n i) ∙ ap (λ b. b == 0) (bit_at-zero d)

-- a bit is 1 in the inverted mask if and only if it is 0 in the mask
pub bit_of-not : (mask d : ℕ) → mask < 2 ^ 32 → d < 32
    → (bit_at (2 ^ 32 - 1 - mask) d == 1) ≡ (bit_at mask d == 0)
bit_of-not mask d fits small = ap (λ n. n == 1) (bit_at_not w32 mask d fits small)
    ∙ turned (bit_at mask d) (bit_at-lt mask d) where
      turned : (b : ℕ) → b < 2 → (1 - b == 1) ≡ (b == 0)
      turned zero h = refl
      turned (suc zero) h = refl
      turned (suc (suc b)) h = grind (arith, nat_tests)

-- a bit is 1 in both masks if and only if it is 1 in each
pub bit_of-and : (a b d : ℕ)
    → (bit_at (bit_and a b) d == 1) ≡ ((bit_at a d == 1) && (bit_at b d == 1))
bit_of-and a b d = ap (λ n. n == 1) (bit_at_and a b d)
    ∙ both (bit_at a d) (bit_at b d) (bit_at-lt a d) (bit_at-lt b d) where
      both : (x y : ℕ) → x < 2 → y < 2 → (min x y == 1) ≡ ((x == 1) && (y == 1))
      both zero zero h k = refl
      both zero (suc zero) h k = refl
      both zero (suc (suc y)) h k = grind (arith, nat_tests)
      both (suc zero) zero h k = refl
      both (suc zero) (suc zero) h k = refl
      both (suc zero) (suc (suc y)) h k = grind (arith, nat_tests)
      both (suc (suc x)) y h k = grind (arith, nat_tests)

-- masks of the devices that pass two tests, the first of which only those below a count can pass
pub bits-of_both : (a b count : ℕ) (f g : ℕ → Bool)
    → ((d : ℕ) → d < 32 → (bit_at a d == 1) ≡ (nat_lt d count && f d))
    → ((d : ℕ) → d < 32 → (bit_at b d == 1) ≡ g d) → (d : ℕ) → d < 32
    → (bit_at (bit_and a b) d == 1) ≡ (nat_lt d count && (f d && g d))
bits-of_both a b count f g is_f is_g d small =
    bit_of-and a b d ∙ ap (λ x. x && (bit_at b d == 1)) (is_f d small)
    ∙ ap (λ x. (nat_lt d count && f d) && x) (is_g d small)
    ∙ moved (nat_lt d count) (f d) (g d) where
      moved : (x y z : Bool) → ((x && y) && z) ≡ (x && (y && z))
      moved true y z = refl
      moved false y z = refl

-- a bit is 0 if and only if it is not 1
zero_bit : (mask d : ℕ) → (bit_at mask d == 0) ≡ not (bit_at mask d == 1)
zero_bit mask d = turned (bit_at mask d) (bit_at-lt mask d) where
  turned : (b : ℕ) → b < 2 → (b == 0) ≡ not (b == 1)
  turned zero h = refl
  turned (suc zero) h = refl
  turned (suc (suc b)) h = grind (arith, nat_tests)

-- after a device's bit is cleared it alone is 0 that may have been 1
pub zeros-without : (mask after device d : ℕ)
    → (bit_at after d == 1) ≡ (not (d == device) && (bit_at mask d == 1))
    → (bit_at after d == 0) ≡ (if device == d then true else (bit_at mask d == 0))
zeros-without mask after device d is = zero_bit after d ∙ ap not is
    ∙ by_case (eqb_tells device d) where
      by_case : (((device == d) ≡ true) × (device ≡ d)) ⊎ (((device == d) ≡ false) × (device ≢ d))
          → not (not (d == device) && (bit_at mask d == 1))
          ≡ (if device == d then true else (bit_at mask d == 0))
      by_case (inl t) =
          let same = t.1 in
          let here : (d == device) ≡ true = grind (arith, nat_tests) in
          rw (t.0, here) refl
      by_case (inr t) =
          let apart = t.1 in
          let other : (d == device) ≡ false = grind (arith, nat_tests) in
          rw (t.0, other) (sym (zero_bit mask d))

-- after a device's bit is set it alone is 1 that may have been 0
pub zeros-with : (mask after device d : ℕ)
    → (bit_at after d == 1) ≡ ((d == device) || (bit_at mask d == 1))
    → (bit_at after d == 0) ≡ (if device == d then false else (bit_at mask d == 0))
zeros-with mask after device d is = zero_bit after d ∙ ap not is
    ∙ by_case (eqb_tells device d) where
      by_case : (((device == d) ≡ true) × (device ≡ d)) ⊎ (((device == d) ≡ false) × (device ≢ d))
          → not ((d == device) || (bit_at mask d == 1))
          ≡ (if device == d then false else (bit_at mask d == 0))
      by_case (inl t) =
          let same = t.1 in
          let here : (d == device) ≡ true = grind (arith, nat_tests) in
          rw (t.0, here) refl
      by_case (inr t) =
          let apart = t.1 in
          let other : (d == device) ≡ false = grind (arith, nat_tests) in
          rw (t.0, other) (sym (zero_bit mask d))

-- no number of a range passes a test that each of them fails
any_from-none : (test : ℕ → Bool) (a n : ℕ) → ((d : ℕ) → a ≤ d → d < a + n → test d ≡ false)
    → list_any test (range_with_len a n) ≡ false
any_from-none test a zero h = refl
any_from-none test a (suc n) h =
    rw (h a (omega arith) (omega arith))
    (any_from-none test (a + 1) n (λ d lo hi. h d (omega arith) (omega arith)))

-- a mask of the devices that pass a test is not 0 if and only if one passes it
pub some-of_mask : (mask count : ℕ) (test : ℕ → Bool) → mask < 2 ^ 32 → count ≤ 32
    → ((d : ℕ) → d < 32 → (bit_at mask d == 1) ≡ (nat_lt d count && test d))
    → not (mask == 0) ≡ list_any test (range_with_len 0 count)
some-of_mask mask count test fits few is = by_case (eqb_tells mask 0) where
  none : mask ≡ 0 → (d : ℕ) → 0 ≤ d → d < 0 + count → test d ≡ false
  none empty d lo hi =
      let small : d < count = omega arith in
      let inside : nat_lt d count ≡ true = grind (arith, nat_tests) in
      let bit : (bit_at mask d == 1) ≡ false = ap (λ m. bit_at m d == 1) empty
      ∙ ap (λ b. b == 1) (bit_at-zero d) in
      subst (λ b. (b && test d) ≡ false) inside (sym (is d (omega arith)) ∙ bit)

  some : (d : ℕ) → d < 32 → bit_at mask d ≡ 1 → list_any test (range_with_len 0 count) ≡ true
  some d small bit = found (leb_tells (suc d) count) where
    here : (nat_lt d count && test d) ≡ true
    here = sym (is d small) ∙ ap (λ b. b == 1) bit

    found : ((nat_lt d count ≡ true) × (suc d ≤ count)) ⊎ ((nat_lt d count ≡ false)
        × (count < suc d)) → list_any test (range_with_len 0 count) ≡ true
    found (inl t) =
        let passes : test d ≡ true = subst (λ b. (b && test d) ≡ true) t.0 here in
        let size : length (range_with_len 0 count) ≡ count = length-range_with_len 0 count in
        let inside : d < count = let u = t.1 in omega arith in
        let item : get_or (range_with_len 0 count) d 0 ≡ d =
        get_or-range_with_len 0 count d 0 inside ∙ (let z : 0 + d ≡ d = omega arith in z) in
        list_any_at test (range_with_len 0 count) d 0 (omega arith) (rw item passes)
    found (inr t) = let no = t.0 in let yes = here in cc

  by_case : (((mask == 0) ≡ true) × (mask ≡ 0)) ⊎ (((mask == 0) ≡ false) × (mask ≢ 0))
      → not (mask == 0) ≡ list_any test (range_with_len 0 count)
  by_case (inl t) = rw t.0 (sym (any_from-none test 0 count (none t.1)))
  by_case (inr t) =
      let first = bit_at-trailing_zeros w32 mask (let apart = t.1 in omega arith) fits in
      rw t.0 (sym (some (trailing_zeros w32 mask) first.0 first.1))
