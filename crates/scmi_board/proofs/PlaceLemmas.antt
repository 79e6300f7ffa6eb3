-- The first place of a byte.
use Rattle.std.proofs.Common.{ℕ, ◌≡◌, ◌≤◌, Bool, ltb, List, length, refl, arith, inl, inr}
use Rattle.std.specs.List.{position, position_or_len}
use Rattle.std.specs.Option.{unwrap_or}
use Rattle.std.proofs.lemmas.Bool.{cases_Bool, ltb-false}
use Rattle.std.proofs.lemmas.List.Sums.{prefix_len-le-length}

pub place_within : (p : ℕ → Bool) (text : List ℕ) → position_or_len p text ≤ length text
place_within p text = prefix_len-le-length _ text

pub place_or_length : (p : ℕ → Bool) (text : List ℕ)
    → unwrap_or (position p text) (length text) ≡ position_or_len p text
place_or_length p text =
    let within = place_within p text in
    elim (cases_Bool (ltb (position_or_len p text) (length text))) [
      | inl here ↦ rw here refl
      | inr past ↦ let most = ltb-false (position_or_len p text) (length text) past in
          rw past (omega (arith, within, most))
    ]
