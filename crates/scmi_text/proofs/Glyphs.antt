-- The table of hexadecimal digits.
use Rattle.std.proofs.Common.{◌≡◌, ℕ, zero, suc, ◌<◌, Bool, true, false, List, get_or, inl, inr, refl, arith}
use Rattle.std.specs.Prelude.{◌==◌, ◌&&◌}
use Rattle.std.specs.Fmt.{digit_glyph}
use Rattle.std.proofs.lemmas.Bool.{and_parts, cases_lt, eqb-true}
use Rattle.scmi_text.specs.declared.words.TheConstants.{DIGITS}

-- whether the first n places of a table have their digits
abbrev all_are : List ℕ → ℕ → Bool
all_are table zero = true
all_are table (suc n) = (get_or table n 0 == digit_glyph false n) && all_are table n

are_at : (table : List ℕ) (n d : ℕ) → all_are table n ≡ true → d < n
    → get_or table d 0 ≡ digit_glyph false d
are_at table zero d all below = absurd (omega arith)
are_at table (suc n) d all below =
    let parts = and_parts (get_or table n 0 == digit_glyph false n) (all_are table n) all in
    elim (cases_lt d n) [
      | inl before ↦ are_at table n d parts.1 before
      | inr last ↦
          let here : d ≡ n = omega arith in
          rw here (eqb-true (get_or table n 0) (digit_glyph false n) parts.0)
    ]

-- each place has its digit
pub glyphs : (d : ℕ) → d < 16 → get_or DIGITS d 0 ≡ digit_glyph false d
glyphs d small = are_at DIGITS 16 d refl small
