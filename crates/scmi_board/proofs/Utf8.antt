-- The test of UTF-8.
use Rattle.std.proofs.Common.{ℕ, ◌≡◌, true, false, List}
use Rattle.std.specs.Str.{IsUtf8, is_utf8}
use Rattle.std.proofs.lemmas.Bool.{false_from_ne_true}
use Rattle.std.proofs.lemmas.Str.{IsUtf8-from_is_utf8, is_utf8-from_IsUtf8}

pub utf8_passes : (bytes : List ℕ) → IsUtf8 bytes → is_utf8 bytes ≡ true
utf8_passes bytes is = is_utf8-from_IsUtf8 bytes is

pub others_fail : (bytes : List ℕ) → ¬ (IsUtf8 bytes) → is_utf8 bytes ≡ false
others_fail bytes none =
    false_from_ne_true (is_utf8 bytes) (λ is. none (IsUtf8-from_is_utf8 bytes is))
