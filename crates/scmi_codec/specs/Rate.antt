-- A rate in Hz as two words, the lower one first.
use Rattle.std.specs.Prelude.{ℕ, ◌+◌, ◌*◌, ◌/◌, ◌%◌, ◌^◌, List, [], ◌∷◌}

-- the rate of its low and high word
abbrev pub rate_of : ℕ → ℕ → ℕ
rate_of low high = low + 2 ^ 32 * high

-- the two words of a rate
abbrev pub rate_words : ℕ → List ℕ
rate_words rate = rate % 2 ^ 32 ∷ rate / 2 ^ 32 ∷ []
