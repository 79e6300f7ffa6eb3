-- The words of a list of ids.
use Rattle.std.proofs.Common.{◌≡◌, ℕ, suc, ◌+◌, List, ◌∷◌, take, refl, arith}

-- the first words of two words and others
pub behind_two : (count a b : ℕ) (words : List ℕ)
    → take (2 + count) (a ∷ b ∷ words) ≡ a ∷ b ∷ take count words
behind_two count a b words =
    let both : 2 + count ≡ suc (suc count) = omega arith in
    rw both refl
