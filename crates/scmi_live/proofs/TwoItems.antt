-- Lines of another number of items than two.
use Rattle.std.proofs.Common.{◌≡◌, ℕ, ◌<◌, List, [], ◌∷◌, length, map, None, Bor, refl, arith}
use Rattle.scmi_plan.specs.Board.{Board}
use Rattle.scmi_live.specs.Reports.{clock_rate_of}

pub too_few : (board : Board) (items : List (Bor (List ℕ))) → length items < 2
    → None ≡ clock_rate_of board (map (λ item. item.now) items)
too_few board [] few = refl
too_few board (clock ∷ []) few = refl
too_few board (clock ∷ rate ∷ items) few = absurd (omega (arith, few))

pub too_many : (board : Board) (items : List (Bor (List ℕ))) → 2 < length items
    → None ≡ clock_rate_of board (map (λ item. item.now) items)
too_many board [] many = absurd (omega (arith, many))
too_many board (clock ∷ []) many = absurd (omega (arith, many))
too_many board (clock ∷ rate ∷ []) many = absurd (omega (arith, many))
too_many board (clock ∷ rate ∷ next ∷ items) many = refl
