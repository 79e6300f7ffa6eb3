-- Facts about the agents in turn.
use Rattle.std.specs.Prelude.{ℕ, ◌+◌, List, [], ◌∷◌}

-- P holds of each item with its number, counted from n
abbrev pub AllFrom : {E : Type 0} → (ℕ → E → Type 0) → ℕ → List E → Type 0
AllFrom P n [] = Unit {0}
AllFrom P n (e ∷ es) = P n e × AllFrom P (n + 1) es
