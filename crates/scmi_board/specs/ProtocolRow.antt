-- The ids of a board's protocols in a row: a list of 16 with zeros behind them.
use Rattle.std.specs.Prelude.{ℕ, ◌-◌, ◌==◌, ◌++◌, List, length, replicate}
use Rattle.std.specs.List.{before_first}
use Rattle.scmi_plan.specs.declared.limits.TheConstants.{PROTOCOLS}

-- the ids of a row
abbrev pub ids_in : List ℕ → List ℕ
ids_in row = before_first (λ id. id == 0) row

-- the row of at most 16 ids
abbrev pub row_of : List ℕ → List ℕ
row_of ids = ids ++ replicate (PROTOCOLS - length ids) 0
