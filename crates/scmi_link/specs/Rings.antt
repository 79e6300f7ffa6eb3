-- The identity of two rings.
use Rattle.std.specs.Prelude.{ℕ, List, [], ◌∷◌, ◌++◌}
use base.Stored.{Gv, gnil, gnum, gcons}
use Rattle.scmi_link.specs.declared.rings.Rings.{Rings}
use Rattle.scmi_link.specs.contracts.rings.Rings.{the_row}

-- a tree of numbers, its parts one after another
unfoldable pub numbers_of : Gv → List ℕ
numbers_of gnil = 0 ∷ []
numbers_of (gnum n) = 1 ∷ n ∷ []
numbers_of (gcons a b) = 2 ∷ numbers_of a ++ numbers_of b

-- the numbers that the two rings are stored as, when they are made
unfoldable pub rings_identity : Rings → List ℕ
rings_identity r = numbers_of (the_row.coded.code r)
