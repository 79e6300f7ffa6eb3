-- The first of some pending sets.
use Rattle.std.proofs.Common.{◌≡◌, List, [], ◌∷◌, slice_get, Some, subst, arith}
use Rattle.std.specs.List.{All}
use Rattle.scmi_core.specs.declared.pending_set.PendingSet.{PendingSet}

-- what holds of all holds of the first
pub first-of-all : (P : PendingSet → Type 0) (xs : List PendingSet) (x : PendingSet)
    → slice_get xs 0 ≡ Some x → All P xs → P x
first-of-all P [] x is all = absurd (cc)
first-of-all P (y ∷ ys) x is all = let same : y ≡ x = cc in subst P same (all 0 y (omega arith))
