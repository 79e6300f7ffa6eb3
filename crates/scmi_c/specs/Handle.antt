-- What a handle owns.
use Rattle.std.specs.Prelude.{◌≡◌, Option, Some, None}
use mir.Syntax.{Ty}
use base.Fml.{Fml, ftrue, fex}
use denote.RattleType.{RattleType}
use denote.RawPtr.{Ptr, null_ptr}
use Rattle.std.specs.declared.alloc.Global.{Global}
use Rattle.std_alloc.specs.Box.Ownership.{box_owns}

-- nothing, and the pointer is null; or a boxed value at the pointer, and the right to free its
-- block
abbrev pub holds_value : (Global → Ty → Ptr → Fml) → (R : RattleType) → Ptr → Option (R.Denot) → Fml
holds_value token R p None = fex (p ≡ null_ptr) (λ _. ftrue)
holds_value token R p (Some x) = fex Global (λ heap. box_owns (token heap) R p x)
