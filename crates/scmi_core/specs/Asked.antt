-- What hardware is asked for.
use Rattle.std.specs.Prelude.{List, [], ◌∷◌, ◌++◌, Option, None, Some}
use Rattle.scmi_plan.specs.declared.effect.Effect.{Effect}
use Rattle.scmi_codec.specs.declared.fault.Fault.{Fault}

-- a change that hardware was asked for, and made, or refused with a fault
pub data Asked : Type 0 where
  Made : (effect : Effect) → Asked
  Refused : (effect : Effect) (fault : Fault) → Asked

-- the changes that were made of those asked for
abbrev pub made_of : List Asked → List Effect
made_of [] = []
made_of (Made effect ∷ asks) = effect ∷ made_of asks
made_of (Refused effect fault ∷ asks) = made_of asks

-- what was asked for, and one change more, if there is one
abbrev pub and_asked : List Asked → Option Asked → List Asked
and_asked asks None = asks
and_asked asks (Some ask) = asks ++ ask ∷ []

-- hardware is asked for one more change, if there is one, and for nothing else: if it may have been
-- asked for these before, it may have been asked for these and that after
abbrev pub IsAsked : (List Asked → Type 0) → Option Asked → (List Asked → Type 0) → Type 0
IsAsked before ask after = (asks : List Asked) → before asks → after (and_asked asks ask)
