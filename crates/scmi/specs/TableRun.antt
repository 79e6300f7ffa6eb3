-- A board's tables, from the input to the status.
use Rattle.std.specs.Prelude.{◌≡◌, ℕ, List, Option, IfSome}
use Rattle.std.specs.Io.KnownBytes.{Appends}
use Rattle.scmi_board.specs.BoardLines.{Described}
use Rattle.scmi_board.specs.ValidBoard.{IsBoardText}
use Rattle.scmi_check.specs.Check.{IsFaultOfBoard}
use Rattle.scmi_check.specs.CheckError.{fault_status, fault_text}
use Rattle.scmi_check.specs.declared.check_error.CheckError.{CheckError}
use Rattle.scmi_io.specs.FaultLine.{fault_line}

-- an input holds a board that keeps every rule, if it is known
pub record HoldsBoard (known : Option (List ℕ)) : Type 0 where
  pub said : Described
  pub of_text : IfSome known (λ text. IsBoardText text said)

-- a run ends with this status and the line of a fault, which is one of the text if that is known,
-- and nothing else is written
pub record EndsWithFault (known : Option (List ℕ)) (status : ℕ)
    (old new : Option (List ℕ)) : Type 0 where
  pub fault : CheckError
  pub status_is : status ≡ fault_status fault
  pub of_text : IfSome known (λ text. IsFaultOfBoard text fault)
  pub text : Appends old new (fault_line (fault_text fault))
