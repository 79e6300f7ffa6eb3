-- What the program does in a session.
use Rattle.std.specs.Prelude.{ℕ, List, Option, IfSome}
use Rattle.scmi_board.specs.BoardLines.{Described}
use Rattle.scmi_modes.specs.Runs.{may_be_full}
use Rattle.scmi_modes.specs.Steps.{shows_close}
use Rattle.scmi_modes.specs.declared.kind.Kind.TheVariants.{Words}
use Rattle.scmi_live.specs.Heard.{Heard}
use Rattle.scmi_live.specs.Live as live

-- the listener is given exactly the steps of an input, if that is known, made on this board with
-- its channels and over shared words
abbrev pub IsSession : Described → Option (List ℕ) → Option (List Heard)
    → Option (List Heard) → Type 0
IsSession said known old new = IfSome known
    (λ input. live.IsSession (may_be_full Words) (shows_close Words) said input old new)
