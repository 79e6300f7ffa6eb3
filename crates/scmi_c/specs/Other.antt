-- Commands of protocols that a board has and that are not the library's, which the firmware answers
-- (own).
use Rattle.std.specs.Prelude.{◌≡◌, ℕ, ◌==◌, ◌&&◌, ◌||◌, Bool, not, false, true, length}
use Rattle.scmi_codec.specs.declared.frame.Frame.{Frame}
use Rattle.scmi_codec.specs.declared.frame.Frame.TheVariants.{Good, Malformed}
use Rattle.scmi_plan.specs.Agent.{IsAgent}
use Rattle.scmi_plan.specs.Board.{Board, serves}
use Rattle.scmi_c.specs.Standing.{Held, board_of}

-- whether a protocol is one of the library's: base, power domains or clocks
abbrev pub is_ours : ℕ → Bool
is_ours protocol = protocol == 0x10 || protocol == 0x11 || protocol == 0x14

-- whether a frame is a command of another protocol that the board has
abbrev pub is_other : Board → Frame → Bool
is_other board (Good m) =
    not (is_ours m.header.protocol) && m.header.kind == 0 && serves board m.header.protocol
is_other board (Malformed _ _) = false

-- a frame of an agent of the board is such a command
abbrev pub IsOther : ℕ → Frame → Held → Type 0
IsOther agent frame p = IsAgent (length (board_of p).agents) agent
    × (is_other (board_of p) frame ≡ true)
