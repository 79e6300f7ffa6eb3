-- Board B with rules of its own, for worked examples.
use Rattle.std.specs.Prelude.{false, ◌∷◌, replicate}
use Rattle.scmi_plan.specs.Board.{Board, nothing_denied, whole_channel}
use Rattle.scmi_core.specs.BoardB.{board_b}

-- the second domain and the first clock are kept; the power protocol is denied to the second agent
-- on the first device, and one pending set may be that agent's
abbrev pub board_e : Board
board_e =
    record board_b {
      kept = record { domains = 2; clocks = 1 };
      denied = record nothing_denied { power = 0 ∷ 1 ∷ replicate 6 0 };
      channels = whole_channel ∷ record { words = 64; one_way = false; share = 1 }
          ∷ replicate 6 whole_channel;
    }
