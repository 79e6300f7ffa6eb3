-- Board B with channels that are not whole, for worked examples.
use Rattle.std.specs.Prelude.{true, false, [], ◌∷◌, codes, replicate}
use Rattle.scmi_plan.specs.Board.{Board, whole_channel}
use Rattle.scmi_plan.specs.Rates as rates
use Rattle.scmi_core.specs.BoardB.{board_b}

-- the channels of the first agent have room for 32 words of payload, and those of the second for 8,
-- and the platform can't send to the second; there is one clock, of 16 rates
abbrev pub board_d : Board
board_d =
    record board_b {
      clocks =
          record {
            name = codes "core";
            enabled = true;
            rate = 100;
            rates = rates.list (100 ∷ 200 ∷ 300 ∷ 400 ∷ 500 ∷ 600 ∷ 700 ∷ 800 ∷ 900 ∷ 1000 ∷ 1100
                ∷ 1200 ∷ 1300 ∷ 1400 ∷ 1500 ∷ 1600 ∷ []);
          } ∷ [];
      channels = record { words = 32; one_way = false; share = 8 }
          ∷ record { words = 8; one_way = true; share = 8 } ∷ replicate 6 whole_channel;
    }
