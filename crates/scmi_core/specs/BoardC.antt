-- Boards of one agent and its clocks, for worked examples.
use Rattle.std.specs.Prelude.{true, false, [], ◌∷◌, codes, replicate}
use Rattle.scmi_plan.specs.Board.{Board, nothing_denied, nothing_held, own_protocols, whole_channel}
use Rattle.scmi_plan.specs.declared.limits.TheConstants.{AGENTS}
use Rattle.scmi_plan.specs.Rates as rates

-- one agent, and nine clocks of the rates 1 and 2; no domain and no device
abbrev pub board_c : Board
board_c =
    record {
      vendor = codes "V";
      sub_vendor = codes "S";
      version = 1;
      trusted = 1;
      agents = codes "a" ∷ [];
      domains = [];
      clocks = replicate 9
          (record { name = codes "c"; enabled = true; rate = 1; rates = rates.list (1 ∷ 2 ∷ []) });
      devices = [];
      channels = replicate AGENTS whole_channel;
      kept = nothing_held;
      denied = nothing_denied;
      absent = nothing_held;
      free = 0;
      protocols = own_protocols;
      loose = false;
    }

-- the same board with one clock, of the rates 1 to 64
abbrev pub board_of_64_rates : Board
board_of_64_rates =
    record board_c {
      clocks =
          record {
            name = codes "c";
            enabled = true;
            rate = 1;
            rates = rates.list
                (1 ∷ 2 ∷ 3 ∷ 4 ∷ 5 ∷ 6 ∷ 7 ∷ 8 ∷ 9 ∷ 10 ∷ 11 ∷ 12 ∷ 13 ∷ 14 ∷ 15 ∷ 16 ∷ 17 ∷ 18 ∷ 19
                ∷ 20 ∷ 21 ∷ 22 ∷ 23 ∷ 24 ∷ 25 ∷ 26 ∷ 27 ∷ 28 ∷ 29 ∷ 30 ∷ 31 ∷ 32 ∷ 33 ∷ 34 ∷ 35 ∷ 36
                ∷ 37 ∷ 38 ∷ 39 ∷ 40 ∷ 41 ∷ 42 ∷ 43 ∷ 44 ∷ 45 ∷ 46 ∷ 47 ∷ 48 ∷ 49 ∷ 50 ∷ 51 ∷ 52 ∷ 53
                ∷ 54 ∷ 55 ∷ 56 ∷ 57 ∷ 58 ∷ 59 ∷ 60 ∷ 61 ∷ 62 ∷ 63 ∷ 64 ∷ []);
          } ∷ [];
    }
