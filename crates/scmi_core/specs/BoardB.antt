-- A board of two agents, three domains, three clocks and two devices, for worked examples.
use Rattle.std.specs.Prelude.{true, false, [], ◌∷◌, codes, replicate}
use Rattle.scmi_plan.specs.Board.{Board, nothing_denied, nothing_held, own_protocols, whole_channel}
use Rattle.scmi_plan.specs.declared.limits.TheConstants.{AGENTS}
use Rattle.scmi_plan.specs.Rates as rates

-- two agents, of which the first is trusted; a device of the first domain and the first clock, and
-- a device of the second domain
abbrev pub board_b : Board
board_b =
    record {
      vendor = codes "Acme";
      sub_vendor = codes "Lab";
      version = 0x00010000;
      trusted = 1;
      agents = codes "ap" ∷ codes "modem" ∷ [];
      domains =
          record {
            name = codes "cpu";
            on = false;
            synchronous = true;
            asynchronous = true;
            notify = true;
          }
          ∷ record {
            name = codes "gpu";
            on = true;
            synchronous = true;
            asynchronous = false;
            notify = false;
          }
          ∷ record {
            name = codes "usb";
            on = false;
            synchronous = false;
            asynchronous = true;
            notify = true;
          } ∷ [];
      clocks =
          record {
            name = codes "core";
            enabled = true;
            rate = 100;
            rates = rates.list (100 ∷ 200 ∷ 300 ∷ []);
          }
          ∷ record {
            name = codes "bus";
            enabled = false;
            rate = 1000;
            rates = rates.steps 1000 4000 500;
          }
          ∷ record {
            name = codes "pix";
            enabled = true;
            rate = 1;
            rates = rates.list (1 ∷ 2 ∷ 3 ∷ 4
                ∷ 5 ∷ 6 ∷ 7 ∷ 8 ∷ 9 ∷ 10 ∷ 11 ∷ 12 ∷ 13 ∷ 14 ∷ 15 ∷ 16 ∷ 17 ∷ 18 ∷ 19 ∷ 20 ∷ []);
          }
          ∷ [];
      devices = record { domains = 1; clocks = 1 } ∷ record { domains = 2; clocks = 0 } ∷ [];
      channels = replicate AGENTS whole_channel;
      kept = nothing_held;
      denied = nothing_denied;
      absent = nothing_held;
      free = 0;
      protocols = own_protocols;
      loose = false;
    }

-- the same board with two devices that both hold the first domain
abbrev pub board_of_two_holders : Board
board_of_two_holders = record board_b
    { devices = record { domains = 1; clocks = 0 } ∷ record { domains = 1; clocks = 0 } ∷ [] }
