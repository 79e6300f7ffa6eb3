-- Worked examples of tables, computed from the definitions alone.
use Rattle.std.proofs.Common.{◌≡◌, ℕ, ◌-◌, ◌+◌, true, false, List, [], ◌∷◌, ◌++◌, length, replicate, codes, Ok, Err, IfOk, refl}
use Rattle.scmi_plan.specs.Board.{own_protocols, whole_channel}
use Rattle.scmi_plan.specs.Rates as rates
use Rattle.scmi_c.specs.Tables.{BoardTables, board_of_tables, is_well_formed, tables_given}
use Rattle.scmi_c.specs.declared.code.TheConstants.{RULE, TABLE}
use Rattle.scmi_c.specs.declared.rows.AgentRow.{AgentRow}
use Rattle.scmi_c.specs.declared.rows.ClockRow.{ClockRow}
use Rattle.scmi_c.specs.declared.rows.DeviceRow.{DeviceRow}
use Rattle.scmi_c.specs.declared.rows.DomainRow.{DomainRow}
use Rattle.scmi_c.specs.declared.rows.HeadingRow.{HeadingRow}

-- a name in its sixteen bytes
abbrev name : List ℕ → List ℕ
name text = text ++ replicate (16 - length text) 0

abbrev heading : HeadingRow
heading =
    record {
      vendor = name (codes "Acme");
      sub_vendor = name (codes "Phone");
      version = 0x10000;
      trusted = 1;
      protocols = name (0x11 ∷ 0x14 ∷ 0x80 ∷ []);
      loose = 0;
    }

abbrev ap : AgentRow
ap = record {
  name = name (codes "ap");
  bytes = 0;
  one_way = 0;
  pending = 0;
  denied = 0;
  denied_power = 0;
  denied_clocks = 0;
}

-- 8 words of payload, and no way back; 2 of the pending sets; device 1 is denied as a whole, device
-- 0 for power, both for clocks
abbrev modem : AgentRow
modem = record {
  name = name (codes "modem");
  bytes = 60;
  one_way = 1;
  pending = 2;
  denied = 2;
  denied_power = 1;
  denied_clocks = 3;
}

-- kept
abbrev cpu : DomainRow
cpu = record {
  name = name (codes "cpu");
  on = 1;
  synchronous = 1;
  asynchronous = 0;
  notify = 7;
  kept = 1;
  absent = 0;
}

-- two rates of the table, from its second on; it is not there
abbrev uart : ClockRow
uart = record {
  name = name (codes "uart");
  rate = 200;
  low = 0;
  high = 0;
  step = 0;
  first = 1;
  count = 2;
  enabled = 1;
  kept = 0;
  absent = 1;
  free = 0;
}

-- kept and free
abbrev bus : ClockRow
bus = record {
  name = name (codes "bus");
  rate = 1000;
  low = 1000;
  high = 5000;
  step = 1000;
  first = 9;
  count = 0;
  enabled = 0;
  kept = 7;
  absent = 0;
  free = 1;
}

abbrev devices : List DeviceRow
devices = record { domains = 1; clocks = 2 } ∷ record { domains = 0; clocks = 1 } ∷ []

abbrev phone : List ℕ → BoardTables
phone table = tables_given heading (ap ∷ modem ∷ []) (cpu ∷ []) (uart ∷ bus ∷ []) table devices

-- the board of one agent, which is this one
abbrev alone : AgentRow → BoardTables
alone agent = tables_given heading (agent ∷ []) (cpu ∷ []) (bus ∷ []) []
    (record { domains = 1; clocks = 1 } ∷ [])

-- the board, with its channels, what is kept, what is denied, what is not there, and what is free
of-phone : board_of_tables (phone (100 ∷ 200 ∷ 400 ∷ [])) ≡ Ok (record {
  vendor = codes "Acme";
  sub_vendor = codes "Phone";
  version = 0x10000;
  trusted = 1;
  agents = codes "ap" ∷ codes "modem" ∷ [];
  domains = record {
    name = codes "cpu";
    on = true;
    synchronous = true;
    asynchronous = false;
    notify = true;
  } ∷ [];
  clocks = record {
    name = codes "uart";
    enabled = true;
    rate = 200;
    rates = rates.list (200 ∷ 400 ∷ []);
  } ∷ record {
    name = codes "bus";
    enabled = false;
    rate = 1000;
    rates = rates.steps 1000 5000 1000;
  } ∷ [];
  devices = record { domains = 1; clocks = 2 } ∷ record { domains = 0; clocks = 1 } ∷ [];
  channels =
      whole_channel ∷ record { words = 8; one_way = true; share = 2 } ∷ replicate 6 whole_channel;
  kept = record { domains = 1; clocks = 2 };
  denied = record {
    devices = 0 ∷ 2 ∷ replicate 6 0;
    power = 0 ∷ 1 ∷ replicate 6 0;
    clocks = 0 ∷ 3 ∷ replicate 6 0;
  };
  absent = record { domains = 0; clocks = 1 };
  free = 2;
  protocols = 0x11 ∷ 0x14 ∷ 0x80 ∷ [];
  loose = false;
})
of-phone = refl

-- a board without clocks, one of which nothing is said, and one whose ids do not rise
abbrev of-ids : List ℕ → BoardTables
of-ids ids = tables_given (record heading { protocols = name ids }) (ap ∷ []) (cpu ∷ []) [] [] []

no-clocks : IfOk (board_of_tables (of-ids (0x11 ∷ []))) (λ board. board.protocols ≡ 0x11 ∷ [])
no-clocks = refl

no-ids : IfOk (board_of_tables (of-ids [])) (λ board. board.protocols ≡ own_protocols)
no-ids = refl

no-order : board_of_tables (of-ids (0x14 ∷ 0x11 ∷ [])) ≡ Err TABLE
no-order = refl

-- names with a space and without a byte, of the vendor, an agent and a domain, and a clock that
-- starts between two of its rates, on a board that is loose or not
abbrev spaced : ℕ → BoardTables
spaced loose =
    tables_given
    (record heading { vendor = name (codes "A B"); sub_vendor = name []; loose = loose })
    (record ap { name = name (codes " ap") } ∷ []) (record cpu { name = name [] } ∷ []) [] [] []

loose-names : IfOk (board_of_tables (spaced 1)) (λ board. board.vendor ≡ codes "A B")
loose-names = refl

no-loose-names : board_of_tables (spaced 0) ≡ Err (RULE + 2)
no-loose-names = refl

abbrev between : ℕ → BoardTables
between loose = tables_given (record heading { loose = loose }) (ap ∷ []) []
    (record uart { rate = 300 } ∷ []) (100 ∷ 200 ∷ 400 ∷ []) []

loose-start : IfOk (board_of_tables (between 1)) (λ board. board.loose ≡ true)
loose-start = refl

no-loose-start : board_of_tables (between 0) ≡ Err (RULE + 3)
no-loose-start = refl

-- no more than a name of 15 bytes, each printable or a space
of-sixteen : board_of_tables (tables_given
    (record heading { vendor = replicate 16 0x41; loose = 1 }) (ap ∷ []) [] [] [] []) ≡ Err TABLE
of-sixteen = refl

no-tab : board_of_tables (tables_given (record heading { vendor = name (9 ∷ []); loose = 1 })
    (ap ∷ []) [] [] [] []) ≡ Err (RULE + 2)
no-tab = refl

-- a table that ends before the list does
short-table : board_of_tables (phone (100 ∷ 200 ∷ [])) ≡ Err TABLE
short-table = refl

-- rates that do not rise
no-rise : board_of_tables (phone (100 ∷ 200 ∷ 200 ∷ [])) ≡ Err (RULE + 3)
no-rise = refl

-- an agent that may have all 8 of the pending sets, and one that may have 9
of-eight : is_well_formed (alone (record ap { pending = 8 })) ≡ true
of-eight = refl

of-nine : board_of_tables (alone (record ap { pending = 9 })) ≡ Err TABLE
of-nine = refl

-- a device that is denied, and one behind the last, for each protocol and as a whole
denied-device : is_well_formed
    (alone (record ap { denied = 1; denied_power = 1; denied_clocks = 1 })) ≡ true
denied-device = refl

no-device : board_of_tables (alone (record ap { denied = 2 })) ≡ Err TABLE
no-device = refl

no-device-for-power : board_of_tables (alone (record ap { denied_power = 2 })) ≡ Err TABLE
no-device-for-power = refl

no-device-for-clocks : board_of_tables (alone (record ap { denied_clocks = 2 })) ≡ Err TABLE
no-device-for-clocks = refl
