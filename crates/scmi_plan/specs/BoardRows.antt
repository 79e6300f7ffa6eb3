-- The board of rows with valid names.
use Rattle.std.specs.Prelude.{◌≡◌, true, replicate}
use Rattle.std.specs.List.{All}
use Rattle.scmi_plan.specs.Board.{Board, IsNameOf, nothing_denied, nothing_held, own_protocols, whole_channel}
use Rattle.scmi_plan.specs.PlanError.{has_valid_counts}
use Rattle.scmi_plan.specs.declared.board_rows.BoardRows.TheInside.{Inside}
use Rattle.scmi_plan.specs.declared.limits.TheConstants.{AGENTS}

-- the board of rows: channels are whole, nothing is kept or denied, all is there, no clock is free,
-- and its protocols are power domains and clocks
abbrev pub board_of_rows : Inside → Board
board_of_rows rows =
    record {
      vendor = rows.vendor;
      sub_vendor = rows.sub_vendor;
      version = rows.version;
      trusted = rows.trusted;
      agents = rows.agents.items;
      domains = rows.domains.items;
      clocks = rows.clocks.items;
      devices = rows.devices.items;
      channels = replicate AGENTS whole_channel;
      kept = nothing_held;
      denied = nothing_denied;
      absent = nothing_held;
      free = 0;
      protocols = own_protocols;
      loose = rows.loose;
    }

-- each name of a board is one that it may have
pub record HasNames (board : Board) : Type 0 where
  pub vendor : IsNameOf board board.vendor
  pub sub_vendor : IsNameOf board board.sub_vendor
  pub agents : All (λ agent. IsNameOf board agent) board.agents
  pub domains : All (λ domain. IsNameOf board domain.name) board.domains
  pub clocks : All (λ clock. IsNameOf board clock.name) board.clocks

-- what rows keep: the board has a valid number of each kind, and each of its names is one
abbrev pub AreRows : Inside → Type 0
AreRows rows = (has_valid_counts (board_of_rows rows) ≡ true) × HasNames (board_of_rows rows)
