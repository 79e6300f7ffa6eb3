use Rattle.std.proofs.Common.{◌≡◌, map, take, length, string_bytes}
use Rattle.scmi_chart.specs.Shown.{head_of, heads_from}
use Rattle.scmi_chart.proofs.lifelines.lifelines_of.Given as goal

abbrev pub invariant-agents : goal.invariant-agents
invariant-agents l = record {
  count : length l.lifelines.items ≡ l.name-index;
  heads : map head_of l.lifelines.items
      ≡ heads_from 1 (map string_bytes (take l.name-index l.board.agents.items));
}
