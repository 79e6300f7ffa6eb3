use Rattle.std.proofs.Common.{◌≡◌, ◌<◌, ◌≤◌, ℕ, length, map, take, get_or, vec_len, vec_capacity}
use Rattle.scmi_plan.specs.Board.{IsNameIf}
use Rattle.scmi_c.specs.Tables.{domain_in, name_in}
use Rattle.scmi_c.specs.declared.rows.DomainRow.{DomainRow}
use Rattle.scmi_c.proofs.tabled.add_domains.Given as goal

abbrev pub invariant-loop-row : goal.invariant-loop-row
invariant-loop-row l = record {
  made : l.domains.items ≡ map domain_in (take l.row-index l.rows);
  named : (k : ℕ) (d : DomainRow) → k < l.row-index
      → IsNameIf l.loose (name_in (get_or l.rows k d).name);
  count : vec_len l.domains ≡ l.row-index;
  room : length l.rows ≤ vec_capacity l.domains;
}
