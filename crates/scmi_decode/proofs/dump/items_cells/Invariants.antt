use Rattle.std.proofs.Common.{◌≡◌, false, map, Some, take, true}
use Rattle.scmi_decode.specs.Cell.{bytes_in}
use Rattle.scmi_decode.specs.Dump.{items_bytes}
use Rattle.scmi_decode.proofs.dump.items_cells.Given as goal

abbrev pub invariant-items : goal.invariant-items
invariant-items l = record {
  straight : items_bytes false (map (λ item. item.now) (take l.item-index l.items))
      ≡ Some (bytes_in false l.cells.items);
  turned : items_bytes true (map (λ item. item.now) (take l.item-index l.items))
      ≡ Some (bytes_in true l.cells.items);
}
