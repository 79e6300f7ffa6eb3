use Rattle.std.proofs.Common.{◌≡◌, ◌++◌, drop, false, length, take, true}
use Rattle.scmi_decode.specs.Cell.{bytes_in, cells_of}
use Rattle.scmi_decode.proofs.cell.show.Given as goal

abbrev pub invariant-cells : goal.invariant-cells
invariant-cells l = record {
  all : take l.place l.cells.items ++ cells_of (bytes_in false (drop l.place l.cells.items))
      (bytes_in true (drop l.place l.cells.items)) l.rest
      ≡ cells_of (bytes_in false l.initial.cells.items)
      (bytes_in true l.initial.cells.items) l.shown;
  same : length l.cells.items ≡ length l.initial.cells.items;
}
