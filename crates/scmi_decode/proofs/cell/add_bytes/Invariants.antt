use Rattle.std.proofs.Common.{◌≡◌, ◌++◌, if◌then◌else◌, false, true, reverse, take}
use Rattle.scmi_decode.specs.Cell.{bytes_in}
use Rattle.scmi_decode.proofs.cell.add_bytes.Given as goal

abbrev pub invariant-bytes : goal.invariant-bytes
invariant-bytes l = record {
  straight : bytes_in false l.cells.items ≡ bytes_in false l.initial.cells.items
      ++ take l.place (if l.is_number then reverse l.bytes else l.bytes);
  turned : bytes_in true l.cells.items
      ≡ bytes_in true l.initial.cells.items ++ take l.place (reverse l.bytes);
}
