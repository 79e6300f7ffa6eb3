use Rattle.std.proofs.Common.{◌≡◌, List, ℕ, Some, Option, false, map, true}
use Rattle.scmi_decode.specs.Cell.{bytes_in}
use Rattle.scmi_decode.specs.Dump.{items_bytes}
use Rattle.scmi_decode.specs.WideRow.{is_wide_row}
use Rattle.scmi_decode.proofs.Items.{ordered-cells}
use Rattle.scmi_decode.proofs.message_line.own_bytes.Goals as goal

pub returns-in-Some : goal.returns-in-Some
returns-in-Some c =
    let items : List (List ℕ) = map (λ item. item.now) c.args.items.now in
    let wide : is_wide_row items ≡ false = cc in
    let straight : Some (bytes_in false c.in-Some.cells.items) ≡ items_bytes false items =
    rw c.in-Some.is at c.in_ok-cells.ensures.straight in
    let turned : Some (bytes_in true c.in-Some.cells.items) ≡ items_bytes true items =
    rw c.in-Some.is at c.in_ok-cells.ensures.turned in
    rw (
      wide,
      ← straight,
      ← turned,
      ordered-cells,
      ← c.own_order.ensures,
      ← c.as_slice.ensures.value,
    ) c.bytes_of_order.ensures
