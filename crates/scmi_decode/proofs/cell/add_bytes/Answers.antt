use Rattle.std.proofs.Common.{◌∙◌, ◌<◌, false, length, reverse, sym, true}
use Rattle.std.proofs.lemmas.List as list
use Rattle.scmi_decode.proofs.Items as items
use Rattle.scmi_decode.proofs.cell.add_bytes.Goals as goal
use Rattle.scmi_decode.proofs.cell.add_bytes.Goals.{then-is_number, else-is_number}

pub bytes-preserved : goal.bytes-preserved
bytes-preserved c =
    let more = c.bytes-test.true in
    let turned = list.get_or-reverse c.args.bytes.now c.bytes.place 0 more in
    let back : c.bytes.place < length (reverse c.args.bytes.now) = rw (list.length-reverse) more in
    record {
      straight = elim c.if-is_number.branch [
        | then-is_number w ↦ rw w.if-is_number.true (items.cell_more false c.bytes.cells.items _ _ _
            (reverse c.args.bytes.now) c.bytes.place back c.in_ok-push.ensures.items
            (w.straight-is ∙ sym turned) (rw w.if-is_number.true at c.bytes.invariant.straight))
        | else-is_number w ↦ rw w.if-is_number.false (items.cell_more false c.bytes.cells.items
            _ _ _ c.args.bytes.now c.bytes.place more c.in_ok-push.ensures.items w.straight-is
            (rw w.if-is_number.false at c.bytes.invariant.straight))
      ];
      turned = items.cell_more true c.bytes.cells.items _ _ _ (reverse c.args.bytes.now)
          c.bytes.place back c.in_ok-push.ensures.items (sym turned) c.bytes.invariant.turned;
    }
