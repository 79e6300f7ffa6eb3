use Rattle.std.proofs.Common.{◌≡◌, map, length}
use Rattle.scmi_text.specs.WordRow.{said, form_in}
use Rattle.scmi_text.proofs.word_row.form_in.Given as goal

abbrev pub invariant-loop-rows : goal.invariant-loop-rows
invariant-loop-rows g l =
    form_in l.word (map said l.rows) ≡ form_in l.word (map said l.initial.rows)

abbrev pub decreases-loop-rows : goal.decreases-loop-rows
decreases-loop-rows g l = length l.rows
