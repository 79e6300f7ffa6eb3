use Rattle.std.proofs.Common.{◌≡◌}
use Rattle.scmi_decode.specs.DumpEnd.{copies}
use Rattle.scmi_decode.proofs.dump_end.repeated.copies.Given as goal

abbrev pub invariant-copies : goal.invariant-copies
invariant-copies l = l.all.items ≡ copies l.counter l.row
