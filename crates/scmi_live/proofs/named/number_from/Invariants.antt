use Rattle.std.proofs.Common.{◌≡◌, map, length}
use Rattle.scmi_live.specs.Names.{number_from}
use Rattle.scmi_live.proofs.named.number_from.Given as goal

abbrev pub invariant-loop-all : goal.invariant-loop-all
invariant-loop-all g l = number_from l.first l.text (map g.N.Named.name l.all)
    ≡ number_from l.initial.first l.text (map g.N.Named.name l.initial.all)

abbrev pub decreases-loop-all : goal.decreases-loop-all
decreases-loop-all g l = length l.all
