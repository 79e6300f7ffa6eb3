use Rattle.scmi_ends.specs.Links.{HasLinks}
use Rattle.scmi_tests.proofs.lives.serve_until_done.Given as goal

abbrev pub invariant-turns : goal.invariant-turns
invariant-turns g l = HasLinks g.C.Channel.identity l.links l.platform
