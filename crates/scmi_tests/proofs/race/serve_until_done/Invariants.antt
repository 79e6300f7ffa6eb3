use Rattle.scmi_ends.specs.Links.{HasLinks}
use Rattle.scmi_tests.proofs.race.serve_until_done.Given as goal

abbrev pub invariant-turns : goal.invariant-turns
invariant-turns g l = record {
  links : HasLinks g.C.Channel.identity l.links l.controller;
}
