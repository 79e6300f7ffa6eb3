use Rattle.scmi_ends.specs.AgentView.{IsOfLink}
use Rattle.scmi_tests.proofs.lives.next_life.Given as goal

abbrev pub invariant-turns : goal.invariant-turns
invariant-turns g l =
    IsOfLink (g.C.Channel.identity l.link.a2p) (g.C.Channel.identity l.link.p2a) l.stays
