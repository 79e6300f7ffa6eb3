use Rattle.std.proofs.Common.{◌≡◌, ◌+◌, length, map, take, drop}
use Rattle.std.specs.List.{AllZip}
use Rattle.scmi_ends.specs.Each.{AllFrom}
use Rattle.scmi_ends.specs.AgentView.{IsNewAgent}
use Rattle.scmi_ends.specs.Links.{identities_of_a2p, identities_of_p2a}
use Rattle.scmi_threads.specs.ScriptRuns.{IsNewOnLink, IsStarted}
use Rattle.scmi_threads.proofs.starting.start_runs.Given as goal

abbrev pub invariant-links : goal.invariant-links
invariant-links g l = record {
  a2p : map (λ s. s.end.a2p_identity) l.script_runs.items
      ≡ identities_of_a2p g.C.Channel.identity (take l.i l.links);
  p2a : map (λ s. s.end.p2a_identity) l.script_runs.items
      ≡ identities_of_p2a g.C.Channel.identity (take l.i l.links);
  started : AllFrom (IsStarted l.scripts) 1 l.script_runs.items;
  count : length l.script_runs.items ≡ l.i;
  ids : AllFrom IsNewAgent (l.i + 1) l.ends.items;
  left : AllZip (λ k e. IsNewOnLink (g.C.Channel.identity k.a2p) (g.C.Channel.identity k.p2a) e)
      (drop l.i l.links) l.ends.items;
}
