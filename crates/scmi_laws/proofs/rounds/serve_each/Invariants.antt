use Rattle.std.proofs.Common.{◌≡◌, ℕ, ◌<◌, ◌≤◌, List}
use Rattle.scmi_core.specs.Asked.{Asked}
use Rattle.scmi_core.specs.Driven.{HasMade}
use Rattle.scmi_ends.specs.Agreement.{IsInStep}
use Rattle.scmi_ends.specs.ControllerView.{callee_of}
use Rattle.scmi_ends.specs.Links.{HasLinks}
use Rattle.scmi_laws.specs.Round.{AddsAtMostOneEach, IsCommand, IsServedOnce}
use Rattle.scmi_laws.proofs.rounds.serve_each.Given as goal

abbrev pub invariant-served : goal.invariant-served
invariant-served g l = record {
  links : HasLinks g.C.Channel.identity l.links l.platform;
  agrees : 1 < l.agent → IsInStep l.platform;
  board : l.platform.board ≡ l.fn.platform.board;
  callers : l.platform.callers ≡ l.fn.platform.callers;
  made : (before : List Asked)
      → HasMade before l.fn.platform.board l.fn.platform.history (g.H.Hardware.asked l.fn.hardware)
      → HasMade before l.platform.board l.platform.history (g.H.Hardware.asked l.hardware);
  commands : AddsAtMostOneEach IsCommand l.agent l.fn.platform.history l.platform.history;
  answered : (a : ℕ) → 1 ≤ a → a < l.agent
      → IsServedOnce (callee_of l.fn.platform a) (callee_of l.platform a);
  others : (a : ℕ) → l.agent ≤ a → callee_of l.platform a ≡ callee_of l.fn.platform a;
}
