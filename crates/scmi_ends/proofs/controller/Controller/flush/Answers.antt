use Rattle.std.proofs.Common.{◌≡◌, ◌<◌, ◌-◌, length, map, ap, arith, ◌∙◌, slice_set}
use Rattle.std.proofs.lemmas.List.{length-map}
use Rattle.scmi_core.specs.Driven.{asks}
use Rattle.scmi_ends.specs.Agreement.{EndsAgree}
use Rattle.scmi_ends.specs.Flush.{CollectsAndFlushes}
use Rattle.scmi_ends.proofs.Lists.{map_same, name_at}
use Rattle.scmi_ends.proofs.AgreementLemmas.{agrees_flush}
use Rattle.scmi_ends.proofs.Places.{flushes}
use Rattle.scmi_ends.proofs.PlainCalls.{flushed_asks}
use Rattle.scmi_ends.proofs.controller.Controller.flush.Goals as goal
use Rattle.scmi_ends.proofs.controller.Controller.flush.Goals.{After-index_mut, After-flush_one}

within : (g : _) (c : After-index_mut g) → c.args.agent - 1 < length c.self.inside.callers.items
within g c = omega (
  arith,
  length-map c.self.inside.callers.items g.C.Channel.caller_view,
  c.self.invariant.callers_count,
  c.in_ok-reserve_for.ensures.agent,
)

names : (g : _) (c : After-index_mut g) → map g.C.Channel.caller_identity
    c.self.inside.callers.items ≡ map (λ l. g.C.Channel.identity l.p2a) c.args.links.now
names g c = ap (λ v. v.p2a_identities) c.self.view_is ∙ c.requires.of_p2a

board : (g : _) (c : After-flush_one g) → c.flush_one.new.core.board ≡ c.self.inside.core.board
board g c = c.flush_one.ensures.board ∙ c.reserve_for.ensures.board

step : (g : _) (c : After-flush_one g)
    → CollectsAndFlushes g.C.Channel.FULL c.self.inside.core.board c.args.agent
    c.self.inside.core.history (g.C.Channel.caller_view c.index_mut.result.now) c.flush_one.result
    c.flush_one.new.core.history (g.C.Channel.caller_view c.flush_one.new.caller)
step g c =
    rw (c.reserve_for.ensures.board, c.reserve_for.ensures.history) at c.flush_one.ensures.step

keeps : (g : _) (c : After-flush_one g) → EndsAgree c.flush_one.new.core.board
    c.flush_one.new.core.history (map g.C.Channel.callee_view c.self.inside.callees.items)
    (map g.C.Channel.caller_view (slice_set c.self.inside.callers.items
    (c.args.agent - 1) c.flush_one.new.caller)) c.self.inside.closed_at.items
keeps g c = rw (board g c) (agrees_flush g.C.Channel.caller_view c.self.inside.core.board
    c.args.agent (c.args.agent - 1) (map g.C.Channel.callee_view c.self.inside.callees.items)
    c.self.inside.callers.items c.self.inside.closed_at.items c.index_mut.result.now
    c.flush_one.new.caller c.self.inside.core.history
    (omega (arith, c.in_ok-reserve_for.ensures.agent)) (within g c.before.before)
    c.index_mut.ensures.value c.self.invariant g.C.Channel.FULL c.flush_one.new.core.history
    c.flush_one.result (rw (board g c) at c.flush_one.ensures.legal) (step g c))

pub flush_one-requires-clause-identity : goal.flush_one-requires-clause-identity
flush_one-requires-clause-identity g c κs inside = name_at g.C.Channel.caller_identity
    (λ l. g.C.Channel.identity l.p2a) c.self.inside.callers.items c.args.links.now
    (c.args.agent - 1) c.index_mut.result.now c.index-links-index.result (names g c.before)
    (within g c.before) c.index_mut.ensures.value

pub invariant_of-self-2 : goal.invariant_of-self-2
invariant_of-self-2 g c = keeps g (goal.at.invariant_of-self-2 g c).After-flush_one

pub returns-clause-agrees : goal.returns-clause-agrees
returns-clause-agrees g c = keeps g (goal.at.returns-clause-agrees g c).After-flush_one

pub returns-clause-links : goal.returns-clause-links
returns-clause-links g c = let at = (goal.at.returns-clause-links g c).After-index_mut in record {
  of_a2p = ap (λ v. v.a2p_identities) c.self.view_is ∙ c.requires.of_a2p;
  of_p2a = map_same g.C.Channel.caller_identity c.self.inside.callers.items
      (c.args.agent - 1) c.index_mut.result.now c.flush_one.new.caller
      (within g at) c.index_mut.ensures.value c.flush_one.ensures.identity ∙ names g at;
}

pub returns-clause-flushes : goal.returns-clause-flushes
returns-clause-flushes g c = let at = (goal.at.returns-clause-flushes g c).After-index_mut in
    rw (← c.self.view_is) (flushes g.C.Channel.caller_view c.self.inside.callers.items
    c.args.agent c.index_mut.result.now c.flush_one.new.caller c.self.inside.core.board
    c.flush_one.new.core.board c.self.inside.core.history c.flush_one.new.core.history
    _ _ _ _ _ _ _ (within g at) c.index_mut.ensures.value
    (board g (goal.at.returns-clause-flushes g c).After-flush_one)
    (map_same g.C.Channel.caller_identity c.self.inside.callers.items
    (c.args.agent - 1) c.index_mut.result.now c.flush_one.new.caller
    (within g at) c.index_mut.ensures.value c.flush_one.ensures.identity)
    g.C.Channel.FULL c.flush_one.result
    (step g (goal.at.returns-clause-flushes g c).After-flush_one))

pub returns-clause-made : goal.returns-clause-made
returns-clause-made g c = let at = (goal.at.returns-clause-made g c).After-flush_one in
    ap (λ board. asks board c.flush_one.new.core.history) (board g at)
    ∙ flushed_asks g.C.Channel.FULL c.self.inside.core.board c.args.agent c.self.inside.core.history
    c.flush_one.new.core.history _ _ c.flush_one.result (step g at).step
    ∙ ap (λ v. asks v.board v.history) c.self.view_is
