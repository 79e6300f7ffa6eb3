use Rattle.std.proofs.Common.{◌≡◌, ◌<◌, ◌-◌, length, map, ap, arith, ◌∙◌, slice_set}
use Rattle.std.proofs.lemmas.List.{length-map}
use Rattle.scmi_ends.specs.Agreement.{EndsAgree}
use Rattle.scmi_ends.specs.Serve.{ServesOne}
use Rattle.scmi_ends.proofs.Lists.{map_same, name_at}
use Rattle.scmi_ends.proofs.AgreementLemmas.{agrees_serve}
use Rattle.scmi_ends.proofs.Places.{serves}
use Rattle.scmi_ends.proofs.controller.Controller.serve.Goals as goal
use Rattle.scmi_ends.proofs.controller.Controller.serve.Goals.{After-index_mut, After-serve_one}

within : (g : _) (c : After-index_mut g) → c.args.agent - 1 < length c.self.inside.callees.items
within g c = omega (
  arith,
  length-map c.self.inside.callees.items g.C.Channel.callee_view,
  c.self.invariant.callees_count,
  c.in_ok-reserve_for.ensures.agent,
)

names : (g : _) (c : After-index_mut g) → map g.C.Channel.callee_identity
    c.self.inside.callees.items ≡ map (λ l. g.C.Channel.identity l.a2p) c.args.links.now
names g c = ap (λ v. v.a2p_identities) c.self.view_is ∙ c.requires.of_a2p

board : (g : _) (c : After-serve_one g) → c.serve_one.new.core.board ≡ c.self.inside.core.board
board g c = c.serve_one.ensures.board ∙ c.reserve_for.ensures.board

step : (g : _) (c : After-serve_one g) → ServesOne c.self.inside.core.board c.args.agent
    c.self.inside.core.history (g.C.Channel.callee_view c.index_mut.result.now) c.serve_one.result
    c.serve_one.new.core.history (g.C.Channel.callee_view c.serve_one.new.callee)
step g c =
    rw (c.reserve_for.ensures.board, c.reserve_for.ensures.history) at c.serve_one.ensures.step

keeps : (g : _) (c : After-serve_one g)
    → EndsAgree c.serve_one.new.core.board c.serve_one.new.core.history (map g.C.Channel.callee_view
    (slice_set c.self.inside.callees.items (c.args.agent - 1) c.serve_one.new.callee))
    (map g.C.Channel.caller_view c.self.inside.callers.items) c.self.inside.closed_at.items
keeps g c = rw (board g c) (agrees_serve g.C.Channel.callee_view
    c.self.inside.core.board c.args.agent (c.args.agent - 1) c.self.inside.callees.items
    (map g.C.Channel.caller_view c.self.inside.callers.items) c.self.inside.closed_at.items
    c.index_mut.result.now c.serve_one.new.callee c.self.inside.core.history
    (omega (arith, c.in_ok-reserve_for.ensures.agent)) (within g c.before.before)
    c.index_mut.ensures.value c.self.invariant c.serve_one.new.core.history c.serve_one.result
    (rw (board g c) at c.serve_one.ensures.legal) (step g c))

pub serve_one-requires-clause-identity : goal.serve_one-requires-clause-identity
serve_one-requires-clause-identity g c κs inside = name_at g.C.Channel.callee_identity
    (λ l. g.C.Channel.identity l.a2p) c.self.inside.callees.items c.args.links.now
    (c.args.agent - 1) c.index_mut.result.now c.index-links-index.result (names g c.before)
    (within g c.before) c.index_mut.ensures.value

pub invariant_of-self-2 : goal.invariant_of-self-2
invariant_of-self-2 g c = keeps g (goal.at.invariant_of-self-2 g c).After-serve_one

pub returns-clause-agrees : goal.returns-clause-agrees
returns-clause-agrees g c = keeps g (goal.at.returns-clause-agrees g c).After-serve_one

pub returns-clause-links : goal.returns-clause-links
returns-clause-links g c = record {
  of_a2p = map_same g.C.Channel.callee_identity c.self.inside.callees.items
      (c.args.agent - 1) c.index_mut.result.now c.serve_one.new.callee
      (within g (goal.at.returns-clause-links g c).After-index_mut) c.index_mut.ensures.value
      c.serve_one.ensures.identity ∙ names g (goal.at.returns-clause-links g c).After-index_mut;
  of_p2a = ap (λ v. v.p2a_identities) c.self.view_is ∙ c.requires.of_p2a;
}

pub returns-clause-serves : goal.returns-clause-serves
returns-clause-serves g c =
    rw (← c.self.view_is) (serves g.C.Channel.callee_view c.self.inside.callees.items
    c.args.agent c.index_mut.result.now c.serve_one.new.callee c.self.inside.core.board
    c.serve_one.new.core.board c.self.inside.core.history c.serve_one.new.core.history
    _ _ _ _ _ _ _ (within g (goal.at.returns-clause-serves g c).After-index_mut)
    c.index_mut.ensures.value (board g (goal.at.returns-clause-serves g c).After-serve_one)
    (map_same g.C.Channel.callee_identity c.self.inside.callees.items (c.args.agent - 1)
    c.index_mut.result.now c.serve_one.new.callee (within g (goal.at.returns-clause-serves g
    c).After-index_mut) c.index_mut.ensures.value c.serve_one.ensures.identity)
    c.serve_one.result (step g (goal.at.returns-clause-serves g c).After-serve_one))
