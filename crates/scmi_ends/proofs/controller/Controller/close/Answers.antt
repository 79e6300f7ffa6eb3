use Rattle.std.proofs.Common.{◌≡◌, ◌<◌, ◌-◌, length, map, get_or, ap, arith, ◌∙◌, sym, slice_set, Some, None}
use Rattle.std.specs.Option.{option_or}
use Rattle.std.proofs.lemmas.List.{length-map}
use Rattle.scmi_ends.specs.Agreement.{EndsAgree}
use Rattle.scmi_ends.proofs.Lists.{map_same, name_at}
use Rattle.scmi_ends.proofs.AgreementLemmas.{agrees_close, agrees_caller, shuts_posted, never_owes}
use Rattle.scmi_ends.proofs.Places.{item_at, shuts}
use Rattle.scmi_ends.proofs.controller.Controller.close.Goals as goal
use Rattle.scmi_ends.proofs.controller.Controller.close.Goals.{After-index_mut-2, After-shut_one}

within : (g : _) (c : After-index_mut-2 g) → c.args.agent - 1 < length c.self.inside.callees.items
within g c = omega (
  arith,
  length-map c.self.inside.callees.items g.C.Channel.callee_view,
  c.self.invariant.callees_count,
  c.is_no_agent.ensures.agent c.if-is_no_agent.false,
)

within_p2a : (g : _) (c : After-index_mut-2 g)
    → c.args.agent - 1 < length c.self.inside.callers.items
within_p2a g c = omega (
  arith,
  length-map c.self.inside.callers.items g.C.Channel.caller_view,
  c.self.invariant.callers_count,
  c.is_no_agent.ensures.agent c.if-is_no_agent.false,
)

names : (g : _) (c : After-index_mut-2 g) → map g.C.Channel.callee_identity
    c.self.inside.callees.items ≡ map (λ l. g.C.Channel.identity l.a2p) c.args.links.now
names g c = ap (λ v. v.a2p_identities) c.self.view_is ∙ c.requires.of_a2p

names_p2a : (g : _) (c : After-index_mut-2 g) → map g.C.Channel.caller_identity
    c.self.inside.callers.items ≡ map (λ l. g.C.Channel.identity l.p2a) c.args.links.now
names_p2a g c = ap (λ v. v.p2a_identities) c.self.view_is ∙ c.requires.of_p2a

within_places : (g : _) (c : After-index_mut-2 g)
    → c.args.agent - 1 < length c.self.inside.closed_at.items
within_places g c = omega
    (arith, c.self.invariant.closed_at_count, c.is_no_agent.ensures.agent c.if-is_no_agent.false)

-- the close is noted, if it is the first
noted : (g : _) (c : After-shut_one g) → c.shut_one.new.closed_at
    ≡ option_or c.index_mut-3.result.now (Some (length c.self.inside.core.history))
noted g c = c.shut_one.ensures.closed_at ∙ ap (λ n. option_or c.index_mut-3.result.now (Some n))
    (c.len-events.ensures ∙ ap length c.trace.ensures.events)

noted_here : (g : _) (c : After-shut_one g) → c.shut_one.new.closed_at
    ≡ option_or (get_or c.self.inside.closed_at.items (c.args.agent - 1) None)
    (Some (length c.self.inside.core.history))
noted_here g c = noted g c ∙ ap (λ p. option_or p (Some (length c.self.inside.core.history)))
    (sym (item_at c.self.inside.closed_at.items (c.args.agent - 1) c.index_mut-3.result.now None
    (within_places g c.before.before.before) c.index_mut-3.ensures.value))

keeps : (g : _) (c : After-shut_one g)
    → EndsAgree c.self.inside.core.board c.self.inside.core.history (map g.C.Channel.callee_view
    (slice_set c.self.inside.callees.items (c.args.agent - 1) c.shut_one.new.callee))
    (map g.C.Channel.caller_view
    (slice_set c.self.inside.callers.items (c.args.agent - 1) c.shut_one.new.caller))
    (slice_set c.self.inside.closed_at.items (c.args.agent - 1) c.shut_one.new.closed_at)
keeps g c =
    let i = c.args.agent - 1 in
    let callees = map g.C.Channel.callee_view
    (slice_set c.self.inside.callees.items i c.shut_one.new.callee) in
    let places = slice_set c.self.inside.closed_at.items i c.shut_one.new.closed_at in
    let closed = agrees_close
    g.C.Channel.callee_view c.self.inside.core.board c.args.agent i c.self.inside.callees.items
    (map g.C.Channel.caller_view c.self.inside.callers.items) c.self.inside.closed_at.items
    c.index_mut.result.now c.shut_one.new.callee c.self.inside.core.history (omega (
      arith,
      c.is_no_agent.ensures.agent c.if-is_no_agent.false,
    )) (within g c.before.before.before)
    c.index_mut.ensures.value c.self.invariant c.shut_one.ensures.closes in
    agrees_caller g.C.Channel.caller_view c.self.inside.core.board c.args.agent i callees
    c.self.inside.callers.items places
    c.index_mut-2.result.now c.shut_one.new.caller c.self.inside.core.history
    (omega (arith, c.is_no_agent.ensures.agent c.if-is_no_agent.false))
    (within_p2a g c.before.before.before) c.index_mut-2.ensures.value
    (rw (noted_here g c) closed)
    (shuts_posted _ _ c.shut_one.result _ c.shut_one.ensures.step)

pub shut_one-requires-clause-a2p : goal.shut_one-requires-clause-a2p
shut_one-requires-clause-a2p g c κs inside = name_at g.C.Channel.callee_identity
    (λ l. g.C.Channel.identity l.a2p) c.self.inside.callees.items c.args.links.now
    (c.args.agent - 1) c.index_mut.result.now c.index-links-index.result
    (names g c.before.before) (within g c.before.before) c.index_mut.ensures.value
    ∙ sym (ap (λ l. g.C.Channel.identity l.a2p) c.index-links-index.is)

pub shut_one-requires-clause-p2a : goal.shut_one-requires-clause-p2a
shut_one-requires-clause-p2a g c κs inside = name_at g.C.Channel.caller_identity
    (λ l. g.C.Channel.identity l.p2a) c.self.inside.callers.items c.args.links.now
    (c.args.agent - 1) c.index_mut-2.result.now c.index-links-index.result
    (names_p2a g c.before.before) (within_p2a g c.before.before) c.index_mut-2.ensures.value
    ∙ sym (ap (λ l. g.C.Channel.identity l.p2a) c.index-links-index.is)

pub shut_one-requires-clause-owes : goal.shut_one-requires-clause-owes
shut_one-requires-clause-owes g c κs inside =
    never_owes g.C.Channel.callee_view c.self.inside.core.board c.args.agent (c.args.agent - 1)
    c.self.inside.callees.items _ _ c.index_mut.result.now c.self.inside.core.history
    (omega (arith, c.is_no_agent.ensures.agent c.if-is_no_agent.false))
    (within g c.before.before) c.index_mut.ensures.value c.self.invariant

pub invariant_of-self : goal.invariant_of-self
invariant_of-self g c = keeps g (goal.at.invariant_of-self g c).After-shut_one

pub returns-clause-agrees : goal.returns-clause-agrees
returns-clause-agrees g c = keeps g (goal.at.returns-clause-agrees g c).After-shut_one

pub returns-clause-links : goal.returns-clause-links
returns-clause-links g c = let at = (goal.at.returns-clause-links g c).After-index_mut-2 in record {
  of_a2p = map_same g.C.Channel.callee_identity c.self.inside.callees.items
      (c.args.agent - 1) c.index_mut.result.now c.shut_one.new.callee
      (within g at) c.index_mut.ensures.value c.shut_one.ensures.a2p ∙ names g at;
  of_p2a = map_same g.C.Channel.caller_identity c.self.inside.callers.items
      (c.args.agent - 1) c.index_mut-2.result.now c.shut_one.new.caller
      (within_p2a g at) c.index_mut-2.ensures.value c.shut_one.ensures.p2a ∙ names_p2a g at;
}

pub returns-clause-shuts : goal.returns-clause-shuts
returns-clause-shuts g c = λ other. let at = (goal.at.returns-clause-shuts g c).After-index_mut-2 in
    rw (← c.self.view_is) (shuts g.C.Channel.caller_view
    g.C.Channel.callee_view c.self.inside.callers.items c.self.inside.callees.items c.args.agent
    c.index_mut-2.result.now c.shut_one.new.caller c.index_mut.result.now c.shut_one.new.callee
    c.self.inside.core.board c.self.inside.core.history
    _ _ _ _ _
    (within_p2a g at) c.index_mut-2.ensures.value
    (map_same g.C.Channel.caller_identity c.self.inside.callers.items
    (c.args.agent - 1) c.index_mut-2.result.now c.shut_one.new.caller
    (within_p2a g at) c.index_mut-2.ensures.value c.shut_one.ensures.p2a)
    (within g at) c.index_mut.ensures.value
    (map_same g.C.Channel.callee_identity c.self.inside.callees.items
    (c.args.agent - 1) c.index_mut.result.now c.shut_one.new.callee
    (within g at) c.index_mut.ensures.value c.shut_one.ensures.a2p)
    c.shut_one.ensures.closes
    c.self.inside.closed_at.items c.index_mut-3.result.now c.shut_one.new.closed_at (within_places g
    at) c.index_mut-3.ensures.value (noted g (goal.at.returns-clause-shuts g c).After-shut_one)
    _ c.shut_one.result c.shut_one.ensures.step)
