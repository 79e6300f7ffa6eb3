use Rattle.std.proofs.Common.{rules, ◌≤◌, refl, ap, sym, subst, ◌∙◌, arith}
use Rattle.scmi_core.specs.Trace.{AreEvents, events_of}
use Rattle.scmi_core.proofs.Traces.{AreEvents-length, AreEvents-rest, events_of-first, events_of-none, first-within}
use Rattle.scmi_core.proofs.events.EventsIterator.next.Goals as goal

pub returns-then-self-eq0-clause-steps : goal.returns-then-self-eq0-clause-steps
returns-then-self-eq0-clause-steps c =
    let none = sym c.self.view_is
    ∙ events_of-none c.self.inside.count c.self.inside.words.now c.if-self-eq0.true in
    (none, none)

pub three_words-first-requires : goal.three_words-first-requires
three_words-first-requires c =
    let some = c.if-self-eq0.false in
    let all = AreEvents-length c.self.inside.count c.self.inside.words.now c.self.invariant in
    omega (arith, some, all)

pub split_at-requires : goal.split_at-requires
split_at-requires c =
    let t = c.three_words-first.result in
    let none = c.if-self-eq0.false in
    let some : 1 ≤ c.self.inside.count = omega (arith, none) in
    rw (c.payload_count.ensures, c.unpack-mark.ensures)
    (first-within c.self.inside.count t.0 t.1 t.2 t.3.now some
    (subst (AreEvents c.self.inside.count) c.three_words-first.ensures c.self.invariant)).1

pub event_of-requires-clause-few : goal.event_of-requires-clause-few
event_of-requires-clause-few c =
    let t = c.three_words-first.result in
    let none = c.if-self-eq0.false in
    let some : 1 ≤ c.self.inside.count = omega (arith, none) in
    rw (c.split_at.ensures.front_len, c.payload_count.ensures, c.unpack-mark.ensures)
    (first-within c.self.inside.count t.0 t.1 t.2 t.3.now some
    (subst (AreEvents c.self.inside.count) c.three_words-first.ensures c.self.invariant)).0

pub event_of-requires-clause-count : goal.event_of-requires-clause-count
event_of-requires-clause-count c =
    rw (c.split_at.ensures.front_len, c.payload_count.ensures, c.unpack-mark.ensures) refl

pub invariant_of-self : goal.invariant_of-self
invariant_of-self c =
    let t = c.three_words-first.result in
    let none = c.if-self-eq0.false in
    let some : 1 ≤ c.self.inside.count = omega (arith, none) in
    rw (c.split_at.ensures.back, c.payload_count.ensures, c.unpack-mark.ensures)
    (AreEvents-rest c.self.inside.count t.0 t.1 t.2 t.3.now some
    (subst (AreEvents c.self.inside.count) c.three_words-first.ensures c.self.invariant))

pub returns-clause-steps : goal.returns-clause-steps
returns-clause-steps c =
    let t = c.three_words-first.result in
    let none = c.if-self-eq0.false in
    let some : 1 ≤ c.self.inside.count = omega (arith, none) in
    rw (
      c.event_of.ensures,
      c.split_at.ensures.front,
      c.split_at.ensures.back,
      c.payload_count.ensures,
      c.unpack-mark.ensures,
    )
    (sym c.self.view_is ∙ ap (events_of c.self.inside.count) c.three_words-first.ensures
    ∙ events_of-first c.self.inside.count t.0 t.1 t.2 t.3.now some)

pub returns-clause-goes : goal.returns-clause-goes
returns-clause-goes c = rw (returns-clause-steps c) (search rules)
