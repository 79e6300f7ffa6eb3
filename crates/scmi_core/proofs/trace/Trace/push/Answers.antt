use Rattle.std.proofs.Common.{◌≡◌, ◌+◌, ◌++◌, ◌∷◌, [], length, ap, sym, subst, ◌∙◌, arith}
use Rattle.std.proofs.lemmas.List.{append_assoc, length-append}
use Rattle.scmi_core.specs.Mark.{mark_of}
use Rattle.scmi_core.specs.Trace.{AreEvents, event_of, events_of, payload_count}
use Rattle.scmi_core.proofs.Traces.{AreEvents-length, AreEvents-push, events_of-push}
use Rattle.scmi_core.proofs.trace.Trace.push.Goals as goal

pub invariant_of-self : goal.invariant_of-self
invariant_of-self c =
    let words = c.self.inside.words.items in
    let added = c.pack.result ∷ c.args.size ∷ c.args.header ∷ [] in
    let items = c.append_payload.ensures.items ∙ ap (λ l. l ++ c.args.payload.now)
    c.append_head.ensures.items ∙ append_assoc words added c.args.payload.now in
    let is : length c.args.payload.now ≡ payload_count (mark_of c.pack.result) c.args.size =
    subst (λ m. length c.args.payload.now ≡ payload_count m c.args.size)
    (sym c.pack.ensures.back) c.requires.count in
    subst (AreEvents (c.self.inside.count + 1)) (sym items)
    (AreEvents-push c.pack.result c.args.size c.args.header c.args.payload.now is
    c.self.inside.count words c.requires.few c.self.invariant)

pub overflow_add-self : goal.overflow_add-self
overflow_add-self c =
    let least = AreEvents-length c.self.inside.count c.self.inside.words.items c.self.invariant in
    let more = ap length c.append_head.ensures.items ∙ length-append c.self.inside.words.items
    (c.pack.result ∷ c.args.size ∷ c.args.header ∷ []) in
    let few = c.append_head.ensures.few in
    omega (arith, least, more, few)

pub returns-clause-events : goal.returns-clause-events
returns-clause-events c =
    let words = c.self.inside.words.items in
    let added = c.pack.result ∷ c.args.size ∷ c.args.header ∷ [] in
    let items = c.append_payload.ensures.items ∙ ap (λ l. l ++ c.args.payload.now)
    c.append_head.ensures.items ∙ append_assoc words added c.args.payload.now in
    let is : length c.args.payload.now ≡ payload_count (mark_of c.pack.result) c.args.size =
    subst (λ m. length c.args.payload.now ≡ payload_count m c.args.size)
    (sym c.pack.ensures.back) c.requires.count in
    ap (events_of (c.self.inside.count + 1)) items
    ∙ events_of-push c.pack.result c.args.size c.args.header c.args.payload.now is
    c.self.inside.count words c.self.invariant
    ∙ ap (λ m. events_of c.self.inside.count words
    ++ event_of m c.args.size c.args.header c.args.payload.now ∷ []) c.pack.ensures.back
    ∙ ap (λ t. t.events ++ event_of c.args.mark c.args.size c.args.header c.args.payload.now ∷ [])
    c.self.view_is
