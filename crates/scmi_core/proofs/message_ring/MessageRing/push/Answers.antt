use Rattle.std.proofs.Common.{◌<◌, List, [], ◌∷◌, ◌++◌, length, ap, ◌∙◌, arith}
use Rattle.scmi_codec.specs.declared.message.Message.{Message}
use Rattle.scmi_core.proofs.Windows.{length-window, window-push}
use Rattle.scmi_core.proofs.message_ring.MessageRing.push.Goals as goal

pub returns : goal.returns
returns c =
    let r = c.self.inside in
    let message : Message =
    record { header = c.args.header; payload = record { items = c.args.words.now } } in
    let old = length-window 16 r.oldest r.count r.slots c.self.invariant.0 c.self.invariant.1
    c.self.invariant.2 in
    let same = ap length c.self.view_is in
    let room : r.count < 16 = omega (arith, c.requires.room, old, same) in
    rw c.set.ensures
    (window-push 16 r.oldest r.count r.slots c.self.invariant.0 c.self.invariant.1
    c.self.invariant.2 message room
    ∙ ap (λ (xs : List Message). xs ++ message ∷ []) c.self.view_is)
