use Rattle.std.proofs.Common.{sym, ◌∙◌}
use Rattle.rtrb.specs.Ring.{known_items}
use Rattle.scmi_link.proofs.RingsAgree.{agree, closed_ends, at_start}
use Rattle.scmi_link.proofs.RingIdentities.{are_beside}
use Rattle.scmi_link.proofs.ring_channel.RingChannelChannel.gather.Goals as goal

pub slots_beside-requires : goal.slots_beside-requires
slots_beside-requires c =
    let p = c.args.caller in
    let q = c.args.callee in
    (are_beside p.rings q.rings p.identity.numbers q.identity.numbers p.identified q.identified
    (c.requires.caller ∙ sym c.requires.callee)).frames

pub slots_beside-requires-2 : goal.slots_beside-requires-2
slots_beside-requires-2 c =
    let p = c.args.caller in
    let q = c.args.callee in
    (are_beside p.rings q.rings p.identity.numbers q.identity.numbers p.identified q.identified
    (c.requires.caller ∙ sym c.requires.callee)).answers

pub returns-clause-agree : goal.returns-clause-agree
returns-clause-agree c =
    agree c.args.caller.rings c.args.callee.rings (known_items c.slots_beside.new.self)
    (known_items c.slots_beside-2.new.self)
    (at_start _ _ _ _ _ c.slots_beside.ensures.looked.1 c.slots_beside.ensures.producer.1
    c.slots_beside.ensures.fifo)
    (at_start _ _ _ _ _ c.slots_beside-2.ensures.looked.1 c.slots_beside-2.ensures.producer.1
    c.slots_beside-2.ensures.fifo)

pub returns-clause-closed : goal.returns-clause-closed
returns-clause-closed c =
    closed_ends c.args.caller.rings c.args.callee.rings (known_items c.slots_beside.new.self)
    (known_items c.slots_beside-2.new.self)
    (at_start _ _ _ _ _ c.slots_beside.ensures.looked.1 c.slots_beside.ensures.producer.1
    c.slots_beside.ensures.fifo)
    (at_start _ _ _ _ _ c.slots_beside-2.ensures.looked.1 c.slots_beside-2.ensures.producer.1
    c.slots_beside-2.ensures.fifo)
