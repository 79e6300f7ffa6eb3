use Rattle.scmi_link.proofs.RingIdentities.{callee_stays}
use Rattle.scmi_link.proofs.ring_channel.RingChannelChannel.close_callee.Goals as goal

pub invariant_of-callee : goal.invariant_of-callee
invariant_of-callee c =
    record { identified = callee_stays _ _ _ c.args.callee.now.identified c.close.ensures.rings }
