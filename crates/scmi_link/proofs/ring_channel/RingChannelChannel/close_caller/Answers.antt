use Rattle.scmi_link.proofs.RingIdentities.{caller_stays}
use Rattle.scmi_link.proofs.ring_channel.RingChannelChannel.close_caller.Goals as goal

pub invariant_of-caller : goal.invariant_of-caller
invariant_of-caller c =
    record { identified = caller_stays _ _ _ c.args.caller.now.identified c.close.ensures.rings }
