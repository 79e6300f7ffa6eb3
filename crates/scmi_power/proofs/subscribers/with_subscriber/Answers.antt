use Rattle.scmi_power.proofs.AgentBits.{bit_of-set, bit_of-clear}
use Rattle.scmi_power.proofs.subscribers.with_subscriber.Goals as goal

pub returns-then-is_told : goal.returns-then-is_told
returns-then-is_told c = λ a lo hi. rw c.if-is_told.true
    (bit_of-set c.args.mask c.args.agent a c.requires.agent.0 c.requires.agent.1 lo hi)

pub returns-else-is_told : goal.returns-else-is_told
returns-else-is_told c = λ a lo hi. rw c.if-is_told.false
    (bit_of-clear c.args.mask c.args.agent a c.requires.agent.0 c.requires.agent.1 lo hi)
