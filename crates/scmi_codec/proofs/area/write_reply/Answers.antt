use Rattle.scmi_codec.specs.declared.payload.TheConstants.{PAYLOAD_WORDS}
use Rattle.scmi_codec.proofs.area.write_reply.Goals as goal

pub returns-clause-stands : goal.returns-clause-stands
returns-clause-stands c =
    rw (c.bits.ensures tt) at (c.put_message.ensures.stands PAYLOAD_WORDS (λ few. few))
