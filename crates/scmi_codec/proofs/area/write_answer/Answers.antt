use Rattle.scmi_codec.specs.declared.payload.TheConstants.{PAYLOAD_WORDS}
use Rattle.scmi_codec.proofs.area.write_answer.Goals as goal

pub returns-clause-stands : goal.returns-clause-stands
returns-clause-stands c = c.put_answer.ensures.stands PAYLOAD_WORDS (λ few. few)
