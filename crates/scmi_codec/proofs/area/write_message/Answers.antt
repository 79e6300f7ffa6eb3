use Rattle.scmi_codec.specs.declared.payload.TheConstants.{PAYLOAD_WORDS}
use Rattle.scmi_codec.proofs.AreaLemmas.{posted-waits}
use Rattle.scmi_codec.proofs.area.write_message.Goals as goal

pub returns-clause-arrived : goal.returns-clause-arrived
returns-clause-arrived c =
    posted-waits PAYLOAD_WORDS _ _ (c.put_message.ensures.stands PAYLOAD_WORDS (λ few. few))
