use Rattle.std.proofs.Common.{◌∙◌, [], ◌∷◌, ap}
use Rattle.rtrb.specs.Ring.{sent}
use Rattle.scmi_link.specs.Envelope.{frames_in}
use Rattle.scmi_link.proofs.NoteLemmas.{frames_in-append}
use Rattle.scmi_link.proofs.caller_rings.push_envelope.Goals as goal

pub returns-clause-sent : goal.returns-clause-sent
returns-clause-sent c =
    ap frames_in c.push_reserved.ensures.sent.0
    ∙ frames_in-append (sent c.args.frames.now) (c.args.envelope ∷ [])
