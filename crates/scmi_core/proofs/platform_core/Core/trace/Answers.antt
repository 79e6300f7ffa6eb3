use Rattle.std.proofs.Common.{subst}
use Rattle.scmi_core.specs.Bounds.{HasResponses}
use Rattle.scmi_core.specs.Channels.{KeepsChannels}
use Rattle.scmi_core.specs.History.{deeds}
use Rattle.scmi_core.proofs.Channels.{channels}
use Rattle.scmi_core.proofs.Responses.{responses}
use Rattle.scmi_core.proofs.platform_core.Core.trace.Goals as goal

pub returns-clause-responses : goal.returns-clause-responses
returns-clause-responses c =
    subst (λ p. HasResponses p.board (deeds p.board p.history)) c.self.view_is
    (responses c.self.inside.platform.board c.self.inside.trace.events c.self.invariant.legal)

pub returns-clause-channels : goal.returns-clause-channels
returns-clause-channels c = subst (λ p. KeepsChannels p.board p.history) c.self.view_is
    (channels c.self.inside.platform.board c.self.inside.trace.events c.agents-agents.ensures.valid
    c.self.invariant.legal)
