use Rattle.scmi_core.proofs.Bounds.{bounds}
use Rattle.scmi_core.proofs.Causes.{integrity, kept_on}
use Rattle.scmi_core.proofs.Channels.{channels}
use Rattle.scmi_core.proofs.EffectsMade.{effects-push, made-effects, unreported}
use Rattle.scmi_core.proofs.Isolation.{isolation, refused}
use Rattle.scmi_core.proofs.Reports.{taken-over}
use Rattle.scmi_core.proofs.Responses.{responses}
use Rattle.scmi_core.proofs.Trusted.{permissions}
use Rattle.scmi_core.proofs.legal_history.every_legal_history.Goals as goal

pub returns : goal.returns
returns c = record {
  bounds = bounds;
  responses = responses;
  refused = refused;
  isolation = isolation;
  integrity = integrity;
  permissions = λ board h legal. permissions board h;
  kept = kept_on;
  channels = channels;
  made = made-effects;
  unreported = unreported;
  reports = taken-over;
  effects = effects-push;
}
