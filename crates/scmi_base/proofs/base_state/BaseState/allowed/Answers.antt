use Rattle.std.proofs.Common.{◌∙◌, ◌==◌, ◌&&◌, ap}
use Rattle.std.specs.Int.{bit_at}
use Rattle.scmi_base.specs.PermissionTable.{entry}
use Rattle.scmi_base.proofs.Masks.{bit_of-and}
use Rattle.scmi_base.proofs.base_state.BaseState.allowed.Goals as goal
use Rattle.scmi_base.proofs.base_state.BaseState.allowed.Goals.{in-Domain, in-Clock}

pub returns : goal.returns
returns c = λ d small.
    let device = entry c.self.inside.devices c.args.agent d in
    rw (← c.self.view_is)
    (bit_of-and c.devices.result c.match-resource.protocol d
    ∙ ap (λ b. b && (bit_at c.match-resource.protocol d == 1)) (c.devices.ensures d small)
    ∙ elim c.match-resource.branch [
      | in-Domain w ↦ rw (w.protocol-is, w.in-Domain.is)
          (ap (λ b. device && b) (w.devices-protocol.ensures d small))
      | in-Clock w ↦ rw (w.protocol-is, w.in-Clock.is)
          (ap (λ b. device && b) (w.devices-protocol-in-Clock.ensures d small))
    ])
