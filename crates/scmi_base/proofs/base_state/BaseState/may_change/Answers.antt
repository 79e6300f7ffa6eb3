use Rattle.std.proofs.Common.{◌≡◌, ◌<◌, ◌^◌, ◌==◌, ◌&&◌, ℕ, Bool, false, not, length, bit_and, refl, arith}
use Rattle.std.proofs.lemmas.Bool.{ne_eqb}
use Rattle.std.proofs.lemmas.Nat.{and_le_l}
use Rattle.scmi_plan.specs.Board.{holds, device_at}
use Rattle.scmi_base.specs.Permission.{is_allowed, some_device, allows, protocol_of}
use Rattle.scmi_base.proofs.Masks.{some-of_mask, bits-of_both}
use Rattle.scmi_base.proofs.base_state.BaseState.may_change.Goals as goal

pub returns-then-holders-eq0 : goal.returns-then-holders-eq0
returns-then-holders-eq0 c =
    let board = c.args.plan.now in
    let holder : ℕ → Bool = λ device. holds (device_at board device) c.args.resource in
    let held : not (c.holders-holders.result == 0) ≡ some_device board holder =
    some-of_mask c.holders-holders.result (length board.devices) holder c.holders-holders.type_inv
    c.agents-agents.ensures.valid.few_devices c.holders-holders.ensures in
    rw (← held, c.if-holders-eq0.true) refl

pub returns-else-holders-eq0 : goal.returns-else-holders-eq0
returns-else-holders-eq0 c =
    let board = c.args.plan.now in
    let holders = c.holders-holders.result in
    let few = c.agents-agents.ensures.valid.few_devices in
    let fits : holders < 2 ^ 32 = c.holders-holders.type_inv in
    let some : (holders == 0) ≡ false = ne_eqb holders 0 c.if-holders-eq0.false in
    let holder : ℕ → Bool = λ device. holds (device_at board device) c.args.resource in
    let opens : ℕ → Bool = λ device. allows (is_allowed c.args.self.now c.args.agent device)
    (protocol_of c.args.resource) in
    let held : not (holders == 0) ≡ some_device board holder =
    some-of_mask holders (length board.devices) holder fits few c.holders-holders.ensures in
    let less = and_le_l holders c.allowed.result in
    let opened : not (bit_and holders c.allowed.result == 0)
    ≡ some_device board (λ device. holder device && opens device) =
    some-of_mask (bit_and holders c.allowed.result) (length board.devices)
    (λ device. holder device && opens device) (omega arith) few
    (bits-of_both holders c.allowed.result
    (length board.devices) holder opens c.holders-holders.ensures c.allowed.ensures) in
    rw (← held, some) opened
