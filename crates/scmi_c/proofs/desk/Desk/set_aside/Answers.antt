use Rattle.std.proofs.Common.{rules}
use Rattle.scmi_c.specs.Kept.{IsAskable, asked_of}
use Rattle.scmi_c.proofs.Askable.{small}
use Rattle.scmi_c.proofs.Keeping.{kept-of}
use Rattle.scmi_c.proofs.desk.Desk.set_aside.Goals as goal

pub put-requires-clause-small : goal.put-requires-clause-small
put-requires-clause-small c =
    let waiting = c.self.inside.waiting in
    let frame = c.self.inside.exchange.frame in
    small c.self.inside.held (asked_of frame waiting) c.stand.ensures (kept-of
    (IsAskable c.self.inside.held) frame waiting (search rules) c.self.invariant.0.asked)
