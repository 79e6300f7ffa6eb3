use Rattle.std.proofs.Common.{rules, ◌≡◌, true, false, sym, ◌∙◌}
use Rattle.scmi_core.specs.History.{HasPendingAt}
use Rattle.scmi_c.specs.Standing.{board_of}
use Rattle.scmi_c.proofs.Driving.{ends}
use Rattle.scmi_c.proofs.held.Held.advance_at.Goals as goal

pub returns-clause-pending : goal.returns-clause-pending
returns-clause-pending c = λ h at.
    let within : HasPendingAt (board_of c.args.self.now) h c.args.place =
    (c.promote.ensures.pending h at).0 (search rules) in (
      λ done. within,
      λ there. ends c.args.self.now c.promote.new.self c.args.place (search rules) h
          at within c.advance.result (λ k stands. (c.advance.ensures.waiting k stands).0),
    )

pub returns-clause-same : goal.returns-clause-same
returns-clause-same c = λ not.
    let had = c.promote.ensures.history in
    let done = (returns-clause-pending c had.0 had.1).1
    ((c.promote.ensures.pending had.0 had.1).0 (search rules)) in
    absurd (let both : true ≡ false = sym done ∙ not in cc)
