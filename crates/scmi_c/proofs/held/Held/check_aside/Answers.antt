use Rattle.std.proofs.Common.{◌≡◌, false, sym, ◌∙◌}
use Rattle.scmi_c.specs.Aside.{is_any}
use Rattle.scmi_c.specs.Kept.{aside_by}
use Rattle.scmi_c.proofs.Places.{none-aside, none-held}
use Rattle.scmi_c.proofs.held.Held.check_aside.Goals as goal

pub returns-then-not-aside-clause-spared : goal.returns-then-not-aside-clause-spared
returns-then-not-aside-clause-spared c =
    let slots = c.args.aside.now.slots in
    let off : is_any slots ≡ false = sym c.requires.any ∙ c.if-not-aside.true in
    none-held (aside_by slots) (none-aside slots off) c.args.agent c.args.frame.now

pub returns-then-not-aside-clause-asked : goal.returns-then-not-aside-clause-asked
returns-then-not-aside-clause-asked c =
    (λ same. absurd (cc), λ both. absurd (returns-then-not-aside-clause-spared c both.1))
