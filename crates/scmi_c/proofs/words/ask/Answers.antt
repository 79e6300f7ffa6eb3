use Rattle.std.proofs.Common.{subst}
use Rattle.scmi_codec.specs.declared.frame.Frame.{Frame}
use Rattle.scmi_c.specs.Aside.{IsHeldBackBy}
use Rattle.scmi_c.specs.Kept.{aside_by}
use Rattle.scmi_c.specs.Words.{frame_in}
use Rattle.scmi_c.proofs.Keeping.{own-free, spared-aside}
use Rattle.scmi_c.proofs.words.ask.Goals as goal

pub returns-then-is_none-clause-aside : goal.returns-then-is_none-clause-aside
returns-then-is_none-clause-aside c = λ may.
    spared-aside c.args.held.now c.execute.new.held (aside_by c.args.aside.now.slots) c.args.agent
    (frame_in c.args.message.now) c.execute.ensures.spared
    (subst (λ (f : Frame). IsHeldBackBy (aside_by c.args.aside.now.slots) c.args.agent f → ⊥)
    c.read_words.ensures c.in_ok-check_aside.ensures.spared) may

pub returns-else-is_none-clause-apart : goal.returns-else-is_none-clause-apart
returns-else-is_none-clause-apart c = λ some.
    own-free c.args.aside.now.slots c.args.agent c.read_words.new.frame
    (c.in_ok-effect.ensures.set some) c.in_ok-check_aside.ensures.spared
