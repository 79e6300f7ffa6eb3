use Rattle.std.proofs.Common.{rules}
use Rattle.scmi_words.specs.View.{caller_of, callee_of}
use Rattle.scmi_words.proofs.Making.{closes}
use Rattle.scmi_words.proofs.shared_table.channel_steps.close_table.Goals as goal

pub returns : goal.returns
returns c =
    let e = c.close_with.ensures in
    let f = e.values.2 in (
      e.values.0,
      search rules,
      search rules,
      closes _ f.0 f.1.0 _ _ (caller_of c.args.seat)
          (callee_of c.args.seat) f.2 f.1.1 (search rules) (search rules),
    )
