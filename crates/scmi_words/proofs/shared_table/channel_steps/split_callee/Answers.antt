use Rattle.std.proofs.Common.{rules}
use Rattle.scmi_words.specs.View.{caller_of, callee_of}
use Rattle.scmi_words.proofs.Making.{parts}
use Rattle.scmi_words.proofs.shared_table.channel_steps.split_callee.Goals as goal

pub split_seat-requires : goal.split_seat-requires
split_seat-requires c = (
  search rules,
  search rules,
  parts _ _ (caller_of c.args.seat.now) (callee_of c.args.seat.now) (search rules) (search rules),
)
