use Rattle.std.proofs.Common.{rules}
use Rattle.scmi_words.specs.View.{caller_of, callee_of}
use Rattle.scmi_words.proofs.Making.{joins}
use Rattle.scmi_words.proofs.shared_table.channel_steps.join_callee.Goals as goal

pub join_seat-requires : goal.join_seat-requires
join_seat-requires c = (
  search rules,
  search rules,
  search rules,
  search rules,
  joins _ _ _ _
      (caller_of c.args.seat.now) (callee_of c.args.other) (search rules) (search rules),
)
