use Rattle.std.proofs.Common.{rules, length}
use Rattle.scmi_c.specs.Standing.{board_of}
use Rattle.scmi_c.proofs.Areas.{answered-in, has-room}
use Rattle.scmi_c.proofs.area.execute.Goals as goal

pub returns-clause-answered : goal.returns-clause-answered
returns-clause-answered c = record {
  answer = λ h at.
      answered-in (board_of c.args.held.now) c.args.agent h c.args.area.now c.put_answer.new.area
      c.args.exchange.now.frame _ c.command-answered.new.reply
      c.requires.valid (has-room c.args.held.now c.args.agent
      (length c.args.area.now) c.requires.valid c.requires.room)
      (search rules) (search rules) c.put_answer.ensures.reply c.put_answer.ensures.error;
  event = search rules;
}
