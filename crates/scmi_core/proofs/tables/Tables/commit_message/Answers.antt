use Rattle.std.proofs.Common.{sym, ap, ◌∙◌}
use Rattle.scmi_codec.specs.declared.frame.Answer.TheVariants.{Reply}
use Rattle.scmi_core.specs.Outbox.{message_with}
use Rattle.scmi_core.specs.Tables.{situation_in}
use Rattle.scmi_core.proofs.Commits.{answer-fits, changed-by, committed, effect-fits, effect-known}
use Rattle.scmi_core.proofs.tables.Tables.commit_message.Goals as goal

pub change-requires : goal.change-requires
change-requires c = record {
  known = effect-known c.args.plan.now c.args.agent c.args.message.now
      (situation_in c.args.agent c.args.self.now) c.args.effect c.requires.effect;
}

pub returns-clause-answer : goal.returns-clause-answer
returns-clause-answer c =
    let m = c.args.message.now in
    let s = situation_in c.args.agent c.args.self.now in
    let fit = effect-fits c.args.plan.now c.args.agent m s c.args.effect c.requires.effect in
    let set = changed-by c.args.plan.now c.args.agent m s c.args.effect c.requires.effect in
    ap (λ words. Reply (message_with m.header words)) (c.set_payload.ensures ∙ sym set.reply)
    ∙ sym (answer-fits c.args.plan.now c.args.agent m s fit.0)

pub returns-clause-stepped : goal.returns-clause-stepped
returns-clause-stepped c = committed c.args.plan.now c.args.self.now c.change.new.self c.args.agent
    c.args.message.now c.args.effect c.requires.effect c.change.ensures.changed
