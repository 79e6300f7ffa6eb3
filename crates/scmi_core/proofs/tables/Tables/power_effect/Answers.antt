use Rattle.std.proofs.Common.{Ok, option_map, sym, ap, ◌∙◌}
use Rattle.scmi_codec.specs.Payload.{if_success}
use Rattle.scmi_power.specs.PowerTable.{set_now}
use Rattle.scmi_power.specs.PowerProtocol.{state_effect}
use Rattle.scmi_codec.specs.declared.command.Command.TheVariants.{Power}
use Rattle.scmi_core.specs.Reply.{reply_words}
use Rattle.scmi_core.specs.Tables.{situation_in}
use Rattle.scmi_core.proofs.PowerSteps.{power-reply}
use Rattle.scmi_core.proofs.Steps.{success-mapped}
use Rattle.scmi_core.proofs.tables.Tables.power_effect.Goals as goal

pub returns-in-Some : goal.returns-in-Some
returns-in-Some c =
    ap (option_map state_effect) (sym c.in-Some.is ∙ c.change_of.ensures
    ∙ ap (λ words. if_success words (set_now c.args.command))
    (power-reply c.args.plan.now c.args.self.now c.args.agent c.power_load-load.result
    c.args.command c.requires.valid.few_domains c.power_load-load.ensures.busy
    c.power_load-load.ensures.room))
    ∙ sym (success-mapped state_effect (reply_words c.args.plan.now c.args.agent (situation_in
    c.args.agent c.args.self.now) (Ok (Power c.args.command))) (set_now c.args.command))

pub returns-in-None : goal.returns-in-None
returns-in-None c =
    ap (option_map state_effect) (sym c.in-None.is ∙ c.change_of.ensures
    ∙ ap (λ words. if_success words (set_now c.args.command))
    (power-reply c.args.plan.now c.args.self.now c.args.agent c.power_load-load.result
    c.args.command c.requires.valid.few_domains c.power_load-load.ensures.busy
    c.power_load-load.ensures.room))
    ∙ sym (success-mapped state_effect (reply_words c.args.plan.now c.args.agent (situation_in
    c.args.agent c.args.self.now) (Ok (Power c.args.command))) (set_now c.args.command))
