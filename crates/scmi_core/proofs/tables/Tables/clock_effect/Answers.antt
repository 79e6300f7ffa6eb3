use Rattle.std.proofs.Common.{None, Ok, sym, ap, ◌∙◌}
use Rattle.scmi_codec.specs.Payload.{if_success}
use Rattle.scmi_codec.specs.declared.command.Command.TheVariants.{Clock}
use Rattle.scmi_clock.specs.ClockTable.{rate_now, enabled_now}
use Rattle.scmi_clock.specs.ClockProtocol.{clock_effect}
use Rattle.scmi_core.specs.Reply.{reply_words}
use Rattle.scmi_core.specs.Tables.{situation_in}
use Rattle.scmi_core.proofs.ClockSteps.{clock-reply, effect-success}
use Rattle.scmi_core.proofs.tables.Tables.clock_effect.Goals as goal

pub returns-in-Some : goal.returns-in-Some
returns-in-Some c =
    let reply = clock-reply c.args.plan.now c.args.self.now c.args.agent c.clock_load-load.result
    c.args.command c.requires.valid.few_clocks c.clock_load-load.ensures.busy
    c.clock_load-load.ensures.room in
    let words = reply_words c.args.plan.now c.args.agent (situation_in c.args.agent c.args.self.now)
    (Ok (Clock c.args.command)) in
    ap (λ rate. clock_effect rate (if_success words (enabled_now c.args.command)))
    (sym c.in-Some.is ∙ c.rate_change_of.ensures
    ∙ ap (λ w. if_success w (rate_now c.args.plan.now c.args.command)) reply)
    ∙ sym (effect-success words (rate_now c.args.plan.now c.args.command)
    (enabled_now c.args.command))

pub returns-in-Some-enabled_change_of : goal.returns-in-Some-enabled_change_of
returns-in-Some-enabled_change_of c =
    let reply = clock-reply c.args.plan.now c.args.self.now c.args.agent c.clock_load-load.result
    c.args.command c.requires.valid.few_clocks c.clock_load-load.ensures.busy
    c.clock_load-load.ensures.room in
    let words = reply_words c.args.plan.now c.args.agent (situation_in c.args.agent c.args.self.now)
    (Ok (Clock c.args.command)) in
    ap (clock_effect None) (sym c.in-Some-enabled_change_of.is ∙ c.enabled_change_of.ensures
    ∙ ap (λ w. if_success w (enabled_now c.args.command)) reply)
    ∙ ap (λ rate. clock_effect rate (if_success words (enabled_now c.args.command)))
    (sym c.in-None.is ∙ c.rate_change_of.ensures
    ∙ ap (λ w. if_success w (rate_now c.args.plan.now c.args.command)) reply)
    ∙ sym (effect-success words (rate_now c.args.plan.now c.args.command)
    (enabled_now c.args.command))

pub returns-in-None-enabled_change_of : goal.returns-in-None-enabled_change_of
returns-in-None-enabled_change_of c =
    let reply = clock-reply c.args.plan.now c.args.self.now c.args.agent c.clock_load-load.result
    c.args.command c.requires.valid.few_clocks c.clock_load-load.ensures.busy
    c.clock_load-load.ensures.room in
    let words = reply_words c.args.plan.now c.args.agent (situation_in c.args.agent c.args.self.now)
    (Ok (Clock c.args.command)) in
    ap (clock_effect None) (sym c.in-None-enabled_change_of.is ∙ c.enabled_change_of.ensures
    ∙ ap (λ w. if_success w (enabled_now c.args.command)) reply)
    ∙ ap (λ rate. clock_effect rate (if_success words (enabled_now c.args.command)))
    (sym c.in-None.is ∙ c.rate_change_of.ensures
    ∙ ap (λ w. if_success w (rate_now c.args.plan.now c.args.command)) reply)
    ∙ sym (effect-success words (rate_now c.args.plan.now c.args.command)
    (enabled_now c.args.command))
