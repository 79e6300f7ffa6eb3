use Rattle.std.proofs.Common.{◌≡◌, None, Ok, option_map, sym, ap, ◌∙◌}
use Rattle.scmi_codec.specs.declared.command.Command.TheVariants.{Power, Clock}
use Rattle.scmi_core.specs.Deed.{success_of}
use Rattle.scmi_core.specs.Effect.{effect_of}
use Rattle.scmi_core.specs.ReadCommand.{command_on}
use Rattle.scmi_core.specs.Reply.{reply_words}
use Rattle.scmi_core.specs.Tables.{situation_in}
use Rattle.scmi_core.specs.Value.{change_of}
use Rattle.scmi_core.proofs.Changes.{command-effect}
use Rattle.scmi_core.proofs.tables.Tables.read_effect.Goals as goal

pub returns-in-Ok-Power : goal.returns-in-Ok-Power
returns-in-Ok-Power c =
    let s = situation_in c.args.agent c.args.self.now in
    let m = c.args.message.now in
    let read : command_on c.args.plan.now m ≡ Ok (Power c.in-Ok-Power.command) =
    sym c.in-Ok-Power.ensures ∙ ap Ok c.in-Ok-Power.field-0-is in
    c.power_effect.ensures
    ∙ command-effect c.args.plan.now c.args.agent m.header (Power c.in-Ok-Power.command)
    (reply_words c.args.plan.now c.args.agent s (Ok (Power c.in-Ok-Power.command)))
    ∙ ap (λ r. option_map effect_of (change_of c.args.plan.now (success_of c.args.agent m.header r
    (reply_words c.args.plan.now c.args.agent s r)) None)) (sym read)

pub returns-in-Ok-Clock : goal.returns-in-Ok-Clock
returns-in-Ok-Clock c =
    let s = situation_in c.args.agent c.args.self.now in
    let m = c.args.message.now in
    let read : command_on c.args.plan.now m ≡ Ok (Clock c.in-Ok-Clock.command) =
    sym c.in-Ok-Clock.ensures ∙ ap Ok c.in-Ok-Clock.field-0-is in
    c.clock_effect.ensures
    ∙ command-effect c.args.plan.now c.args.agent m.header (Clock c.in-Ok-Clock.command)
    (reply_words c.args.plan.now c.args.agent s (Ok (Clock c.in-Ok-Clock.command)))
    ∙ ap (λ r. option_map effect_of (change_of c.args.plan.now (success_of c.args.agent m.header r
    (reply_words c.args.plan.now c.args.agent s r)) None)) (sym read)
