use Rattle.std.proofs.Common.{inl, inr, Some, option_map, refl, sym, ap, subst, ◌∙◌}
use Rattle.scmi_core.specs.declared.event.Event.TheVariants.{Command as Called, CommandFailed}
use Rattle.scmi_core.specs.Asked.{IsAsked, Made, Refused}
use Rattle.scmi_core.specs.Driven.{HasMade, IsCommandOf}
use Rattle.scmi_core.specs.Effect.{effect_after}
use Rattle.scmi_core.proofs.EffectsMade.{made-on}
use Rattle.scmi_core.proofs.platform_core.Core.execute_on.Goals as goal

pub returns-in_default-clause-executes : goal.returns-in_default-clause-executes
returns-in_default-clause-executes g c = record {
  happens = record {
    event = Called c.args.agent c.args.frame.now;
    is_one = inl refl;
    history = c.execute.ensures.event;
    hardware =
        subst (λ effect. IsAsked (g.H.Hardware.asked c.args.hardware.now) (option_map Made effect)
        (g.H.Hardware.asked c.args.hardware.now))
        (sym c.in_default.is ∙ c.effect_in.ensures.effect c.self.inside.trace.events
        c.self.invariant ∙ ap (λ p. effect_after p.board p.history
        (Called c.args.agent c.args.frame.now)) c.self.view_is) (λ asks asked. asked);
  };
  answer = ap Some (sym c.execute.ensures.answer);
}

pub returns-in_default-clause-made : goal.returns-in_default-clause-made
returns-in_default-clause-made g c = λ before made.
    subst (λ board. HasMade before board c.execute.new.self.history
    (g.H.Hardware.asked c.args.hardware.now)) (sym c.execute.ensures.board)
    (made-on c.args.self.now.board (IsCommandOf c.args.agent c.args.frame.now)
    c.args.self.now.history c.execute.new.self.history
    (g.H.Hardware.asked c.args.hardware.now) (g.H.Hardware.asked c.args.hardware.now) before
    (returns-in_default-clause-executes g c).happens made)

pub returns-in-Ok-clause-executes : goal.returns-in-Ok-clause-executes
returns-in-Ok-clause-executes g c = record {
  happens = record {
    event = Called c.args.agent c.args.frame.now;
    is_one = inl refl;
    history = c.commit.ensures.event;
    hardware =
        subst (λ effect. IsAsked (g.H.Hardware.asked c.args.hardware.now) (option_map Made effect)
        (g.H.Hardware.asked c.make.new.hardware))
        (sym c.in-Some.is ∙ c.effect_in.ensures.effect c.self.inside.trace.events c.self.invariant
        ∙ ap (λ p. effect_after p.board p.history (Called c.args.agent c.args.frame.now))
        c.self.view_is) c.in-Ok.ensures.made;
  };
  answer = ap Some (sym c.commit.ensures.answer);
}

pub returns-in-Ok-clause-made : goal.returns-in-Ok-clause-made
returns-in-Ok-clause-made g c = λ before made.
    subst (λ board. HasMade before board c.commit.new.self.history
    (g.H.Hardware.asked c.make.new.hardware)) (sym c.commit.ensures.board)
    (made-on c.args.self.now.board (IsCommandOf c.args.agent c.args.frame.now)
    c.args.self.now.history c.commit.new.self.history
    (g.H.Hardware.asked c.args.hardware.now) (g.H.Hardware.asked c.make.new.hardware) before
    (returns-in-Ok-clause-executes g c).happens made)

pub returns-in-Err-clause-executes : goal.returns-in-Err-clause-executes
returns-in-Err-clause-executes g c = record {
  happens = record {
    event = CommandFailed c.args.agent c.args.frame.now c.in-Err.fault;
    is_one = inr (c.in-Err.fault, refl);
    history = c.fail_command.ensures.event;
    hardware =
        subst (λ effect. IsAsked (g.H.Hardware.asked c.args.hardware.now) (option_map (λ asked.
        Refused asked c.in-Err.fault) effect) (g.H.Hardware.asked c.make.new.hardware))
        (sym c.in-Some.is ∙ c.effect_in.ensures.effect c.self.inside.trace.events c.self.invariant
        ∙ ap (λ p. effect_after p.board p.history (Called c.args.agent c.args.frame.now))
        c.self.view_is) c.in-Err.ensures.refused;
  };
  answer = ap Some (sym c.fail_command.ensures.answer);
}

pub returns-in-Err-clause-made : goal.returns-in-Err-clause-made
returns-in-Err-clause-made g c = λ before made.
    subst (λ board. HasMade before board c.fail_command.new.self.history
    (g.H.Hardware.asked c.make.new.hardware)) (sym c.fail_command.ensures.board)
    (made-on c.args.self.now.board (IsCommandOf c.args.agent c.args.frame.now)
    c.args.self.now.history c.fail_command.new.self.history
    (g.H.Hardware.asked c.args.hardware.now) (g.H.Hardware.asked c.make.new.hardware) before
    (returns-in-Err-clause-executes g c).happens made)
