use Rattle.std.proofs.Common.{inl, inr, Some, option_map, refl, sym, ap, subst, ◌∙◌}
use Rattle.scmi_core.specs.declared.event.Event.TheVariants.{Command as Called, CommandFailed}
use Rattle.scmi_core.specs.Asked.{IsAsked, Made, Refused}
use Rattle.scmi_core.proofs.platform.Platform.execute_on.Goals as goal

pub returns-in_default-clause-executes : goal.returns-in_default-clause-executes
returns-in_default-clause-executes g c = record {
  happens = record {
    event = Called c.args.agent c.args.frame.now;
    is_one = inl refl;
    moves = c.execute.ensures.event;
    hardware = λ h stands.
        subst (λ effect. IsAsked (g.H.Hardware.asked c.args.hardware.now) (option_map Made effect)
        (g.H.Hardware.asked c.args.hardware.now))
        (sym c.in_default.is ∙ c.effect_in.ensures.effect h stands) (λ asks asked. asked);
  };
  answer = λ h stands. ap Some (sym (c.execute.ensures.answer h stands));
}

pub commit-requires-clause-effect : goal.commit-requires-clause-effect
commit-requires-clause-effect g c =
    let has = c.effect_in.ensures.history in
    (has.0, has.1, sym (c.effect_in.ensures.effect has.0 has.1) ∙ c.in-Some.is)

pub returns-in-Ok-clause-executes : goal.returns-in-Ok-clause-executes
returns-in-Ok-clause-executes g c = record {
  happens = record {
    event = Called c.args.agent c.args.frame.now;
    is_one = inl refl;
    moves = c.commit.ensures.event;
    hardware = λ h stands.
        subst (λ effect. IsAsked (g.H.Hardware.asked c.args.hardware.now) (option_map Made effect)
        (g.H.Hardware.asked c.make.new.hardware))
        (sym c.in-Some.is ∙ c.effect_in.ensures.effect h stands) c.in-Ok.ensures.made;
  };
  answer = λ h stands. ap Some (sym (c.commit.ensures.answer h stands));
}

pub returns-in-Err-clause-executes : goal.returns-in-Err-clause-executes
returns-in-Err-clause-executes g c = record {
  happens = record {
    event = CommandFailed c.args.agent c.args.frame.now c.in-Err.fault;
    is_one = inr (c.in-Err.fault, refl);
    moves = c.answer_failed.ensures.event;
    hardware = λ h stands.
        subst (λ effect. IsAsked (g.H.Hardware.asked c.args.hardware.now) (option_map (λ asked.
        Refused asked c.in-Err.fault) effect) (g.H.Hardware.asked c.make.new.hardware))
        (sym c.in-Some.is ∙ c.effect_in.ensures.effect h stands) c.in-Err.ensures.refused;
  };
  answer = λ h stands. ap Some (sym c.answer_failed.ensures.answer);
}
