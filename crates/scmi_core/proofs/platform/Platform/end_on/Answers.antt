use Rattle.std.proofs.Common.{inl, inr, option_map, refl, subst}
use Rattle.scmi_core.specs.declared.event.Event.TheVariants.{Advance, AdvanceFailed}
use Rattle.scmi_core.specs.Asked.{IsAsked, Made, Refused}
use Rattle.scmi_core.proofs.platform.Platform.end_on.Goals as goal

pub returns-in-Ok-clause-happens : goal.returns-in-Ok-clause-happens
returns-in-Ok-clause-happens g c = record {
  event = Advance;
  is_one = inl refl;
  moves = c.complete.ensures.event;
  hardware = λ h stands.
      subst (λ effect. IsAsked (g.H.Hardware.asked c.args.hardware.now) (option_map Made effect)
      (g.H.Hardware.asked c.make.new.hardware))
      (c.effect_of_advance-effect.ensures h stands) c.in-Ok.ensures.made;
}

pub returns-in-Err-clause-happens : goal.returns-in-Err-clause-happens
returns-in-Err-clause-happens g c = record {
  event = AdvanceFailed c.in-Err.fault;
  is_one = inr (c.in-Err.fault, refl);
  moves = c.fail.ensures.event;
  hardware = λ h stands.
      subst (λ effect. IsAsked (g.H.Hardware.asked c.args.hardware.now) (option_map
      (λ asked. Refused asked c.in-Err.fault) effect) (g.H.Hardware.asked c.make.new.hardware))
      (c.effect_of_advance-effect.ensures h stands) c.in-Err.ensures.refused;
}
