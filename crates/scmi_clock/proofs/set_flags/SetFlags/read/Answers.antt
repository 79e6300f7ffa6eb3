use Rattle.std.proofs.Common.{refl}
use Rattle.bitflags.specs.Sets.{known_from}
use Rattle.scmi_clock.proofs.Flags.{refused, accepted}
use Rattle.scmi_clock.proofs.set_flags.SetFlags.read.Goals as goal

pub returns-in-None : goal.returns-in-None
unfolding known_from
returns-in-None c =
    refused c.args.word (λ e. let some = (c.in-None.ensures.known tt).1 e in absurd (cc))

pub returns-in-Some : goal.returns-in-Some
unfolding known_from
returns-in-Some c = accepted c.args.word c.in-Some.flags.0 (c.in-Some.ensures.value tt)
    ((c.in-Some.ensures.known tt).0 refl)
    c.rounding_of.result c.contains.result c.contains-in-Some.result c.rounding_of.ensures
    (c.contains.ensures tt) (c.contains-in-Some.ensures tt)
