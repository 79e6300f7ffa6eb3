use Rattle.std.proofs.Common.{arith}
use Rattle.scmi_codec.proofs.AreaLemmas.{StandsWithin-status}
use Rattle.scmi_codec.proofs.area_writer.put_answer.Goals as goal

pub returns-in-Released-clause-stands : goal.returns-in-Released-clause-stands
returns-in-Released-clause-stands c =
    let room = rw c.in-Released.is at c.requires.room in
    let fields = room (omega arith) in
    rw (c.in-Released.is, c.write_word.ensures, c.bits-in-Released.ensures tt)
    (λ words few. StandsWithin-status words c.args.area.now 1 (omega arith) (omega arith))

pub returns-in-ChannelError-clause-stands : goal.returns-in-ChannelError-clause-stands
returns-in-ChannelError-clause-stands c =
    rw c.in-ChannelError.is (λ words few. c.put_error.ensures.stands words)
