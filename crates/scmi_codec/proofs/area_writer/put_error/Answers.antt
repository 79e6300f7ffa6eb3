use Rattle.std.proofs.Common.{◌∙◌, arith}
use Rattle.scmi_codec.proofs.AreaLemmas.{StandsWithin-status}
use Rattle.scmi_codec.proofs.area_writer.put_error.Goals as goal

pub returns-clause-stands : goal.returns-clause-stands
returns-clause-stands c =
    rw (c.write_word.ensures, c.bits.ensures tt ∙ c.union-status.ensures tt)
    (λ words. StandsWithin-status words c.args.area.now 3 (omega arith) (omega arith))
