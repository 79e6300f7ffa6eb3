use Rattle.std.proofs.Common.{subst, sym, ◌++◌}
use Rattle.std.specs.Result.{OnOk}
use Rattle.std.specs.Io.KnownBytes.{Appends}
use Rattle.scmi_text.proofs.EightDigits.{word_digits}
use Rattle.scmi_text.specs.declared.words.TheConstants.{WORD_MARK}
use Rattle.scmi_text.proofs.words.write_word.Goals as goal

pub returns : goal.returns
returns g c =
    let old = g.W.Write.contents c.args.writer.now in
    let new = g.W.Write.contents c.write_all.new.self in
    subst (λ digits. OnOk c.write_all.result (Appends old new (WORD_MARK ++ digits)))
    (sym (word_digits c.args.word c.ranges.word.fits))
    (rw (
      c.last_digit.ensures,
      c.last_digit-2.ensures,
      c.last_digit-3.ensures,
      c.last_digit-4.ensures,
      c.last_digit-5.ensures,
      c.last_digit-6.ensures,
      c.last_digit-7.ensures,
      c.last_digit-8.ensures,
    ) at c.write_all.ensures.bytes)
