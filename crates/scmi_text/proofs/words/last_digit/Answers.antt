use Rattle.std.proofs.Common.{◌%◌, ◌<◌, arith}
use Rattle.scmi_text.proofs.Glyphs.{glyphs}
use Rattle.scmi_text.proofs.words.last_digit.Goals as goal

pub returns : goal.returns
returns c =
    let small : c.args.word % 16 < 16 = omega arith in
    glyphs (c.args.word % 16) small
