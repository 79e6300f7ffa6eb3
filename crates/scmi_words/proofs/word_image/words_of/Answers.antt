use Rattle.std.proofs.Common.{arith, length-set, ◌∙◌}
use Rattle.std.specs.Mem.Slots.{slots_items}
use Rattle.scmi_words.proofs.TableWords.{copied_more}
use Rattle.scmi_words.proofs.word_image.words_of.Goals as goal

pub loop-i-preserved : goal.loop-i-preserved
loop-i-preserved c = let wide = c.loop-i.invariant.0 in (
  length-set c.loop-i.words c.loop-i.i c.word.result ∙ wide,
  copied_more (slots_items c.args.closed.now.words) c.loop-i.words c.loop-i.i c.word.result
      (omega arith) c.loop-i.invariant.1 c.word.ensures,
)
