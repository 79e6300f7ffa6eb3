use Rattle.std.proofs.Common.{rules, arith, ◌∙◌, ap, ℕ, slice_index}
use Rattle.scmi_codec.specs.Word.{put_word, put_words}
use Rattle.scmi_words.specs.WordImage.{area_of}
use Rattle.scmi_words.proofs.AreaWords.{written_more, all_written}
use Rattle.scmi_words.proofs.word_image.WordImage.area.Goals as goal

pub loop-i-init : goal.loop-i-init
unfolding put_words
loop-i-init c = (omega arith, c.write_word.ensures)

pub loop-i-preserved : goal.loop-i-preserved
loop-i-preserved c = (
  omega arith,
  written_more c.args.self.now.words
      _ c.loop-i.area c.write_word-in-loop-i.new.bytes c.loop-i.i c.loop-i.invariant.0
      (search rules) c.loop-i.invariant.1
      (c.write_word-in-loop-i.ensures ∙ ap (λ (k : ℕ). put_word k
      (slice_index c.args.self.now.words c.loop-i.i) c.loop-i.area) (omega arith)),
)

pub returns : goal.returns
unfolding area_of
returns c = c.loop-i.invariant.1
    ∙ all_written c.args.self.now.words _ c.loop-i.i (search rules) (omega arith)
