use Rattle.std.proofs.Common.{rules}
use Rattle.std.proofs.lemmas.List.{take_more_set}
use Rattle.scmi_codec.specs.Word.{words_at}
use Rattle.scmi_codec.proofs.WordLemmas.{words_at-more}
use Rattle.scmi_codec.proofs.area_reader.read_many.Goals as goal

pub loop-i-init : goal.loop-i-init
unfolding words_at
loop-i-init c = search rules

pub loop-i-preserved : goal.loop-i-preserved
loop-i-preserved c = rw (words_at-more, ← c.loop-i.invariant.0) (search (rules, take_more_set))
