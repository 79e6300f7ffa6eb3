use Rattle.std.proofs.Common.{refl}
use Rattle.scmi_words.specs.Area.{fresh_table}
use Rattle.scmi_words.proofs.shared_table.channel_steps.fresh_words.Goals as goal

pub returns : goal.returns
unfolding fresh_table
returns c = refl
