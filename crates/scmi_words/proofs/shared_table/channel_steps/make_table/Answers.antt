use Rattle.std.proofs.Common.{ℕ, List, [], sym, subst}
use Rattle.atomic_table.specs.Table.{opening}
use Rattle.scmi_words.specs.Mailbox.{HalvesAgree}
use Rattle.scmi_words.specs.View.{first_view}
use Rattle.scmi_words.proofs.Making.{starts_fresh}
use Rattle.scmi_words.proofs.shared_table.channel_steps.make_table.Goals as goal

pub of_words-requires : goal.of_words-requires
of_words-requires c = subst (λ (words : List ℕ). HalvesAgree (opening words [] first_view))
    (sym c.fresh_words.ensures) starts_fresh
