use Rattle.std.proofs.Common.{ap, ◌∙◌, ◌%◌, ℕ}
use Rattle.scmi_words.specs.declared.status_word.TheConstants.{CLOSED}
use Rattle.scmi_words.proofs.Status.{cleared}
use Rattle.scmi_words.proofs.status_word.without_closed.Goals as goal

pub returns : goal.returns
returns c = λ x b is. ap (λ (n : ℕ). n % CLOSED) is ∙ cleared x b
