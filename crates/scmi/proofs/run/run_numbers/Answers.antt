use Rattle.std.proofs.Common.{◌≡◌, ℕ, List, Option, Some, subst}
use Rattle.scmi.specs.Given.{IsBehindLine}
use Rattle.scmi.specs.Program.{AnswersOf}
use Rattle.scmi.proofs.Givens.{on_numbers}
use Rattle.scmi.proofs.run.run_numbers.Goals as goal

pub returns-in-Ok-in_numbers : goal.returns-in-Ok-in_numbers
returns-in-Ok-in_numbers g c = λ zero bytes line_is left_is hardware.
    let Does = λ (given : Option (List ℕ)). AnswersOf c.args.request given
    (g.W.Write.contents c.args.writer.now) (g.W.Write.contents c.run_given.new.writer) in
    let written = c.in-Ok.written.items in
    let given = c.in-Ok-in_numbers.given.items in
    let text : c.deref.result.now ≡ written = cc in
    let same : c.as_slice-given.result.now ≡ given = cc in
    on_numbers Does bytes c.args.line.now written given c.args.input.left line_is left_is hardware
    c.in-Ok.ensures.whole
    (subst (λ t. IsBehindLine c.args.line.now t given) text c.in-Ok-in_numbers.ensures)
    (subst (λ (l : List ℕ). Does (Some l)) same (c.run_given.ensures zero))
