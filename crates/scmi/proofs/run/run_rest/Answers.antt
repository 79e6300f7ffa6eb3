use Rattle.std.proofs.Common.{◌≡◌, ℕ, List, Option, Some, ◌∙◌, ap}
use Rattle.std.specs.Fmt.{option_append}
use Rattle.scmi.specs.Program.{AnswersOf}
use Rattle.scmi.proofs.Givens.{on_other}
use Rattle.scmi.proofs.run.run_rest.Goals as goal

pub returns-in-Ok : goal.returns-in-Ok
returns-in-Ok g c = λ zero bytes line_is ended_is left_is other.
    let Does = λ (given : Option (List ℕ)). AnswersOf c.args.request given
    (g.W.Write.contents c.args.writer.now) (g.W.Write.contents c.run_given.new.writer) in
    let same : c.as_slice.result.now ≡ c.in-Ok.start.items = cc in
    on_other Does bytes c.args.line.now c.in-Ok.start.items c.args.is_ended c.args.input.left _
    line_is ended_is left_is other c.in-Ok.ensures
    (c.chain-given.ensures.bytes ∙ ap
    (λ (l : List ℕ). option_append (Some l) c.args.input.left) same) (c.run_given.ensures zero)
