use Rattle.std.proofs.Common.{◌≡◌, ◌∙◌, ◌+◌, ◌-◌, ◌≤◌, sym, ap, take, drop, arith}
use Rattle.std.proofs.lemmas.Grind.{common_steps}
use Rattle.scmi_io.proofs.AheadLemmas.{taken}
use Rattle.scmi_io.proofs.ahead.Ahead.take_into.Goals as goal

pub returns-clause-bytes : goal.returns-clause-bytes
returns-clause-bytes c =
    let n = c.min-count.result in
    let start = c.self.inside.start in
    let inside : start + n ≤ c.self.inside.end =
    grind (arith, common_steps, c.min-count.ensures, c.self.invariant) in
    let width : start + n - start ≡ n = omega arith in
    sym c.self.view_is ∙ taken c.self.inside.bytes
    c.args.buffer.now c.copy_from_slice.new.self start c.self.inside.end n inside
    (grind (arith, common_steps, c.copy_from_slice.ensures.len, c.min-count.ensures))
    (c.copy_from_slice.ensures.after ∙ ap (λ k. take k (drop start c.self.inside.bytes)) width)
