use Rattle.std.proofs.Common.{sym, ◌∙◌, ap, rules, tests}
use Rattle.std.proofs.lemmas.Iterator.Splits.{YieldsList-from_slice_split}
use Rattle.std.proofs.lemmas.Iterator.Consumers.{YieldsList-turn, YieldsList-end, YieldsList-so_far}
use Rattle.std.specs.List.{filter}
use Rattle.scmi_board.specs.Lines.{is_significant}
use Rattle.scmi_io.specs.Lines.{is_line_feed}
use Rattle.scmi_modes.proofs.OneLine.{is_only, is_second, some_mapped}
use Rattle.scmi_modes.proofs.lines.only_line.Goals as goal

pub returns-then-is_some : goal.returns-then-is_some
returns-then-is_some c =
    let parts = YieldsList-from_slice_split _ is_line_feed c.args.input.now (cc) (cc) (cc)
    (λ x b q k. search (rules, tests)) in
    let turn = YieldsList-turn parts c.loop-line.yielded _ c.loop-line.yielded_by _ _ c.in-Some.line
    c.in-Some.is c.next.ensures.steps in
    let so_far = YieldsList-so_far parts c.loop-line.yielded _ c.loop-line.yielded_by in
    is_second is_significant _ _ _ _ turn.0 turn.1 (sym c.if-is_significant.ensures)
    (c.loop-line.invariant.so_far ∙ ap (filter is_significant) so_far)
    (some_mapped _ c.loop-line.found c.if-is_some.ensures)

pub returns : goal.returns
returns c =
    let parts = YieldsList-from_slice_split _ is_line_feed c.args.input.now (cc) (cc) (cc)
    (λ x b q k. search (rules, tests)) in
    let ended = YieldsList-end parts c.loop-line.yielded _ c.loop-line.yielded_by _ _ c.in-None.is
    c.next.ensures.steps in
    is_only _ _ (c.loop-line.invariant.so_far ∙ ap (filter is_significant) ended.0)
