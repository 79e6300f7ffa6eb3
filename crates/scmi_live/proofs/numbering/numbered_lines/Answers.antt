use Rattle.std.proofs.Common.{map, rules, tests}
use Rattle.std.proofs.lemmas.Iterator.Splits.{YieldsList-from_slice_split}
use Rattle.std.proofs.lemmas.Iterator.Consumers.{YieldsList-end}
use Rattle.scmi_io.specs.Lines.{is_line_feed}
use Rattle.scmi_plan.specs.RawPlan.{asked_board}
use Rattle.scmi_live.proofs.Numbers.{at_end, on_yielded}
use Rattle.scmi_live.proofs.numbering.numbered_lines.Goals as goal

pub loop-line-preserved : goal.loop-line-preserved
loop-line-preserved c = record {
  can = search rules;
  ends = search rules;
  so_far = on_yielded (asked_board c.args.board.now) c.args.agents c.loop-line.yielded
      c.in-Some.line c.loop-line.is_first c.loop-line.made.items c.add_byte.new.made.items
      c.add_line.new.made.items c.loop-line.invariant.so_far c.in_ok-add_byte.ensures
      c.in_ok-add_line.ensures;
}

pub returns : goal.returns
returns c =
    let parts = YieldsList-from_slice_split _ is_line_feed c.args.text.now (cc) (cc) (cc)
    (λ x b q k. search (rules, tests)) in
    let ended = YieldsList-end parts c.loop-line.yielded _ c.loop-line.yielded_by _ _ c.in-None.is
    c.next.ensures.steps in
    at_end (asked_board c.args.board.now) c.args.agents
    (map (λ x. x.now) c.loop-line.yielded) c.loop-line.is_first c.args.text.now
    c.loop-line.made.items ended.0 c.loop-line.invariant.so_far
