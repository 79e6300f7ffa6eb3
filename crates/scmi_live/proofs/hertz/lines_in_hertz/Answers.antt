use Rattle.std.proofs.Common.{List, ℕ, map, rules, tests, ap, ◌∙◌}
use Rattle.std.specs.List.{join_with_byte}
use Rattle.std.proofs.lemmas.Iterator.Splits.{YieldsList-from_slice_split}
use Rattle.std.proofs.lemmas.Iterator.Consumers.{YieldsList-end}
use Rattle.scmi_io.specs.Lines.{is_line_feed}
use Rattle.scmi_live.specs.Hertz.{line_in_hertz}
use Rattle.scmi_live.proofs.Joined.{on_borrowed}
use Rattle.scmi_live.proofs.hertz.lines_in_hertz.Goals as goal

pub loop-line-preserved : goal.loop-line-preserved
loop-line-preserved c = record {
  can = search rules;
  ends = search rules;
  so_far = on_borrowed 10 line_in_hertz c.loop-line.yielded c.in-Some.line c.loop-line.made.items
      c.add_byte.new.made.items c.extend_from_slice.new.self.items c.loop-line.is_first
      c.loop-line.invariant.so_far c.in_ok-add_byte.ensures (search rules);
}

pub returns : goal.returns
returns c =
    let parts = YieldsList-from_slice_split _ is_line_feed c.args.text.now (cc) (cc) (cc)
    (λ x b q k. search (rules, tests)) in
    let ended = YieldsList-end parts c.loop-line.yielded _ c.loop-line.yielded_by _ _ c.in-None.is
    c.next.ensures.steps in
    c.loop-line.invariant.so_far.joined
    ∙ ap (λ (all : List (List ℕ)). join_with_byte 10 (map line_in_hertz all)) ended.0
