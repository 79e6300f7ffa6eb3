use Rattle.std.proofs.Common.{List, ℕ, map, rules, tests, ap, ◌∙◌}
use Rattle.std.specs.List.{join_with_byte}
use Rattle.std.proofs.lemmas.Iterator.Splits.{YieldsList-from_slice_split}
use Rattle.std.proofs.lemmas.Iterator.Consumers.{YieldsList-end}
use Rattle.scmi_live.specs.Hertz.{is_comma}
use Rattle.scmi_live.specs.Hertz.{rate_in_hertz}
use Rattle.scmi_live.proofs.Joined.{on_borrowed}
use Rattle.scmi_live.proofs.hertz.item_in_hertz.Goals as goal

pub loop-rate-preserved : goal.loop-rate-preserved
loop-rate-preserved c = record {
  can = search rules;
  ends = search rules;
  so_far = on_borrowed 44 rate_in_hertz c.loop-rate.yielded c.in-Some.rate c.loop-rate.made.items
      c.add_byte.new.made.items c.extend_from_slice.new.self.items c.loop-rate.is_first
      c.loop-rate.invariant.so_far c.in_ok-add_byte.ensures (search rules);
}

pub returns : goal.returns
returns c =
    let parts = YieldsList-from_slice_split _ is_comma c.args.item.now (cc) (cc) (cc)
    (λ x b q k. search (rules, tests)) in
    let ended = YieldsList-end parts c.loop-rate.yielded _ c.loop-rate.yielded_by _ _ c.in-None.is
    c.next.ensures.steps in
    c.loop-rate.invariant.so_far.joined
    ∙ ap (λ (all : List (List ℕ)). join_with_byte 44 (map rate_in_hertz all)) ended.0
