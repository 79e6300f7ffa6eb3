use Rattle.std.proofs.Common.{length, rules, tests, arith}
use Rattle.std.proofs.lemmas.Iterator.Splits.{YieldsList-from_slice_split}
use Rattle.std.proofs.lemmas.Iterator.Consumers.{YieldsList-turn, YieldsList-end}
use Rattle.std.proofs.lemmas.Result.{err_from_is_err_and}
use Rattle.scmi_board.specs.Rows.{after_each, is_comma, parts_of, with_place}
use Rattle.scmi_board.proofs.Steps.{all_done, goes_on_behind, stops}
use Rattle.scmi_board.proofs.device_line.read_places.Goals as goal

pub loop-part-preserved : goal.loop-part-preserved
loop-part-preserved c =
    let parts = YieldsList-from_slice_split _ is_comma c.args.text.now (cc) (cc) (cc)
    (λ x b q k. search (rules, tests)) in
    let turn = YieldsList-turn parts c.loop-part.yielded _ c.loop-part.yielded_by _ _ c.in-Some.part
    c.in-Some.is c.next.ensures.steps in
    record {
      can = search rules;
      ends = search rules;
      so_far = goes_on_behind with_place c.loop-part.set _ (parts_of c.args.text.now)
          c.loop-part.yielded c.in-Some.part c.in-Some.part.now c.in-Some.part.now
          (after_each with_place 0 (parts_of c.args.text.now)) turn.0 turn.1 c.in_ok-set.ensures
          c.loop-part.invariant.so_far;
    }

pub returns-in_err-set : goal.returns-in_err-set
returns-in_err-set c =
    let parts = YieldsList-from_slice_split _ is_comma c.args.text.now (cc) (cc) (cc)
    (λ x b q k. search (rules, tests)) in
    let turn = YieldsList-turn parts c.loop-part.yielded _ c.loop-part.yielded_by _ _ c.in-Some.part
    c.in-Some.is c.next.ensures.steps in
    let p = err_from_is_err_and c.from_residual.result c.from_residual.ensures.1 in
    rw (p.1, p.2)
    (stops with_place c.loop-part.set (parts_of c.args.text.now) (length c.loop-part.yielded)
    c.in-Some.part.now c.in-Some.part.now (after_each with_place 0 (parts_of c.args.text.now))
    c.in_err-set.field-0.0 turn.0 turn.1 c.in_err-set.ensures c.loop-part.invariant.so_far)

pub returns : goal.returns
returns c =
    let parts = YieldsList-from_slice_split _ is_comma c.args.text.now (cc) (cc) (cc)
    (λ x b q k. search (rules, tests)) in
    let ended = YieldsList-end parts c.loop-part.yielded _ c.loop-part.yielded_by _ _ c.in-None.is
    c.next.ensures.steps in
    let done = all_done with_place c.loop-part.set (parts_of c.args.text.now)
    (length c.loop-part.yielded) (after_each with_place 0 (parts_of c.args.text.now))
    (omega (arith, ended.1)) c.loop-part.invariant.so_far in
    done
