use Rattle.std.proofs.Common.{◌≡◌, ℕ, List, Bool, true, false, IfSome, subst, sym, arith, rules, tests}
use Rattle.std.proofs.lemmas.Bool.Decides.{nat_tests}
use Rattle.scmi_io.specs.Lines.{first_line}
use Rattle.scmi_decode.specs.Decoded.{has_area}
use Rattle.scmi_decode.proofs.UnderWay.{at_end, one_more}
use Rattle.scmi_decode.proofs.decode.decode_lines.Goals as goal

pub returns-then-not-ended-clause-taken : goal.returns-then-not-ended-clause-taken
returns-then-not-ended-clause-taken g c =
    let same : c.as_slice.result.now ≡ c.read_line.new.line.items = cc in
    let first : IfSome c.lines.input.left (λ input. c.as_slice.result.now ≡ first_line input) =
    subst (λ (l : List ℕ). IfSome c.lines.input.left (λ input. l ≡ first_line input))
    (sym same) c.in_ok-ended.ensures.line in
    let is_last : c.in_ok-ended.ended ≡ false =
    first_of (search (rules, tests), grind (arith, nat_tests), cc) in
    (at_end c.args.layout c.args.input.now.left c.lines.input.left c.as_slice.result.now
    c.lines.dump
    c.take_and_say.new.dump c.close_and_say.new.dump c.lines.number c.in_ok-ended.ended
    (g.S.Findings.taken c.args.sink.now) (g.S.Findings.taken c.lines.sink)
    (g.S.Findings.taken c.take_and_say.new.sink) (g.S.Findings.taken c.close_and_say.new.sink)
    c.lines.invariant.way first c.in_ok-ended.ensures.ended is_last
    c.in_ok-take_and_say.ensures.taken c.in_ok-take_and_say.ensures.dump
    c.in_ok-close_and_say.ensures.taken c.in_ok-close_and_say.ensures.dump).0

pub returns-then-not-ended-clause-area : goal.returns-then-not-ended-clause-area
returns-then-not-ended-clause-area g c =
    let same : c.as_slice.result.now ≡ c.read_line.new.line.items = cc in
    let first : IfSome c.lines.input.left (λ input. c.as_slice.result.now ≡ first_line input) =
    subst (λ (l : List ℕ). IfSome c.lines.input.left (λ input. l ≡ first_line input))
    (sym same) c.in_ok-ended.ensures.line in
    let is_last : c.in_ok-ended.ended ≡ false =
    first_of (search (rules, tests), grind (arith, nat_tests), cc) in
    let found : c.close_and_say.new.dump.found ≡ c.found.result = sym c.found.ensures in
    subst (λ (f : Bool). IfSome c.args.input.now.left (λ bytes. f ≡ has_area c.args.layout bytes))
    found
    (at_end c.args.layout c.args.input.now.left c.lines.input.left c.as_slice.result.now
    c.lines.dump
    c.take_and_say.new.dump c.close_and_say.new.dump c.lines.number c.in_ok-ended.ended
    (g.S.Findings.taken c.args.sink.now) (g.S.Findings.taken c.lines.sink)
    (g.S.Findings.taken c.take_and_say.new.sink) (g.S.Findings.taken c.close_and_say.new.sink)
    c.lines.invariant.way first c.in_ok-ended.ensures.ended is_last
    c.in_ok-take_and_say.ensures.taken c.in_ok-take_and_say.ensures.dump
    c.in_ok-close_and_say.ensures.taken c.in_ok-close_and_say.ensures.dump).1

pub lines-preserved : goal.lines-preserved
lines-preserved g c =
    let same : c.as_slice.result.now ≡ c.read_line.new.line.items = cc in
    let first : IfSome c.lines.input.left (λ input. c.as_slice.result.now ≡ first_line input) =
    subst (λ (l : List ℕ). IfSome c.lines.input.left (λ input. l ≡ first_line input))
    (sym same) c.in_ok-ended.ensures.line in
    let is_ended : c.in_ok-ended.ended ≡ true =
    first_of (search (rules, tests), grind (arith, nat_tests), cc) in
    record {
      way = one_more c.args.layout c.args.input.now.left c.lines.input.left
          c.read_line.new.self.left c.as_slice.result.now c.lines.dump c.take_and_say.new.dump
          c.lines.number c.in_ok-ended.ended
          (g.S.Findings.taken c.args.sink.now) (g.S.Findings.taken c.lines.sink)
          (g.S.Findings.taken c.take_and_say.new.sink)
          c.lines.invariant.way first c.in_ok-ended.ensures.rest c.in_ok-ended.ensures.ended
          is_ended c.in_ok-take_and_say.ensures.taken c.in_ok-take_and_say.ensures.dump;
      stops = λ none. c.in_ok-ended.ensures.stops (c.lines.invariant.stops none);
    }
