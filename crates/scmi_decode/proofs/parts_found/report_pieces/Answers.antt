use Rattle.std.proofs.Common.{◌≤◌, ◌<◌, ℕ, List, false, length, drop, subst, sym, ap, arith, length-drop}
use Rattle.std.proofs.lemmas.Bool.Decides.{nat_tests}
use Rattle.scmi_decode.specs.Layout.{size_of}
use Rattle.scmi_decode.proofs.Reporting.{AreReported, at_begin, at_end, one_more}
use Rattle.scmi_decode.proofs.parts_found.report_pieces.Goals as goal

pub parts-init : goal.parts-init
parts-init g c =
    let is = c.bytes_from-rest.ensures in
    record {
      within = omega (
        arith,
        ap length {y = drop c.args.pieces.offset c.args.bytes.now} is,
        length-drop c.args.pieces.offset c.args.bytes.now,
      );
      reported = subst (λ (r : List ℕ). AreReported c.args.pieces c.args.line c.args.bytes.now r
          (g.S.Findings.taken c.args.sink.now) (g.S.Findings.taken c.args.sink.now) false)
          (sym is) (at_begin c.args.pieces c.args.line c.args.bytes.now
          (g.S.Findings.taken c.args.sink.now));
    }

pub parts-preserved : goal.parts-preserved
parts-preserved g c =
    let room : size_of c.args.pieces ≤ length c.parts.rest.now = grind (arith, nat_tests) in
    let is = c.behind_first-rest.ensures in
    record {
      within = omega (
        arith,
        ap length {y = drop c.args.pieces.gap (drop (size_of c.args.pieces) c.parts.rest.now)} is,
        c.parts.invariant.within,
        length-drop (size_of c.args.pieces) c.parts.rest.now,
        length-drop c.args.pieces.gap (drop (size_of c.args.pieces) c.parts.rest.now),
      );
      reported = subst (λ (r : List ℕ). AreReported c.args.pieces c.args.line c.args.bytes.now r
          (g.S.Findings.taken c.args.sink.now)
          (g.S.Findings.taken c.report_first.new.sink) c.in_ok-is_found.is_found)
          (sym {b = drop c.args.pieces.gap (drop (size_of c.args.pieces) c.parts.rest.now)} is)
          (one_more c.args.pieces c.args.line c.args.bytes.now c.parts.rest.now
          (g.S.Findings.taken c.args.sink.now) (g.S.Findings.taken c.parts.sink)
          (g.S.Findings.taken c.report_first.new.sink)
          c.parts.has_area c.in_ok-is_found.is_found c.parts.invariant.reported room
          c.in_ok-is_found.ensures.taken c.in_ok-is_found.ensures.area);
    }

pub returns-clause-taken : goal.returns-clause-taken
returns-clause-taken g c =
    let short : length c.parts.rest.now < size_of c.args.pieces = grind (arith, nat_tests) in
    (at_end c.args.pieces c.args.line c.args.bytes.now c.parts.rest.now
    (g.S.Findings.taken c.args.sink.now) (g.S.Findings.taken c.parts.sink)
    (g.S.Findings.taken c.report_last.new.sink)
    c.parts.has_area c.in_ok-has_one.has_one c.parts.invariant.reported short
    c.in_ok-has_one.ensures.taken c.in_ok-has_one.ensures.area).0

pub returns-clause-area : goal.returns-clause-area
returns-clause-area g c =
    let short : length c.parts.rest.now < size_of c.args.pieces = grind (arith, nat_tests) in
    (at_end c.args.pieces c.args.line c.args.bytes.now c.parts.rest.now
    (g.S.Findings.taken c.args.sink.now) (g.S.Findings.taken c.parts.sink)
    (g.S.Findings.taken c.report_last.new.sink)
    c.parts.has_area c.in_ok-has_one.has_one c.parts.invariant.reported short
    c.in_ok-has_one.ensures.taken c.in_ok-has_one.ensures.area).1
