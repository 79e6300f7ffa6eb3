use Rattle.std.proofs.Common.{◌≡◌, ◌∙◌, ◌++◌, [], ℕ, List, IfSome, true, false, sym, subst, rules, tests, arith}
use Rattle.std.proofs.lemmas.Bool.Decides.{nat_tests}
use Rattle.scmi_io.specs.Lines.{first_line}
use Rattle.scmi_check.specs.Check.{GivesBefore, IsAtLine, IsFaultOfRecord, IsOfBoard}
use Rattle.scmi_check.specs.RecordText.{finished}
use Rattle.scmi_check.proofs.Before.{before-line, before-long, end-alone, end-elsewhere, input-alone, stop-alone}
use Rattle.scmi_check.proofs.Growing.{if-err}
use Rattle.scmi_check.proofs.Reading.{ends-found, ends-without, line-fails, read-fails, read-none, read-on}
use Rattle.scmi_check.proofs.check.check_lines.Goals as goal

pub lines-init : goal.lines-init
lines-init g c = λ p r b way.
    read-none (g.N.Names.means c.args.names.now) p r b
    (g.R.Read.remaining c.args.source.now) c.new-input.result.left c.args.check
    (g.L.Listener.judged c.args.listener.now) (g.L.Listener.noted c.args.listener.now)
    (c.new-input.ensures.left ∙ c.new-reader.ensures.left) way

pub lines-preserved : goal.lines-preserved
lines-preserved g c = λ p r b way.
    let same : c.as_slice.result.now ≡ c.read_line.new.line.items = cc in
    let first : IfSome c.lines.input.left (λ input. c.as_slice.result.now ≡ first_line input) =
    subst (λ (l : List ℕ). IfSome c.lines.input.left (λ input. l ≡ first_line input))
    (sym same) c.in-Ok.ensures.line in
    let on : c.in-Ok.ended ≡ true = first_of (search (rules, tests), grind (arith, nat_tests), cc)
    in
    read-on (g.N.Names.means c.args.names.now) p r b
    (g.R.Read.remaining c.args.source.now) c.lines.input.left c.lines.number c.lines.check
    (g.L.Listener.judged c.args.listener.now) (g.L.Listener.judged c.lines.listener)
    (g.L.Listener.noted c.args.listener.now) (g.L.Listener.noted c.lines.listener)
    (c.lines.invariant p r b way) c.as_slice.result.now c.in-Ok.ended first
    c.in-Ok.ensures.ended c.saturating_add-number.result (search rules)
    c.read_line.new.self.left c.add.new.self (g.L.Listener.judged c.add.new.listener)
    (g.L.Listener.noted c.add.new.listener) c.in-Ok.ensures.rest on
    (λ next js ns under. c.in_default.ensures.line r b next js ns under)

pub returns-in-Err-clause-faults : goal.returns-in-Err-clause-faults
returns-in-Err-clause-faults g c = λ p r b way.
    let M = g.N.Names.means c.args.names.now in
    let known = g.R.Read.remaining c.args.source.now in
    let read = c.lines.invariant p r b way in
    subst (λ e. IfSome known (λ t. IsFaultOfRecord M p b t e)) (sym c.line_error.ensures)
    (read-fails M p b known c.lines.input.left read.first read.texts c.lines.number
    c.saturating_add-number.result c.in-Err.error read.lines
    (search rules) c.in-Err.ensures.size)

pub returns-in-Err-add-clause-faults : goal.returns-in-Err-add-clause-faults
returns-in-Err-add-clause-faults g c = λ p r b way.
    let same : c.as_slice.result.now ≡ c.read_line.new.line.items = cc in
    let first : IfSome c.lines.input.left (λ input. c.as_slice.result.now ≡ first_line input) =
    subst (λ (l : List ℕ). IfSome c.lines.input.left (λ input. l ≡ first_line input))
    (sym same) c.in-Ok.ensures.line in
    line-fails (g.N.Names.means c.args.names.now) p r b
    (g.R.Read.remaining c.args.source.now) c.lines.input.left c.lines.number c.lines.check
    (g.L.Listener.judged c.args.listener.now) (g.L.Listener.judged c.lines.listener)
    (g.L.Listener.noted c.args.listener.now) (g.L.Listener.noted c.lines.listener)
    (c.lines.invariant p r b way) c.as_slice.result.now c.in-Ok.ended first
    c.in-Ok.ensures.ended c.saturating_add-number.result (search rules) c.in-Err-add.error
    (λ next js ns under. c.in-Err-add.ensures.errors r b next js ns under)

pub returns-then-not-ended-clause-found : goal.returns-then-not-ended-clause-found
returns-then-not-ended-clause-found g c = λ p r b way.
    let same : c.as_slice.result.now ≡ c.read_line.new.line.items = cc in
    let first : IfSome c.lines.input.left (λ input. c.as_slice.result.now ≡ first_line input) =
    subst (λ (l : List ℕ). IfSome c.lines.input.left (λ input. l ≡ first_line input))
    (sym same) c.in-Ok.ensures.line in
    let off : c.in-Ok.ended ≡ false = first_of
    (search (rules, tests), grind (arith, nat_tests), cc) in
    ends-found (g.N.Names.means c.args.names.now) p r b
    (g.R.Read.remaining c.args.source.now) c.lines.input.left c.lines.number c.lines.check
    (g.L.Listener.judged c.args.listener.now) (g.L.Listener.judged c.lines.listener)
    (g.L.Listener.noted c.args.listener.now) (g.L.Listener.noted c.lines.listener)
    (c.lines.invariant p r b way) c.as_slice.result.now c.in-Ok.ended first
    c.in-Ok.ensures.ended c.saturating_add-number.result (search rules)
    c.add.new.self (g.L.Listener.judged c.add.new.listener)
    (g.L.Listener.noted c.add.new.listener) off
    (λ next js ns under. c.in_default.ensures.line r b next js ns under)
    c.finish.result (g.L.Listener.judged c.finish.new.listener)
    (g.L.Listener.noted c.finish.new.listener)
    (λ shows js ns under. c.finish.ensures.found r b shows js ns under) c.finish.ensures.judged

pub returns-then-not-ended-clause-faults : goal.returns-then-not-ended-clause-faults
returns-then-not-ended-clause-faults g c = λ p r b way.
    let same : c.as_slice.result.now ≡ c.read_line.new.line.items = cc in
    let first : IfSome c.lines.input.left (λ input. c.as_slice.result.now ≡ first_line input) =
    subst (λ (l : List ℕ). IfSome c.lines.input.left (λ input. l ≡ first_line input))
    (sym same) c.in-Ok.ensures.line in
    let off : c.in-Ok.ended ≡ false = first_of
    (search (rules, tests), grind (arith, nat_tests), cc) in
    ends-without (g.N.Names.means c.args.names.now) p r b
    (g.R.Read.remaining c.args.source.now) c.lines.input.left c.lines.number c.lines.check
    (g.L.Listener.judged c.args.listener.now) (g.L.Listener.judged c.lines.listener)
    (g.L.Listener.noted c.args.listener.now) (g.L.Listener.noted c.lines.listener)
    (c.lines.invariant p r b way) c.as_slice.result.now c.in-Ok.ended first
    c.in-Ok.ensures.ended c.saturating_add-number.result (search rules)
    c.add.new.self (g.L.Listener.judged c.add.new.listener)
    (g.L.Listener.noted c.add.new.listener) off
    (λ next js ns under. c.in_default.ensures.line r b next js ns under)
    c.finish.result (λ shows js ns under. c.finish.ensures.errors r b shows js ns under)

pub returns-in-Err-clause-alone : goal.returns-in-Err-clause-alone
returns-in-Err-clause-alone g c = λ p r b way.
    subst (λ e. ¬ (IsOfBoard e)) (sym c.line_error.ensures)
    (input-alone c.in-Err.error c.saturating_add-number.result)

pub returns-in-Err-clause-before : goal.returns-in-Err-clause-before
returns-in-Err-clause-before g c = λ p r b way.
    let M = g.N.Names.means c.args.names.now in
    let known = g.R.Read.remaining c.args.source.now in
    let given = g.L.Listener.judged in
    let noted = g.L.Listener.noted in
    let first = c.args.listener.now in
    let last = c.lines.listener in
    subst (λ e. IsAtLine e → IfSome known (λ t. GivesBefore M p r b e t (given first) (given last)
    (noted first) (noted last))) (sym c.line_error.ensures)
    (before-long M p r b known c.lines.input.left c.lines.number c.lines.check (given first)
    (given last) (noted first) (noted last) (c.lines.invariant p r b way) c.in-Err.error
    c.saturating_add-number.result)

pub returns-in-Err-add-clause-alone : goal.returns-in-Err-add-clause-alone
returns-in-Err-add-clause-alone g c = λ p r b way.
    let adds = (c.lines.invariant p r b way).adds in
    stop-alone (g.N.Names.means c.args.names.now) b adds.next _ c.in-Err-add.error
    (c.in-Err-add.ensures.errors r b adds.next ([] ++ adds.is_told.more)
    ([] ++ adds.is_told.remarks) adds.is_told.way)

pub returns-in-Err-add-clause-before : goal.returns-in-Err-add-clause-before
returns-in-Err-add-clause-before g c = λ p r b way.
    let M = g.N.Names.means c.args.names.now in
    let known = g.R.Read.remaining c.args.source.now in
    let given = g.L.Listener.judged in
    let noted = g.L.Listener.noted in
    let start = c.args.listener.now in
    let last = c.lines.listener in
    let e = c.in-Err-add.error in
    let read = c.lines.invariant p r b way in
    let adds = read.adds in
    let same : c.as_slice.result.now ≡ c.read_line.new.line.items = cc in
    let first : IfSome c.lines.input.left (λ input. c.as_slice.result.now ≡ first_line input) =
    subst (λ (l : List ℕ). IfSome c.lines.input.left (λ input. l ≡ first_line input))
    (sym same) c.in-Ok.ensures.line in
    λ at. subst (λ l. IfSome known (λ t. GivesBefore M p r b e t (given start) (given l)
    (noted start) (noted l))) (sym (c.in-Err-add.ensures.before at))
    (before-line M p r b known c.lines.input.left c.lines.number c.lines.check (given start)
    (given last) (noted start) (noted last) read c.as_slice.result.now c.in-Ok.ended first
    c.in-Ok.ensures.ended c.saturating_add-number.result (search rules) e
    (c.in-Err-add.ensures.errors r b adds.next ([] ++ adds.is_told.more)
    ([] ++ adds.is_told.remarks) adds.is_told.way) at)

pub returns-then-not-ended-clause-alone : goal.returns-then-not-ended-clause-alone
returns-then-not-ended-clause-alone g c = λ p r b way.
    let adds = (c.lines.invariant p r b way).adds in
    let one = c.in_default.ensures.line r b adds.next ([] ++ adds.is_told.more)
    ([] ++ adds.is_told.remarks) adds.is_told.way in
    if-err c.finish.result (c.finish.ensures.errors r b one.next _ _ one.is_told.way)
    (λ e end. end-alone (finished one.next) e end)

pub returns-then-not-ended-clause-before : goal.returns-then-not-ended-clause-before
returns-then-not-ended-clause-before g c = λ p r b way.
    let adds = (c.lines.invariant p r b way).adds in
    let one = c.in_default.ensures.line r b adds.next ([] ++ adds.is_told.more)
    ([] ++ adds.is_told.remarks) adds.is_told.way in
    if-err c.finish.result (c.finish.ensures.errors r b one.next _ _ one.is_told.way)
    (λ e end at. absurd (end-elsewhere (finished one.next) e end at))
