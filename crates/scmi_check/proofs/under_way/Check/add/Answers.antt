use Rattle.std.proofs.Common.{◌≡◌, MatchOption, true, false, sym, subst, rules, tests}
use Rattle.std.specs.Prelude.{string_bytes}
use Rattle.scmi_board.specs.Lines.{is_significant, line_of}
use Rattle.scmi_check.proofs.Growing.{if-err, on-ok}
use Rattle.scmi_check.proofs.Telling.{adds-given, adds-nothing, stops-given}
use Rattle.scmi_check.proofs.under_way.Check.add.Goals as goal

pub returns-then-not-is_significant-clause-line : goal.returns-then-not-is_significant-clause-line
returns-then-not-is_significant-clause-line g c = λ r b all judged notes way.
    let skips : is_significant c.args.line.text.now ≡ false =
    first_of (search (rules, tests), cc) in
    adds-nothing (g.N.Names.means c.args.names.now) r b all judged notes
    (line_of c.args.line) c.args.self.now (g.L.Listener.judged c.args.listener.now)
    (g.L.Listener.noted c.args.listener.now) skips way

pub returns-in-Some-clause-line : goal.returns-in-Some-clause-line
returns-in-Some-clause-line g c = λ r b all judged notes way.
    let M = g.N.Names.means c.args.names.now in
    let text = c.args.line.text.now in
    let counts : is_significant c.args.line.text.now ≡ true =
    first_of (search (rules, tests), cc) in
    let means = subst (M text) (sym c.as_bytes-text.ensures.value)
    (subst (λ o. MatchOption o (M text text) (λ line. M text (string_bytes line))) c.in-Some.is
    c.in_ok-given.ensures) in
    on-ok c.add_given.result (c.add_given.ensures.line r b all judged notes way)
    (adds-given M r b all judged notes (line_of c.args.line) c.as_bytes-text.result.now
    c.add_given.new.self (g.L.Listener.judged c.args.listener.now)
    (g.L.Listener.judged c.add_given.new.listener)
    (g.L.Listener.noted c.args.listener.now) (g.L.Listener.noted c.add_given.new.listener) counts
    means)

pub returns-in-Some-clause-errors : goal.returns-in-Some-clause-errors
returns-in-Some-clause-errors g c = λ r b all judged notes way.
    let M = g.N.Names.means c.args.names.now in
    let text = c.args.line.text.now in
    let counts : is_significant c.args.line.text.now ≡ true =
    first_of (search (rules, tests), cc) in
    let means = subst (M text) (sym c.as_bytes-text.ensures.value)
    (subst (λ o. MatchOption o (M text text) (λ line. M text (string_bytes line))) c.in-Some.is
    c.in_ok-given.ensures) in
    if-err c.add_given.result (c.add_given.ensures.errors r b all judged notes way)
    (λ e stop. stops-given M b all (line_of c.args.line) c.as_bytes-text.result.now e counts
    means stop)

pub returns-in-None-clause-line : goal.returns-in-None-clause-line
returns-in-None-clause-line g c = λ r b all judged notes way.
    let M = g.N.Names.means c.args.names.now in
    let text = c.args.line.text.now in
    let counts : is_significant c.args.line.text.now ≡ true =
    first_of (search (rules, tests), cc) in
    let means = subst (λ o. MatchOption o (M text text) (λ line. M text (string_bytes line)))
    c.in-None.is c.in_ok-given.ensures in
    on-ok c.add_given-in-None.result (c.add_given-in-None.ensures.line r b all judged notes way)
    (adds-given M r b all judged notes (line_of c.args.line) text c.add_given-in-None.new.self
    (g.L.Listener.judged c.args.listener.now)
    (g.L.Listener.judged c.add_given-in-None.new.listener)
    (g.L.Listener.noted c.args.listener.now) (g.L.Listener.noted c.add_given-in-None.new.listener)
    counts means)

pub returns-in-None-clause-errors : goal.returns-in-None-clause-errors
returns-in-None-clause-errors g c = λ r b all judged notes way.
    let M = g.N.Names.means c.args.names.now in
    let text = c.args.line.text.now in
    let counts : is_significant c.args.line.text.now ≡ true =
    first_of (search (rules, tests), cc) in
    let means = subst (λ o. MatchOption o (M text text) (λ line. M text (string_bytes line)))
    c.in-None.is c.in_ok-given.ensures in
    if-err c.add_given-in-None.result (c.add_given-in-None.ensures.errors r b all judged notes way)
    (λ e stop. stops-given M b all (line_of c.args.line) text e counts means stop)
