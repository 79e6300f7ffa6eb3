use Rattle.std.proofs.Common.{IfSome, inr, rules}
use Rattle.scmi_check.specs.Check.{IsPlanText}
use Rattle.scmi_check.proofs.Growing.{if-err, if-ok}
use Rattle.scmi_check.proofs.check.check_record.Goals as goal

pub returns-clause-checked : goal.returns-clause-checked
returns-clause-checked g c =
    let plan = c.in_ok-text.field-0.plan in
    let options = c.args.options in
    let way = c.new-check.ensures options.unseen plan c.in_ok-judge.ensures.knows
    c.in_ok-judge.ensures.board c.in_ok-judge.ensures.unseen c.in_ok-judge.ensures.places
    c.agents.ensures.count in
    let of_board : IfSome (g.B.Read.remaining c.args.board.now) (λ text. IsPlanText text plan) =
    search rules in
    if-ok c.check_lines.result (c.check_lines.ensures.found options.protocols.now options.unseen
    plan way) (λ checked found. record {
      judged = found.judged;
      notes = found.notes;
      is_checked = record {
        board = plan;
        read = found.read;
        of_board = of_board;
        of_record = found.of_record;
        found = found.found;
      };
      given = found.given;
      told = found.told;
    })

pub returns-clause-faults : goal.returns-clause-faults
returns-clause-faults g c =
    let plan = c.in_ok-text.field-0.plan in
    let options = c.args.options in
    let way = c.new-check.ensures options.unseen plan c.in_ok-judge.ensures.knows
    c.in_ok-judge.ensures.board c.in_ok-judge.ensures.unseen c.in_ok-judge.ensures.places
    c.agents.ensures.count in
    let of_board : IfSome (g.B.Read.remaining c.args.board.now) (λ text. IsPlanText text plan) =
    search rules in
    if-err c.check_lines.result (c.check_lines.ensures.faults options.protocols.now options.unseen
    plan way) (λ e fault. inr (plan, of_board, fault))

pub returns-clause-alone : goal.returns-clause-alone
returns-clause-alone g c =
    let plan = c.in_ok-text.field-0.plan in
    let options = c.args.options in
    let way = c.new-check.ensures options.unseen plan c.in_ok-judge.ensures.knows
    c.in_ok-judge.ensures.board c.in_ok-judge.ensures.unseen c.in_ok-judge.ensures.places
    c.agents.ensures.count in
    if-err c.check_lines.result
    (c.check_lines.ensures.alone options.protocols.now options.unseen plan way)
    (λ e not of. absurd (not of))

pub returns-clause-before : goal.returns-clause-before
returns-clause-before g c =
    let plan = c.in_ok-text.field-0.plan in
    let options = c.args.options in
    let way = c.new-check.ensures options.unseen plan c.in_ok-judge.ensures.knows
    c.in_ok-judge.ensures.board c.in_ok-judge.ensures.unseen c.in_ok-judge.ensures.places
    c.agents.ensures.count in
    let of_board : IfSome (g.B.Read.remaining c.args.board.now) (λ text. IsPlanText text plan) =
    search rules in
    if-err c.check_lines.result
    (c.check_lines.ensures.before options.protocols.now options.unseen plan way)
    (λ e found at. record { board = plan; of_board = of_board; found = found at })
