use Rattle.std.proofs.Common.{◌≡◌, true, false, sym, ◌∙◌}
use Rattle.scmi_judge.proofs.Guessing.{gives-done, other-answer}
use Rattle.scmi_judge.proofs.guess.Guess.execute.Goals as goal

pub returns-in-Some-clause-gives : goal.returns-in-Some-clause-gives
returns-in-Some-clause-gives c went =
    gives-done c.args.unseen c.args.self.now c.executed.new.self c.args.agent c.args.frame.now
    c.args.answer.now c.in-Some.ensures.event c.executed.ensures.board
    c.executed.ensures.posted c.executed.ensures.outstanding
    (λ h stands. sym (c.is_same_answer.ensures.same.0 went) ∙ c.in-Some.ensures.answer h stands)
    c.requires.done

pub returns-in-Some-clause-not : goal.returns-in-Some-clause-not
returns-in-Some-clause-not c not =
    other-answer c.args.unseen c.args.self.now c.args.agent c.args.frame.now c.args.answer.now
    (λ h stands is.
    let same : c.is_same_answer.result ≡ true =
    c.is_same_answer.ensures.same.1 (c.in-Some.ensures.answer h stands ∙ sym is) in
    absurd (let no : true ≡ false = sym same ∙ not in cc))
    c.requires.done
