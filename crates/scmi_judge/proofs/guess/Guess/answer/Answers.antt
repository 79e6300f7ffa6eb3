use Rattle.std.proofs.Common.{◌≡◌, ◌≢◌, true, false, List, None, Some, refl, sym, ap, ◌∙◌, rules}
use Rattle.scmi_core.specs.declared.event.Event.{Event}
use Rattle.scmi_core.specs.declared.event.Event.TheVariants.{Command, CommandFailed}
use Rattle.scmi_core.specs.Effect.{effect_after}
use Rattle.scmi_core.specs.Reply.{failed_answer}
use Rattle.scmi_core.specs.Standing.{StandsAfter}
use Rattle.scmi_judge.specs.Behind.{MayFail}
use Rattle.scmi_judge.specs.Shown.{fault_shown}
use Rattle.scmi_judge.proofs.Answering.{failed-not-done, sole-fault}
use Rattle.scmi_judge.proofs.Guessing.{gives-failed, other-answer}
use Rattle.scmi_judge.proofs.guess.Guess.answer.Goals as goal

changes : (c : goal.After-is_same_answer) (h : List Event) → StandsAfter c.args.self.now.platform h
    → effect_after c.args.self.now.platform.board h (Command c.args.agent c.args.frame.now) ≢ None
changes c h stands none =
    let has : c.has_agent.result ≡ true = search rules in
    let nothing = (c.in-Ok.ensures.nothing h stands).1 (c.has_agent.ensures.is.0 has, none) in
    absurd (cc)

shows : (c : goal.After-is_same_answer) → fault_shown c.args.answer.now ≡ Some c.in-Some.fault
shows c = search rules

allowed : (c : goal.After-is_same_answer)
    → MayFail c.args.unseen (CommandFailed c.args.agent c.args.frame.now c.in-Some.fault)
allowed c = search rules

pub returns-in-Ok-clause-gives : goal.returns-in-Ok-clause-gives
returns-in-Ok-clause-gives c went =
    gives-failed c.args.unseen c.args.self.now _ c.args.agent c.args.frame.now c.args.answer.now
    c.in-Some.fault c.in-Ok.ensures.event refl refl refl
    (allowed c)
    (sym (c.is_same_answer.ensures.same.0 went) ∙ c.in-Ok.ensures.answer)
    (λ h stands. failed-not-done c.args.self.now.platform.board h c.args.agent c.args.frame.now
    c.args.answer.now c.in-Some.fault (changes c h stands) (shows c))
    (λ h stands other. sole-fault c.args.self.now.platform.board h c.args.agent c.args.frame.now
    c.args.answer.now c.in-Some.fault other (changes c h stands) (shows c))

pub returns-in-Ok-clause-not : goal.returns-in-Ok-clause-not
returns-in-Ok-clause-not c not =
    other-answer c.args.unseen c.args.self.now c.args.agent c.args.frame.now c.args.answer.now
    (λ h stands. failed-not-done c.args.self.now.platform.board h c.args.agent c.args.frame.now
    c.args.answer.now c.in-Some.fault (changes c h stands) (shows c))
    (λ h stands some fault may is.
    let own = sole-fault c.args.self.now.platform.board h c.args.agent c.args.frame.now
    c.args.answer.now c.in-Some.fault fault some (shows c) is in
    let same : c.is_same_answer.result ≡ true =
    c.is_same_answer.ensures.same.1
    (c.in-Ok.ensures.answer ∙ sym (is ∙ ap (failed_answer c.args.frame.now) own)) in
    absurd (let no : true ≡ false = sym same ∙ not in cc))
