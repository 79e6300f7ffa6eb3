use Rattle.std.proofs.Common.{◌≡◌, ◌≢◌, ◌+◌, ◌∙◌, ◌∷◌, Ok, length, IfSome, sym, ap, subst, arith}
use Rattle.scmi_judge.specs.Behind.{HasLegalHistory}
use Rattle.scmi_judge.specs.Due.{IsDue}
use Rattle.scmi_judge.specs.Guesses.{AreMany}
use Rattle.scmi_judge.specs.Judging.{Knows}
use Rattle.scmi_judge.specs.declared.verdict.Verdict.TheVariants.{Same}
use Rattle.scmi_check.proofs.Findings.{as-same, other-found, same-found}
use Rattle.scmi_check.proofs.Judging.{judged-knows, judged-legal, other}
use Rattle.scmi_check.proofs.judged.judge_one.Goals as goal

pub returns-in-Same-clause-fits : goal.returns-in-Same-clause-fits
returns-in-Same-clause-fits c entries knew fits =
    let found = sym c.of.ensures ∙ c.in-Same.is in
    let knows =
    subst (λ o. IfSome o (λ v. v ≡ Same → Knows c.judge.new.self (c.args.entry.now ∷ entries)))
    c.in-Some.is (c.in_ok-verdict.ensures.knows entries knew) in
    subst (λ e. Knows c.judge.new.self (e ∷ entries))
    (sym (as-same c.args.entry.now c.in-Some.verdict found))
    (knows (same-found c.args.entry.now c.in-Some.verdict found))

pub returns-in-Same-clause-legal : goal.returns-in-Same-clause-legal
returns-in-Same-clause-legal c entries knew fits =
    let r = c.args.judge.now.unseen in
    let b = c.args.judge.now.board in
    let found = sym c.of.ensures ∙ c.in-Same.is in
    let same =
    subst (λ o. IfSome o (λ v. v ≡ Same → HasLegalHistory r b (c.args.entry.now ∷ entries)))
    c.in-Some.is (c.in_ok-verdict.ensures.same entries knew) in
    subst (λ e. HasLegalHistory r b (e ∷ entries))
    (sym (as-same c.args.entry.now c.in-Some.verdict found))
    (same (same-found c.args.entry.now c.in-Some.verdict found))

pub returns-in-Some-2-clause-fits : goal.returns-in-Some-2-clause-fits
returns-in-Some-2-clause-fits c entries knew fits =
    let r = c.args.judge.now.unseen in
    let b = c.args.judge.now.board in
    let entry = c.args.entry.now in
    let v = c.in-Some.verdict in
    let rule = c.in-Own.field-0 in
    let mid = c.judge.new.self in
    let new = c.judge-in-Own.new.self in
    let given = c.in_place.result in
    let again = c.in-Some-2.field-0 in
    let found = sym c.of.ensures ∙ c.in-Own.is in
    let not-same = other r b mid new entries entry given v again rule found c.in_place.ensures
    c.judge.ensures.board c.judge.ensures.unseen in
    let stays = subst (λ o. IfSome o (λ w. w ≢ Same → Knows mid entries)) c.in-Some.is
    (c.in_ok-verdict.ensures.stays entries knew) not-same in
    judged-knows r b mid new entries entry given v again rule found c.in_place.ensures
    c.judge.ensures.board c.judge.ensures.unseen
    (subst (λ o. IfSome o (λ w. IsDue w entry (λ due. HasLegalHistory r b (due ∷ entries))))
    c.in-Some.is (c.in_ok-verdict.ensures.due entries knew))
    (subst (λ o. IfSome o (λ w. w ≢ Same → ¬ (HasLegalHistory mid.unseen mid.board
    (given ∷ entries)))) c.in-Some-2.is (c.in_ok-judge-in-Own.ensures.differs entries stays))
    (subst (λ o. IfSome o (λ w. w ≡ Same → Knows new (given ∷ entries))) c.in-Some-2.is
    (c.in_ok-judge-in-Own.ensures.knows entries stays))

pub returns-in-Some-2-clause-legal : goal.returns-in-Some-2-clause-legal
returns-in-Some-2-clause-legal c entries knew fits =
    let r = c.args.judge.now.unseen in
    let b = c.args.judge.now.board in
    let found = sym c.of.ensures ∙ c.in-Own.is in
    judged-legal r b c.judge.new.self c.judge-in-Own.new.self entries c.args.entry.now
    c.in_place.result c.in-Some.verdict c.in-Some-2.field-0 c.in-Own.field-0 found
    c.in_place.ensures c.judge.ensures.board c.judge.ensures.unseen
    (subst (λ o. IfSome o (λ w. IsDue w c.args.entry.now (λ due. HasLegalHistory r b
    (due ∷ entries)))) c.in-Some.is (c.in_ok-verdict.ensures.due entries knew))

pub returns-in_ok-go_on-in-Differs-clause-differs :
    goal.returns-in_ok-go_on-in-Differs-clause-differs
returns-in_ok-go_on-in-Differs-clause-differs c entries knew away has =
    let found = sym c.of.ensures ∙ c.in-Differs.is in
    subst (λ o. IfSome o (λ w. w ≢ Same → ¬ (HasLegalHistory c.args.judge.now.unseen
    c.args.judge.now.board (c.args.entry.now ∷ entries)))) c.in-Some.is
    (c.in_ok-verdict.ensures.differs entries knew) (other-found c.args.entry.now c.in-Some.verdict
    (λ s. absurd (let f = sym found ∙ s in cc))) has

pub returns-in-None-clause-many : goal.returns-in-None-clause-many
returns-in-None-clause-many c entries knew is =
    let mid = c.judge.new.self in
    let found = sym c.of.ensures ∙ c.in-Own.is in
    let not-same = other-found c.args.entry.now c.in-Some.verdict
    (λ s. absurd (let f = sym found ∙ s in cc)) in
    let stays = subst (λ o. IfSome o (λ w. w ≢ Same → Knows mid entries)) c.in-Some.is
    (c.in_ok-verdict.ensures.stays entries knew) not-same in
    let many = c.in_ok-judge-in-Own.ensures.unsure entries stays (ap Ok c.in-None.is) in
    let kept = subst (λ o. IfSome o (λ w. length mid.guesses + length mid.spare
    ≡ length c.args.judge.now.guesses + length c.args.judge.now.spare)) c.in-Some.is
    c.in_ok-verdict.ensures.places in
    let count : 1 + length mid.guesses + length mid.spare ≡ 1 + length c.args.judge.now.guesses
    + length c.args.judge.now.spare = omega (arith, kept) in
    subst (AreMany c.args.judge.now.unseen c.args.judge.now.board entries) count
    (subst (λ b. AreMany c.args.judge.now.unseen b entries
    (1 + length mid.guesses + length mid.spare)) c.judge.ensures.board
    (subst (λ r. AreMany r mid.board entries (1 + length mid.guesses + length mid.spare))
    c.judge.ensures.unseen many))
