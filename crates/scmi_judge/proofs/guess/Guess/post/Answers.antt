use Rattle.std.proofs.Common.{◌≡◌, ◌<◌, ◌-◌, true, length, refl, sym, ◌∙◌, rules, arith}
use Rattle.std.proofs.lemmas.Grind.{common_steps}
use Rattle.scmi_judge.proofs.Guessing.{goes-by-posting}
use Rattle.scmi_judge.proofs.guess.Guess.post.Goals as goal

pub returns-clause-goes : goal.returns-clause-goes
returns-clause-goes c went may =
    let can : c.can_post.result ≡ true = search rules in
    let within : c.args.agent - 1 < length c.args.self.now.posted =
    first_of (search rules, grind (arith, common_steps)) in
    goes-by-posting may c.args.self.now _ c.args.agent c.in-Ok-Some.message
    (c.can_post.ensures.agent can) within (c.can_post.ensures.empty can)
    (λ h stands. sym (c.in-Ok-Some.ensures.first h stands) ∙ c.in-Ok-Some.field-0-is)
    c.in-Ok.ensures.event c.sent.ensures.board refl refl
