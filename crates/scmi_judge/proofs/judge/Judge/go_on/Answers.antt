use Rattle.scmi_judge.proofs.Boards.{still-ready}
use Rattle.scmi_judge.proofs.judge.Judge.go_on.Goals as goal

pub invariant_of-self : goal.invariant_of-self
invariant_of-self c = still-ready _ c.self.inside.guesses c.look_back.new.self
    c.look_back.new.window c.self.invariant.boards c.look_back.ensures.keeps
    (c.look_back.ensures.window c.self.inside.guesses.made.platform.board c.self.invariant.window)
    (λ sure. c.in-Ok.ensures.tried) (λ sure. c.in-Ok.ensures.others)

pub invariant_of-self-in-Err : goal.invariant_of-self-in-Err
invariant_of-self-in-Err c = still-ready _ c.self.inside.guesses c.look_back.new.self
    c.look_back.new.window c.self.invariant.boards c.look_back.ensures.keeps
    (c.look_back.ensures.window c.self.inside.guesses.made.platform.board c.self.invariant.window)
    (λ sure. absurd cc) (λ sure. absurd cc)
