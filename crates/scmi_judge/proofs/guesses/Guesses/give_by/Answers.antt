use Rattle.std.proofs.Common.{◌≡◌, true, false, subst, rules}
use Rattle.scmi_judge.specs.Guesses.{IsIn}
use Rattle.scmi_judge.proofs.Boards.{keep-made}
use Rattle.scmi_judge.proofs.Different.{absent, different-left}
use Rattle.scmi_judge.proofs.Exactness.{given-again, given-nothing}
use Rattle.scmi_judge.proofs.guesses.Guesses.give_by.Goals as goal
use Rattle.scmi_judge.proofs.guesses.Guesses.give_by.Goals.{else-show-via-then-show+else-not-has, else-show-via-else-show}

pub returns-clause-given : goal.returns-clause-given
returns-clause-given c =
    elim c.else-show.branch [
      | else-show-via-then-show+else-not-has w ↦
          let has : w.has.result ≡ true = search rules in
          given-again c.args.self.now.unseen c.args.guess c.copy_from.new.self c.show.new.self
          c.args.entry.now c.args.self.now.left.items c.copy_from.ensures
          (c.show.ensures.gives w.if-show.true)
          (subst (IsIn c.show.new.self) w.deref.ensures.value (w.has.ensures.0 has))
      | else-show-via-else-show w ↦
          given-nothing c.args.self.now.unseen c.args.guess c.copy_from.new.self c.args.entry.now
          c.args.self.now.left.items c.copy_from.ensures
          (c.show.ensures.not w.if-show.false)
    ]

pub returns-then-not-has-clause-different : goal.returns-then-not-has-clause-different
returns-then-not-has-clause-different c =
    let hasnt : c.has.result ≡ false = search rules in
    different-left c.leave.result c.args.self.now.left.items _ c.show.new.self c.leave.ensures.kept
    (absent c.args.self.now.left.items _ c.show.new.self c.has.result c.deref.ensures.value
    c.has.ensures hasnt)

pub returns-then-not-has-clause-keeps : goal.returns-then-not-has-clause-keeps
returns-then-not-has-clause-keeps c =
    keep-made c.args.self.now _ c.args.guess c.copy_from.new.self c.show.new.self c.requires.boards
    c.copy_from.ensures c.show.ensures.board c.leave.ensures.keeps
