use Rattle.std.proofs.Common.{sym, ◌∙◌, subst}
use Rattle.scmi_judge.specs.Exact.{IsOfBoard}
use Rattle.scmi_judge.proofs.guesses.Guesses.free_all.Goals as goal

pub returns-clause-keeps : goal.returns-clause-keeps
returns-clause-keeps c = record {
  boards = λ board of.
      let one = c.free_others.ensures.keeps.boards board of in
      let two = c.free_others-2.ensures.keeps.boards board (record {
        left = subst (λ v. IsOfBoard board v.items) (sym c.swap.ensures.x_after) one.others;
        tried = one.tried;
        others = subst (λ v. IsOfBoard board v.items) (sym c.swap.ensures.y_after) one.left;
        spare = one.spare;
        made = one.made;
      }) in
      c.free_others-3.ensures.keeps.boards board (record {
        left = two.left;
        tried = subst (λ v. IsOfBoard board v.items) (sym c.swap-2.ensures.x_after) two.others;
        others = subst (λ v. IsOfBoard board v.items) (sym c.swap-2.ensures.y_after) two.tried;
        spare = two.spare;
        made = two.made;
      });
  unseen = c.free_others-3.ensures.keeps.unseen
      ∙ (c.free_others-2.ensures.keeps.unseen ∙ c.free_others.ensures.keeps.unseen);
}
