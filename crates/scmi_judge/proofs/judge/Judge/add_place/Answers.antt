use Rattle.std.proofs.Common.{is_ok, ap, sym, ◌∙◌}
use Rattle.scmi_judge.specs.Judging.{Judging}
use Rattle.scmi_judge.proofs.Boards.{of-pushed}
use Rattle.scmi_judge.proofs.judge.Judge.add_place.Goals as goal

pub invariant_of-self-2 : goal.invariant_of-self-2
invariant_of-self-2 c =
    let have = c.self.invariant.boards in
    let of = have.1 in
    let place = c.in_ok-place.place in
    let is = c.in_ok-place.ensures.board ∙ c.requires
    ∙ sym (ap (λ (j : Judging). j.board) c.self.view_is) ∙ of.made in
    record {
      boards = (
        have.0,
        record {
          left = of.left;
          tried = of.tried;
          others = of.others;
          spare = of-pushed have.0 _ _ place (is_ok c.push.result) c.push.ensures.items of.spare is;
          made = of.made;
        },
      );
      window = c.self.invariant.window;
      tried = c.self.invariant.tried;
      others = c.self.invariant.others;
    }
