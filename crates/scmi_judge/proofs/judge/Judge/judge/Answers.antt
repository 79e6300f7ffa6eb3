use Rattle.std.proofs.Common.{◌≡◌, ◌+◌, ◌∷◌, [], length, refl, ap, sym, ◌∙◌, subst, arith}
use Rattle.scmi_judge.specs.Behind.{HasLegalHistory}
use Rattle.scmi_judge.specs.Due.{IsDue}
use Rattle.scmi_judge.specs.Exact.{AreExact}
use Rattle.scmi_judge.specs.Guesses.{AreMany, places}
use Rattle.scmi_judge.specs.Judging.{AreTooMany, Judging, Knows}
use Rattle.scmi_judge.proofs.Boards.{still-ready}
use Rattle.scmi_judge.proofs.Different.{found-start}
use Rattle.scmi_judge.proofs.Exactness.{none-wrong, some-right}
use Rattle.scmi_judge.proofs.judge.Judge.judge.Goals as goal

pub returns-in-Ok-note-clause-same : goal.returns-in-Ok-note-clause-same
returns-in-Ok-note-clause-same c entries knows same =
    let inside = c.self.inside.guesses in
    let before = subst (λ (j : Judging). Knows j entries) (sym c.self.view_is) knows in
    let exact = c.in-Ok.ensures.exact inside.made.platform.board entries before.exact same in
    subst (λ (j : Judging). HasLegalHistory j.unseen j.board (c.args.entry.now ∷ entries))
    c.self.view_is
    (some-right inside.unseen inside.made.platform.board
    (c.args.entry.now ∷ entries) c.judge.new.self.left.items exact (c.in-Ok.ensures.some same))

pub returns-in-Ok-note-clause-differs : goal.returns-in-Ok-note-clause-differs
returns-in-Ok-note-clause-differs c entries knows differs =
    let inside = c.self.inside.guesses in
    let before = subst (λ (j : Judging). Knows j entries) (sym c.self.view_is) knows in
    let exact = c.in-Ok.ensures.lost inside.made.platform.board entries before.exact differs in
    subst (λ (j : Judging). ¬ (HasLegalHistory j.unseen j.board (c.args.entry.now ∷ entries)))
    c.self.view_is
    (none-wrong inside.unseen inside.made.platform.board (c.args.entry.now ∷ entries) [] exact refl)

pub returns-in-Ok-note-clause-knows : goal.returns-in-Ok-note-clause-knows
returns-in-Ok-note-clause-knows c entries knows same =
    let inside = c.self.inside.guesses in
    let before = subst (λ (j : Judging). Knows j entries) (sym c.self.view_is) knows in
    let exact = c.in-Ok.ensures.exact inside.made.platform.board entries before.exact same in
    let boards = c.self.invariant.boards in
    let board = (c.judge.ensures.keeps.boards boards.0 boards.1).made ∙ sym boards.1.made in
    record {
      sure = refl;
      exact = subst (λ r. AreExact r c.judge.new.self.made.platform.board (c.args.entry.now
          ∷ entries) c.judge.new.self.left.items) (sym c.judge.ensures.keeps.unseen)
          (subst (λ b. AreExact inside.unseen b
          (c.args.entry.now ∷ entries) c.judge.new.self.left.items) (sym board) exact);
      different = c.in-Ok.ensures.different same;
    }

pub returns-in-Err-Full-clause-unsure : goal.returns-in-Err-Full-clause-unsure
returns-in-Err-Full-clause-unsure c entries knows full =
    let inside = c.self.inside.guesses in
    let before = subst (λ (j : Judging). Knows j entries) (sym c.self.view_is) knows in
    let none : length inside.tried.items ≡ 0 = ap length (c.self.invariant.tried before.sure) in
    let count : 1 + places inside ≡ 1 + length inside.left.items + length inside.spare.items =
    omega (arith, none) in
    let many =
    c.in-Err-Full.ensures.full c.in-Err-Full.field-0-is inside.made.platform.board entries
    (found-start inside.unseen inside.made.platform.board entries inside.left.items
    before.exact.real before.different) in
    subst (λ (j : Judging). AreTooMany j entries) c.self.view_is
    (subst (AreMany inside.unseen inside.made.platform.board entries) count many)

pub returns-in-Ok-note-clause-stays : goal.returns-in-Ok-note-clause-stays
returns-in-Ok-note-clause-stays c entries knows other =
    let inside = c.self.inside.guesses in
    let before = subst (λ (j : Judging). Knows j entries) (sym c.self.view_is) knows in
    let both = c.in-Ok.ensures.stays inside.made.platform.board entries before.exact
    before.different other in
    let boards = c.self.invariant.boards in
    let board = (c.judge.ensures.keeps.boards boards.0 boards.1).made ∙ sym boards.1.made in
    record {
      sure = refl;
      exact = subst (λ r. AreExact r c.judge.new.self.made.platform.board entries
          c.judge.new.self.left.items) (sym c.judge.ensures.keeps.unseen)
          (subst (λ b. AreExact inside.unseen b entries c.judge.new.self.left.items)
          (sym board) both.0);
      different = both.1;
    }

pub returns-in-Ok-note-clause-due : goal.returns-in-Ok-note-clause-due
returns-in-Ok-note-clause-due c entries knows =
    let inside = c.self.inside.guesses in
    let before = subst (λ (j : Judging). Knows j entries) (sym c.self.view_is) knows in
    subst (λ (j : Judging). IsDue c.in-Ok.verdict c.args.entry.now
    (λ due. HasLegalHistory j.unseen j.board (due ∷ entries))) c.self.view_is
    (c.in-Ok.ensures.due inside.made.platform.board entries before.exact)

pub invariant_of-self : goal.invariant_of-self
invariant_of-self c = still-ready _ c.self.inside.guesses c.judge.new.self c.note.new.self
    c.self.invariant.boards c.judge.ensures.keeps
    (c.note.ensures.boards c.self.inside.guesses.made.platform.board c.self.invariant.window)
    (λ sure. absurd cc) (λ sure. absurd cc)

pub invariant_of-self-in-Ok : goal.invariant_of-self-in-Ok
invariant_of-self-in-Ok c = still-ready _ c.self.inside.guesses c.judge.new.self c.note.new.self
    c.self.invariant.boards c.judge.ensures.keeps
    (c.note.ensures.boards c.self.inside.guesses.made.platform.board c.self.invariant.window)
    (λ sure. c.in-Ok.ensures.tried) (λ sure. c.in-Ok.ensures.others)

pub invariant_of-self-in-Err-Full : goal.invariant_of-self-in-Err-Full
invariant_of-self-in-Err-Full c = still-ready _ c.self.inside.guesses c.judge.new.self
    c.self.inside.window c.self.invariant.boards c.judge.ensures.keeps c.self.invariant.window
    (λ sure. absurd cc) (λ sure. absurd cc)

pub invariant_of-self-in-Err-Memory : goal.invariant_of-self-in-Err-Memory
invariant_of-self-in-Err-Memory c = still-ready _ c.self.inside.guesses c.judge.new.self
    c.self.inside.window c.self.invariant.boards c.judge.ensures.keeps c.self.invariant.window
    (λ sure. absurd cc) (λ sure. absurd cc)
