use Rattle.std.proofs.Common.{◌≡◌, true, false, ap, sym, ◌∙◌}
use Rattle.scmi_judge.specs.declared.guess.Guess.{Guess}
use Rattle.scmi_judge.proofs.Alike.{same_guess_decides, same_posted_decides}
use Rattle.scmi_judge.proofs.guess.Guess.is_same.Goals as goal
use Rattle.scmi_judge.proofs.guess.Guess.is_same.Goals.{then-is_same, else-is_same}

pub returns-then-eq : goal.returns-then-eq
returns-then-eq c =
    elim c.if-is_same.branch [
      | then-is_same w ↦
          let posted = same_posted_decides c.args.self.now.posted c.args.other.now.posted
          w.eq.result w.eq.ensures in
          same_guess_decides c.args.self.now c.args.other.now c.are_same_commands.result
          (c.is_same.ensures.0 w.if-is_same.true) (posted.0 (sym w.value-is ∙ c.if-eq.true))
          c.are_same_commands.ensures
      | else-is_same w ↦ absurd
          (let no : false ≡ true = sym w.if-is_same.false ∙ sym w.value-is ∙ c.if-eq.true in cc)
    ]

pub returns-else-eq : goal.returns-else-eq
returns-else-eq c =
    elim c.if-is_same.branch [
      | then-is_same w ↦
          let posted = same_posted_decides c.args.self.now.posted c.args.other.now.posted
          w.eq.result w.eq.ensures in (
            λ went. absurd (let no : false ≡ true = sym c.if-eq.false ∙ went in cc),
            λ same. absurd (let no : true ≡ false = sym (posted.1
                (ap (λ (g : Guess). g.posted) same)) ∙ sym w.value-is ∙ c.if-eq.false in cc),
          )
      | else-is_same w ↦ (
        λ went. absurd (let no : false ≡ true = sym c.if-eq.false ∙ went in cc),
        λ same. absurd (let no : true ≡ false = sym
            (c.is_same.ensures.1 (ap (λ (g : Guess). g.platform) same)) ∙ w.if-is_same.false in cc),
      )
    ]
