use Rattle.std.proofs.Common.{rules, ◌≡◌, inr, ℕ, List, None, sym, subst, ap, ◌∙◌}
use Rattle.scmi_c.specs.Kept.{Kept, aside_by}
use Rattle.scmi_c.specs.declared.aside.Slot.{Slot}
use Rattle.scmi_c.proofs.Places.{none-aside, some-aside}
use Rattle.scmi_c.proofs.desk.Desk.is_busy.Goals as goal

pub returns-else-self-clause-busy : goal.returns-else-self-clause-busy
returns-else-self-clause-busy c = λ on.
    let same : c.self.inside.aside.slots ≡ c.args.self.now.aside =
    ap (λ (k : Kept). k.aside) c.self.view_is in
    inr (λ none. some-aside c.self.inside.aside.slots (sym c.self.invariant.1.any ∙ on)
    (subst (λ (slots : List Slot). (agent : ℕ) → aside_by slots agent ≡ None) (sym same) none))

pub returns-else-self-clause-free : goal.returns-else-self-clause-free
returns-else-self-clause-free c = λ off.
    let same : c.self.inside.aside.slots ≡ c.args.self.now.aside =
    ap (λ (k : Kept). k.aside) c.self.view_is in
    record {
      unasked = search rules;
      none = subst (λ (slots : List Slot). (agent : ℕ) → aside_by slots agent ≡ None) same
          (none-aside c.self.inside.aside.slots (sym c.self.invariant.1.any ∙ off));
    }
