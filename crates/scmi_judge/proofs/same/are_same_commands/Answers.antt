use Rattle.std.proofs.Common.{◌≡◌, ℕ, ◌<◌, ◌≤◌, List, Option, None, get_or, length, refl, sym, ◌∙◌, rules, arith}
use Rattle.std.proofs.lemmas.Grind.{common_steps}
use Rattle.std.proofs.lemmas.List.{ext_get_or}
use Rattle.scmi_judge.specs.declared.outstanding.Outstanding.{Outstanding}
use Rattle.scmi_judge.proofs.same.are_same_commands.Goals as goal

all-same : (a b : List (Option Outstanding)) → length a ≡ 8 → length b ≡ 8
    → ((k : ℕ) → k < 8 → get_or a k None ≡ get_or b k None) → a ≡ b
all-same a b first second same =
    ext_get_or None a b (first ∙ sym second) (λ k less. same k (omega (arith, less, first)))

pub returns : goal.returns
returns c =
    let first : length c.args.a.now ≡ 8 = first_of (search rules, grind (arith, common_steps)) in
    let second : length c.args.b.now ≡ 8 = first_of (search rules, grind (arith, common_steps)) in
    let all : 8 ≤ c.places.place = first_of (search rules, grind (arith, common_steps)) in (
      λ went. all-same c.args.a.now c.args.b.now first second
          (λ k less. c.places.invariant k (omega (arith, less, all))),
      λ same. refl,
    )
