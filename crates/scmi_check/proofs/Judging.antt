-- The entries of a record with the verdicts on them.
use Rattle.std.proofs.Common.{◌≡◌, ◌≢◌, ◌↔◌, ◌⊎◌, inl, inr, ℕ, suc, ◌<◌, ◌≤◌, List, [], ◌∷◌, ◌++◌, length, map, take, get_or, reverse, Some, refl, sym, ap, ◌∙◌, subst, arith}
use Rattle.std.specs.List.{All}
use Rattle.std.proofs.Math.Seq.{take-suc}
use Rattle.std.proofs.lemmas.List.{length-append, map-append, reverse-append, take-append-le, take_all}
use Rattle.std.proofs.lemmas.List.Elements.{All-nil, All-pop, All-push}
use Rattle.scmi_plan.specs.Board.{Board}
use Rattle.scmi_core.proofs.Laws.{empty_is_legal}
use Rattle.scmi_judge.specs.Behind.{Behind, HasLegalHistory, IsRight}
use Rattle.scmi_judge.specs.Due.{IsDue, in_place}
use Rattle.scmi_judge.specs.Judging.{Judging, Knows}
use Rattle.scmi_judge.specs.Moves.{Move, history}
use Rattle.scmi_core.specs.Legal.{IsLegal}
use Rattle.scmi_judge.specs.declared.entry.Entry.{Entry}
use Rattle.scmi_judge.specs.declared.unseen.Unseen.{Unseen}
use Rattle.scmi_judge.specs.declared.verdict.Verdict.{Verdict}
use Rattle.scmi_judge.specs.declared.verdict.Verdict.TheVariants as verdict
use Rattle.scmi_judge.proofs.Among.{legal-before, legal-front}
use Rattle.scmi_judge.proofs.Guessing.{decide}
use Rattle.scmi_check.specs.Finding.{Fits, finding_of, judged_as}
use Rattle.scmi_check.specs.Judged.{AreJudged, DoesFit, behind, meant, placed_of}
use Rattle.scmi_check.specs.declared.finding.Finding.TheVariants.{Own}
use Rattle.scmi_check.specs.declared.own_rule.OwnRule.{OwnRule}
use Rattle.scmi_check.specs.declared.judged.Judged.{Judged}
use Rattle.scmi_check.specs.declared.record.Placed.{Placed}
use Rattle.scmi_check.proofs.Findings.{as-it-is, as-meant, fits-or-not, other-found, own-due, same-or-not}

-- what has a history with one more entry has one
front-behind : (may : Unseen) (board : Board) {entry : Entry} {entries : List Entry}
    {moves : List Move} → Behind may board (entry ∷ entries) moves → IsLegal board (history moves)
    → HasLegalHistory may board entries
front-behind may board (Behind.unseen {moves = before} behind move unseen) legal =
    front-behind may board behind (legal-before board before move legal)
front-behind may board
    (Behind.shown {entries = shown} {moves = before} behind entry after fits) legal =
    (before, legal-front may board shown before after entry fits legal, behind)

front-right : (may : Unseen) (board : Board) (entry : Entry) (entries : List Entry)
    → HasLegalHistory may board (entry ∷ entries) → HasLegalHistory may board entries
front-right may board entry entries has = front-behind may board has.2 has.1

-- an entry that differs by a rule of the profile's own, judged again with the answer that was due
module _ (may : Unseen) (board : Board) (mid new : Judging) (entries : List Entry)
    (entry given : Entry) (v again : Verdict) (rule : OwnRule)
    (found : finding_of entry v ≡ Own rule) (is : given ≡ in_place entry v) (b : mid.board ≡ board)
    (r : mid.unseen ≡ may) where
  pub other : v ≢ verdict.Same
  other = other-found entry v (λ s. absurd (let f = sym found ∙ s in cc))

  pub judged-legal : IsDue v entry (λ due. HasLegalHistory may board (due ∷ entries))
      → HasLegalHistory may board (judged_as entry v ∷ entries)
  judged-legal due =
      subst (λ e. HasLegalHistory may board (e ∷ entries)) (sym (as-meant entry v rule found))
      (own-due entry v rule (λ due. HasLegalHistory may board (due ∷ entries)) found due)

  pub judged-knows : IsDue v entry (λ due. HasLegalHistory may board (due ∷ entries))
      → (again ≢ verdict.Same → ¬ (HasLegalHistory mid.unseen mid.board (given ∷ entries)))
      → (again ≡ verdict.Same → Knows new (given ∷ entries))
      → Knows new (judged_as entry v ∷ entries)
  judged-knows due differs knows = subst (λ e. Knows new (e ∷ entries))
      (sym (as-meant entry v rule found ∙ sym is)) (knows (by (same-or-not again))) where
        by : (again ≡ verdict.Same) ⊎ (again ≢ verdict.Same) → again ≡ verdict.Same
        by (inl here) = here
        by (inr away) =
            absurd (differs away (subst (λ x. HasLegalHistory x mid.board (given ∷ entries))
            (sym r) (subst (λ x. HasLegalHistory may x (given ∷ entries)) (sym b)
            (subst (λ e. HasLegalHistory may board (e ∷ entries)) (sym is)
            (own-due entry v rule (λ due. HasLegalHistory may board (due ∷ entries)) found due)))))

-- no entry
pub judged-none : (may : Unseen) (board : Board) (placed : List Placed) (none : List Judged)
    → none ≡ [] → AreJudged may board placed none
judged-none may board placed none is = subst (AreJudged may board placed) (sym is)
    (record {
      few = omega arith;
      first = refl;
      right = λ count few. let zero : count ≡ 0 = omega (arith, few) in
          subst (λ n. All DoesFit (take n []) ↔ IsRight may board (map meant (take n [])))
          (sym zero)
          (λ all. ([], empty_is_legal board, Behind.nothing), λ has. All-nil DoesFit);
    })

-- one entry more
module _ (may : Unseen) (board : Board) (placed : List Placed) (judged : List Judged) (one : Placed)
    (v : Verdict) (are : AreJudged may board placed judged)
    (less : length judged < length placed) (is : one ≡ get_or placed (length judged) one)
    (legal : All DoesFit judged → Fits (finding_of one.entry v)
    → HasLegalHistory may board (judged_as one.entry v ∷ behind judged))
    (differs : All DoesFit judged → ¬ (Fits (finding_of one.entry v))
    → ¬ (HasLegalHistory may board (one.entry ∷ behind judged))) where
  abbrev pub next : Judged
  next = record { line = one.line; entry = one.entry; verdict = v }

  pub longer : length (judged ++ next ∷ []) ≡ suc (length judged)
  longer = let more = length-append judged (next ∷ []) in omega (arith, more)

  pub shown : behind (judged ++ next ∷ []) ≡ judged_as one.entry v ∷ behind judged
  shown = ap reverse (map-append meant judged (next ∷ []))
      ∙ reverse-append (map meant judged) (judged_as one.entry v ∷ [])

  before : All DoesFit judged ↔ HasLegalHistory may board (behind judged)
  before = subst (λ js. All DoesFit js ↔ HasLegalHistory may board (behind js))
      (take_all (length judged) judged (omega arith)) (are.right (length judged) (omega arith))

  whole : All DoesFit (judged ++ next ∷ [])
      ↔ HasLegalHistory may board (judged_as one.entry v ∷ behind judged)
  whole = (
    λ all. let both = All-pop DoesFit (judged ++ next ∷ []) judged (Some next) refl all in
        legal both.0 both.1,
    λ has. let all = before.1 (front-right may board (judged_as one.entry v) (behind judged) has) in
        by all has (fits-or-not (finding_of one.entry v)),
  ) where
    by : All DoesFit judged → HasLegalHistory may board (judged_as one.entry v ∷ behind judged)
        → Fits (finding_of one.entry v) ⊎ (¬ (Fits (finding_of one.entry v)))
        → All DoesFit (judged ++ next ∷ [])
    by all has (inl fits) = All-push DoesFit judged next all fits
    by all has (inr away) = absurd (differs all away (subst
        (λ e. HasLegalHistory may board (e ∷ behind judged)) (as-it-is one.entry v away) has))

  right-more : (count : ℕ)
      → count ≤ length (judged ++ next ∷ []) → All DoesFit (take count (judged ++ next ∷ []))
      ↔ IsRight may board (map meant (take count (judged ++ next ∷ [])))
  right-more count few = by (decide count (suc (length judged))) where
    by : (count ≡ suc (length judged)) ⊎ (count ≢ suc (length judged))
        → All DoesFit (take count (judged ++ next ∷ []))
        ↔ IsRight may board (map meant (take count (judged ++ next ∷ [])))
    by (inl here) =
        subst (λ n. All DoesFit (take n (judged ++ next ∷ []))
        ↔ IsRight may board (map meant (take n (judged ++ next ∷ [])))) (sym here)
        (subst (λ js. All DoesFit js ↔ HasLegalHistory may board (behind js))
        (sym (take_all (suc (length judged)) (judged ++ next ∷ []) (omega (arith, longer))))
        (subst (λ es. All DoesFit (judged ++ next ∷ []) ↔ HasLegalHistory may board es)
        (sym shown) whole))
    by (inr other) =
        let small : count ≤ length judged = omega (arith, few, longer, other) in
        subst (λ js. All DoesFit js ↔ HasLegalHistory may board (behind js))
        (sym (take-append-le count judged (next ∷ []) small)) (are.right count small)

  pub judged-more : AreJudged may board placed (judged ++ next ∷ [])
  judged-more = record {
    few = omega (arith, less, longer);
    first = map-append placed_of judged (next ∷ []) ∙ ap (λ ps. ps ++ placed_of next ∷ []) are.first
        ∙ sym (subst (λ n. take n placed ≡ take (length judged) placed ++ one ∷ [])
        (sym longer) (take-suc placed (length judged) one less
        ∙ ap (λ x. take (length judged) placed ++ x ∷ []) (sym is)));
    right = right-more;
  }
