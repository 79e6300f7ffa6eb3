-- What is found of a record once no line is left.
use Rattle.std.proofs.Common.{◌≡◌, ◌∙◌, ◌<◌, ◌+◌, Bool, true, false, List, ◌++◌, length, Result, Ok, refl, sym, ap, subst}
use Rattle.std.specs.List.{All, list_any}
use Rattle.std.specs.Prelude.{not}
use Rattle.scmi_plan.specs.Board.{Board}
use Rattle.scmi_judge.specs.Guesses.{AreMany}
use Rattle.scmi_judge.specs.declared.unseen.Unseen.{Unseen}
use Rattle.scmi_check.specs.Check.{IsFoundOf}
use Rattle.scmi_check.specs.Judged.{AreJudged, DoesFit, behind, line_at, shows_platform}
use Rattle.scmi_check.specs.LeftOut.{LeftView, with_notes}
use Rattle.scmi_check.specs.RecordText.{RecordView, Shows, finished, shows_of}
use Rattle.scmi_check.specs.UnderWay.{IsUnderWay}
use Rattle.scmi_check.specs.declared.check.TheConstants.{PLACES}
use Rattle.scmi_check.specs.declared.checked.Checked.{Checked}
use Rattle.scmi_check.specs.declared.judged.Judged.{Judged}
use Rattle.scmi_check.specs.declared.note.Note.{Note}
use Rattle.scmi_check.specs.declared.record.Placed.{Placed}
use Rattle.scmi_check.specs.declared.under_way.Check.{Check}
use Rattle.scmi_check.proofs.Growing.{append-none}
use Rattle.scmi_check.proofs.Onto.{finished-onto}

pub same-ok : {T E : Type 0} (a b : T) → ◌≡◌ {A = Result T E} (Ok a) (Ok b) → a ≡ b
same-ok a b same = cc

is-so : (b : Bool) → not b ≡ false → b ≡ true
is-so true is = refl
is-so false is = absurd cc

module _ (may : Unseen) (board : Board) (all : Shows) (judged : List Judged)
    (notes : List Note) (c : Check) (way : IsUnderWay may board all judged notes c) where
  pub entries-are : all.entries ≡ way.placed
  entries-are = ap (λ (s : Shows). s.entries) way.all_is
      ∙ ap (λ (es : List Placed). way.placed ++ es) way.none_left ∙ append-none way.placed

  pub notes-are : all.left.notes ≡ notes
  notes-are =
      ap (λ (s : Shows). s.left.notes) way.all_is
      ∙ ap (λ (ns : List Note). notes ++ ns) way.none_noted ∙ append-none notes

  left-is : (finished all).left ≡ with_notes (finished (shows_of c.so_far)).left
      (notes ++ (finished (shows_of c.so_far)).left.notes)
  left-is = ap (λ (r : RecordView). r.left) (ap finished way.all_is
      ∙ finished-onto way.placed notes (shows_of c.so_far))

  pub all-found : (left : LeftView) (checked : Checked) → (finished (shows_of c.so_far)).left ≡ left
      → left.skipped ≡ checked.skipped → left.protocols ≡ checked.protocols.items
      → checked.differs ≡ c.progress.differs
      → checked.unsure ≡ c.progress.unsure → c.progress.is_empty ≡ false
      → IsFoundOf may board (finished all) judged (notes ++ left.notes) checked
  all-found left checked is skipped protocols differs unsure empty =
      let being = way.judging in
      record {
        some = ap (list_any shows_platform) entries-are
            ∙ is-so (list_any shows_platform way.placed) (sym being.empty_is ∙ empty);
        are = subst (λ (es : List Placed). AreJudged may board es judged)
            (sym entries-are) being.are;
        many = subst (λ (es : List Placed). length judged < length es → All DoesFit judged
            → AreMany may board (behind judged) (2 + PLACES)) (sym entries-are) being.many;
        left_is = left-is ∙ ap (λ (l : LeftView). with_notes l (notes ++ l.notes)) is
            ∙ ap (λ n. record {
              notes = notes ++ left.notes;
              skipped = n;
              protocols = left.protocols;
            }) skipped
            ∙ ap (λ ps. record {
              notes = notes ++ left.notes;
              skipped = checked.skipped;
              protocols = ps;
            }) protocols;
        unsure_is = unsure ∙ being.unsure_is ∙ ap (λ (es : List Placed). line_at es (length judged))
            (sym entries-are);
        differs_is = differs ∙ being.differs_is;
      }
