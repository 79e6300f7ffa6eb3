-- How far the entries of a record are judged, one entry after the other.
use Rattle.std.proofs.Common.{◌≡◌, ◌||◌, ℕ, suc, zero, ◌+◌, ◌<◌, ◌≤◌, ◌∙◌, Bool, true, false, List, [], ◌∷◌, ◌++◌, length, get_or, Option, None, Some, refl, sym, ap, subst, arith}
use Rattle.std.specs.List.{All, list_any}
use Rattle.std.specs.Option.{option_map}
use Rattle.std.specs.Prelude.{◌&&◌, not, slice_get}
use Rattle.std.proofs.Math.Seq.{get_or-append_seam}
use Rattle.std.proofs.Math.ListN.{get_or-append}
use Rattle.std.proofs.lemmas.List.{length-append, take-append-le}
use Rattle.std.proofs.lemmas.List.Elements.{All-pop}
use Rattle.std.proofs.lemmas.List.Folds.{list_any-append}
use Rattle.std.proofs.lemmas.Option.{get_or_from_slice_get, slice_get-get_or, slice_get_past, slice_get_within}
use Rattle.scmi_plan.specs.Board.{Board}
use Rattle.scmi_judge.specs.Behind.{HasLegalHistory}
use Rattle.scmi_judge.specs.Guesses.{AreMany}
use Rattle.scmi_judge.specs.Judging.{AreTooMany, Knows}
use Rattle.scmi_judge.specs.declared.entry.Entry.{Entry}
use Rattle.scmi_judge.specs.declared.unseen.Unseen.{Unseen}
use Rattle.scmi_judge.specs.declared.verdict.Verdict.{Verdict}
use Rattle.scmi_check.specs.Finding.{Fits, finding_of, judged_as}
use Rattle.scmi_check.specs.Judged.{AreJudged, DoesFit, behind, does_differ, line_at, shows_platform}
use Rattle.scmi_check.specs.Progress.{AreBeingJudged}
use Rattle.scmi_check.specs.declared.check.TheConstants.{PLACES}
use Rattle.scmi_check.specs.declared.judged.Judged.{Judged}
use Rattle.scmi_check.specs.declared.record.Placed.{Placed}
use Rattle.scmi_check.specs.declared.progress.Progress.{Progress}
use Rattle.scmi_check.proofs.Judging.{judged-more, judged-none, longer, shown}

-- the entry at a place, and its line
got-left : (xs ys : List Placed) (k : ℕ) (x : Placed) → slice_get xs k ≡ Some x
    → slice_get (xs ++ ys) k ≡ Some x
got-left xs ys k x is =
    let less = slice_get_within xs k x is in
    let more = length-append xs ys in
    slice_get-get_or (xs ++ ys) k x (omega (arith, less, more))
    ∙ ap (λ (y : Placed). Some y) (get_or-append xs ys x k less
    ∙ get_or_from_slice_get xs k x x is)

line-left : (xs ys : List Placed) (k line : ℕ) → line_at xs k ≡ Some line
    → line_at (xs ++ ys) k ≡ Some line
line-left xs ys k line is = by (slice_get xs k) refl is where
  by : (got : Option Placed) → slice_get xs k ≡ got
      → option_map (λ (one : Placed). one.line) got ≡ Some line → line_at (xs ++ ys) k ≡ Some line
  by None at none = absurd cc
  by (Some x) at some = ap (option_map (λ (one : Placed). one.line)) (got-left xs ys k x at) ∙ some

line-within : (xs : List Placed) (k line : ℕ) → line_at xs k ≡ Some line → k < length xs
line-within xs k line is = by (slice_get xs k) refl is where
  by : (got : Option Placed) → slice_get xs k ≡ got
      → option_map (λ (one : Placed). one.line) got ≡ Some line → k < length xs
  by None at none = absurd cc
  by (Some x) at some = slice_get_within xs k x at

none-past : (xs : List Placed) (k : ℕ) → line_at xs k ≡ None → length xs ≤ k
none-past [] k is = omega arith
none-past (x ∷ xs) zero is = absurd cc
none-past (x ∷ xs) (suc k) is = let before = none-past xs k is in omega (arith, before)

line-last : (xs : List Placed) (one : Placed) → line_at (xs ++ one ∷ []) (length xs) ≡ Some one.line
line-last xs one =
    let more = length-append xs (one ∷ []) in
    ap (option_map (λ (x : Placed). x.line)) (slice_get-get_or (xs ++ one ∷ []) (length xs) one
    (omega (arith, more)) ∙ ap (λ (x : Placed). Some x) (get_or-append_seam xs one [] one))

line-past : (xs : List Placed) (k : ℕ) → length xs ≤ k → line_at xs k ≡ None
line-past xs k past = ap (option_map (λ (x : Placed). x.line)) (slice_get_past xs k past)

-- whether no entry is of the platform, with one more
still-empty : (xs : List Placed) (one : Placed) (old new : Bool)
    → old ≡ not (list_any shows_platform xs) → new ≡ old && not (shows_platform one)
    → new ≡ not (list_any shows_platform (xs ++ one ∷ []))
still-empty xs one old new before is = is ∙ ap (λ (b : Bool). b && not (shows_platform one)) before
    ∙ neither (list_any shows_platform xs) (shows_platform one)
    ∙ sym (ap not (list_any-append shows_platform xs (one ∷ []))) where
      neither : (a b : Bool) → (not a) && (not b) ≡ not (a || (b || false))
      neither true b = refl
      neither false true = refl
      neither false false = refl

-- no entry
pub being-none : (may : Unseen) (board : Board) (p : Progress) → Knows p.judge []
    → p.judge.board ≡ board → p.judge.unseen ≡ may
    → length p.judge.guesses + length p.judge.spare ≡ 1 + PLACES → p.unsure ≡ None
    → p.differs ≡ false
    → p.is_empty ≡ true → AreBeingJudged may board [] [] p
being-none may board p knows board-is unseen-is places unsure differs empty =
    record {
      board_is = board-is;
      unseen_is = unseen-is;
      places = λ _. places;
      knows = λ _ _. knows;
      are = judged-none may board [] [] refl;
      many = λ less. absurd (omega (arith, less));
      unsure_is = unsure;
      differs_is = differs;
      empty_is = empty;
    }

module _ (may : Unseen) (board : Board) (placed : List Placed) (judged : List Judged)
    (one : Placed) (old new : Progress) (being : AreBeingJudged may board placed judged old)
  where
    are-later : AreJudged may board (placed ++ one ∷ []) judged
    are-later = let more = length-append placed (one ∷ []) in let few = being.are.few in
        record {
          few = omega (arith, more, few);
          first = being.are.first
              ∙ sym (take-append-le (length judged) placed (one ∷ []) few);
          right = being.are.right;
        }

    -- an entry behind one that is not judged
    pub passed-over : (line : ℕ) → old.unsure ≡ Some line → new.judge ≡ old.judge
        → new.unsure ≡ old.unsure → new.differs ≡ old.differs
        → new.is_empty ≡ old.is_empty && not (shows_platform one)
        → AreBeingJudged may board (placed ++ one ∷ []) judged new
    passed-over line is judge-is unsure-is differs-is empty-is =
        let at : line_at placed (length judged) ≡ Some line = sym being.unsure_is ∙ is in
        let less = line-within placed (length judged) line at in
        record {
          board_is = ap (λ j. j.board) judge-is ∙ being.board_is;
          unseen_is = ap (λ j. j.unseen) judge-is ∙ being.unseen_is;
          places = λ none. absurd (let some = sym none ∙ unsure-is ∙ is in cc);
          knows = λ none. absurd (let some = sym none ∙ unsure-is ∙ is in cc);
          are = are-later;
          many = λ _ all. being.many less all;
          unsure_is = unsure-is ∙ is ∙ sym (line-left placed (one ∷ []) (length judged) line at);
          differs_is = differs-is ∙ being.differs_is;
          empty_is = still-empty placed one old.is_empty new.is_empty being.empty_is empty-is;
        }

    -- all entries before are judged
    module _ (sure : old.unsure ≡ None) where
      same-length : length judged ≡ length placed
      same-length = let past = none-past placed (length judged) (sym being.unsure_is ∙ sure) in
          let few = being.are.few in omega (arith, past, few)

      -- an entry behind which more platforms may be than there are places
      pub now-unsure : ((entries : List Entry) → Knows old.judge entries
          → AreTooMany old.judge entries) → new.judge.board ≡ old.judge.board
          → new.judge.unseen ≡ old.judge.unseen → new.unsure ≡ Some one.line
          → new.differs ≡ old.differs
          → new.is_empty ≡ old.is_empty && not (shows_platform one)
          → AreBeingJudged may board (placed ++ one ∷ []) judged new
      now-unsure many board-is unseen-is unsure-is differs-is empty-is =
          record {
            board_is = board-is ∙ being.board_is;
            unseen_is = unseen-is ∙ being.unseen_is;
            places = λ none. absurd (let some = sym none ∙ unsure-is in cc);
            knows = λ none. absurd (let some = sym none ∙ unsure-is in cc);
            are = are-later;
            many = λ _ all.
                let judge = old.judge in
                let places = being.places sure in
                let count : 1 + length judge.guesses + length judge.spare ≡ 2 + PLACES =
                omega (arith, places) in
                subst (AreMany may board (behind judged)) count
                (subst (λ x. AreMany may x (behind judged)
                (1 + length judge.guesses + length judge.spare)) being.board_is
                (subst (λ x. AreMany x judge.board (behind judged)
                (1 + length judge.guesses + length judge.spare)) being.unseen_is
                (many (behind judged) (being.knows sure all))));
            unsure_is = unsure-is ∙ sym (ap (line_at (placed ++ one ∷ [])) same-length
                ∙ line-last placed one);
            differs_is = differs-is ∙ being.differs_is;
            empty_is = still-empty placed one old.is_empty new.is_empty being.empty_is empty-is;
          }

      -- an entry with this verdict
      module _ (v : Verdict) (fits : (entries : List Entry) → Knows old.judge entries
          → Fits (finding_of one.entry v) → Knows new.judge (judged_as one.entry v ∷ entries))
          (legal : (entries : List Entry) → Knows old.judge entries → Fits (finding_of one.entry v)
          → HasLegalHistory old.judge.unseen old.judge.board (judged_as one.entry v ∷ entries))
          (differs : (entries : List Entry) → Knows old.judge entries
          → ¬ (Fits (finding_of one.entry v))
          → ¬ (HasLegalHistory old.judge.unseen old.judge.board (one.entry ∷ entries)))
          (places : length new.judge.guesses + length new.judge.spare ≡ length old.judge.guesses +
          length old.judge.spare) (board-is : new.judge.board ≡ old.judge.board)
          (unseen-is : new.judge.unseen ≡ old.judge.unseen) where
        abbrev next : Judged
        next = record { line = one.line; entry = one.entry; verdict = v }

        less : length judged < length (placed ++ one ∷ [])
        less = let more = length-append placed (one ∷ []) in let same = same-length in
            omega (arith, more, same)

        is : one ≡ get_or (placed ++ one ∷ []) (length judged) one
        is = sym (ap (λ k. get_or (placed ++ one ∷ []) k one) same-length
            ∙ get_or-append_seam placed one [] one)

        legal-there : All DoesFit judged → Fits (finding_of one.entry v)
            → HasLegalHistory may board (judged_as one.entry v ∷ behind judged)
        legal-there all fit =
            subst (λ x. HasLegalHistory x board (judged_as one.entry v ∷ behind judged))
            being.unseen_is
            (subst (λ x. HasLegalHistory old.judge.unseen x (judged_as one.entry v ∷ behind judged))
            being.board_is (legal (behind judged) (being.knows sure all) fit))

        differs-there : All DoesFit judged → ¬ (Fits (finding_of one.entry v))
            → ¬ (HasLegalHistory may board (one.entry ∷ behind judged))
        differs-there all away =
            subst (λ x. ¬ (HasLegalHistory x board (one.entry ∷ behind judged))) being.unseen_is
            (subst (λ x. ¬ (HasLegalHistory old.judge.unseen x (one.entry ∷ behind judged)))
            being.board_is (differs (behind judged) (being.knows sure all) away))

        pub now-judged : new.unsure ≡ None
            → new.differs ≡ list_any does_differ judged || does_differ
            (record { line = one.line; entry = one.entry; verdict = v })
            → new.is_empty ≡ old.is_empty && not (shows_platform one)
            → AreBeingJudged may board (placed ++ one ∷ [])
            (judged ++ record { line = one.line; entry = one.entry; verdict = v } ∷ []) new
        now-judged unsure-is differs-is empty-is =
            let all-placed = placed ++ one ∷ [] in
            let more-judged = longer may board all-placed judged one v are-later less is
            legal-there differs-there in
            let more-placed = length-append placed (one ∷ []) in
            let same = same-length in
            record {
              board_is = board-is ∙ being.board_is;
              unseen_is = unseen-is ∙ being.unseen_is;
              places = λ _. places ∙ being.places sure;
              knows = λ _ all.
                  let both = All-pop DoesFit (judged ++ next ∷ []) judged (Some next) refl all in
                  subst (Knows new.judge) (sym (shown may board all-placed judged one v are-later
                  less is legal-there differs-there))
                  (fits (behind judged) (being.knows sure both.0) both.1);
              are = judged-more may board all-placed judged one v are-later less is legal-there
                  differs-there;
              many = λ few. absurd (omega (arith, few, more-judged, more-placed, same));
              unsure_is = unsure-is ∙ sym (line-past all-placed (length (judged ++ next ∷ []))
                  (omega (arith, more-judged, more-placed, same)));
              differs_is = differs-is ∙ or-last (list_any does_differ judged) (does_differ next)
                  ∙ sym (list_any-append does_differ judged (next ∷ []));
              empty_is = still-empty placed one old.is_empty new.is_empty being.empty_is empty-is;
            } where
              or-last : (a b : Bool) → a || b ≡ a || (b || false)
              or-last true b = refl
              or-last false true = refl
              or-last false false = refl
