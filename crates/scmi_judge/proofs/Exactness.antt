-- What an exact set of platforms says of one more entry.
use Rattle.std.proofs.Common.{◌≡◌, ◌≢◌, ◌⊎◌, inl, inr, List, [], ◌∷◌, ◌++◌, Some, refl, sym, subst}
use Rattle.std.proofs.lemmas.List.Elements.{All-cons, All-head, All-nil, All-pop, All-push}
use Rattle.scmi_plan.specs.Board.{Board}
use Rattle.scmi_core.specs.Legal.{IsLegal}
use Rattle.scmi_judge.specs.Behind.{Behind, Fits, HasLegalHistory}
use Rattle.scmi_judge.specs.Exact.{AreClosed, AreExact, AreGiven, EndsShown, HaveGiven, HaveKept}
use Rattle.scmi_judge.specs.Guess.{CanShow, Gives, GivesNot, IsAmong, IsGuess, IsReal}
use Rattle.scmi_judge.specs.Moves.{Move, history}
use Rattle.scmi_judge.specs.declared.entry.Entry.{Entry}
use Rattle.scmi_judge.specs.declared.guess.Guess.{Guess}
use Rattle.scmi_judge.specs.declared.unseen.Unseen.{Unseen}
use Rattle.scmi_judge.specs.Guesses.{IsGiven, IsIn}
use Rattle.scmi_judge.proofs.Among.{among-either, among-grown, among-last, among-none, behind-among, legal-before, legal-front}
use Rattle.scmi_judge.proofs.Guessing.{guess-legal}

module _ (may : Unseen) (guesses left untried rest : List Guess) (entry : Entry) (g : Guess)
    (given : AreGiven may guesses entry left untried) (are : untried ≡ rest ++ g ∷ []) where
  pub given-one : (new : Guess) → Gives may g entry new
      → AreGiven may guesses entry (left ++ new ∷ []) rest
  given-one new gives =
      record {
        each = λ board entries h after is can. by board entries h after can
            (given.each board entries h after is can);
        real = λ board entries real.
            let so_far = given.real board entries real in
            let both = All-pop (IsReal may board entries) untried rest (Some g) are so_far.1 in
            let some = gives.some board entries both.1.0 both.1.1 in (
              All-push (IsReal may board (entry ∷ entries)) left new so_far.0
                  (some.0, gives.each board entries both.1.0 some.0 both.1.1 some.1),
              both.0,
            );
      } where
        by : (board : Board) (entries : List Entry) (h after : List Move)
            → CanShow may board entries h entry after
            → IsAmong may board (entry ∷ entries) after left ⊎ IsAmong may board entries h untried
            → IsAmong may board (entry ∷ entries) after (left ++ new ∷ [])
            ⊎ IsAmong may board entries h rest
        by board entries h after can (inl before) =
            inl (among-grown may board (entry ∷ entries) after left (new ∷ []) before)
        by board entries h after can (inr is) = at (among-either may board entries h rest g
            (subst (IsAmong may board entries h) are is)) where
              at : IsAmong may board entries h rest ⊎ IsGuess may board g entries h
                  → IsAmong may board
                  (entry ∷ entries) after (left ++ new ∷ []) ⊎ IsAmong may board entries h rest
              at (inl before) = inr before
              at (inr last) = inl (among-last may board (entry ∷ entries) after left new
                  (gives.each board entries h after last can))

  pub given-not : GivesNot may g entry → AreGiven may guesses entry left rest
  given-not not =
      record {
        each = λ board entries h after is can. by board entries h after can
            (given.each board entries h after is can);
        real = λ board entries real.
            let so_far = given.real board entries real in
            (so_far.0, (All-pop (IsReal may board entries) untried rest (Some g) are so_far.1).0);
      } where
        by : (board : Board) (entries : List Entry) (h after : List Move)
            → CanShow may board entries h entry after
            → IsAmong may board (entry ∷ entries) after left ⊎ IsAmong may board entries h untried
            → IsAmong may board (entry ∷ entries) after left ⊎ IsAmong may board entries h rest
        by board entries h after can (inl before) = inl before
        by board entries h after can (inr is) = at (among-either may board entries h rest g
            (subst (IsAmong may board entries h) are is)) where
              at : IsAmong may board entries h rest ⊎ IsGuess may board g entries h
                  → IsAmong may board (entry ∷ entries) after left
                  ⊎ IsAmong may board entries h rest
              at (inl before) = inr before
              at (inr last) = absurd (not board entries h after last can)

-- one that is left already
module _ (may : Unseen) (guesses left untried rest : List Guess) (entry : Entry) (g : Guess)
    (given : AreGiven may guesses entry left untried) (are : untried ≡ rest ++ g ∷ []) where
  given-twice : (made : Guess) → Gives may g entry made → IsIn made left
      → AreGiven may guesses entry left rest
  given-twice made gives is =
      record {
        each = λ board entries h after is can. by board entries h after can
            (given.each board entries h after is can);
        real = λ board entries real.
            let so_far = given.real board entries real in
            (so_far.0, (All-pop (IsReal may board entries) untried rest (Some g) are so_far.1).0);
      } where
        by : (board : Board) (entries : List Entry) (h after : List Move)
            → CanShow may board entries h entry after
            → IsAmong may board (entry ∷ entries) after left ⊎ IsAmong may board entries h untried
            → IsAmong may board (entry ∷ entries) after left ⊎ IsAmong may board entries h rest
        by board entries h after can (inl before) = inl before
        by board entries h after can (inr there) = at (among-either may board entries h rest g
            (subst (IsAmong may board entries h) are there)) where
              at : IsAmong may board entries h rest ⊎ IsGuess may board g entries h
                  → IsAmong may board (entry ∷ entries) after left
                  ⊎ IsAmong may board entries h rest
              at (inl before) = inr before
              at (inr last) = inl (is.0, made, is.1, gives.each board entries h after last can)

  pub given-step : (new : List Guess) → IsGiven may g entry left new
      → AreGiven may guesses entry new rest
  given-step new (inl not) = subst (λ l. AreGiven may guesses entry l rest) (sym not.1)
      (given-not may guesses left untried rest entry g given are not.0)
  given-step new (inr some) = by some.2 where
    by : (new ≡ left ++ some.0 ∷ []) ⊎ ((new ≡ left) × IsIn some.0 left)
        → AreGiven may guesses entry new rest
    by (inl is) = subst (λ l. AreGiven may guesses entry l rest) (sym is)
        (given-one may guesses left untried rest entry g given are some.0 some.1)
    by (inr is) =
        subst (λ l. AreGiven may guesses entry l rest) (sym is.0) (given-twice some.0 some.1 is.1)

-- a copy of a guess that gives an entry or does not
pub given-again : (may : Unseen) (g copy made : Guess) (entry : Entry) (left : List Guess)
    → copy ≡ g → Gives may copy entry made → IsIn made left
    → IsGiven may g entry left left
given-again may g copy made entry left same gives is =
    inr (made, subst (λ x. Gives may x entry made) same gives, inr (refl, is))

pub given-nothing : (may : Unseen) (g copy : Guess) (entry : Entry) (left : List Guess) → copy ≡ g
    → GivesNot may copy entry → IsGiven may g entry left left
given-nothing may g copy entry left same not =
    inl (subst (λ x. GivesNot may x entry) same not, refl)

-- at the start
pub exact-start : (may : Unseen) (board : Board) (g : Guess) → IsGuess may board g [] []
    → AreExact may board [] (g ∷ [])
exact-start may board g guess =
    record {
      real = All-cons (IsReal may board []) g [] ([], guess) (All-nil (IsReal may board []));
      all = λ h legal none. (0, g, refl, subst (IsGuess may board g []) (sym none) guess);
    }

-- with what they move on to
pub exact-kept : (may : Unseen) (board : Board) (entries : List Entry) (guesses all : List Guess)
    → AreExact may board entries guesses → HaveKept may guesses all
    → AreExact may board entries all
exact-kept may board entries guesses all exact expanded =
    record {
      real = expanded.real board entries exact.real;
      all = λ h legal ends. expanded.kept board entries h (exact.all h legal ends);
    }

-- after one more entry
pub exact-more : (may : Unseen) (board : Board) (entries : List Entry) (entry : Entry)
    (guesses all left : List Guess) → AreExact may board entries guesses
    → HaveKept may guesses all → AreClosed may all → HaveGiven may all entry left
    → AreExact may board (entry ∷ entries) left
exact-more may board entries entry guesses all left exact expanded closed given =
    record {
      real = given.real board entries (expanded.real board entries exact.real);
      all = λ after legal ends. at ends.0 after legal ends.1 ends.2;
    } where
      at : (k after : List Move) → IsLegal board (history after) → Behind may board entries k
          → Fits may board entries k entry after → IsAmong may board (entry ∷ entries) after left
      at k after legal behind fits =
          given.each board entries k after
          (behind-among may board all closed behind
          (legal-front may board entries k after entry fits legal)
          (λ before fine ends. expanded.kept board entries before (exact.all before fine ends)))
          (record { fits = fits; legal = legal })

-- the guesses that are left have a history
pub some-right : (may : Unseen) (board : Board) (entries : List Entry) (left : List Guess)
    → AreExact may board entries left → left ≢ [] → HasLegalHistory may board entries
some-right may board entries [] exact some = absurd (some refl)
some-right may board entries (g ∷ gs) exact some =
    let real = All-head (IsReal may board entries) g gs exact.real in
    (real.0, guess-legal may board g entries real.0 real.1, real.1.behind)

-- a history that is behind entries is behind them without what is unseen after the last
ends-of : (may : Unseen) (board : Board) {entries : List Entry} {h : List Move}
    → Behind may board entries h → IsLegal board (history h)
    → (k : List Move) × IsLegal board (history k) × EndsShown may board entries k
ends-of may board Behind.nothing legal = ([], legal, refl)
ends-of may board (Behind.unseen {entries} {moves = h} behind move unseen) legal =
    ends-of may board behind (legal-before board h move legal)
ends-of may board (Behind.shown {entries} {moves = h} behind entry after fits) legal =
    (after, legal, (h, behind, fits))

-- no guess is left, and no history
pub none-wrong : (may : Unseen) (board : Board) (entries : List Entry) (left : List Guess)
    → AreExact may board entries left → left ≡ [] → ¬ (HasLegalHistory may board entries)
none-wrong may board entries left exact none history =
    let ends = ends-of may board history.2 history.1 in
    among-none may board entries ends.0
    (subst (IsAmong may board entries ends.0) none (exact.all ends.0 ends.1 ends.2))
