-- What a set of platforms that may be behind a record keeps: each entry, and each unseen event.
use Rattle.std.proofs.Common.{◌≡◌, ◌≢◌, ◌⊎◌, inl, inr, ℕ, zero, suc, ◌-◌, ◌<◌, ◌≤◌, List, [], ◌∷◌, ◌++◌, length, get_or, slice_get, ◌+◌, Some, None, unwrap_or, refl, sym, ap, ◌∙◌, subst, arith}
use Rattle.std.specs.List.{All}
use Rattle.std.proofs.lemmas.List.{append-nil, append_assoc, get_or_past}
use Rattle.std.proofs.lemmas.Option.{get_or_from_slice_get}
use Rattle.std.proofs.lemmas.List.Elements.{All-append, All-nil, All-pop, All-push}
use Rattle.scmi_plan.specs.Board.{Board}
use Rattle.scmi_core.specs.declared.event.Event.{Event}
use Rattle.scmi_core.specs.declared.event.Event.TheVariants as event
use Rattle.scmi_core.specs.declared.event.Event.TheVariants.{Command, CommandFailed}
use Rattle.scmi_codec.specs.declared.frame.Frame.{Frame}
use Rattle.scmi_core.specs.Legal.{CanFollow, IsLegal, told}
use Rattle.scmi_core.proofs.Legal.{IsLegal-front, IsLegal-last}
use Rattle.scmi_codec.specs.declared.fault.Fault.TheVariants.{HardwareError}
use Rattle.scmi_judge.specs.Behind.{Behind, FailsPlainly, Fits, IsAnswered}
use Rattle.scmi_judge.specs.Exact.{AreClosed, AreTried, AreTriedActs, EndsShown, HaveGrown, HaveKept, IsKept, IsTried, IsTriedAbove, IsTriedWhole}
use Rattle.scmi_judge.specs.Guess.{CanCome, CanMove, GoesOn, IsAmong, IsGuess, IsReal, command_at}
use Rattle.scmi_judge.specs.declared.entry.Entry.{Entry}
use Rattle.scmi_judge.specs.declared.entry.Entry.TheVariants.{Answered, Asked, Delivered, GivenUp, Replied, Told}
use Rattle.scmi_judge.specs.declared.guess.Guess.{Guess}
use Rattle.scmi_judge.specs.Moves.{Move, history, outstanding}
use Rattle.scmi_judge.specs.Unseen.{IsOf, count_of, step_of}
use Rattle.scmi_judge.specs.declared.unseen.Act.{Act}
use Rattle.scmi_judge.specs.declared.unseen.Act.TheVariants as act
use Rattle.scmi_judge.specs.declared.unseen.Step.{Step}
use Rattle.scmi_judge.specs.declared.unseen.Step.TheVariants.{Complete, Post, Refuse, Restart}
use Rattle.scmi_judge.specs.declared.unseen.Unseen.{Unseen}
use Rattle.scmi_judge.specs.Guesses.{IsIn}
use Rattle.scmi_judge.specs.declared.outstanding.TheConstants.{OUTSTANDING}
use Rattle.scmi_judge.proofs.Executing.{none-executed, none-failed}
use Rattle.scmi_judge.proofs.Guessing.{decide}

-- what is at a place stays there once others follow
pub get-front : {X : Type 0} (xs ys : List X) (k : ℕ) (x : X) → slice_get xs k ≡ Some x
    → slice_get (xs ++ ys) k ≡ Some x
get-front [] ys k x is = absurd (let no : None ≡ Some x = is in cc)
get-front (y ∷ xs) ys zero x is = is
get-front (y ∷ xs) ys (suc k) x is = get-front xs ys k x is

-- one that is among some guesses is among them and others
pub among-grown : (may : Unseen) (board : Board) (entries : List Entry) (h : List Move)
    (guesses added : List Guess) → IsAmong may board entries h guesses
    → IsAmong may board entries h (guesses ++ added)
among-grown may board entries h guesses added is =
    (is.0, is.1, get-front guesses added is.0 is.1 is.2, is.3)

-- what is at a place of two lists is at one of the first or of the second
pub get-either : {X : Type 0} (xs ys : List X) (k : ℕ) (x : X) → slice_get (xs ++ ys) k ≡ Some x
    → (slice_get xs k ≡ Some x) ⊎ ((j : ℕ) × (slice_get ys j ≡ Some x))
get-either [] ys k x is = inr (k, is)
get-either (y ∷ xs) ys zero x is = inl is
get-either (y ∷ xs) ys (suc k) x is = get-either xs ys k x is

pub get-one : {X : Type 0} (y : X) (k : ℕ) (x : X) → slice_get (y ∷ []) k ≡ Some x → y ≡ x
get-one y zero x is = ap (λ o. unwrap_or o y) is
get-one y (suc k) x is = absurd (let no : None ≡ Some x = is in cc)

get-last : {X : Type 0} (xs : List X) (x : X) → (k : ℕ) × (slice_get (xs ++ x ∷ []) k ≡ Some x)
get-last [] x = (0, refl)
get-last (y ∷ xs) x = (suc (get-last xs x).0, (get-last xs x).1)

pub among-none : (may : Unseen) (board : Board) (entries : List Entry) (h : List Move)
    → ¬ (IsAmong may board entries h [])
among-none may board entries h is = absurd (let no : None ≡ Some is.1 = is.2 in cc)

pub among-last : (may : Unseen) (board : Board) (entries : List Entry) (h : List Move)
    (guesses : List Guess) (g : Guess) → IsGuess may board g entries h
    → IsAmong may board entries h (guesses ++ g ∷ [])
among-last may board entries h guesses g is =
    ((get-last guesses g).0, g, (get-last guesses g).1, is)

pub among-either : (may : Unseen) (board : Board) (entries : List Entry) (h : List Move)
    (guesses : List Guess) (g : Guess) → IsAmong may board entries h (guesses ++ g ∷ [])
    → IsAmong may board entries h guesses ⊎ IsGuess may board g entries h
among-either may board entries h guesses g is =
    by (get-either guesses (g ∷ []) is.0 is.1 is.2) where
      by : (slice_get guesses is.0 ≡ Some is.1) ⊎ ((j : ℕ) × (slice_get (g ∷ []) j ≡ Some is.1))
          → IsAmong may board entries h guesses ⊎ IsGuess may board g entries h
      by (inl before) = inl (is.0, is.1, before, is.3)
      by (inr last) =
          inr (subst (λ x. IsGuess may board x entries h) (sym (get-one g last.0 is.1 last.1)) is.3)

pub among-more : (may : Unseen) (board : Board) (entries : List Entry) (h : List Move) (g : Guess)
    (guesses new : List Guess) → HaveGrown may g guesses new → IsAmong may board entries h guesses
    → IsAmong may board entries h new
among-more may board entries h g guesses new grown is = subst (IsAmong may board entries h)
    (sym grown.are) (among-grown may board entries h guesses grown.added is)

-- guesses that grew twice
pub grown-again : (may : Unseen) (g : Guess) (guesses more new : List Guess)
    → HaveGrown may g guesses more → HaveGrown may g more new → HaveGrown may g guesses new
grown-again may g guesses more new first second =
    record {
      added = first.added ++ second.added;
      are = second.are ∙ ap (λ gs. gs ++ second.added) first.are
          ∙ append_assoc guesses first.added second.added;
      real = λ board entries real. All-append (IsReal may board entries) first.added second.added
          (first.real board entries real) (second.real board entries real);
    }

pub grown-none : (may : Unseen) (g : Guess) (guesses : List Guess) → HaveGrown may g guesses guesses
grown-none may g guesses = record {
  added = [];
  are = sym (append-nil guesses);
  real = λ board entries real. All-nil (IsReal may board entries);
}

-- a guess that another moves on to is as real
pub moved-real : (may : Unseen) (g new : Guess) (step : Step) → GoesOn may g step new
    → (board : Board) (entries : List Entry) → IsReal may board entries g
    → IsReal may board entries new
moved-real may g new step goes board entries real =
    let moved = goes.some board entries real.0 real.1 in (moved.0 ∷ real.0, moved.1)

-- what is in the first of two lists, or in the second, is in both
pub in-front : (g : Guess) (xs ys : List Guess) → IsIn g xs → IsIn g (xs ++ ys)
in-front g xs ys is = (is.0, get-front xs ys is.0 g is.1)

pub in-back : (g : Guess) (xs ys : List Guess) → IsIn g ys → IsIn g (xs ++ ys)
in-back g [] ys is = is
in-back g (x ∷ xs) ys is = (suc (in-back g xs ys is).0, (in-back g xs ys is).1)

pub in-last : (g : Guess) (xs new : List Guess) → new ≡ xs ++ g ∷ [] → IsIn g new
in-last g xs new are = subst (IsIn g) (sym are) (get-last xs g)

-- what a guess moves on to is there
pub tried-there : (may : Unseen) (g copy made : Guess) (step : Step) (guesses : List Guess)
    → copy ≡ g → GoesOn may copy step made → IsIn made guesses
    → IsTried may g step guesses
tried-there may g copy made step guesses same goes is board entries h move of guess can = (
  is.0,
  made,
  is.1,
  goes.each board entries h move of
      (subst (λ x. IsGuess may board x entries h) (sym same) guess) can,
)

-- among two lists is among one of them
pub among-split : (may : Unseen) (board : Board) (entries : List Entry) (h : List Move)
    (xs ys : List Guess) → IsAmong may board entries h (xs ++ ys)
    → IsAmong may board entries h xs ⊎ IsAmong may board entries h ys
among-split may board entries h xs ys is = by (get-either xs ys is.0 is.1 is.2) where
  by : (slice_get xs is.0 ≡ Some is.1) ⊎ ((j : ℕ) × (slice_get ys j ≡ Some is.1))
      → IsAmong may board entries h xs ⊎ IsAmong may board entries h ys
  by (inl before) = inl (is.0, is.1, before, is.3)
  by (inr last) = inr (last.0, is.1, last.1, is.3)

pub among-back : (may : Unseen) (board : Board) (entries : List Entry) (h : List Move)
    (xs ys : List Guess) → IsAmong may board entries h ys
    → IsAmong may board entries h (xs ++ ys)
among-back may board entries h xs ys is =
    let there = in-back is.1 xs ys (is.0, is.2) in
    (there.0, is.1, there.1, is.3)

-- and there once more are left
pub tried-later : (may : Unseen) (g of : Guess) (step : Step) (all left new : List Guess)
    → HaveGrown may of left new → IsTried may g step (all ++ left)
    → IsTried may g step (all ++ new)
tried-later may g of step all left new grown tried board entries h move is-of guess can =
    by (among-split may board entries (move ∷ h) all left
    (tried board entries h move is-of guess can)) where
      by : IsAmong may board entries (move ∷ h) all ⊎ IsAmong may board entries (move ∷ h) left
          → IsAmong may board entries (move ∷ h) (all ++ new)
      by (inl before) = among-grown may board entries (move ∷ h) all new before
      by (inr is) =
          among-back may board entries (move ∷ h) all new
          (among-more may board entries (move ∷ h) of left new grown is)

pub above-later : (may : Unseen) (g of : Guess) (act : Act) (number : ℕ)
    (all left new : List Guess) → HaveGrown may of left new
    → IsTriedAbove may g act number (all ++ left)
    → IsTriedAbove may g act number (all ++ new)
above-later may g of act number all left new grown tried n above =
    tried-later may g of (step_of act n) all left new grown (tried n above)

-- no message is posted to an agent that the board lacks, and none restarts
agents-above : (may : Unseen) (g : Guess) (step : Step) (e : Event) (a : ℕ) (guesses : List Guess)
    → ((move : Move) → IsOf step move → move ≡ Move.happens e)
    → ((board : Board) (h : List Event) → CanFollow board h e → a ≤ length board.agents)
    → length g.platform.board.agents < a → IsTried may g step guesses
agents-above may g step e a guesses only known above board entries h move is guess can =
    let own = subst (CanCome may board entries h) (only move is) can in
    let last : a ≤ length g.platform.board.agents =
    subst (λ b. a ≤ length b.agents) (sym guess.of_board)
    (known board (history h) own.follows) in
    absurd (omega (arith, above, last))

-- nothing is executed beyond the last place
none-beyond : (may : Unseen) (g : Guess) (k : ℕ) (board : Board) (entries : List Entry)
    (h : List Move) → OUTSTANDING ≤ k → IsGuess may board g entries h
    → (a : ℕ) (f : Frame) → command_at g k ≢ Some (outstanding a f None)
none-beyond may g k board entries h past guess a f is =
    let long = guess.places in
    absurd (let no : None ≡ Some (outstanding a f None) =
    sym (get_or_past g.outstanding k None (omega (arith, past, long))) ∙ is in cc)

-- so nothing happens to an agent that the board lacks, or at a place that there is not
pub each-above : (may : Unseen) (g : Guess) (act : Act) (guesses : List Guess)
    → IsTriedAbove may g act (count_of act (length g.platform.board.agents)) guesses
each-above may g act.Post guesses n above board entries h move is guess can =
    agents-above may g (Post n) (event.Sent n) n guesses (λ move is. is)
    (λ board h can. can.1) above board entries h move is guess can
each-above may g act.Restart guesses n above board entries h move is guess can =
    agents-above may g (Restart n) (event.Restarted n) n guesses (λ move is. is)
    (λ board h can. can.1) above board entries h move is guess can
each-above may g act.Execute guesses n above board entries h move is guess can =
    absurd (none-executed may g (n - 1)
    (none-beyond may g (n - 1) board entries h (omega (arith, above)) guess)
    board entries h move is guess can)
each-above may g act.Fail guesses n above board entries h move is guess can =
    absurd (none-failed may g (n - 1)
    (none-beyond may g (n - 1) board entries h (omega (arith, above)) guess)
    board entries h move is guess can)

pub tried-down : (may : Unseen) (g : Guess) (act : Act) (number : ℕ)
    (guesses : List Guess) → 0 < number → IsTried may g (step_of act number) guesses
    → IsTriedAbove may g act number guesses
    → IsTriedAbove may g act (number - 1) guesses
tried-down may g act number guesses some here above n more = by (decide n number) where
  by : (n ≡ number) ⊎ (n ≢ number) → IsTried may g (step_of act n) guesses
  by (inl same) = subst (λ m. IsTried may g (step_of act m) guesses) (sym same) here
  by (inr other) = above n (omega (arith, some, more, other))

-- the place before the next is this one
before : (k : ℕ) → k ≡ suc k - 1
before k = omega arith

-- each unseen move is one of a step
pub tried-whole : (may : Unseen) (g : Guess) (guesses : List Guess) → IsTried may g Complete guesses
    → IsTried may g Refuse guesses → AreTriedActs may g guesses → IsTriedWhole may g guesses
tried-whole may g guesses completes fails acts board entries h
    (Move.happens event.Advance) guess can = completes board entries h _ refl guess can
tried-whole may g guesses completes fails acts board entries h
    (Move.happens (event.AdvanceFailed fault)) guess can =
    fails board entries h _ (ap (λ x. Move.happens (event.AdvanceFailed x)) can.unseen.0) guess can
tried-whole may g guesses completes fails acts board entries h
    (Move.happens (event.Sent a)) guess can =
    acts act.Post a (let one = can.follows.0 in omega (arith, one)) board entries h _ refl guess can
tried-whole may g guesses completes fails acts board entries h
    (Move.happens (event.Command a f)) guess can = absurd can.unseen
tried-whole may g guesses completes fails acts board entries h
    (Move.happens (event.CommandFailed a f fault)) guess can = absurd can.unseen
tried-whole may g guesses completes fails acts board entries h
    (Move.happens (event.Restarted a)) guess can =
    acts act.Restart a (let one = can.follows.0 in omega (arith, one))
    board entries h _ refl guess can
tried-whole may g guesses completes fails acts board entries h
    (Move.happens (event.Promoted place)) guess can = absurd can.unseen
tried-whole may g guesses completes fails acts board entries h
    (Move.happens (event.Reported effect)) guess can = absurd can.unseen
tried-whole may g guesses completes fails acts board entries h
    (Move.happens (event.Settled clock rate)) guess can = absurd can.unseen
tried-whole may g guesses completes fails acts board entries h (Move.asks k a f) guess can =
    absurd can.unseen
tried-whole may g guesses completes fails acts board entries h (Move.frees k) guess can =
    absurd can.unseen
tried-whole may g guesses completes fails acts board entries h (Move.executes k e x) guess can =
    by can.unseen.3 can.unseen.4 where
      by : IsAnswered board (history h) can.unseen.0 can.unseen.1 e x → FailsPlainly e
          → IsAmong may board entries (Move.executes k e x ∷ h) guesses
      by (inl done) plain =
          acts act.Execute (suc k) (omega arith) board entries h _ (
            can.unseen.0,
            can.unseen.1,
            x,
            ap (λ y. Move.executes k y x) done.0
                ∙ ap (λ n. Move.executes n (Command can.unseen.0 can.unseen.1) x) (before k),
          ) guess can
      by (inr failed) plain =
          acts act.Fail (suc k) (omega arith) board entries h _ (
            can.unseen.0,
            can.unseen.1,
            x,
            ap (λ y. Move.executes k y x) failed.1
                ∙ ap (λ y. Move.executes k (CommandFailed can.unseen.0 can.unseen.1 y) x)
                (subst FailsPlainly failed.1 plain)
                ∙ ap (λ n. Move.executes n
                (CommandFailed can.unseen.0 can.unseen.1 HardwareError) x) (before k),
          ) guess can

-- one more of a list of acts was tried
pub acts-next : (may : Unseen) (g : Guess) (all left new : List Guess) (acts : List Act) (i : ℕ)
    (d : Act) → HaveGrown may g left new
    → ((n : ℕ) (a : Act) → n < i → slice_get acts n ≡ Some a → IsTriedAbove may g a 0 (all ++ left))
    → IsTriedAbove may g (get_or acts i d) 0 (all ++ new)
    → (n : ℕ) (a : Act) → n < i + 1 → slice_get acts n ≡ Some a
    → IsTriedAbove may g a 0 (all ++ new)
acts-next may g all left new acts i d grown before this n a less is = by (decide n i) where
  by : (n ≡ i) ⊎ (n ≢ i) → IsTriedAbove may g a 0 (all ++ new)
  by (inl last) =
      subst (λ x. IsTriedAbove may g x 0 (all ++ new)) (get_or_from_slice_get acts n a d is)
      (subst (λ m. IsTriedAbove may g (get_or acts m d) 0 (all ++ new)) (sym last) this)
  by (inr other) =
      above-later may g g a 0 all left new grown (before n a (omega (arith, less, other)) is)

-- all acts of a list of them
pub acts-tried : (may : Unseen) (g : Guess) (guesses : List Guess)
    → ((n : ℕ) (a : Act)
    → slice_get (act.Post ∷ act.Restart ∷ act.Execute ∷ act.Fail ∷ []) n ≡ Some a
    → IsTriedAbove may g a 0 guesses)
    → AreTriedActs may g guesses
acts-tried may g guesses each act.Post = each 0 act.Post refl
acts-tried may g guesses each act.Restart = each 1 act.Restart refl
acts-tried may g guesses each act.Execute = each 2 act.Execute refl
acts-tried may g guesses each act.Fail = each 3 act.Fail refl

-- one more guess was tried: the last of those that were not
module _ (may : Unseen) (all untried rest new : List Guess) (g : Guess)
    (are : untried ≡ rest ++ g ∷ []) (grown : HaveGrown may g rest new) where
  moved : (board : Board) (entries : List Entry) (h : List Move)
      → IsAmong may board entries h all ⊎ IsAmong may board entries h untried
      → IsAmong may board entries h (all ++ g ∷ []) ⊎ IsAmong may board entries h new
  moved board entries h (inl is) = inl (among-grown may board entries h all (g ∷ []) is)
  moved board entries h (inr is) = by
      (among-either may board entries h rest g (subst (IsAmong may board entries h) are is)) where
        by : IsAmong may board entries h rest ⊎ IsGuess may board g entries h
            → IsAmong may board entries h (all ++ g ∷ []) ⊎ IsAmong may board entries h new
        by (inl before) = inr (among-more may board entries h g rest new grown before)
        by (inr last) = inl (among-last may board entries h all g last)

  pub kept-moved : (guesses : List Guess) → IsKept may guesses all untried
      → IsKept may guesses (all ++ g ∷ []) new
  kept-moved guesses kept board entries h is = moved board entries h (kept board entries h is)

  pub tried-moved : IsTriedWhole may g ((all ++ g ∷ []) ++ new) → AreTried may all untried
      → AreTried may (all ++ g ∷ []) new
  tried-moved whole tried board entries h move is can =
      by (among-either may board entries h all g is) where
        by : IsAmong may board entries h all ⊎ IsGuess may board g entries h
            → IsAmong may board entries (move ∷ h) (all ++ g ∷ [])
            ⊎ IsAmong may board entries (move ∷ h) new
        by (inl before) = moved board entries (move ∷ h) (tried board entries h move before can)
        by (inr last) =
            among-split may board entries (move ∷ h) (all ++ g ∷ []) new
            (whole board entries h move last can)

  pub real-moved : (board : Board) (entries : List Entry)
      → All (IsReal may board entries) all × All (IsReal may board entries) untried
      → All (IsReal may board entries) (all ++ g ∷ []) × All (IsReal may board entries) new
  real-moved board entries real =
      let both = All-pop (IsReal may board entries) untried rest (Some g) are real.1 in (
        All-push (IsReal may board entries) all g real.0 both.1,
        subst (All (IsReal may board entries)) (sym grown.are)
            (All-append (IsReal may board entries) rest grown.added both.0
            (grown.real board entries both.1)),
      )

pub all-kept : (may : Unseen) (guesses all untried : List Guess) → untried ≡ []
    → IsKept may guesses all untried
    → ((board : Board) (entries : List Entry) → All (IsReal may board entries) guesses
    → All (IsReal may board entries) all × All (IsReal may board entries) untried)
    → HaveKept may guesses all
all-kept may guesses all untried none kept real =
    record {
      kept = λ board entries h is. by board entries h (kept board entries h is);
      real = λ board entries each. (real board entries each).0;
    } where
      by : (board : Board) (entries : List Entry) (h : List Move)
          → IsAmong may board entries h all ⊎ IsAmong may board entries h untried
          → IsAmong may board entries h all
      by board entries h (inl here) = here
      by board entries h (inr there) =
          absurd (among-none may board entries h (subst (IsAmong may board entries h) none there))

-- the moves before the last of a legal history are legal, and the last may come there
pub legal-before : (board : Board) (h : List Move) (move : Move)
    → IsLegal board (history (move ∷ h)) → IsLegal board (history h)
legal-before board h (Move.happens e) legal = IsLegal-front board (history h) e legal
legal-before board h (Move.asks k a f) legal = legal
legal-before board h (Move.executes k e x) legal = IsLegal-front board (history h) e legal
legal-before board h (Move.frees k) legal = legal

legal-move : (board : Board) (h : List Move) (move : Move) → IsLegal board (history (move ∷ h))
    → CanMove board h move
legal-move board h (Move.happens e) legal = IsLegal-last board (history h) e legal
legal-move board h (Move.asks k a f) legal = tt
legal-move board h (Move.executes k e x) legal = IsLegal-last board (history h) e legal
legal-move board h (Move.frees k) legal = tt

-- and so are those before an entry
pub legal-front : (may : Unseen) (board : Board) (entries : List Entry) (h after : List Move)
    (entry : Entry)
    → Fits may board entries h entry after → IsLegal board (history after)
    → IsLegal board (history h)
legal-front may board entries h after (Answered a f x) fits legal =
    legal-before board h (Move.happens fits.0) (subst (λ m. IsLegal board (history m)) fits.1 legal)
legal-front may board entries h after (Delivered a m) fits legal =
    subst (λ m. IsLegal board (history m)) fits.1 legal
legal-front may board entries h after (Asked k a f) fits legal =
    subst (λ m. IsLegal board (history m)) fits.1 legal
legal-front may board entries h after (Replied k a f x) fits legal =
    subst (λ m. IsLegal board (history m)) fits.0 legal
legal-front may board entries h after (GivenUp k) fits legal =
    subst (λ m. IsLegal board (history m)) fits legal
legal-front may board entries h after (Told report) fits legal =
    legal-before board h (Move.happens (told report))
    (subst (λ m. IsLegal board (history m)) fits legal)

-- in a closed set is each legal history behind the entries, if each that ends with the last of them
-- is
module _ (may : Unseen) (board : Board) (guesses : List Guess)
    (closed : AreClosed may guesses) where
  pub behind-among : {entries : List Entry} {h : List Move} → Behind may board entries h
      → IsLegal board (history h)
      → ((k : List Move) → IsLegal board (history k) → EndsShown may board entries k
      → IsAmong may board entries k guesses) → IsAmong may board entries h guesses
  behind-among Behind.nothing legal all = all [] legal refl
  behind-among (Behind.unseen {entries} {moves = h} behind move unseen) legal all =
      closed board entries h move (behind-among behind (legal-before board h move legal) all)
      (record { unseen = unseen; follows = legal-move board h move legal })
  behind-among (Behind.shown {entries} {moves = h} behind entry after fits) legal all =
      all after legal (h, behind, fits)
