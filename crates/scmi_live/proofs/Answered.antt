-- What a listener was given of the first lines of an input.
use Rattle.std.proofs.Common.{◌≡◌, ℕ, ◌+◌, ◌^◌, ◌<◌, ◌≤◌, ◌⊎◌, Bool, true, false, List, [], ◌∷◌, ◌++◌, length, Option, None, Some, Result, Ok, Err, IfSome, OnErr, ◌∙◌, refl, sym, ap, subst, inl, inr, append_assoc, length-append, arith}
use Rattle.std.specs.Prelude.{⊤}
use Rattle.std.specs.List.{AllPass, slice_split}
use Rattle.std.proofs.lemmas.List.{append-nil}
use Rattle.std.proofs.lemmas.List.Elements.{All-append, All-cons, All-nil}
use Rattle.scmi_io.specs.declared.input.TheConstants.{INPUT_BYTES}
use Rattle.scmi_io.specs.Lines.{is_line_feed, first_line, after_line, has_line_feed}
use Rattle.scmi_link.specs.View.{CallerView}
use Rattle.scmi_link.specs.declared.closing.Closing.{Closing}
use Rattle.scmi_link.specs.declared.close_error.CloseError.{CloseError}
use Rattle.scmi_board.specs.BoardLines.{Described}
use Rattle.scmi_board.specs.ValidBoard.{with_its_lines}
use Rattle.scmi_plan.specs.Board.{Board}
use Rattle.scmi_modes.specs.Run.{AllSteps, IsNewSession}
use Rattle.scmi_modes.specs.SessionView.{SessionView}
use Rattle.scmi_text.specs.declared.step.Step.{Step}
use Rattle.scmi_text.specs.declared.step_line.StepLine.{StepLine}
use Rattle.scmi_live.specs.Heard.{Gives, Heard, MayGive}
use Rattle.scmi_live.specs.Live.{AllGoOn, Answers, AnswersAs, AreFirstAnswered, IsAnswered, IsSession, IsStep, IsStopped, IsStoppedBefore, IsTooMuch, LiveView, MakesStep, Refuses, RefusesEnd, RefusesStep, StopsAt, at_end, goes_on, step_then, steps_of, with_lines}
use Rattle.scmi_live.specs.Meant.{line_meant}
use Rattle.scmi_live.specs.declared.meant.Meant.{Meant}
use Rattle.scmi_live.specs.declared.meant.Meant.TheVariants.{Describe, Does, Help, Nothing, Quit, Unknown}
use Rattle.scmi_live.proofs.NewSession.{new_session}
use Rattle.scmi_live.proofs.UnderWay.{gives_more, split_at, split_last}

gives_none : (now : Option (List Heard)) → Gives now now []
gives_none None = tt
gives_none (Some all) = sym (append-nil all)

module _ (full : Bool) (Shows : CallerView → Result Closing CloseError → Type 0) where
  -- from this session on these steps are made and given to the listener
  pub record AreMade (steps : List Step) (session : SessionView)
      (now end : Option (List Heard)) : Type 0 where
    pub lines : List StepLine
    pub last : SessionView
    pub made : AllSteps full Shows steps lines session last
    pub heard : Gives now end (with_lines steps lines)

  -- the steps of these lines are
  abbrev pub AreMadeOf : List (List ℕ) → LiveView → Option (List Heard)
      → Option (List Heard) → Type 0
  AreMadeOf texts live now end =
      AreMade (steps_of live.board live.agents texts) live.session now end

  none_made : (session : SessionView) (now : Option (List Heard)) → AreMade [] session now now
  none_made session now = record { lines = []; last = session; made = refl; heard = gives_none now }

  step_made : (before after : LiveView) (steps : List Step) (step : Step)
      (now now' end : Option (List Heard)) → MakesStep full Shows step before after now now'
      → AreMade steps after.session now' end
      → AreMade (step ∷ steps) before.session now end
  step_made before after steps step now now' end makes rest =
      let first : List Heard = (Some step, makes.line) ∷ [] in
      record {
        lines = makes.line ∷ rest.lines;
        last = rest.last;
        made = (after.session, makes.made, rest.made);
        heard = gives_more now now' end first (with_lines steps rest.lines) makes.heard rest.heard;
      }

  -- the steps of a line that means this, and of those after it
  abbrev steps_from : LiveView → Meant → List (List ℕ) → List Step
  steps_from before meant texts = step_then meant (steps_of before.board before.agents texts)

  as_before : (before after : LiveView) (texts : List (List ℕ)) (now now' end : Option (List Heard))
      → (after ≡ before) × (now' ≡ now) → AreMadeOf texts after now' end
      → AreMadeOf texts before now end
  as_before before after texts now now' end by rest = subst (λ (v : LiveView).
      AreMadeOf texts v now end) by.0 (subst (λ n. AreMadeOf texts after n end) by.1 rest)

  -- a line that lets the session go on, and those after it
  made_on : (meant : Meant) (before after : LiveView)
      (texts : List (List ℕ)) (now now' end : Option (List Heard)) → goes_on meant ≡ true
      → AnswersAs full Shows meant before after now now' → AreMadeOf texts after now' end
      → AreMade (steps_from before meant texts) before.session now end
  made_on Nothing before after texts now now' end on by rest =
      as_before before after texts now now' end by rest
  made_on Unknown before after texts now now' end on by rest =
      as_before before after texts now now' end by rest
  made_on Help before after texts now now' end on by rest =
      as_before before after texts now now' end by rest
  made_on (Describe words) before after texts now now' end on by rest =
      as_before before after texts now now' end by rest
  made_on Quit before after texts now now' end on by rest = absurd cc
  made_on (Does step) before after texts now now' end on by rest =
      let same : AreMade (steps_of before.board before.agents texts) after.session now' end =
      subst (λ (v : LiveView). AreMade (steps_of v.board v.agents texts) after.session now' end)
      by.same rest in
      step_made before after (steps_of before.board before.agents texts) step now now' end by same

  unchanged : (before after : LiveView) (now now' : Option (List Heard))
      → (after ≡ before) × (now' ≡ now) → AreMade [] before.session now now'
  unchanged before after now now' by =
      subst (λ n. AreMade [] before.session now n) (sym by.1) (none_made before.session now)

  -- a line alone
  made_alone : (meant : Meant) (before after : LiveView) (now now' : Option (List Heard))
      → AnswersAs full Shows meant before after now now'
      → AreMade (step_then meant []) before.session now now'
  made_alone Nothing before after now now' by = unchanged before after now now' by
  made_alone Unknown before after now now' by = unchanged before after now now' by
  made_alone Help before after now now' by = unchanged before after now now' by
  made_alone (Describe words) before after now now' by = unchanged before after now now' by
  made_alone Quit before after now now' by = unchanged before after now now' by
  made_alone (Does step) before after now now' by =
      step_made before after [] step now now' now' by (none_made after.session now')

  -- a line that ends the session, whatever lines follow it
  made_off : (meant : Meant) (before after : LiveView) (texts : List (List ℕ)) (now now' : Option
      (List Heard)) → goes_on meant ≡ false → AnswersAs full Shows meant before after now now'
      → AreMade (steps_from before meant texts) before.session now now'
  made_off Quit before after texts now now' off by = unchanged before after now now' by
  made_off Nothing before after texts now now' off by = absurd cc
  made_off Unknown before after texts now now' off by = absurd cc
  made_off Help before after texts now now' off by = absurd cc
  made_off (Describe words) before after texts now now' off by = absurd cc
  made_off (Does step) before after texts now now' off by = absurd cc

  -- a line leaves the board and its agents
  same_board : (meant : Meant) (before after : LiveView) (now now' : Option (List Heard))
      → AnswersAs full Shows meant before after now now'
      → (after.board ≡ before.board) × (after.agents ≡ before.agents)
  same_board Nothing before after now now' by =
      (ap (λ (v : LiveView). v.board) by.0, ap (λ (v : LiveView). v.agents) by.0)
  same_board Unknown before after now now' by =
      (ap (λ (v : LiveView). v.board) by.0, ap (λ (v : LiveView). v.agents) by.0)
  same_board Help before after now now' by =
      (ap (λ (v : LiveView). v.board) by.0, ap (λ (v : LiveView). v.agents) by.0)
  same_board (Describe words) before after now now' by =
      (ap (λ (v : LiveView). v.board) by.0, ap (λ (v : LiveView). v.agents) by.0)
  same_board Quit before after now now' by =
      (ap (λ (v : LiveView). v.board) by.0, ap (λ (v : LiveView). v.agents) by.0)
  same_board (Does step) before after now now' by =
      (ap (λ (v : LiveView). v.board) by.same, ap (λ (v : LiveView). v.agents) by.same)

  -- the lines that were answered, and those that are left; what the lines after them give is behind
  -- what these gave
  pub record IsOnItsWay (said : Described) (input : List ℕ) (texts : List (List ℕ)) (number : ℕ)
      (live : LiveView) (old now : Option (List Heard)) : Type 0 where
    pub first : List (List ℕ)
    pub split : slice_split is_line_feed input ≡ first ++ texts
    pub count : length first + 1 ≡ number
    pub on : AllGoOn said.0 first
    pub board_is : live.board ≡ said.0
    pub agents_is : live.agents ≡ length said.0.agents
    pub leads : (more : List (List ℕ)) (end : Option (List Heard)) → AreMadeOf more live now end
        → IsAnswered full Shows said (first ++ more) old end

  -- the same, where it may be unknown what the reader gives
  abbrev pub AreAnswered : (said : Described) (whole left : Option (List ℕ)) (number : ℕ)
      (live : LiveView) (old now : Option (List Heard)) → Type 0
  AreAnswered said None left number live old now = Unit {0}
  AreAnswered said (Some input) None number live old now = ⊥
  AreAnswered said (Some input) (Some rest) number live old now =
      IsOnItsWay said input (slice_split is_line_feed rest) number live old now

  begun : (said : Described) (b : Board) (agents : ℕ) (session : SessionView) (more : List (List ℕ))
      (old end : Option (List Heard)) → b ≡ said.0 → agents ≡ length said.0.agents
      → IsNewSession (with_its_lines said) session
      → AreMade (steps_of b agents more) session old end → IsAnswered full Shows said more old end
  begun said b agents session more old end b_is agents_is new rest =
      let first = subst (λ x. AreMade (steps_of x agents more) session old end) b_is rest in
      let all : AreMade (steps_of said.0 (length said.0.agents) more) session old end =
      subst (λ n. AreMade (steps_of said.0 n more) session old end) agents_is first in
      record {
        lines = all.lines;
        last = all.last;
        made = record { first = session; new = new; made = all.made };
        heard = all.heard;
      }

  pub none_yet : (said : Described) (whole : Option (List ℕ)) (live : LiveView)
      (old : Option (List Heard)) → live.board ≡ said.0 → live.agents ≡ length said.0.agents
      → IsNewSession (with_its_lines said) live.session
      → AreAnswered said whole whole 1 live old old
  none_yet said None live old board_is agents_is new = tt
  none_yet said (Some input) live old board_is agents_is new = record {
    first = [];
    split = refl;
    count = refl;
    on = All-nil (λ text. goes_on (line_meant said.0 (length said.0.agents) text) ≡ true);
    board_is = board_is;
    agents_is = agents_is;
    leads = λ more end rest.
        begun said live.board live.agents live.session more old end board_is agents_is new rest;
  }

  -- an error before the first line
  pub none_answered : (said : Described) (whole : Option (List ℕ)) (old : Option (List Heard))
      → IfSome whole (λ input. IsStopped full Shows said input old old)
  none_answered said None old = tt
  none_answered said (Some input) old =
      let new = new_session (with_its_lines said) in
      inl (record {
        first = [];
        others = slice_split is_line_feed input;
        split = refl;
        answered = begun said said.0 (length said.0.agents) new.0 [] old old refl refl new.1
            (none_made new.0 old);
      })

  -- what was answered so far
  so_far : (said : Described) (input : List ℕ) (texts : List (List ℕ)) (number : ℕ)
      (live : LiveView) (old now : Option (List Heard)) (way : IsOnItsWay said input texts number
      live old now) → IsAnswered full Shows said way.first old now
  so_far said input texts number live old now way =
      let all : IsAnswered full Shows said (way.first ++ []) old now =
      way.leads [] now (none_made live.session now) in
      subst (λ l. IsAnswered full Shows said l old now) (append-nil way.first) all

  -- the same, with a line that is answered
  with_line : (said : Described) (input line : List ℕ) (texts : List (List ℕ)) (number : ℕ)
      (before after : LiveView) (old now now' : Option (List Heard)) (way : IsOnItsWay said input
      (line ∷ texts) number before old now) → Answers full Shows line before after now now'
      → IsAnswered full Shows said (way.first ++ line ∷ []) old now'
  with_line said input line texts number before after old now now' way by =
      way.leads (line ∷ []) now'
      (made_alone (line_meant before.board before.agents line) before after now now' by)

  -- a line lets the session go on, by the number of the board's agents
  on_board : (said : Described) (board : Board) (agents : ℕ) (line : List ℕ)
      → board ≡ said.0 → agents ≡ length said.0.agents
      → line_meant board agents line ≡ line_meant said.0 (length said.0.agents) line
  on_board said board agents line b_is a_is = cc

  all_on : (said : Described) (line : List ℕ) (first : List (List ℕ))
      → AllGoOn said.0 first → goes_on (line_meant said.0 (length said.0.agents) line) ≡ true
      → AllGoOn said.0 (first ++ line ∷ [])
  all_on said line first on this =
      let Goes : (List ℕ → Type 0) =
      λ text. goes_on (line_meant said.0 (length said.0.agents) text) ≡ true in
      All-append Goes first (line ∷ []) on (All-cons Goes line [] this (All-nil Goes))

  one_more : (said : Described) (input line : List ℕ) (texts : List (List ℕ))
      (number : ℕ) (before after : LiveView) (old now now' : Option (List Heard))
      → IsOnItsWay said input (line ∷ texts) number before old now
      → goes_on (line_meant before.board before.agents line) ≡ true → Answers full Shows line before
      after now now' → IsOnItsWay said input texts (number + 1) after old now'
  one_more said input line texts number before after old now now' way on by =
      let same = same_board (line_meant before.board before.agents line) before after now now' by in
      record {
        first = way.first ++ line ∷ [];
        split = way.split ∙ sym (append_assoc way.first (line ∷ []) texts);
        count = omega (arith, way.count, length-append way.first (line ∷ []));
        on = all_on said line way.first way.on (sym (ap goes_on
            (on_board said before.board before.agents line way.board_is way.agents_is)) ∙ on);
        board_is = same.0 ∙ way.board_is;
        agents_is = same.1 ∙ way.agents_is;
        leads = λ more end made. subst (λ l. IsAnswered full Shows said l old end)
            (sym (append_assoc way.first (line ∷ []) more))
            (way.leads (line ∷ more) end (made_on (line_meant before.board before.agents line)
            before after more now now' end on by made));
      }

  pub more_answered : (said : Described) (whole left left' : Option (List ℕ)) (line : List ℕ)
      (number : ℕ) (before after : LiveView) (ended : Bool) (old now now' : Option (List Heard))
      → AreAnswered said whole left number before old now
      → IfSome left (λ input. line ≡ first_line input)
      → IfSome left (λ input. left' ≡ Some (after_line input))
      → IfSome left (λ input. ended ≡ has_line_feed input) → ended ≡ true
      → goes_on (line_meant before.board before.agents line) ≡ true → Answers full Shows line before
      after now now' → AreAnswered said whole left' (number + 1) after old now'
  more_answered said None left left' line number before after ended old now now' way first behind
      feed is_ended on by = tt
  more_answered said (Some input) None left' line number before after ended old now now' way first
      behind feed is_ended on by = absurd way
  more_answered said (Some input) (Some rest) None line number before after ended old now now' way
      first behind feed is_ended on by = absurd cc
  more_answered said (Some input) (Some rest) (Some rest') line number before after ended old now
      now' way first behind feed is_ended on by =
      let is_behind : rest' ≡ after_line rest = cc in
      one_more said input line (slice_split is_line_feed rest') number before after old now now'
      (subst (λ texts. IsOnItsWay said input texts number before old now)
      (split_at full Shows rest rest' line first is_behind (sym is_ended ∙ feed)) way) on by

  -- the lines of what is left begin with its first line
  first_of_lines : (rest line : List ℕ) (ended : Bool)
      → line ≡ first_line rest → ended ≡ has_line_feed rest
      → (others : List (List ℕ)) × (slice_split is_line_feed rest ≡ line ∷ others)
  first_of_lines rest line true first feed = (
    slice_split is_line_feed (after_line rest),
    split_at full Shows rest (after_line rest) line first refl feed,
  )
  first_of_lines rest line false first feed = ([], split_last full Shows rest line first feed)

  -- the lines that were answered, and the next
  at_line : (said : Described) (input rest line : List ℕ)
      (number : ℕ) (live : LiveView) (old now : Option (List Heard)) → IsOnItsWay said input
      (slice_split is_line_feed rest) number live old now → line ≡ first_line rest
      → (others : List (List ℕ)) × IsOnItsWay said input (line ∷ others) number live old now
  at_line said input rest line number live old now way first =
      let lines = first_of_lines rest line (has_line_feed rest) first refl in
      (lines.0, subst (λ texts. IsOnItsWay said input texts number live old now) lines.1 way)

  -- the next line is not answered
  stopped_before : (Is : ℕ → List ℕ → Type 0) (said : Described) (input line : List ℕ)
      (texts : List (List ℕ)) (number : ℕ) (live : LiveView) (old now : Option (List Heard))
      (way : IsOnItsWay said input (line ∷ texts) number live old now)
      → ((before : ℕ) → before + 1 ≡ number → Is before line)
      → IsStoppedBefore full Shows Is said input old now
  stopped_before Is said input line texts number live old now way is = record {
    first = way.first;
    line = line;
    others = texts;
    split = way.split;
    on = way.on;
    is = is (length way.first) way.count;
    answered = so_far said input (line ∷ texts) number live old now way;
  }

  before_line : (Is : ℕ → List ℕ → Type 0) (said : Described) (input rest : List ℕ)
      (number : ℕ) (live : LiveView) (old now : Option (List Heard))
      (way : IsOnItsWay said input (slice_split is_line_feed rest) number live old now)
      → ((before : ℕ) → before + 1 ≡ number → Is before (first_line rest))
      → IsStoppedBefore full Shows Is said input old now
  before_line Is said input rest number live old now way is =
      let next = at_line said input rest (first_line rest) number live old now way refl in
      stopped_before Is said input (first_line rest) next.0 number live old now next.1 is

  -- an error before the next line is read
  pub first_answered : (said : Described) (whole left : Option (List ℕ)) (number : ℕ)
      (live : LiveView) (old now : Option (List Heard)) → AreAnswered said whole left number live
      old now → IfSome whole (λ input. IsStopped full Shows said input old now)
  first_answered said None left number live old now way = tt
  first_answered said (Some input) None number live old now way = absurd way
  first_answered said (Some input) (Some rest) number live old now way =
      inl (record {
        first = way.first;
        others = slice_split is_line_feed rest;
        split = way.split;
        answered = so_far said input (slice_split is_line_feed rest) number live old now way;
      })

  pub before_any : (said : Described) (whole left : Option (List ℕ)) (number : ℕ) (live : LiveView)
      (old now : Option (List Heard)) → AreAnswered said whole left number live old now
      → IfSome whole (λ input. IsStoppedBefore full Shows (λ _ _. ⊤) said input old now)
  before_any said None left number live old now way = tt
  before_any said (Some input) None number live old now way = absurd way
  before_any said (Some input) (Some rest) number live old now way =
      before_line (λ _ _. ⊤) said input rest number live old now way (λ before count. tt)

  pub before_long : (said : Described) (whole left : Option (List ℕ)) (number : ℕ) (live : LiveView)
      (old now : Option (List Heard)) → AreAnswered said whole left number live old now
      → IfSome left (λ rest. INPUT_BYTES < length (first_line rest))
      → IfSome whole (λ input. IsStoppedBefore full Shows IsTooMuch said input old now)
  before_long said None left number live old now way long = tt
  before_long said (Some input) None number live old now way long = absurd way
  before_long said (Some input) (Some rest) number live old now way long =
      before_line IsTooMuch said input rest number live old now way (λ before count. inl long)

  pub before_uncounted : (said : Described)
      (whole left : Option (List ℕ)) (number : ℕ) (live : LiveView) (old now : Option (List Heard))
      → AreAnswered said whole left number live old now → 2 ^ 64 ≤ number + 1
      → IfSome whole (λ input. IsStoppedBefore full Shows IsTooMuch said input old now)
  before_uncounted said None left number live old now way many = tt
  before_uncounted said (Some input) None number live old now way many = absurd way
  before_uncounted said (Some input) (Some rest) number live old now way many = before_line
      IsTooMuch said input rest number live old now way (λ before count. inr (omega arith))

  -- an error at a line that is read
  stopped_at : (said : Described) (input line : List ℕ) (texts : List (List ℕ)) (number : ℕ)
      (before after : LiveView) (old now now' : Option (List Heard)) (way : IsOnItsWay said input
      (line ∷ texts) number before old now) → StopsAt full Shows line before after now now'
      → IsAnswered full Shows said way.first old now'
      ⊎ IsAnswered full Shows said (way.first ++ line ∷ []) old now'
  stopped_at said input line texts number before after old now now' way (inl same) =
      inl (subst (λ n. IsAnswered full Shows said way.first old n) (sym same)
      (so_far said input (line ∷ texts) number before old now way))
  stopped_at said input line texts number before after old now now' way (inr by) =
      inr (with_line said input line texts number before after old now now' way by)

  first_of_stopped : (said : Described) (input line : List ℕ) (texts : List (List ℕ))
      (number : ℕ) (live : LiveView) (old now now' : Option (List Heard))
      (way : IsOnItsWay said input (line ∷ texts) number live old now)
      → IsAnswered full Shows said way.first old now' ⊎ IsAnswered full Shows said
      (way.first ++ line ∷ []) old now' → AreFirstAnswered full Shows said input old now'
  first_of_stopped said input line texts number live old now now' way (inl answered) =
      record { first = way.first; others = line ∷ texts; split = way.split; answered = answered }
  first_of_stopped said input line texts number live old now now' way (inr answered) =
      record {
        first = way.first ++ line ∷ [];
        others = texts;
        split = way.split ∙ sym (append_assoc way.first (line ∷ []) texts);
        answered = answered;
      }

  pub stopped_at_line : (said : Described) (whole left : Option (List ℕ)) (line : List ℕ)
      (number : ℕ) (before after : LiveView) (old now now' : Option (List Heard)) → AreAnswered said
      whole left number before old now → IfSome left (λ input. line ≡ first_line input)
      → StopsAt full Shows line before after now now'
      → IfSome whole (λ input. IsStopped full Shows said input old now')
  stopped_at_line said None left line number before after old now now' way first stops = tt
  stopped_at_line said (Some input) None line number before after old now now' way first stops =
      absurd way
  stopped_at_line said (Some input)
      (Some rest) line number before after old now now' way first stops =
      let next = at_line said input rest line number before old now way first in
      inl (first_of_stopped said input line next.0 number before old now now' next.1
      (stopped_at said input line next.0 number before after old now now' next.1 stops))

  pub refused_at_line : (said : Described) (whole left : Option (List ℕ)) (line : List ℕ)
      (number : ℕ) (before after : LiveView) (old now now' : Option (List Heard)) → AreAnswered said
      whole left number before old now → IfSome left (λ input. line ≡ first_line input)
      → StopsAt full Shows line before after now now'
      → IsStep (line_meant before.board before.agents line)
      → IfSome whole (λ input. Refuses full Shows said input old now')
  refused_at_line said None left line number before after old now now' way first stops step = tt
  refused_at_line said
      (Some input) None line number before after old now now' way first stops step = absurd way
  refused_at_line said (Some input)
      (Some rest) line number before after old now now' way first stops step =
      let next = at_line said input rest line number before old now way first in
      inl (record {
        first = next.1.first;
        line = line;
        others = next.0;
        split = next.1.split;
        on = next.1.on;
        step = subst IsStep
            (on_board said before.board before.agents line next.1.board_is next.1.agents_is) step;
        answered = stopped_at said input line next.0 number before after old now now' next.1 stops;
      })

  -- an error at the end
  all_answered : (said : Described) (input line : List ℕ) (texts : List (List ℕ)) (number : ℕ)
      (before after : LiveView) (old now now' : Option (List Heard)) (way : IsOnItsWay said input
      (line ∷ texts) number before old now) → Answers full Shows line before after now now'
      → goes_on (line_meant before.board before.agents line) ≡ false
      → IsAnswered full Shows said (slice_split is_line_feed input) old now'
  all_answered said input line texts number before after old now now' way by off =
      subst (λ l. IsAnswered full Shows said l old now')
      (sym way.split) (way.leads (line ∷ texts) now' (made_off
      (line_meant before.board before.agents line) before after texts now now' off by))

  last_answered : (said : Described) (input line : List ℕ) (number : ℕ)
      (before after : LiveView) (old now now' : Option (List Heard)) (way : IsOnItsWay said input
      (line ∷ []) number before old now) → Answers full Shows line before after now now'
      → IsAnswered full Shows said (slice_split is_line_feed input) old now'
  last_answered said input line number before after old now now' way by =
      subst (λ l. IsAnswered full Shows said l old now') (sym way.split)
      (with_line said input line [] number before after old now now' way by)

  refused_end : (said : Described) (input : List ℕ) (last : SessionView) (old now end : Option
      (List Heard)) → IsAnswered full Shows said (slice_split is_line_feed input) old now
      → (Gives now end (at_end last) → IsSession full Shows said input old end)
      → MayGive now end (at_end last) → RefusesEnd full Shows said input old end
  refused_end said input last old now end answered whole (inl same) = inl (subst
      (λ n. IsAnswered full Shows said (slice_split is_line_feed input) old n) (sym same) answered)
  refused_end said input last old now end answered whole (inr gave) = inr (whole gave)

  pub refused_at_quit : (said : Described) (whole left : Option (List ℕ)) (line : List ℕ)
      (number : ℕ) (before after : LiveView) (old now now' end : Option (List Heard)) → AreAnswered
      said whole left number before old now → IfSome left (λ input. line ≡ first_line input)
      → goes_on (line_meant before.board before.agents line) ≡ false
      → Answers full Shows line before after now now' → (Gives now' end (at_end after.session)
      → IfSome whole (λ input. IsSession full Shows said input old end))
      → MayGive now' end (at_end after.session)
      → IfSome whole (λ input. RefusesEnd full Shows said input old end)
  refused_at_quit said None left line number before after old now now' end way first off by
      session may = tt
  refused_at_quit said (Some input) None line number before after old now now' end way first off by
      session may = absurd way
  refused_at_quit said (Some input)
      (Some rest) line number before after old now now' end way first off by session may =
      let next = at_line said input rest line number before old now way first in
      refused_end said input after.session old now' end (all_answered said input line next.0 number
      before after old now now' next.1 by off) session may

  pub refused_at_last : (said : Described) (whole left : Option (List ℕ)) (line : List ℕ)
      (number : ℕ) (before after : LiveView) (ended : Bool) (old now now' end : Option (List Heard))
      → AreAnswered said whole left number before old now
      → IfSome left (λ input. line ≡ first_line input)
      → IfSome left (λ input. ended ≡ has_line_feed input) → ended ≡ false
      → Answers full Shows line before after now now' → (Gives now' end (at_end after.session)
      → IfSome whole (λ input. IsSession full Shows said input old end))
      → MayGive now' end (at_end after.session)
      → IfSome whole (λ input. RefusesEnd full Shows said input old end)
  refused_at_last said None left line number before after ended old now now' end way first feed
      is_last by session may = tt
  refused_at_last said (Some input) None line number before after ended old now now' end way first
      feed is_last by session may = absurd way
  refused_at_last said (Some input) (Some rest) line number before after ended old now now' end way
      first feed is_last by session may =
      let lines : slice_split is_line_feed rest ≡ line ∷ [] =
      split_last full Shows rest line first (sym is_last ∙ feed) in
      let at = subst (λ texts. IsOnItsWay said input texts number before old now) lines way in
      refused_end said input after.session old now' end
      (last_answered said input line number before after old now now' at by) session may

  pub stopped_by_end : (said : Described) (whole : Option (List ℕ)) (old end : Option (List Heard))
      → IfSome whole (λ input. RefusesEnd full Shows said input old end)
      → IfSome whole (λ input. IsStopped full Shows said input old end)
  stopped_by_end said None old end refused = tt
  stopped_by_end said (Some input) old end (inl answered) =
      inl (record {
        first = slice_split is_line_feed input;
        others = [];
        split = sym (append-nil (slice_split is_line_feed input));
        answered = answered;
      })
  stopped_by_end said (Some input) old end (inr session) = inr session

  pub refuses_by_end : (said : Described) (whole : Option (List ℕ)) (old end : Option (List Heard))
      → IfSome whole (λ input. RefusesEnd full Shows said input old end)
      → IfSome whole (λ input. Refuses full Shows said input old end)
  refuses_by_end said None old end refused = tt
  refuses_by_end said (Some input) old end refused = inr refused

  -- what one line has, another that is asked for less has too
  pub before_any_of : (Is : ℕ → List ℕ → Type 0)
      (said : Described) (whole : Option (List ℕ)) (old new : Option (List Heard))
      → IfSome whole (λ input. IsStoppedBefore full Shows Is said input old new)
      → IfSome whole (λ input. IsStoppedBefore full Shows (λ _ _. ⊤) said input old new)
  before_any_of Is said None old new stopped = tt
  before_any_of Is said (Some input) old new stopped =
      record {
        first = stopped.first;
        line = stopped.line;
        others = stopped.others;
        split = stopped.split;
        on = stopped.on;
        is = tt;
        answered = stopped.answered;
      }
