-- What a listener was given while a session is answered line by line.
use Rattle.std.proofs.Common.{◌≡◌, ℕ, ◌<◌, ◌≤◌, Bool, true, false, List, [], ◌∷◌, ◌++◌, length, Option, None, Some, Result, IfSome, ◌∙◌, refl, sym, ap, subst, append_assoc, arith}
use Rattle.std.specs.List.{slice_split, position_or_len}
use Rattle.std.proofs.lemmas.Bool.Decides.{nat_tests}
use Rattle.std.proofs.lemmas.List as list
use Rattle.std.proofs.lemmas.List.Splits.{slice_split_first, slice_split_none}
use Rattle.std.proofs.lemmas.List.Sums.{fails_before_first}
use Rattle.scmi_io.specs.Lines.{is_line_feed, first_line, after_line, has_line_feed}
use Rattle.scmi_link.specs.View.{CallerView}
use Rattle.scmi_link.specs.declared.closing.Closing.{Closing}
use Rattle.scmi_link.specs.declared.close_error.CloseError.{CloseError}
use Rattle.scmi_board.specs.BoardLines.{Described}
use Rattle.scmi_board.specs.ValidBoard.{with_its_lines}
use Rattle.scmi_plan.specs.Board.{Board}
use Rattle.scmi_modes.proofs.BoardAgents.{agents_kept}
use Rattle.scmi_modes.specs.Run.{AllSteps, IsGathered, IsNewSession}
use Rattle.scmi_modes.specs.SessionView.{SessionView}
use Rattle.scmi_text.specs.declared.step.Step.{Step}
use Rattle.scmi_text.specs.declared.step_line.StepLine.{StepLine}
use Rattle.scmi_live.specs.Heard.{Gives, Heard}
use Rattle.scmi_live.specs.Live.{Answers, AnswersAs, IsSession, LiveView, MakesStep, at_end, goes_on, step_then, steps_of, with_lines}
use Rattle.scmi_live.specs.Meant.{line_meant}
use Rattle.scmi_live.specs.declared.meant.Meant.{Meant}
use Rattle.scmi_live.specs.declared.meant.Meant.TheVariants.{Describe, Does, Help, Nothing, Quit, Unknown}

pub gives_more : (old now new : Option (List Heard)) (first then : List Heard) → Gives old now first
    → Gives now new then → Gives old new (first ++ then)
gives_more None now new first then gave more = tt
gives_more (Some all) None new first then gave more = absurd gave
gives_more (Some all) (Some grown) None first then gave more = absurd more
gives_more (Some all) (Some grown) (Some last) first then gave more = more
    ∙ ap (λ l. l ++ then) gave ∙ append_assoc all first then

module _ (full : Bool) (Shows : CallerView → Result Closing CloseError → Type 0) where
  -- from this session on, these steps give what the listener is given up to the end
  pub record IsRest (steps : List Step) (session : SessionView)
      (now end : Option (List Heard)) : Type 0 where
    pub lines : List StepLine
    pub last : SessionView
    pub made : AllSteps full Shows steps lines session last
    pub gathered : IsGathered last
    pub heard : Gives now end (with_lines steps lines ++ at_end last)

  -- the same of these lines
  abbrev pub IsRestOf : List (List ℕ) → LiveView → Option (List Heard)
      → Option (List Heard) → Type 0
  IsRestOf texts live now end = IsRest (steps_of live.board live.agents texts) live.session now end

  no_more : (session : SessionView) (now end : Option (List Heard)) → IsGathered session
      → Gives now end (at_end session) → IsRest [] session now end
  no_more session now end gathered heard =
      record { lines = []; last = session; made = refl; gathered = gathered; heard = heard }

  one_step : (before after : LiveView) (steps : List Step) (step : Step) (now now' end : Option
      (List Heard)) → (makes : MakesStep full Shows step before after now now')
      → IsRest steps after.session now' end
      → IsRest (step ∷ steps) before.session now end
  one_step before after steps step now now' end makes rest =
      let first : List Heard = (Some step, makes.line) ∷ [] in
      record {
        lines = makes.line ∷ rest.lines;
        last = rest.last;
        made = (after.session, makes.made, rest.made);
        gathered = rest.gathered;
        heard = gives_more now now' end first
            (with_lines steps rest.lines ++ at_end rest.last) makes.heard rest.heard;
      }

  -- the steps of a line that means this, and of those after it
  abbrev steps_from : LiveView → Meant → List (List ℕ) → List Step
  steps_from before meant texts = step_then meant (steps_of before.board before.agents texts)

  as_before : (before after : LiveView) (texts : List (List ℕ)) (now now' end : Option (List Heard))
      → (after ≡ before) × (now' ≡ now) → IsRestOf texts after now' end
      → IsRestOf texts before now end
  as_before before after texts now now' end by rest = subst (λ (v : LiveView).
      IsRestOf texts v now end) by.0 (subst (λ n. IsRestOf texts after n end) by.1 rest)

  answered_as : (meant : Meant) (before after : LiveView)
      (texts : List (List ℕ)) (now now' end : Option (List Heard)) → goes_on meant ≡ true
      → AnswersAs full Shows meant before after now now' → IsRestOf texts after now' end
      → IsRest (steps_from before meant texts) before.session now end
  answered_as Nothing before after texts now now' end on by rest =
      as_before before after texts now now' end by rest
  answered_as Unknown before after texts now now' end on by rest =
      as_before before after texts now now' end by rest
  answered_as Help before after texts now now' end on by rest =
      as_before before after texts now now' end by rest
  answered_as (Describe words) before after texts now now' end on by rest =
      as_before before after texts now now' end by rest
  answered_as Quit before after texts now now' end on by rest = absurd cc
  answered_as (Does step) before after texts now now' end on by rest =
      let same : IsRest (steps_of before.board before.agents texts) after.session now' end =
      subst (λ (v : LiveView). IsRest (steps_of v.board v.agents texts) after.session now' end)
      by.same rest in
      one_step before after (steps_of before.board before.agents texts) step now now' end by same

  -- a line that ends the session, whatever lines follow it
  ended_as : (meant : Meant) (before after : LiveView) (texts : List (List ℕ))
      (now now' end : Option (List Heard)) → goes_on meant ≡ false → AnswersAs full Shows meant
      before after now now' → IsGathered after.session → Gives now' end (at_end after.session)
      → IsRest (steps_from before meant texts) before.session now end
  ended_as Quit before after texts now now' end off by gathered heard =
      subst (λ (v : LiveView). IsRest [] v.session now end) by.0 (no_more after.session now end
      gathered (subst (λ n. Gives n end (at_end after.session)) by.1 heard))
  ended_as Nothing before after texts now now' end off by gathered heard = absurd cc
  ended_as Unknown before after texts now now' end off by gathered heard = absurd cc
  ended_as Help before after texts now now' end off by gathered heard = absurd cc
  ended_as (Describe words) before after texts now now' end off by gathered heard = absurd cc
  ended_as (Does step) before after texts now now' end off by gathered heard = absurd cc

  -- what is left of an input: what the listener is still given, behind what it was, is what the
  -- whole gives
  abbrev IsOnItsWay : (said : Described) (input rest : List ℕ) (live : LiveView)
      (old now : Option (List Heard)) → Type 0
  IsOnItsWay said input rest live old now = (end : Option (List Heard)) → IsRestOf
      (slice_split is_line_feed rest) live now end → IsSession full Shows said input old end

  -- the same, where it may be unknown what the reader gives
  abbrev pub IsUnderWay : (said : Described) (whole left : Option (List ℕ)) (live : LiveView)
      (old now : Option (List Heard)) → Type 0
  IsUnderWay said None left live old now = Unit {0}
  IsUnderWay said (Some input) None live old now = ⊥
  IsUnderWay said (Some input) (Some rest) live old now = IsOnItsWay said input rest live old now

  begun : (said : Described) (b : Board) (agents : ℕ) (session : SessionView)
      (input : List ℕ) (old end : Option (List Heard)) → b ≡ said.0 → agents ≡ length said.0.agents
      → IsNewSession (with_its_lines said) session
      → IsRest (steps_of b agents (slice_split is_line_feed input)) session old end
      → IsSession full Shows said input old end
  begun said b agents session input old end b_is agents_is new rest =
      let texts = slice_split is_line_feed input in
      let first = subst (λ x. IsRest (steps_of x agents texts) session old end) b_is rest in
      let all : IsRest (steps_of said.0 (length said.0.agents) texts) session old end =
      subst (λ n. IsRest (steps_of said.0 n texts) session old end) agents_is first in
      record {
        lines = all.lines;
        last = all.last;
        made = record { first = session; new = new; made = all.made };
        gathered = all.gathered;
        heard = all.heard;
      }

  pub agents_count : (said : Described) (plan : Board) (agents : ℕ) → plan ≡ with_its_lines said
      → agents ≡ length plan.agents → agents ≡ length said.0.agents
  agents_count said plan agents plan_is agents_is = agents_is
      ∙ ap (λ (b : Board). length b.agents) plan_is ∙ ap length (agents_kept said.0 said.1)

  pub at_begin : (said : Described) (plan : Board) (whole : Option (List ℕ)) (live : LiveView)
      (old : Option (List Heard)) → plan ≡ with_its_lines said → live.board ≡ said.0
      → live.agents ≡ length plan.agents → IsNewSession plan live.session
      → IsUnderWay said whole whole live old old
  at_begin said plan None live old plan_is board_is agents_is new = tt
  at_begin said plan (Some input) live old plan_is board_is agents_is new = λ end rest.
      begun said live.board live.agents live.session input old end board_is (agents_count said plan
      live.agents plan_is agents_is) (subst (λ b. IsNewSession b live.session) plan_is new) rest

  has_feed : (rest : List ℕ) → true ≡ has_line_feed rest
      → position_or_len is_line_feed rest < length rest
  has_feed rest e = grind (arith, nat_tests)

  no_feed : (rest : List ℕ) → false ≡ has_line_feed rest
      → length rest ≤ position_or_len is_line_feed rest
  no_feed rest e = grind (arith, nat_tests)

  -- the lines of what is left, where a line feed ends the first
  pub split_at : (rest rest' line : List ℕ) → line ≡ first_line rest → rest' ≡ after_line rest
      → true ≡ has_line_feed rest
      → slice_split is_line_feed rest ≡ line ∷ slice_split is_line_feed rest'
  split_at rest rest' line first behind feed =
      let parts : slice_split is_line_feed rest ≡ first_line rest ∷ slice_split is_line_feed
      (after_line rest) = slice_split_first is_line_feed rest 0 (has_feed rest feed) in
      parts ∙ ap (λ l. l ∷ slice_split is_line_feed (after_line rest)) (sym first)
      ∙ ap (λ r. line ∷ slice_split is_line_feed r) (sym behind)

  -- the same, where none does
  pub split_last : (rest line : List ℕ) → line ≡ first_line rest → false ≡ has_line_feed rest
      → slice_split is_line_feed rest ≡ line ∷ []
  split_last rest line first none =
      let past = no_feed rest none in
      let parts : slice_split is_line_feed rest ≡ rest ∷ [] = slice_split_none is_line_feed rest
      (λ k x inside. fails_before_first is_line_feed rest k x (omega (arith, past, inside))) in
      let all : line ≡ rest = first ∙ list.take_all (position_or_len is_line_feed rest) rest past in
      parts ∙ ap (λ l. l ∷ []) (sym all)

  -- a line, and those after it
  on_line : (said : Described) (input rest line : List ℕ)
      (texts : List (List ℕ)) (before after : LiveView) (old now now' end : Option (List Heard))
      → IsOnItsWay said input rest before old now → slice_split is_line_feed rest ≡ line ∷ texts
      → goes_on (line_meant before.board before.agents line) ≡ true → Answers full Shows line before
      after now now' → IsRestOf texts after now' end → IsSession full Shows said input old end
  on_line said input rest line texts before after old now now' end way split on by more =
      way end (subst (λ ls. IsRestOf ls before now end) (sym split) (answered_as
      (line_meant before.board before.agents line) before after texts now now' end on by more))

  on_last : (said : Described) (input rest line : List ℕ)
      (texts : List (List ℕ)) (before after : LiveView) (old now now' end : Option (List Heard))
      → IsOnItsWay said input rest before old now → slice_split is_line_feed rest ≡ line ∷ texts
      → goes_on (line_meant before.board before.agents line) ≡ false
      → Answers full Shows line before after now now' → IsGathered after.session
      → Gives now' end (at_end after.session) → IsSession full Shows said input old end
  on_last said input rest line texts before after old now now' end way split off by gathered heard =
      way end (subst (λ ls. IsRestOf ls before now end) (sym split) (ended_as (line_meant
      before.board before.agents line) before after texts now now' end off by gathered heard))

  pub one_more : (said : Described) (whole left left' : Option (List ℕ))
      (line : List ℕ) (before after : LiveView) (ended : Bool) (old now now' : Option (List Heard))
      → IsUnderWay said whole left before old now
      → IfSome left (λ input. line ≡ first_line input)
      → IfSome left (λ input. left' ≡ Some (after_line input))
      → IfSome left (λ input. ended ≡ has_line_feed input) → ended ≡ true
      → goes_on (line_meant before.board before.agents line) ≡ true
      → Answers full Shows line before after now now' → IsUnderWay said whole left' after old now'
  one_more said None left left' line before after ended old now now' way first behind feed
      is_ended on by = tt
  one_more said (Some input) None left' line before after ended old now now' way first behind feed
      is_ended on by = absurd way
  one_more said (Some input) (Some rest) None line before after ended old now now' way first behind
      feed is_ended on by = absurd cc
  one_more said (Some input) (Some rest)
      (Some rest') line before after ended old now now' way first behind feed is_ended on by =
      let is_behind : rest' ≡ after_line rest = cc in
      λ end more. on_line said input rest line (slice_split is_line_feed rest') before after old now
      now' end way (split_at rest rest' line first is_behind (sym is_ended ∙ feed)) on by more

  pub at_last : (said : Described) (whole left : Option (List ℕ)) (line : List ℕ)
      (before after : LiveView) (ended : Bool) (old now now' end : Option (List Heard))
      → IsUnderWay said whole left before old now
      → IfSome left (λ input. line ≡ first_line input)
      → IfSome left (λ input. ended ≡ has_line_feed input) → ended ≡ false
      → goes_on (line_meant before.board before.agents line) ≡ true
      → Answers full Shows line before after now now' → IsGathered after.session → Gives now' end
      (at_end after.session) → IfSome whole (λ input. IsSession full Shows said input old end)
  at_last said None left line before after ended old now now' end way first feed is_last on by
      gathered heard = tt
  at_last said (Some input) None line before after ended old now now' end way first feed is_last on
      by gathered heard = absurd way
  at_last said (Some input) (Some rest) line before after ended old now now' end way first feed
      is_last on by gathered heard =
      on_line said input rest line [] before after old now now' end way (split_last rest line first
      (sym is_last ∙ feed)) on by (no_more after.session now' end gathered heard)

  on_quit : (said : Described) (input rest line : List ℕ) (before after : LiveView) (ended : Bool)
      (old now now' end : Option (List Heard)) → IsOnItsWay said input rest before old now
      → line ≡ first_line rest → ended ≡ has_line_feed rest
      → goes_on (line_meant before.board before.agents line) ≡ false
      → Answers full Shows line before after now now' → IsGathered after.session
      → Gives now' end (at_end after.session) → IsSession full Shows said input old end
  on_quit said input rest line before after true old now now' end way first feed off by
      gathered heard =
      on_last said input rest line (slice_split is_line_feed (after_line rest)) before after old now
      now' end way (split_at rest (after_line rest) line first refl feed) off by gathered heard
  on_quit said input rest line before after false old now now' end way first feed off by
      gathered heard =
      on_last said input rest line [] before after old now now' end way
      (split_last rest line first feed) off by gathered heard

  pub at_quit : (said : Described) (whole left : Option (List ℕ)) (line : List ℕ)
      (before after : LiveView) (ended : Bool) (old now now' end : Option (List Heard))
      → IsUnderWay said whole left before old now
      → IfSome left (λ input. line ≡ first_line input) → IfSome left (λ input. ended
      ≡ has_line_feed input) → goes_on (line_meant before.board before.agents line) ≡ false
      → Answers full Shows line before after now now' → IsGathered after.session → Gives now' end
      (at_end after.session) → IfSome whole (λ input. IsSession full Shows said input old end)
  at_quit said None left line before after ended old now now' end way first feed off by
      gathered heard = tt
  at_quit said (Some input) None line before after ended old now now' end way first feed off by
      gathered heard = absurd way
  at_quit said (Some input)
      (Some rest) line before after ended old now now' end way first feed off by gathered heard =
      on_quit said input rest line before after ended old now now' end way first feed off by
      gathered heard
