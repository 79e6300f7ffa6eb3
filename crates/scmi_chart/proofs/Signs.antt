-- The marks of a run of one step more.
use Rattle.std.proofs.Common.{◌≡◌, ℕ, ◌==◌, ◌||◌, Bool, true, false, if◌then◌else◌, List, [], ◌∷◌, ◌++◌, map, refl, sym, ap, ◌∙◌, append_assoc, Option, Some, None, Ok, Err}
use Rattle.std.specs.Prelude.{is_some}
use Rattle.std.proofs.lemmas.List.{append-nil, map-append}
use Rattle.scmi_plan.specs.Board.{Board}
use Rattle.scmi_codec.specs.declared.frame.Frame.TheVariants.{Good, Malformed}
use Rattle.scmi_chart.specs.declared.mark.Outcome.{Outcome}
use Rattle.scmi_link.specs.declared.collected.Collected.TheVariants as collected
use Rattle.scmi_link.specs.declared.served.Served.TheVariants as served
use Rattle.scmi_link.specs.declared.flushed.Flushed.TheVariants as flushed
use Rattle.scmi_text.specs.declared.step.Step.{Step}
use Rattle.scmi_text.specs.declared.step.Step.TheVariants as step
use Rattle.scmi_text.specs.declared.step_line.StepLine.{StepLine}
use Rattle.scmi_text.specs.declared.step_line.StepLine.TheVariants as line
use Rattle.scmi_modes.specs.StepLines.{AreLinesOf}
use Rattle.scmi_chart.specs.Signs.{Sign, answered, delayed, executed, faulted, notified, sent_sign, lane, signs_of, reply_token, has_fault, outcome_of}
use Rattle.scmi_chart.specs.Detail.{answer_detail, message_detail}
use Rattle.scmi_chart.specs.Service.{line_agent, served_by, is_lane, is_served, executed_by, served_so_far, laters_after, is_later}
use Rattle.scmi_chart.specs.Shown.{run_signs}

-- of each lifeline, whether the last command of its agent takes effect later, after these steps
abbrev pub laters_through : List Bool → List Step → List StepLine → List Bool
laters_through laters (s ∷ steps) (l ∷ lines) = laters_through (laters_after laters s l) steps lines
laters_through laters [] lines = laters
laters_through laters (s ∷ steps) [] = laters

or_false : (x : Bool) → x || false ≡ x
or_false true = refl
or_false false = refl

or_assoc : (x y z : Bool) → x || (y || z) ≡ (x || y) || z
or_assoc true y z = refl
or_assoc false y z = refl

served_none : (by : Option ℕ) → served_so_far by [] ≡ []
served_none None = refl
served_none (Some a) = refl

served_append : (by : Option ℕ) (xs ys : List Sign)
    → served_so_far by (xs ++ ys) ≡ served_so_far by xs ++ served_so_far by ys
served_append None xs ys = refl
served_append (Some a) xs ys = map-append (executed_by (Some a)) xs ys

fault_same : (b a : ℕ) (is : Bool) (o : Outcome) (w : List ℕ) →
    (if is then faulted a ∷ [] else []) ++ answered a o w ∷ []
    ≡ map (executed_by (Some b)) ((if is then faulted a ∷ [] else []) ++ answered a o w ∷ [])
fault_same b a true o w = refl
fault_same b a false o w = refl

taken_same : (b a token : ℕ) (is : Bool) (w : List ℕ) → (if is then notified a w
    else delayed a token w) ≡ executed_by (Some b) (if is then notified a w else delayed a token w)
taken_same b a token true w = refl
taken_same b a token false w = refl

-- what is shown of a step whose agent is served later
turned_by : (board : Board) (b : ℕ) (x later : Bool) (s : Step) (l : StepLine)
    → signs_of (x || is_lane (lane (line_agent l)) (Some b)) later s l
    ≡ served_so_far (Some b) (signs_of x later s l)
turned_by board b x later s (line.Token a token) = refl
turned_by board b x later s (line.Posted a) = refl
turned_by board b x later s (line.NotPosted a refusal) = refl
turned_by board b x later s (line.Served a served.Done) = refl
turned_by board b x later s (line.Served a served.Nothing) = refl
turned_by board b x later (step.Do c call) (line.Collected a collected.Nothing) = refl
turned_by board b x later (step.Do c call) (line.Collected a collected.Closed) = refl
turned_by board b x later (step.Do c call) (line.Collected a (collected.Got answer)) = refl
turned_by board b x later (step.Fail c fault call) (line.Collected a collected.Nothing) = refl
turned_by board b x later (step.Fail c fault call) (line.Collected a collected.Closed) = refl
turned_by board b x later (step.Fail c fault call) (line.Collected a (collected.Got answer)) =
    ap (λ rest. sent_sign (x || (lane a == b)) (step.Fail c fault call) (lane a)
    (reply_token (collected.Got answer)) ∷ executed ∷ rest)
    (fault_same b (lane a) (has_fault fault (collected.Got answer)) (outcome_of answer later)
    (answer_detail answer))
turned_by board b x later (step.Agent c call) (line.Collected a collected.Nothing) = refl
turned_by board b x later (step.Agent c call) (line.Collected a collected.Closed) = refl
turned_by board b x later (step.Agent c call) (line.Collected a (collected.Got answer)) = refl
turned_by board b x later (step.Platform c call) (line.Collected a collected.Nothing) = refl
turned_by board b x later (step.Platform c call) (line.Collected a collected.Closed) = refl
turned_by board b x later (step.Platform c call) (line.Collected a (collected.Got answer)) = refl
turned_by board b x later step.Advance (line.Collected a collected.Nothing) = refl
turned_by board b x later step.Advance (line.Collected a collected.Closed) = refl
turned_by board b x later step.Advance (line.Collected a (collected.Got answer)) = refl
turned_by board b x later (step.AdvanceFailed fault) (line.Collected a collected.Nothing) = refl
turned_by board b x later (step.AdvanceFailed fault) (line.Collected a collected.Closed) = refl
turned_by board b x later (step.AdvanceFailed fault) (line.Collected a (collected.Got answer)) =
    refl
turned_by board b x later (step.Report report) (line.Collected a collected.Nothing) = refl
turned_by board b x later (step.Report report) (line.Collected a collected.Closed) = refl
turned_by board b x later (step.Report report) (line.Collected a (collected.Got answer)) = refl
turned_by board b x later (step.Restart c) (line.Collected a collected.Nothing) = refl
turned_by board b x later (step.Restart c) (line.Collected a collected.Closed) = refl
turned_by board b x later (step.Restart c) (line.Collected a (collected.Got answer)) = refl
turned_by board b x later s (line.Advanced more) = refl
turned_by board b x later s (line.AdvanceFailed true) = refl
turned_by board b x later s (line.AdvanceFailed false) = refl
turned_by board b x later s (line.Reported true) = refl
turned_by board b x later s (line.Reported false) = refl
turned_by board b x later s (line.Flushed a flushed.Nothing) = refl
turned_by board b x later s (line.Flushed a flushed.Waiting) = refl
turned_by board b x later s (line.Flushed a flushed.Posted) = refl
turned_by board b x later s (line.Flushed a flushed.Closed) = refl
turned_by board b x later s (line.P2a a None) = refl
turned_by board b x later s (line.P2a a (Some (Good m))) = ap (λ sign. sign ∷ [])
    (taken_same b (lane a) m.header.token (m.header.kind == 3) (message_detail m))
turned_by board b x later s (line.P2a a (Some (Malformed len header))) = refl
turned_by board b x later s (line.Closed a (Ok closing)) = refl
turned_by board b x later s (line.Closed a (Err refusal)) = refl
turned_by board b x later s (line.Shut a (Ok closing)) = refl
turned_by board b x later s (line.Shut a (Err refusal)) = refl
turned_by board b x later s (line.Restarted a) = refl
turned_by board b x later s (line.Trace events) = refl

turned : (board : Board) (by : Option ℕ) (x later : Bool) (s : Step) (l : StepLine) → signs_of
    (x || is_lane (lane (line_agent l)) by) later s l ≡ served_so_far by (signs_of x later s l)
turned board None x later s l = ap (λ y. signs_of y later s l) (or_false x)
turned board (Some b) x later s l = turned_by board b x later s l

served_more : (a : ℕ) (steps : List Step) (lines : List StepLine) (s : Step) (l : StepLine)
    → AreLinesOf steps lines → is_served a (steps ++ s ∷ []) (lines ++ l ∷ [])
    ≡ is_served a steps lines || is_lane a (served_by s l)
served_more a [] [] s l all = or_false (is_lane a (served_by s l))
served_more a [] (x ∷ lines) s l all = absurd all
served_more a (t ∷ steps) [] s l all = absurd all
served_more a (t ∷ steps) (x ∷ lines) s l all =
    ap (λ y. is_lane a (served_by t x) || y) (served_more a steps lines s l all.1)
    ∙ or_assoc (is_lane a (served_by t x)) (is_served a steps lines) (is_lane a (served_by s l))

pub laters_more : (laters : List Bool) (steps : List Step) (lines : List StepLine)
    (s : Step) (l : StepLine) → AreLinesOf steps lines → laters_through laters (steps ++ s ∷ [])
    (lines ++ l ∷ []) ≡ laters_after (laters_through laters steps lines) s l
laters_more laters [] [] s l all = refl
laters_more laters [] (x ∷ lines) s l all = absurd all
laters_more laters (t ∷ steps) [] s l all = absurd all
laters_more laters (t ∷ steps) (x ∷ lines) s l all =
    laters_more (laters_after laters t x) steps lines s l all.1

module _ (board : Board) where
  -- the last step's marks
  abbrev last_signs : List Bool → List Step → List StepLine → Step → StepLine → List Sign
  last_signs laters steps lines s l =
      signs_of (is_some (served_by s l)) (is_later (laters_through laters steps lines) s l) s l

  pub signs_more : (laters : List Bool) (steps : List Step) (lines : List StepLine) (s : Step)
      (l : StepLine) → AreLinesOf steps lines →
      run_signs laters (steps ++ s ∷ []) (lines ++ l ∷ []) ≡
      served_so_far (served_by s l) (run_signs laters steps lines) ++ signs_of
      (is_some (served_by s l)) (is_later (laters_through laters steps lines) s l) s l
  signs_more laters [] [] s l all =
      append-nil (signs_of (is_some (served_by s l) || false) (is_later laters s l) s l)
      ∙ ap (λ y. signs_of y (is_later laters s l) s l) (or_false (is_some (served_by s l)))
      ∙ sym (ap (λ xs. xs ++ last_signs laters [] [] s l) (served_none (served_by s l)))
  signs_more laters [] (x ∷ lines) s l all = absurd all
  signs_more laters (t ∷ steps) [] s l all = absurd all
  signs_more laters (t ∷ steps) (x ∷ lines) s l all =
      let a : ℕ = lane (line_agent x) in
      let by : Option ℕ = served_by s l in
      let own : Bool = is_some (served_by t x) in
      let later : Bool = is_later laters t x in
      let more : List Sign = run_signs (laters_after laters t x) steps lines in
      let last : List Sign = last_signs (laters_after laters t x) steps lines s l in
      let first : signs_of (own || is_served a (steps ++ s ∷ []) (lines ++ l ∷ [])) later t x
      ≡ served_so_far by (signs_of (own || is_served a steps lines) later t x) =
      ap (λ y. signs_of (own || y) later t x) (served_more a steps lines s l all.1)
      ∙ ap (λ y. signs_of y later t x) (or_assoc own (is_served a steps lines) (is_lane a by))
      ∙ turned board by (own || is_served a steps lines) later t x in
      ap (λ xs. xs ++ run_signs (laters_after laters t x) (steps ++ s ∷ []) (lines ++ l ∷ [])) first
      ∙ ap (λ ys. served_so_far by (signs_of (own || is_served a steps lines) later t x) ++ ys)
      (signs_more (laters_after laters t x) steps lines s l all.1)
      ∙ sym (append_assoc (served_so_far by (signs_of (own || is_served a steps lines) later t x))
      (served_so_far by more) last)
      ∙ sym (ap (λ xs. xs ++ last)
      (served_append by (signs_of (own || is_served a steps lines) later t x) more))
