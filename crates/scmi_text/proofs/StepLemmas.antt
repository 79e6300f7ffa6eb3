-- The step of a line, and the steps with it behind them.
use Rattle.std.proofs.Common.{ℕ, ◌≡◌, List, [], ◌∷◌, ◌++◌, unwrap_or, Option, Some, None, sym, ap, ◌∙◌}
use Rattle.std.proofs.lemmas.List.{map-append}
use Rattle.std.proofs.lemmas.List.Elements.{All-push}
use Rattle.std.specs.Borrow.{Bor}
use Rattle.std.specs.List.{All}
use Rattle.std.specs.Option.{is_some}
use Rattle.scmi_board.specs.Items.{◌>>=◌, ItemsView, items_left}
use Rattle.scmi_board.specs.LineError.{Fails, FailsUnless}
use Rattle.scmi_board.specs.declared.line_error.LineError.{LineError}
use Rattle.scmi_board.specs.declared.line_error.LineError.TheVariants.{Form, Memory}
use Rattle.scmi_text.specs.Step.{Allows, IsStepOf}
use Rattle.scmi_text.specs.StepHead.{step_with}
use Rattle.scmi_text.specs.StepList.{HasStep, HaveSteps, step_in, steps_in}
use Rattle.scmi_text.specs.StepText.{first_head, payload_of, step_of_line, with_step}
use Rattle.scmi_text.specs.declared.step_head.Head.{Head}
use Rattle.scmi_text.specs.declared.step.Step.{Step}
use Rattle.scmi_text.specs.declared.step.Step.TheVariants.{Advance}
use Rattle.scmi_text.specs.declared.step_kinds.StepKinds.{StepKinds}

abbrev with_payload : Option (Head × ItemsView) → Option Step
with_payload found =
    found >>= λ head. payload_of head.0 head.1 >>= λ words. Some (step_with head.0 words)

module _ (kinds : StepKinds) (agents : ℕ) where
  line_is : (text items : List ℕ) (found : Option (Head × ItemsView)) → items ≡ text
      → first_head kinds agents (items_left items) ≡ found
      → step_of_line kinds agents text ≡ with_payload found
  unfolding step_of_line
  line_is text items found same is =
      ap (λ (line : List ℕ). with_payload (first_head kinds agents (items_left line))) (sym same)
      ∙ ap with_payload is

  pub head_fails : (text items : List ℕ) (error : LineError) → items ≡ text
      → Fails error (first_head kinds agents (items_left items))
      → Fails error (step_of_line kinds agents text)
  head_fails text items Form same is = line_is text items None same is
  head_fails text items Memory same is = absurd is

  pub found_is : (text items : List ℕ) (head : Head) (rest : ItemsView) (words : Option (List ℕ))
      → items ≡ text → first_head kinds agents (items_left items) ≡ Some (head, rest)
      → payload_of head rest ≡ words
      → step_of_line kinds agents text ≡ (words >>= λ ws. Some (step_with head ws))
  found_is text items head rest words same is payload =
      line_is text items (Some (head, rest)) same is
      ∙ ap (λ (o : Option (List ℕ)). o >>= λ ws. Some (step_with head ws)) payload

  pub payload_fails : (text items : List ℕ) (head : Head) (rest : ItemsView) (error : LineError)
      → items ≡ text → first_head kinds agents (items_left items) ≡ Some (head, rest)
      → Fails error (payload_of head rest) → Fails error (step_of_line kinds agents text)
  payload_fails text items head rest Form same is fails =
      found_is text items head rest None same is fails
  payload_fails text items head rest Memory same is fails = absurd fails

  with_step_of : (steps : List Step) (text : List ℕ) (step : Option Step)
      → step_of_line kinds agents text ≡ step
      → with_step kinds agents steps text ≡ (step >>= λ s. Some (steps ++ s ∷ []))
  unfolding with_step
  with_step_of steps text step is =
      ap (λ (o : Option Step). o >>= λ s. Some (steps ++ s ∷ [])) is

  pub step_fails : (steps : List Step) (text : List ℕ) (error : LineError)
      → Fails error (step_of_line kinds agents text)
      → FailsUnless error (with_step kinds agents steps text)
  step_fails steps text Form is = with_step_of steps text None is
  step_fails steps text Memory is = absurd is

  pub step_added : (steps : List Step) (text : List ℕ) (step : Step)
      → step_of_line kinds agents text ≡ Some step
      → with_step kinds agents steps text ≡ Some (steps ++ step ∷ [])
  step_added steps text step is = with_step_of steps text (Some step) is

  -- what is so of the lines of a script that were read
  pub record AreRead (lines : List (Bor (List ℕ))) : Type 0 where
    pub have : HaveSteps kinds agents lines
    pub of_agents : All (IsStepOf agents) (steps_in kinds agents lines)
    pub allowed : All (Allows kinds) (steps_in kinds agents lines)

  steps_more : (lines : List (Bor (List ℕ))) (line : Bor (List ℕ)) (step : Step)
      → step_of_line kinds agents line.now ≡ Some step
      → steps_in kinds agents (lines ++ line ∷ []) ≡ steps_in kinds agents lines ++ step ∷ []
  steps_more lines line step is =
      map-append (step_in kinds agents) lines (line ∷ [])
      ∙ ap (λ o. steps_in kinds agents lines ++ unwrap_or o Advance ∷ []) is

  -- and so it is of one more
  pub more_read : (lines : List (Bor (List ℕ))) (line : Bor (List ℕ)) (step : Step)
      → step_of_line kinds agents line.now ≡ Some step → IsStepOf agents step → Allows kinds step
      → AreRead lines → AreRead (lines ++ line ∷ [])
  more_read lines line step is of_agent allowed all = record {
    have = All-push (HasStep kinds agents) lines line all.have (ap is_some is);
    of_agents = rw (steps_more lines line step is)
        (All-push (IsStepOf agents) (steps_in kinds agents lines) step all.of_agents of_agent);
    allowed = rw (steps_more lines line step is)
        (All-push (Allows kinds) (steps_in kinds agents lines) step all.allowed allowed);
  }

  pub more_steps : (lines : List (Bor (List ℕ))) (line : Bor (List ℕ)) (step : Step)
      → step_of_line kinds agents line.now ≡ Some step
      → with_step kinds agents (steps_in kinds agents lines) line.now
      ≡ Some (steps_in kinds agents (lines ++ line ∷ []))
  more_steps lines line step is =
      step_added (steps_in kinds agents lines) line.now step is
      ∙ ap Some (sym (steps_more lines line step is))
