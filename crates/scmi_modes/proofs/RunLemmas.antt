-- What is written of a run.
use Rattle.std.proofs.Common.{◌≡◌, ℕ, Bool, ◌+◌, ◌<◌, ◌≤◌, List, [], ◌∷◌, ◌++◌, length, take, drop, get_or, Option, Some, None, Result, Ok, Err, sym, ap, ◌∙◌, subst, arith, append_assoc, ◌⊎◌, inl, inr}
use Rattle.std.specs.List.{flat_map}
use Rattle.std.specs.Prelude.{OnOk}
use Rattle.std.specs.Io.KnownBytes.{Appends}
use Rattle.std.proofs.lemmas.List.Elements.{All-take}
use Rattle.std.proofs.lemmas.List.{append-nil, take_more, take_all, length-take, take-append-drop}
use Rattle.scmi_threads.specs.declared.agent_log.AgentLog.{AgentLog}
use Rattle.scmi_text.specs.ScriptLine.{lines_text}
use Rattle.scmi_text.specs.Step.{IsWithoutHardware}
use Rattle.scmi_text.specs.StepLine.{step_text}
use Rattle.scmi_text.specs.declared.step.Step.{Step}
use Rattle.scmi_text.specs.declared.step_line.StepLine.{StepLine}
use Rattle.scmi_text.specs.declared.step_line.StepLine.TheVariants.{Trace}
use Rattle.scmi_modes.specs.Runs.{logs_text}
use Rattle.scmi_link.specs.View.{CallerView}
use Rattle.scmi_link.specs.declared.closing.Closing.{Closing}
use Rattle.scmi_link.specs.declared.close_error.CloseError.{CloseError}
use Rattle.scmi_plan.specs.Board.{Board}
use Rattle.scmi_modes.proofs.Plain.{runs_plain}
use Rattle.scmi_modes.proofs.Runs.{runs_none, runs_more}
use Rattle.scmi_modes.specs.SessionView.{SessionView}
use Rattle.scmi_modes.specs.SessionSteps.{Steps}
use Rattle.scmi_modes.specs.Run.{Runs, IsNewSession, IsGathered}
use Rattle.scmi_modes.specs.Steps.{AreStepLines, IsTextOfSteps}

pub nothing_written : (old : Option (List ℕ)) → Appends old old []
nothing_written None = tt
nothing_written (Some bs) = sym (append-nil bs)

written_then : (a b c : Option (List ℕ)) (xs ys : List ℕ) → Appends a b xs → Appends b c ys
    → Appends a c (xs ++ ys)
written_then None b c xs ys h k = tt
written_then (Some as') None c xs ys h k = absurd h
written_then (Some as') (Some bs) None xs ys h k = absurd k
written_then (Some as') (Some bs) (Some cs) xs ys h k = k ∙ ap (λ zs. zs ++ ys) h
    ∙ append_assoc as' xs ys

logs_push : (n : ℕ) (ls : List AgentLog) (l : AgentLog)
    → logs_text n (ls ++ l ∷ []) ≡ logs_text n ls ++ lines_text (n + length ls) l.lines.items
logs_push n [] l = append-nil (lines_text n l.lines.items)
    ∙ ap (λ m. lines_text m l.lines.items) (omega arith)
logs_push n (x ∷ ls) l = ap (λ zs. lines_text n x.lines.items ++ zs) (logs_push (n + 1) ls l
    ∙ ap (λ m. logs_text (n + 1) ls ++ lines_text m l.lines.items) (omega arith))
    ∙ sym (append_assoc (lines_text n x.lines.items) (logs_text (n + 1) ls)
    (lines_text (n + length (x ∷ ls)) l.lines.items))

pub logs_step : (a b c : Option (List ℕ)) (ls : List AgentLog) (i : ℕ) (l : AgentLog)
    → i < length ls → l ≡ get_or ls i l → Appends a b (logs_text 1 (take i ls))
    → Appends b c (lines_text (i + 1) l.lines.items) → Appends a c (logs_text 1 (take (i + 1) ls))
logs_step a b c ls i l below is h k =
    let number : i + 1 ≡ 1 + length (take i ls) = omega (arith, length-take i ls) in
    let taken : take i ls ++ l ∷ [] ≡ take (i + 1) ls = ap (λ x. take i ls ++ x ∷ []) is
    ∙ sym (take_more ls i l below) in
    subst (Appends a c) (sym (logs_push 1 (take i ls) l) ∙ ap (logs_text 1) taken)
    (written_then a b c (logs_text 1 (take i ls)) (lines_text (1 + length (take i ls))
    l.lines.items) h (subst (λ m. Appends b c (lines_text m l.lines.items)) number k))

pub on_ok : {A E : Type 0} (P Q : Type 0) (r : Result A E) → OnOk r P → (P → Q) → OnOk r Q
on_ok P Q (Ok x) p f = f p
on_ok P Q (Err e) p f = tt

pub either_way : {A B C : Type 0} → A ⊎ B → (B → C) → A ⊎ C
either_way (inl a) f = inl a
either_way (inr b) f = inr (f b)

-- the lines of steps

lines_more : (lines : List StepLine) (line : StepLine)
    → flat_map step_text (lines ++ line ∷ []) ≡ flat_map step_text lines ++ step_text line
lines_more [] line = append-nil (step_text line)
lines_more (x ∷ lines) line = ap (λ ys. step_text x ++ ys) (lines_more lines line)
    ∙ sym (append_assoc (step_text x) (flat_map step_text lines) (step_text line))

module _ (full : Bool) (Shows : CallerView → Result Closing CloseError → Type 0)
    (board : Board) where
  -- the line of each of these steps was written, and they left this
  pub record SoFar (steps : List Step) (session : SessionView)
      (old new : Option (List ℕ)) : Type 0 where
    pub lines : List StepLine
    pub made : Runs full Shows board steps lines session
    pub text : Appends old new (flat_map step_text lines)

  pub no_step : (session : SessionView) (a : Option (List ℕ)) → IsNewSession board session
      → SoFar [] session a a
  no_step session a new =
      record { lines = []; made = runs_none full Shows board session new; text = nothing_written a }

  pub step_more : (steps : List Step) (i : ℕ) (s : Step) (mid new : SessionView)
      (a b c : Option (List ℕ)) (line : StepLine) → i < length steps → s ≡ get_or steps i s
      → SoFar (take i steps) mid a b → Steps full Shows s line mid new
      → Appends b c (step_text line) → SoFar (take (i + 1) steps) new a c
  step_more steps i s mid new a b c line below is so_far one more =
      let taken : take i steps ++ s ∷ [] ≡ take (i + 1) steps = ap (λ x. take i steps ++ x ∷ []) is
      ∙ sym (take_more steps i s below) in
      record {
        lines = so_far.lines ++ line ∷ [];
        made = subst (λ ts. Runs full Shows board ts (so_far.lines ++ line ∷ []) new) taken
            (runs_more full Shows board (take i steps) so_far.lines s line mid new so_far.made one);
        text = subst (Appends a c) (sym (lines_more so_far.lines line)) (written_then a b c
            (flat_map step_text so_far.lines) (step_text line) so_far.text more);
      }

  -- the lines so far are those of the first steps
  pub first_steps : (steps : List Step) (i : ℕ) (session : SessionView) (a b : Option (List ℕ))
      → SoFar (take i steps) session a b → AreStepLines full Shows board steps a b
  first_steps steps i session a b so_far = record {
    done = take i steps;
    left = drop i steps;
    parted = take-append-drop i steps;
    lines = so_far.lines;
    last = session;
    made = so_far.made;
    plain = λ without. runs_plain full Shows board (take i steps) so_far.lines session so_far.made
        (All-take IsWithoutHardware i steps without);
    text = so_far.text;
  }

  pub all_steps : {E : Type 0} (r : Result Unit E)
      (steps : List Step) (i : ℕ) (session : SessionView) (a b c : Option (List ℕ)) (events : ℕ)
      → length steps ≤ i → SoFar (take i steps) session a b → IsGathered session
      → events ≡ length session.platform.history → OnOk r (Appends b c (step_text (Trace events)))
      → OnOk r (IsTextOfSteps full Shows board steps a c)
  all_steps (Err e) steps i session a b c events all so_far gathered is last = tt
  all_steps (Ok x) steps i session a b c events all so_far gathered is last =
      let made = subst (λ ts. Runs full Shows board ts so_far.lines session)
      (take_all i steps all) so_far.made in
      record {
        lines = so_far.lines;
        last = session;
        made = made;
        plain = runs_plain full Shows board steps so_far.lines session made;
        gathered = gathered;
        text = written_then a b c (flat_map step_text so_far.lines)
            (step_text (Trace (length session.platform.history))) so_far.text
            (subst (λ n. Appends b c (step_text (Trace n))) is last);
      }
