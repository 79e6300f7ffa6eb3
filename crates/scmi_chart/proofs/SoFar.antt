-- What a chart shows of the first steps of a run.
use Rattle.std.proofs.Common.{◌≡◌, ℕ, Bool, ◌+◌, ◌<◌, ◌≤◌, List, [], ◌∷◌, ◌++◌, length, take, get_or, sym, ap, ◌∙◌, subst, Result}
use Rattle.std.proofs.lemmas.List.{take_more, take_all}
use Rattle.std.specs.Prelude.{map}
use Rattle.scmi_text.specs.declared.step.Step.{Step}
use Rattle.scmi_text.specs.declared.step_line.StepLine.{StepLine}
use Rattle.scmi_link.specs.View.{CallerView}
use Rattle.scmi_link.specs.declared.closing.Closing.{Closing}
use Rattle.scmi_link.specs.declared.close_error.CloseError.{CloseError}
use Rattle.scmi_plan.specs.Board.{Board}
use Rattle.scmi_modes.proofs.SessionLines.{follow_more}
use Rattle.scmi_modes.proofs.Runs.{runs_none, runs_more}
use Rattle.scmi_modes.specs.SessionView.{SessionView}
use Rattle.scmi_modes.specs.Run.{Runs, IsNewSession}
use Rattle.scmi_modes.specs.StepLines.{AreLinesOf}
use Rattle.scmi_chart.specs.declared.chart.Chart.{Chart}
use Rattle.scmi_chart.specs.Signs.{sign_of}
use Rattle.scmi_chart.specs.Service.{laters_after}
use Rattle.scmi_chart.specs.Shown.{Shown, shown_after, nothing_shown, none_later, run_signs, head_of, heads_from}
use Rattle.scmi_chart.specs.Run.{ShowsRun, ShowsStep}
use Rattle.scmi_chart.proofs.Signs.{laters_through, laters_more, signs_more}

module _ (full : Bool) (Shows : CallerView → Result Closing CloseError → Type 0)
    (board named : Board) where
  -- what a chart shows of the lines that these steps gave
  abbrev shown_of : List Step → List StepLine → Shown
  shown_of steps lines = record {
    signs = run_signs none_later steps lines;
    laters = laters_through none_later steps lines;
    board = named;
  }

  -- this is what a chart shows of the lines that these steps gave
  pub record SoFar (steps : List Step) (session : SessionView) (shown : Shown) : Type 0 where
    pub lines : List StepLine
    pub made : Runs full Shows board steps lines session
    pub follow : AreLinesOf steps lines
    pub shows : shown ≡ shown_of steps lines

  pub no_step : (session : SessionView) (shown : Shown) → IsNewSession board session
      → shown ≡ nothing_shown named → SoFar [] session shown
  no_step session shown new nothing = record {
    lines = [];
    made = runs_none full Shows board session new;
    follow = tt;
    shows = nothing;
  }

  shown_more : (steps : List Step) (lines : List StepLine) (s : Step) (line : StepLine)
      → AreLinesOf steps lines
      → shown_after s line (shown_of steps lines) ≡ shown_of (steps ++ s ∷ []) (lines ++ line ∷ [])
  shown_more steps lines s line all =
      ap (λ ss. record {
        signs = ss;
        laters = laters_after (laters_through none_later steps lines) s
            line;
        board = named;
      }) (sym (signs_more named none_later steps lines s line all))
      ∙ ap (λ ls. record {
        signs = run_signs none_later (steps ++ s ∷ []) (lines ++ line ∷ []);
        laters = ls;
        board = named;
      }) (sym (laters_more none_later steps lines s line all))

  pub step_more : (steps : List Step) (i : ℕ) (s : Step) (old new : SessionView)
      (before after : Shown) → i < length steps → s ≡ get_or steps i s → SoFar (take i steps) old
      before → ShowsStep full Shows s old new before after → SoFar (take (i + 1) steps) new after
  step_more steps i s old new before after below is so_far step =
      let taken : take i steps ++ s ∷ [] ≡ take (i + 1) steps = ap (λ x. take i steps ++ x ∷ []) is
      ∙ sym (take_more steps i s below) in
      subst (λ ts. SoFar ts new after) taken (record {
        lines = so_far.lines ++ step.line ∷ [];
        made = runs_more full Shows board
            (take i steps) so_far.lines s step.line old new so_far.made step.made;
        follow = follow_more (take i steps) so_far.lines s step.line so_far.follow step.reported;
        shows = step.shown ∙ ap (shown_after s step.line) so_far.shows
            ∙ shown_more (take i steps) so_far.lines s step.line so_far.follow;
      })

  pub all_steps : (steps : List Step) (i : ℕ) (session : SessionView)
      (shown : Shown) (chart : Chart) → length steps ≤ i → SoFar (take i steps) session shown
      → map sign_of chart.marks.items ≡ shown.signs → map head_of chart.lifelines.items
      ≡ heads_from 1 shown.board.agents → ShowsRun full Shows board named steps chart
  all_steps steps i session shown chart all so_far drawn heads =
      let whole : SoFar steps session shown =
      subst (λ ts. SoFar ts session shown) (take_all i steps all) so_far in
      record {
        lines = whole.lines;
        last = session;
        made = whole.made;
        marks = drawn ∙ ap (λ s. s.signs) whole.shows;
        lifelines = heads ∙ ap (λ s. heads_from 1 s.board.agents) whole.shows;
      }
