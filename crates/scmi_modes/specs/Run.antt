-- What the steps of a script leave, from a new session on.
use Rattle.std.specs.Prelude.{◌≡◌, Bool, List, [], ◌∷◌, length, replicate, None, Result}
use Rattle.scmi_link.specs.View.{CallerView, new_caller, new_callee}
use Rattle.scmi_link.specs.declared.closing.Closing.{Closing}
use Rattle.scmi_link.specs.declared.close_error.CloseError.{CloseError}
use Rattle.scmi_plan.specs.Board.{Board}
use Rattle.scmi_core.specs.Legal.{IsLegal}
use Rattle.scmi_ends.specs.AgentView.{IsNewAgent}
use Rattle.scmi_ends.specs.Each.{AllFrom}
use Rattle.scmi_ends.specs.Headline.{Headlines}
use Rattle.scmi_text.specs.declared.step.Step.{Step}
use Rattle.scmi_text.specs.declared.step_line.StepLine.{StepLine}
use Rattle.scmi_modes.specs.SessionView.{SessionView}
use Rattle.scmi_modes.specs.SessionSteps.{Steps}

-- nothing was done yet on this board, by either side
pub record IsNewSession (board : Board) (session : SessionView) : Type 0 where
  pub board_is : session.platform.board ≡ board
  pub history : session.platform.history ≡ []
  pub callees : session.platform.callees ≡ replicate (length board.agents) new_callee
  pub callers : session.platform.callers ≡ replicate (length board.agents) new_caller
  pub closed_at : session.platform.closed_at ≡ replicate (length board.agents) None
  pub count : length session.agents ≡ length board.agents
  pub agents : AllFrom IsNewAgent 1 session.agents

module _ (full : Bool) (Shows : CallerView → Result Closing CloseError → Type 0) where
  -- these steps are made one after the other, and each gives its line
  abbrev pub AllSteps : List Step → List StepLine → SessionView → SessionView → Type 0
  AllSteps [] [] old new = new ≡ old
  AllSteps (s ∷ steps) (line ∷ lines) old new = (next : SessionView)
      × Steps full Shows s line old next × AllSteps steps lines next new
  AllSteps _ _ old new = ⊥

  -- these steps of a new session on this board give these lines, and leave this
  pub record Runs (board : Board) (steps : List Step) (lines : List StepLine)
      (last : SessionView) : Type 0 where
    pub first : SessionView
    pub new : IsNewSession board first
    pub made : AllSteps steps lines first last

-- once all endpoints are gathered: the history is legal, and says about each agent what that agent
-- did
pub record IsGathered (session : SessionView) : Type 0 where
  pub legal : IsLegal session.platform.board session.platform.history
  pub headline : Headlines session.platform.board session.platform.history 1 session.agents
      session.platform.callees session.platform.callers
