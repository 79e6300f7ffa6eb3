-- What a contract sees of a session, whatever its channels are made of.
use Rattle.std.specs.Prelude.{List}
use Rattle.scmi_ends.specs.AgentView.{AgentView}
use Rattle.scmi_ends.specs.ControllerView.{ControllerView}

-- the platform's side, and the endpoints of each agent, in order
pub record SessionView : Type 0 where
  pub platform : ControllerView
  pub agents : List AgentView
