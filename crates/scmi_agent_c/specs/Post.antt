-- What a call leaves that posts a command.
use Rattle.std.specs.Prelude.{◌≡◌, ◌≢◌, ◌↔◌, ◌≤◌, ℕ, List, Some, None}
use Rattle.scmi_codec.specs.Area.{area_after_post, frame_waiting}
use Rattle.scmi_codec.specs.declared.command.Command.{Command}
use Rattle.scmi_codec.specs.declared.frame.Frame.TheVariants.{Good}
use Rattle.scmi_agent.specs.Agent.{next_message, agent_after_post}
use Rattle.scmi_agent_c.specs.declared.code.TheConstants.{DONE, OUTSTANDING, NOT_FREE}
use Rattle.scmi_agent_c.specs.State.{agent_of, state_of}
use Rattle.scmi_agent_c.specs.declared.state.State.{State}

-- a call that posts a command: each number comes exactly then, and after any but 0 nothing changed
pub record Posts (command : Command) (old new : State) (before after : List ℕ)
    (code : ℕ) : Type 0 where
  pub area : code ≡ DONE → after ≡ area_after_post (next_message (agent_of old) command) before
  pub waits : code ≡ DONE → frame_waiting after ≡ Some (Good (next_message (agent_of old) command))
  pub agent : code ≡ DONE → new ≡ state_of (agent_after_post (agent_of old) command)
  pub outstanding : (code ≡ OUTSTANDING) ↔ ((agent_of old).posted ≢ None)
  pub not_free : (code ≡ NOT_FREE)
      ↔ (((agent_of old).posted ≡ None) × (frame_waiting before ≢ None))
  pub codes : code ≤ NOT_FREE
  pub kept : code ≢ DONE → (new ≡ old) × (after ≡ before)
