-- An agent as C holds it.
use Rattle.std.specs.Prelude.{ℕ, ◌%◌, ◌==◌, if◌then◌else◌, Option, Some, None}
use Rattle.scmi_codec.specs.Header.{HeaderFields, header_of, header_word}
use Rattle.scmi_codec.specs.declared.header.TheConstants.{TOKENS}
use Rattle.scmi_agent.specs.declared.agent.Agent.{Agent}
use Rattle.scmi_agent_c.specs.declared.state.State.{State}

-- the agent that a state encodes
abbrev pub agent_of : State → Agent
agent_of s = record {
  next = s.next % TOKENS;
  posted = if s.posted == 0 then None else Some (header_of s.header);
}

-- the state of an agent whose outstanding command has this header
abbrev pub state_at : ℕ → Option HeaderFields → State
state_at next None = record { next = next; posted = 0; header = 0 }
state_at next (Some h) = record { next = next; posted = 1; header = header_word h }

-- the state of an agent
abbrev pub state_of : Agent → State
state_of a = state_at a.next a.posted
