-- What a contract sees of an agent's end, whatever its channels are made of.
use Rattle.std.specs.Prelude.{◌≡◌, ℕ, List}
use Rattle.scmi_link.specs.View.{CallerView, CalleeView, new_caller, new_callee}

-- what the agent has done at its two channels, and their names
pub record AgentView : Type 0 where
  pub id : ℕ
  pub token : ℕ  -- of its next command
  pub caller : CallerView  -- its end of A2P
  pub callee : CalleeView  -- its end of P2A
  pub a2p_identity : List ℕ
  pub p2a_identity : List ℕ

-- the agent's endpoints are those of the channels with these names
pub record IsOfLink (a2p_identity p2a_identity : List ℕ) (agent : AgentView) : Type 0 where
  pub of_a2p : agent.a2p_identity ≡ a2p_identity
  pub of_p2a : agent.p2a_identity ≡ p2a_identity

-- an agent's end is still of the same channels
pub record HasSameIdentities (before after : AgentView) : Type 0 where
  pub a2p : after.a2p_identity ≡ before.a2p_identity
  pub p2a : after.p2a_identity ≡ before.p2a_identity

-- agent n, which has done nothing yet
pub record IsNewAgent (n : ℕ) (agent : AgentView) : Type 0 where
  pub id : agent.id ≡ n
  pub token : agent.token ≡ 0
  pub caller : agent.caller ≡ new_caller
  pub callee : agent.callee ≡ new_callee
