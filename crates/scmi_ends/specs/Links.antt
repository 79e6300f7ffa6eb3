-- Which endpoints are those of which links, whatever the channels are made of.
use Rattle.std.specs.Prelude.{◌≡◌, ℕ, List, length, map}
use Rattle.scmi_ends.specs.declared.link.Link.{Link}
use Rattle.scmi_ends.specs.AgentView.{AgentView}
use Rattle.scmi_ends.specs.ControllerView.{ControllerView, IsOfLinks}

-- the links are of one kind of channel, and this is the identity of a channel
module _ {C Caller Callee Rest : Type 0} (identity : C → List ℕ)
    (links : List (Link C Caller Callee Rest)) where
  -- the names of their A2P channels, in order
  abbrev pub identities_of_a2p : List (List ℕ)
  identities_of_a2p = map (λ link. identity link.a2p) links

  -- the names of their P2A channels, in order
  abbrev pub identities_of_p2a : List (List ℕ)
  identities_of_p2a = map (λ link. identity link.p2a) links

  -- the platform's endpoints are those of the links, in order
  abbrev pub HasLinks : ControllerView → Type 0
  HasLinks platform = IsOfLinks identities_of_a2p identities_of_p2a platform

  -- the agents' endpoints are those of the links, in order
  abbrev pub AreEndsOf : List AgentView → Type 0
  AreEndsOf agents = (map (λ agent. agent.a2p_identity) agents ≡ identities_of_a2p)
      × (map (λ agent. agent.p2a_identity) agents ≡ identities_of_p2a)

-- the platform's endpoints and the agents' are those of the links, in order, and each agent of the
-- board has its endpoints
pub record BelongTogether {C Caller Callee Rest : Type 0}
    (identity : C → List ℕ) (links : List (Link C Caller Callee Rest)) (platform : ControllerView)
    (agents : List AgentView) : Type 0 where
  pub platform_ends : HasLinks identity links platform
  pub agents_ends : AreEndsOf identity links agents
  pub count : length agents ≡ length platform.board.agents
