-- The endpoints of both sides, one agent at a time.
use Rattle.std.proofs.Common.{◌≡◌, ℕ, ◌<◌, List, length, get_or, set, ◌∙◌, length-set}
use Rattle.scmi_ends.specs.declared.link.Link.{Link}
use Rattle.scmi_ends.specs.AgentView.{AgentView, IsOfLink, HasSameIdentities}
use Rattle.scmi_ends.specs.ControllerView.{ControllerView}
use Rattle.scmi_ends.specs.Links.{BelongTogether}
use Rattle.scmi_ends.proofs.Lists.{map_same}
use Rattle.scmi_ends.proofs.Places.{of_link_at}

module _ {C Caller Callee Rest : Type 0} (identity : C → List ℕ)
    (links : List (Link C Caller Callee Rest)) (platform : ControllerView) (agents : List AgentView)
    (i : ℕ) (agent : AgentView)
    (together : BelongTogether identity links platform agents) (inside : i < length agents)
    (is : agent ≡ get_or agents i agent) where
  pub of_link : (link : Link C Caller Callee Rest) → link ≡ get_or links i link
      → IsOfLink (identity link.a2p) (identity link.p2a) agent
  of_link link at = of_link_at (λ l. identity l.a2p) (λ l. identity l.p2a) agents links i agent link
      together.agents_ends.0 together.agents_ends.1 inside is at

  pub stays : (next : AgentView) → HasSameIdentities agent next
      → BelongTogether identity links platform (set agents i next)
  stays next same = record {
    platform_ends = together.platform_ends;
    agents_ends = (
      map_same (λ x. x.a2p_identity) agents i agent next inside is same.a2p
          ∙ together.agents_ends.0,
      map_same (λ x. x.p2a_identity) agents i agent next inside is same.p2a
          ∙ together.agents_ends.1,
    );
    count = length-set agents i next ∙ together.count;
  }
