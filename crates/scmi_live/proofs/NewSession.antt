-- A session on which nothing was done.
use Rattle.std.proofs.Common.{◌≡◌, ℕ, suc, ◌+◌, List, [], ◌∷◌, length, None, refl, ap}
use Rattle.std.specs.Prelude.{replicate}
use Rattle.scmi_link.specs.View.{new_callee, new_caller}
use Rattle.scmi_plan.specs.Board.{Board}
use Rattle.scmi_ends.specs.AgentView.{AgentView, IsNewAgent}
use Rattle.scmi_ends.specs.Each.{AllFrom}
use Rattle.scmi_modes.specs.Run.{IsNewSession}
use Rattle.scmi_modes.specs.SessionView.{SessionView}

-- agent n, which has done nothing
new_agent : ℕ → AgentView
new_agent n = record {
  id = n;
  token = 0;
  caller = new_caller;
  callee = new_callee;
  a2p_identity = [];
  p2a_identity = [];
}

-- an agent for each name, from number n on
abbrev new_agents : ℕ → List (List ℕ) → List AgentView
new_agents n [] = []
new_agents n (name ∷ names) = new_agent n ∷ new_agents (n + 1) names

new_count : (n : ℕ) (names : List (List ℕ)) → length (new_agents n names) ≡ length names
new_count n [] = refl
new_count n (name ∷ names) = ap suc (new_count (n + 1) names)

is_new_agent : (n : ℕ) → IsNewAgent n (new_agent n)
unfolding new_agent
is_new_agent n = record { id = refl; token = refl; caller = refl; callee = refl }

all_new : (n : ℕ) (names : List (List ℕ)) → AllFrom IsNewAgent n (new_agents n names)
all_new n [] = tt
all_new n (name ∷ names) = (is_new_agent n, all_new (n + 1) names)

pub new_session : (board : Board) → (session : SessionView) × IsNewSession board session
new_session board =
    let agents : List AgentView = new_agents 1 board.agents in
    let session : SessionView = record {
      platform = record {
        board = board;
        history = [];
        room = 0;
        callees = replicate (length board.agents) new_callee;
        callers = replicate (length board.agents) new_caller;
        closed_at = replicate (length board.agents) None;
        a2p_identities = [];
        p2a_identities = [];
      };
      agents = agents;
    } in (
      session,
      record {
        board_is = refl;
        history = refl;
        callees = refl;
        callers = refl;
        closed_at = refl;
        count = new_count 1 board.agents;
        agents = all_new 1 board.agents;
      },
    )
