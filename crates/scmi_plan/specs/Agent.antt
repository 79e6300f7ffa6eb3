-- The numbers of agents.
use Rattle.std.specs.Prelude.{◌≡◌, ◌<◌, ◌≤◌, ◌⊎◌, ℕ}

-- the agents of a board of this many are numbered from 1; 0 is the platform
abbrev pub IsAgent : ℕ → ℕ → Type 0
IsAgent agents agent = (1 ≤ agent) × (agent ≤ agents)

-- a number is no agent's of a board that has this many
abbrev pub IsNoAgent : ℕ → ℕ → Type 0
IsNoAgent agents agent = (agent ≡ 0) ⊎ (agents < agent)
