-- A table of agents and devices.
use Rattle.std.specs.Prelude.{◌-◌, ◌==◌, ℕ, Bool, List, get_or}
use Rattle.std.specs.Int.{bit_at}

-- what a table says about an agent, numbered from 1, and a device, numbered from 0: no if the mask
-- of the agent has the device
abbrev pub entry : List ℕ → ℕ → ℕ → Bool
entry table agent device = bit_at (get_or table (agent - 1) 0) device == 0
