-- What the lines of scripts have behind their first word.
use Rattle.std.specs.Prelude.{ℕ, ◌&&◌, Bool, nat_eq, nat_le, nat_lt, ◌++◌, if◌then◌else◌, List, [], ◌∷◌, length, Option, Some, None}
use Rattle.scmi_board.specs.Items.{◌>>=◌, ItemsView, first_item, first_number}
use Rattle.scmi_board.specs.Number.{number_of}
use Rattle.scmi_board.specs.Rows.{after_each}
use Rattle.scmi_codec.specs.Fault.{fault_in, named_statuses}
use Rattle.scmi_codec.specs.Rate.{rate_of}
use Rattle.scmi_codec.specs.declared.fault.Fault.{Fault}
use Rattle.scmi_codec.specs.declared.payload.TheConstants.{PAYLOAD_WORDS}

-- the number of an agent, from 1 to `agents`, which is how many the board has
unfoldable pub first_agent : ℕ → ItemsView → Option (ℕ × ItemsView)
first_agent agents view = do
  agent ← first_number 32 view
  if nat_le 1 agent.0 && nat_le agent.0 agents then Some agent else None

-- a protocol and the id of a message
unfoldable pub first_message : ItemsView → Option ((ℕ × ℕ) × ItemsView)
first_message view = do
  protocol ← first_number 8 view
  id ← first_number 8 protocol.1
  Some ((protocol.0, id.0), id.1)

-- a status that hardware says, by its name
unfoldable pub first_named_fault : ItemsView → Option (Fault × ItemsView)
first_named_fault view = do
  name ← first_item view
  fault ← fault_in name.0 named_statuses
  Some (fault, name.1)

-- 0 or 1
unfoldable pub first_flag : ItemsView → Option (Bool × ItemsView)
first_flag view = do
  number ← first_number 32 view
  if nat_le number.0 1 then Some (nat_eq number.0 1, number.1) else None

-- a clock and its rate, whose low word comes first
unfoldable pub first_clock_rate : ItemsView → Option ((ℕ × ℕ) × ItemsView)
first_clock_rate view = do
  clock ← first_number 32 view
  low ← first_number 32 clock.1
  high ← first_number 32 low.1
  Some ((clock.0, rate_of low.0 high.0), high.1)

-- a payload word after others, of which there is room for one more
unfoldable pub with_word : List ℕ → List ℕ → Option (List ℕ)
with_word words item = do
  word ← number_of 32 item
  if nat_lt (length words) PAYLOAD_WORDS then Some (words ++ word ∷ []) else None

-- these payload words, and those of all items that are left; none where the spaces have a fault
unfoldable pub payload_behind : List ℕ → ItemsView → Option (List ℕ)
payload_behind words view = if view.whole then after_each with_word words view.items else None

-- the payload words of all items that are left
abbrev pub payload_left : ItemsView → Option (List ℕ)
payload_left view = payload_behind [] view
