-- How a log follows its script.
use Rattle.std.specs.Prelude.{◌≡◌, ℕ, ◌+◌, ◌-◌, ◌%◌, ◌^◌, ◌<◌, min, Bool, false, ◌||◌, List, [], ◌∷◌, length, Option, Some, None}
use Rattle.std.specs.List.{flat_map, sum_by}
use Rattle.scmi_link.specs.declared.order.Order.{Order}
use Rattle.scmi_link.specs.Scripts.{is_close}
use Rattle.scmi_threads.specs.Parts.{Part, Writes}
use Rattle.scmi_threads.specs.declared.agent_log.AgentLog.{AgentLog}
use Rattle.scmi_threads.specs.declared.stop.Stop.{Stop}

-- the orders wrote these parts, one after another: all of them, or those up to the one that ended
-- the script
pub data Follows (full : Bool) : Bool → ℕ → List Order → Option Stop → List Part → Type 0 where
  all_done : (closed : Bool) (n : ℕ) → Follows full closed n [] None []
  ends_here : (closed : Bool) (n : ℕ) (order : Order)
      (orders : List Order) (why : Stop) (part : Part) → Writes full closed n order (Some why) part
      → Follows full closed n (order ∷ orders) (Some why) (part ∷ [])
  goes_on : (closed : Bool) (n : ℕ) (order : Order) (orders : List Order) (stopped : Option Stop)
      (part : Part) (parts : List Part) → Writes full closed n order None part
      → Follows full (is_close order || closed) (n + length part.posted) orders stopped parts
      → Follows full closed n (order ∷ orders) stopped (part ∷ parts)

-- the log is these parts, one after another, and counts their polls modulo 2^64
pub record IsMadeOf (parts : List Part) (log : AgentLog) : Type 0 where
  pub posted : log.posted.items ≡ flat_map (λ part. part.posted) parts
  pub read : log.read.items ≡ flat_map (λ part. part.read) parts
  pub taken : log.p2a.items ≡ flat_map (λ part. part.taken) parts
  pub lines : log.lines.items ≡ flat_map (λ part. part.lines) parts
  pub reply_looks : log.reply_looks ≡ sum_by (λ part. part.reply_looks) parts % 2 ^ 64
  pub message_looks : log.message_looks ≡ sum_by (λ part. part.message_looks) parts % 2 ^ 64

-- the log follows the script: each order, in turn, wrote a part of it, and all of them if the
-- script was not stopped
pub record IsScriptLog (full : Bool) (orders : List Order) (log : AgentLog) : Type 0 where
  pub parts : List Part
  pub made : IsMadeOf parts log
  pub follows : Follows full false 0 orders log.stopped parts

-- the number that a gate is given of the line after these many others
abbrev pub line_number : ℕ → ℕ
line_number k = min (k + 1) (2 ^ 32 - 1)

-- the log follows the script, and the gate was asked before each line of it that was begun
pub record IsGatedLog (full : Bool) (asked : ℕ → Type 0) (orders : List Order)
    (log : AgentLog) : Type 0 where
  pub script : IsScriptLog full orders log
  pub gate : (k : ℕ) → k < length script.parts → asked (line_number k)
