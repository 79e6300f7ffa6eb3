-- One relation for the protocols that change domains or clocks, and the laws that each of them
-- keeps.
use Rattle.std.specs.Prelude.{◌≡◌, ℕ, ◌<◌, ◌≤◌, ◌==◌, ◌&&◌, Bool, true, false, List, [], ◌∷◌, length, Option, Some, None}
use Rattle.std.specs.Option.{option_or}
use Rattle.scmi_codec.specs.Payload.{begins_with_success}
use Rattle.scmi_plan.specs.Board.{Board, IsChannel, is_kept}
use Rattle.scmi_plan.specs.declared.agent_channel.AgentChannel.{AgentChannel}
use Rattle.scmi_plan.specs.declared.effect.Effect.{Effect}
use Rattle.scmi_plan.specs.declared.effect.Effect.TheVariants as effect
use Rattle.scmi_plan.specs.declared.resource.Resource.{Resource}
use Rattle.scmi_plan.specs.declared.resource.Resource.TheVariants as resource

-- the domain or clock that is changed
abbrev pub resource_changed : Effect → Resource
resource_changed (effect.State d state) = resource.Domain d
resource_changed (effect.Rate c rate) = resource.Clock c
resource_changed (effect.Enabled c enabled) = resource.Clock c

-- the board has a domain or clock of this number
abbrev pub HasResource : Board → Resource → Type 0
HasResource board (resource.Domain d) = d < length board.domains
HasResource board (resource.Clock c) = c < length board.clocks

-- what a protocol's commands do, by what the replies to a caller read (V)
pub record Protocol (V C : Type 0) : Type 0 where
  -- whether the caller may change a domain or clock
  pub may : V → Resource → Bool
  -- whether a set of a domain or clock is pending
  pub busy : V → Resource → Bool
  -- whether another set for later has room
  pub room : V → Bool
  -- what the caller's channels are
  pub channel : V → AgentChannel
  -- the payload of the reply to a command
  pub reply : Board → V → C → List ℕ
  -- the change that a successful command makes at once
  pub now : Board → C → Option Effect
  -- the change that it accepts for later
  pub later : Board → C → Option Effect
  -- whether a command only reads
  pub only_reads : C → Bool
  -- what it says about the notifications of agent a about domain d
  pub request : (a d caller : ℕ) → C → Option Bool
  -- whether a change switches off what it changes
  pub switches_off : Effect → Bool

-- a command was answered SUCCESS
abbrev pub Succeeds : {V C : Type 0} → Protocol V C → Board → V → C → Type 0
Succeeds p board v c = begins_with_success (p.reply board v c) ≡ true

-- the change that a successful command makes, at once or later
abbrev pub change_wanted : {V C : Type 0} → Protocol V C → Board → C → Option Effect
change_wanted p board c = option_or (p.now board c) (p.later board c)

-- the laws of a protocol
pub record IsProtocol {V C : Type 0} (p : Protocol V C) : Type 0 where
  -- a reply has room in its caller's channel
  pub within : (board : Board) (v : V) (c : C) → IsChannel (p.channel v)
      → length (p.reply board v c) ≤ (p.channel v).words
  -- a change is made at once or for later, not both
  pub once : (board : Board) (c : C) (e : Effect) → p.later board c ≡ Some e → p.now board c ≡ None
  -- and with no request for notifications
  pub alone : (board : Board) (c : C) (e : Effect) (a d caller : ℕ) → p.now board c ≡ Some e
      → p.request a d caller c ≡ None
  -- the caller may make the change
  pub allowed : (board : Board) (v : V) (c : C) (e : Effect) → Succeeds p board v c
      → change_wanted p board c ≡ Some e → p.may v (resource_changed e) ≡ true
  -- it does not switch off what the board keeps
  pub kept : (board : Board) (v : V) (c : C) (e : Effect) → Succeeds p board v c
      → change_wanted p board c ≡ Some e
      → (is_kept board (resource_changed e) && p.switches_off e) ≡ false
  -- one that is accepted for later has room
  pub free : (board : Board) (v : V) (c : C) (e : Effect) → Succeeds p board v c
      → p.later board c ≡ Some e → p.room v ≡ true
  -- and is of a caller that the platform can send to
  pub sent : (board : Board) (v : V) (c : C) (e : Effect) → Succeeds p board v c
      → p.later board c ≡ Some e → (p.channel v).one_way ≡ false
  -- so is a request for notifications, which is the caller's own
  pub told : (board : Board) (v : V) (c : C) (a d caller : ℕ) (on : Bool) → Succeeds p board v c
      → p.request a d caller c ≡ Some on → ((caller == a) ≡ true) × ((p.channel v).one_way ≡ false)
  -- a change at once is answered by SUCCESS alone
  pub made : (board : Board) (v : V) (c : C) (e : Effect) → Succeeds p board v c
      → p.now board c ≡ Some e → p.reply board v c ≡ 0 ∷ []
  -- and is of what the board has
  pub known : (board : Board) (v : V) (c : C) (e : Effect) → Succeeds p board v c
      → p.now board c ≡ Some e → HasResource board (resource_changed e)
  -- its answer stays while its caller may make it and no set of the same thing becomes pending
  pub still : (board : Board) (v w : V) (c : C) (e : Effect) → Succeeds p board v c
      → p.now board c ≡ Some e → p.channel v ≡ p.channel w
      → p.may v (resource_changed e) ≡ p.may w (resource_changed e)
      → (p.busy v (resource_changed e) ≡ false → p.busy w (resource_changed e) ≡ false)
      → p.reply board v c ≡ p.reply board w c
  -- a command that only reads makes no change, and asks for no notifications
  pub quiet : (board : Board) (c : C) → p.only_reads c ≡ true
      → (p.now board c ≡ None) × (p.later board c ≡ None)
      × ((a d caller : ℕ) → p.request a d caller c ≡ None)
  -- and any other does one of these
  pub acts : (board : Board) (c : C) (a : ℕ) → p.now board c ≡ None → p.later board c ≡ None
      → ((d : ℕ) → p.request a d a c ≡ None) → p.only_reads c ≡ true
