-- The replies of the power domain protocol (DEN0056B, power domain management protocol), 0x11.
use Rattle.std.specs.Prelude.{ℕ, ◌+◌, ◌==◌, ◌&&◌, ◌||◌, Bool, not, nat_le, if◌then◌else◌, List, [], ◌∷◌, length}
use Rattle.scmi_codec.specs.Listing.{is_listed}
use Rattle.scmi_codec.specs.declared.power_command.PowerCommand.{PowerCommand}
use Rattle.scmi_codec.specs.declared.power_command.PowerCommand.TheVariants as power
use Rattle.scmi_codec.specs.declared.status.Status.TheVariants.{NotFound, InvalidParameters, NotSupported, Denied, Busy}
use Rattle.scmi_plan.specs.Board.{Board, domain_at, is_absent, is_kept}
use Rattle.scmi_plan.specs.declared.agent_channel.AgentChannel.{AgentChannel}
use Rattle.scmi_plan.specs.declared.domain.Domain.{Domain}
use Rattle.scmi_plan.specs.declared.resource.Resource.TheVariants as resource
use Rattle.scmi_codec.specs.Name.{name_words}
use Rattle.scmi_codec.specs.Reply.{reply_unless, bit_0, other_bits}

-- what the replies to a caller depend on, besides the board
pub record PowerView : Type 0 where
  -- the state of a domain
  pub state : ℕ → ℕ
  -- whether the caller may change a domain
  pub may : ℕ → Bool
  -- whether a domain has a pending set
  pub busy : ℕ → Bool
  -- whether an asynchronous set has room
  pub room : Bool
  -- what the caller's channels are
  pub channel : AgentChannel

-- the state of a domain that is ON
abbrev pub state_on : ℕ
state_on = 0

-- the state of a domain that is OFF
abbrev pub state_off : ℕ
state_off = 0x40000000

-- whether a word is a state
abbrev pub is_state : ℕ → Bool
is_state state = state == state_on || state == state_off

-- the board has no such domain, or it is not there; they are numbered from 0
abbrev pub no_domain : Board → ℕ → Bool
no_domain board d = nat_le (length board.domains) d || is_absent board (resource.Domain d)

-- the value of a bit that is set if b
abbrev pub bit : Bool → ℕ → ℕ
bit b value = if b then value else 0

-- whether a domain has notifications for an agent: it has none where the platform can't send to the
-- agent (own)
abbrev pub has_notifications : AgentChannel → Domain → Bool
has_notifications channel row = not channel.one_way && row.notify

-- whether a domain has asynchronous sets for an agent: it has none where the platform can't send to
-- the agent (own)
abbrev pub has_asynchronous : AgentChannel → Domain → Bool
has_asynchronous channel row = not channel.one_way && row.asynchronous

-- a domain's attributes for an agent: bit 31 notifications, 30 asynchronous, 29 synchronous sets
abbrev pub attributes : AgentChannel → Domain → ℕ
attributes channel row =
    bit (has_notifications channel row) 0x80000000 + bit (has_asynchronous channel row) 0x40000000
    + bit row.synchronous 0x20000000

-- whether a domain has asynchronous sets for an agent, or synchronous ones
abbrev pub supports : AgentChannel → Domain → Bool → Bool
supports channel row asynchronous = if asynchronous then has_asynchronous channel row
    else row.synchronous

-- whether a domain has sets of the kind that the flags ask for
abbrev pub has_kind : AgentChannel → Domain → ℕ → Bool
has_kind channel row flags = supports channel row (bit_0 flags)

-- the reply to 0x2: an id of the protocol's table is supported, with no attributes
abbrev pub message_reply : ℕ → List ℕ
message_reply message = reply_unless ((not (is_listed 0x11 message), NotFound) ∷ []) (0 ∷ 0 ∷ [])

-- the reply to 0x3: a domain's attributes for the caller, and its name
abbrev pub domain_reply : Board → AgentChannel → ℕ → List ℕ
domain_reply board channel d =
    reply_unless ((no_domain board d, NotFound) ∷ [])
    (0 ∷ attributes channel (domain_at board d) ∷ name_words (domain_at board d).name)

-- whether a set would switch off a domain that its board keeps (own)
abbrev pub switches_kept_off : Board → (d state : ℕ) → Bool
switches_kept_off board d state = is_kept board (resource.Domain d) && state == state_off

-- whether a set to a state may be made, by whether its caller may change the domain
unfoldable pub may_set : Board → (may : Bool) → (d state : ℕ) → Bool
may_set board may d state = may && not (switches_kept_off board d state)

-- the reply to 0x4 (own order of checks), by what the caller's channels are, whether the caller may
-- make the change, whether the domain has a pending set, and whether an asynchronous set has room
abbrev pub set_reply : Board → AgentChannel → (may busy room : Bool) → (flags d state : ℕ) → List ℕ
set_reply board channel may busy room flags d state =
    reply_unless (
    (no_domain board d, NotFound)
    ∷ (other_bits flags || not (is_state state), InvalidParameters)
    ∷ (not (has_kind channel (domain_at board d) flags), NotSupported)
    ∷ (not may, Denied)
    ∷ (busy || (bit_0 flags && not room), Busy)
    ∷ [])
    (0 ∷ [])

-- the reply to 0x5, by the domain's state
abbrev pub get_reply : Board → (d state : ℕ) → List ℕ
get_reply board d state = reply_unless ((no_domain board d, NotFound) ∷ []) (0 ∷ state ∷ [])

-- the reply to 0x6 (own order of checks), by what the caller's channels are, and whether the caller
-- may change the domain
abbrev pub notify_reply : Board → AgentChannel → (may : Bool) → (d enable : ℕ) → List ℕ
notify_reply board channel may d enable =
    reply_unless (
    (no_domain board d, NotFound)
    ∷ (other_bits enable, InvalidParameters)
    ∷ (not (has_notifications channel (domain_at board d)), NotSupported)
    ∷ (not may, Denied)
    ∷ [])
    (0 ∷ [])

-- the reply to a caller's command (DEN0056B, power domain management protocol)
unfoldable pub power_reply : Board → PowerView → PowerCommand → List ℕ
power_reply board v power.Version = 0 ∷ 0x00020000 ∷ []
power_reply board v power.Attributes = 0 ∷ length board.domains ∷ 0 ∷ 0 ∷ 0 ∷ []
power_reply board v (power.MessageAttributes message) = message_reply message
power_reply board v (power.DomainAttributes d) = domain_reply board v.channel d
power_reply board v (power.Set flags d state) =
    set_reply board v.channel (may_set board (v.may d) d state) (v.busy d) v.room flags d state
power_reply board v (power.Get d) = get_reply board d (v.state d)
power_reply board v (power.Notify d enable) = notify_reply board v.channel (v.may d) d enable
