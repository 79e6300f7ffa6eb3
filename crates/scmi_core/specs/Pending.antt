-- Sets that are accepted for later, and those of them that are pending (own).
use Rattle.std.specs.Prelude.{ℕ, ◌+◌, ◌==◌, ◌&&◌, nat_lt, Bool, true, false, not, if◌then◌else◌, List, [], ◌++◌, length, take, drop, map, filter, count_by, Option, None, Some, option_map}
use Rattle.std.specs.List.{list_any}
use Rattle.std.specs.Option.{option_and_then, option_to_list}
use Rattle.scmi_codec.specs.Header.{HeaderFields}
use Rattle.scmi_plan.specs.Board.{Board}
use Rattle.scmi_plan.specs.declared.resource.Resource.{Resource}
use Rattle.scmi_plan.specs.declared.resource.Resource.TheVariants as resource
use Rattle.scmi_plan.specs.declared.limits.TheConstants.{PENDING_SETS}
use Rattle.scmi_core.specs.declared.outboxes.TheConstants.{OUTBOX_ROOM}
use Rattle.scmi_core.specs.declared.pending_set.PendingSet.{PendingSet}
use Rattle.scmi_core.specs.declared.pending_set.Setting.{Setting}
use Rattle.scmi_core.specs.declared.event.Event.{Event}
use Rattle.scmi_core.specs.declared.event.Event.TheVariants.{Advance, AdvanceFailed, Restarted, Promoted}
use Rattle.scmi_core.specs.declared.event.Event.TheVariants as event
use Rattle.scmi_core.specs.Commands.{Later, later_of, rate_later_as, state_later}
use Rattle.scmi_core.specs.Deed.{Deed, Success, fold_with_prefix, success_at}
use Rattle.scmi_core.specs.declared.pending_set.Setting.TheVariants as setting

-- a set of agent a that is accepted for later
abbrev pub made_pending : ℕ → HeaderFields → Later → PendingSet
made_pending a header later =
    record { agent = a; setting = later.setting; header = header; wanted = later.wanted }

-- a domain's set
abbrev pub state_set : ℕ → HeaderFields → ℕ × ℕ → PendingSet
state_set a header set = made_pending a header (state_later set)

-- a clock's set
abbrev pub rate_set : ℕ → HeaderFields → ℕ × ℕ × Bool → PendingSet
rate_set a header set = made_pending a header (rate_later_as set)

-- the set that a success leaves pending
abbrev pub acceptance : Board → Success → Option PendingSet
acceptance board s = option_map (made_pending s.caller s.header) (later_of board s.command)

-- whether an event ends a set: it completes it, or the hardware refused its change
abbrev pub is_advance : Event → Bool
is_advance Advance = true
is_advance (AdvanceFailed fault) = true
is_advance _ = false

-- how many sets have ended
abbrev pub advances : List Deed → ℕ
advances h = count_by (λ deed. is_advance deed.event) h

-- a set to which agent a wants no delayed response, if it is its own
abbrev pub unwanted : ℕ → PendingSet → PendingSet
unwanted a p = record p { wanted = p.wanted && not (p.agent == a) }

-- a list with the item at a place before the others, which stay in order; without one there it is
-- as it was
abbrev pub promoted : {X : Type 0} → ℕ → List X → List X
promoted place xs = take 1 (drop place xs) ++ (take place xs ++ drop (1 + place) xs)

-- a setting with another rate, if it is one of this clock
abbrev pub setting_with : (clock rate : ℕ) → Setting → Setting
setting_with clock rate (setting.State d state) = setting.State d state
setting_with clock rate (setting.Rate c asked) = setting.Rate c (if clock == c then rate else asked)

-- a set of this clock gives it another rate; any other set is as it was
abbrev pub settled : (clock rate : ℕ) → PendingSet → PendingSet
settled clock rate p = record p { setting = setting_with clock rate p.setting }

-- what an event that ends no set changes of those that are pending
pub data PendingChange : Type 0 where
  Unwanted : (agent : ℕ) → PendingChange
  First : (place : ℕ) → PendingChange
  Settled : (clock rate : ℕ) → PendingChange

-- an agent that restarts wants no delayed response to its sets, a promotion puts one of them before
-- the others, and hardware may settle the rate of one (own)
abbrev pub pending_change : Event → Option PendingChange
pending_change (Restarted a) = Some (Unwanted a)
pending_change (Promoted place) = Some (First place)
pending_change (event.Settled clock rate) = Some (Settled clock rate)
pending_change _ = None

-- the pending sets after such a change
abbrev pub pending_left : Option PendingChange → List PendingSet → List PendingSet
pending_left None pending = pending
pending_left (Some (Unwanted a)) pending = map (unwanted a) pending
pending_left (Some (First place)) pending = promoted place pending
pending_left (Some (Settled clock rate)) pending = map (settled clock rate) pending

-- what is left of the accepted sets, the first of which have ended
abbrev pub sets_left : ℕ → Option PendingChange → List PendingSet → List PendingSet
sets_left ended None sets = sets
sets_left ended (Some change) sets = take ended sets ++ pending_left (Some change) (drop ended sets)

-- the sets that were accepted for later: those that ended, in the order in which they did, and then
-- those that are pending, in the order in which they will end
abbrev pub accepted_sets : Board → List Deed → List PendingSet
accepted_sets board h =
    fold_with_prefix
    (λ before so_far deed. sets_left (advances before) (pending_change deed.event) so_far
    ++ option_to_list
    (option_and_then (acceptance board) (success_at board deed.event deed.reply)))
    [] [] h

-- sets end in order of acceptance, one per advance, but for those that are promoted; the others are
-- pending (own)
abbrev pub pending_sets : Board → List Deed → List PendingSet
pending_sets board h = drop (advances h) (accepted_sets board h)

-- the sets of agent a
abbrev pub sets_by : ℕ → List PendingSet → List PendingSet
sets_by a sets = filter (λ p. p.agent == a) sets

-- the pending sets of agent a
abbrev pub pending_of : Board → ℕ → List Deed → List PendingSet
pending_of board a h = sets_by a (pending_sets board h)

-- whether a setting is one of this domain or clock
abbrev pub is_set_by : Resource → Setting → Bool
is_set_by (resource.Domain d) (setting.State e state) = d == e
is_set_by (resource.Clock c) (setting.Rate e rate) = c == e
is_set_by _ _ = false

-- whether some of the sets is one of this domain or clock
abbrev pub has_set_of : Resource → List PendingSet → Bool
has_set_of r sets = list_any (λ p. is_set_by r p.setting) sets

-- whether a domain or clock has a pending set
abbrev pub is_pending : Board → Resource → List Deed → Bool
is_pending board r h = has_set_of r (pending_sets board h)

-- the sets of agent a and the messages that wait in its outbox, together
abbrev pub load_beside : ℕ → ℕ → List PendingSet → ℕ
load_beside waiting a sets = waiting + length (sets_by a sets)

-- another set of agent a has room if fewer than 8 are pending in all, fewer of its own than its
-- share, and its sets and its outbox are fewer than 16 together (own)
abbrev pub has_room_beside : (share waiting a : ℕ) → List PendingSet → Bool
has_room_beside share waiting a sets =
    nat_lt (length sets) PENDING_SETS && (nat_lt (length (sets_by a sets)) share
    && nat_lt (load_beside waiting a sets) OUTBOX_ROOM)
