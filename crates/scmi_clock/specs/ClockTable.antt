-- The tables of clocks, and what a command leaves of them.
use Rattle.std.specs.Prelude.{◌≡◌, ℕ, ◌<◌, ◌==◌, ◌&&◌, not, Bool, true, false, if◌then◌else◌, List, [], ◌∷◌, length, get_or, Option, Some, None, unwrap_or, IfSome}
use Rattle.std.specs.Int.{bit_at}
use Rattle.scmi_codec.specs.declared.clock_command.ClockCommand.{ClockCommand}
use Rattle.scmi_codec.specs.declared.clock_command.ClockCommand.TheVariants as clock
use Rattle.scmi_plan.specs.Board.{Board, channel_of}
use Rattle.scmi_codec.specs.Reply.{bit_0, reply_unless}
use Rattle.scmi_plan.specs.declared.limits.TheConstants.{CLOCKS}
use Rattle.scmi_plan.specs.declared.load.Load.{Load}
use Rattle.scmi_plan.specs.declared.resource.Resource.TheVariants as resource
use Rattle.scmi_base.specs.Permission.{Permissions, may, is_allowed}
use Rattle.scmi_clock.specs.ClockReply.{ClockView, clock_reply, rate_for, set_checks, config_checks, disables_kept}
use Rattle.scmi_clock.specs.SetFlags.{is_asynchronous, is_response_wanted}

-- the rate of each clock in Hz, and whether it is enabled
pub record ClockTables : Type 0 where
  pub rates : List ℕ
  pub enabled : List Bool

-- a place for each of the most clocks of a board
pub record IsTable (table : ClockTables) : Type 0 where
  pub rates : length table.rates ≡ CLOCKS
  pub enabled : length table.enabled ≡ CLOCKS

-- the rate of a clock in Hz
abbrev pub rate_at : ClockTables → ℕ → ℕ
rate_at table c = get_or table.rates c 0

-- whether a clock is enabled
abbrev pub enabled_at : ClockTables → ℕ → Bool
enabled_at table c = get_or table.enabled c false

-- whether a caller may change a clock
abbrev pub may_change : Board → Permissions → ℕ → ℕ → Bool
may_change board permissions caller c =
    may board (λ device. is_allowed permissions caller device) (resource.Clock c)

-- whether a clock has a pending set
abbrev pub is_pending : Load → ℕ → Bool
is_pending load c = bit_at load.busy c == 1

-- what a caller's replies read in the tables
abbrev pub view_of : Board → Permissions → ClockTables → Load → ℕ → ClockView
view_of board permissions table load caller =
    record {
      rate = λ c. rate_at table c;
      enabled = λ c. enabled_at table c;
      may = λ c. may_change board permissions caller c;
      busy = λ c. is_pending load c;
      room = load.room;
      channel = channel_of board caller;
    }

-- the reply to a caller's command, by the permissions, the table, and what pending sets leave free
abbrev pub reply_to : Board → Permissions → ClockTables → Load → ℕ → ClockCommand → List ℕ
reply_to board permissions table load caller command =
    clock_reply board (view_of board permissions table load caller) command

-- the rate that a set gives a clock: a supported one, or of a free clock the one that is asked for
abbrev pub set_rate : Board → ℕ → ℕ → ℕ → ℕ
set_rate board flags c rate = unwrap_or (rate_for board c flags rate) 0

-- the clock and rate that a successful command sets at once
abbrev pub rate_now : Board → ClockCommand → Option (ℕ × ℕ)
rate_now board (clock.SetRate flags c rate) = if is_asynchronous flags then None
    else Some (c, set_rate board flags c rate)
rate_now board _ = None

-- the clock and rate that it accepts for later, with whether a delayed response is wanted
abbrev pub rate_later : Board → ClockCommand → Option (ℕ × ℕ × Bool)
rate_later board (clock.SetRate flags c rate) =
    if is_asynchronous flags
    then Some (c, set_rate board flags c rate, is_response_wanted flags) else None
rate_later board _ = None

-- the clock whose rate a command sets
abbrev pub set_clock : ClockCommand → Option ℕ
set_clock (clock.SetRate flags c rate) = Some c
set_clock _ = None

-- the clock and enabled bit that it sets
abbrev pub enabled_now : ClockCommand → Option (ℕ × Bool)
enabled_now (clock.Config c attributes) = Some (c, bit_0 attributes)
enabled_now _ = None

-- the rate of a clock after one was set
abbrev pub set_to : Option (ℕ × ℕ) → ℕ → ℕ → ℕ
set_to None c old = old
set_to (Some set) c old = if set.0 == c then set.1 else old

-- whether a clock is enabled after one was configured
abbrev pub enabled_to : Option (ℕ × Bool) → ℕ → Bool → Bool
enabled_to None c old = old
enabled_to (Some set) c old = if set.0 == c then set.1 else old

-- a command that sets nothing
abbrev pub only_reads : ClockCommand → Bool
only_reads (clock.SetRate flags c rate) = false
only_reads (clock.Config c attributes) = false
only_reads _ = true

-- the reply to a caller's set, by the permissions and by what pending sets leave free
abbrev pub set_words : Board → Permissions → ℕ → Load → (flags c rate : ℕ) → List ℕ
set_words board permissions caller load flags c rate =
    reply_unless (set_checks board (channel_of board caller) (may_change board permissions caller c)
    (is_pending load c) load.room flags c rate) (0 ∷ [])

-- whether a caller may configure a clock so: it may change the clock, and the board does not keep
-- it from that
abbrev pub may_configure : Board → Permissions → (caller c attributes : ℕ) → Bool
may_configure board permissions caller c attributes =
    may_change board permissions caller c && not (disables_kept board c attributes)

-- the reply to a caller's configuration, by the permissions
abbrev pub config_words : Board → Permissions → ℕ → (c attributes : ℕ) → List ℕ
config_words board permissions caller c attributes =
    reply_unless (config_checks board
    (may_configure board permissions caller c attributes) c attributes) (0 ∷ [])

-- the rates of a table after one was set, if one was
abbrev pub HasSet : Option (ℕ × ℕ) → ClockTables → ClockTables → Type 0
HasSet set table after = (c : ℕ) → c < CLOCKS → rate_at after c ≡ set_to set c (rate_at table c)

-- which clocks of a table are enabled after one was configured, if one was
abbrev pub HasConfigured : Option (ℕ × Bool) → ClockTables → ClockTables → Type 0
HasConfigured set table after = (c : ℕ) → c < CLOCKS
    → enabled_at after c ≡ enabled_to set c (enabled_at table c)

-- the clock that was set, if one was, is the board's
abbrev pub IsKnown : {A : Type 0} → Board → Option (ℕ × A) → Type 0
IsKnown board set = IfSome set (λ set. set.0 < length board.clocks)

-- the clock of a set for later, if there is one, is the board's
abbrev pub IsKnownLater : Board → Option (ℕ × ℕ × Bool) → Type 0
IsKnownLater board set = IfSome set (λ set. set.0 < length board.clocks)

-- a set for later, if there is one, has room
abbrev pub HasRoom : Load → Option (ℕ × ℕ × Bool) → Type 0
HasRoom load set = IfSome set (λ set. load.room ≡ true)
