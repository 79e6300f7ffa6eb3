-- The rows of a board.
use Rattle.std.specs.Prelude.{◌==◌, ℕ, ◌^◌, ◌&&◌, ◌++◌, Bool, true, false, if◌then◌else◌, nat_lt, replicate, List, [], ◌∷◌, Option, Some, None, bit_and, bit_or}
use Rattle.std.specs.List.{slice_split}
use Rattle.std.specs.Str.{bytes_eq, is_utf8}
use Rattle.scmi_plan.specs.Board.{Board, nothing_denied, nothing_held, own_protocols, whole_channel}
use Rattle.scmi_plan.specs.declared.limits.TheConstants.{AGENTS}
use Rattle.scmi_plan.specs.declared.clock.Clock.{Clock}
use Rattle.scmi_plan.specs.declared.device.Device.{Device}
use Rattle.scmi_plan.specs.declared.domain.Domain.{Domain}
use Rattle.scmi_plan.specs.Rates.{SupportedRates}
use Rattle.scmi_plan.specs.Rates as rates
use Rattle.scmi_board.specs.Items.{◌>>=◌, ItemsView, first_item, first_number, items_left, no_item}
use Rattle.scmi_board.specs.Number.{number_of}
use Rattle.scmi_board.specs.declared.words.TheConstants.{BOARD, AGENT, DOMAIN, CLOCK, DEVICE, ON, OFF, LIST, STEPS, NONE}

-- what each member of a list makes of a value, one after the other; none where one makes nothing of
-- it
abbrev pub after_each : {A B : Type 0} → (A → B → Option A) → A → List B → Option A
after_each step value [] = Some value
after_each step value (member ∷ members) =
    step value member >>= λ next. after_each step next members

-- whether a byte is a comma
abbrev pub is_comma : ℕ → Bool
is_comma byte = byte == 44

-- the parts of an item, with single commas between them
abbrev pub parts_of : List ℕ → List (List ℕ)
parts_of item = slice_split is_comma item

-- a name is any item that is UTF-8
unfoldable pub name_of : List ℕ → Option (List ℕ)
name_of item = if is_utf8 item then Some item else None

-- the first item, which is a name, and the items after it
unfoldable pub first_name : ItemsView → Option (List ℕ × ItemsView)
first_name view = do
  item ← first_item view
  name ← name_of item.0
  Some (name, item.1)

-- `on` or `off`
unfoldable pub first_switch : ItemsView → Option (Bool × ItemsView)
first_switch view = do
  item ← first_item view
  if bytes_eq item.0 ON.now then Some (true, item.1) else if bytes_eq item.0 OFF.now
      then Some (false, item.1) else None

-- `s`, `a` or `n`, which the domain does not have yet
unfoldable pub with_kind : Domain → ℕ → Option Domain
with_kind domain kind =
    if kind == 115
    then (if domain.synchronous then None else Some (record domain { synchronous = true }))
    else if kind == 97
    then (if domain.asynchronous then None else Some (record domain { asynchronous = true }))
    else if kind == 110
    then (if domain.notify then None else Some (record domain { notify = true }))
    else None

-- `-`, or some of the kinds
unfoldable pub with_kinds : Domain → List ℕ → Option Domain
with_kinds domain kinds = if bytes_eq kinds NONE.now then Some domain
    else after_each with_kind domain kinds

-- NAME on|off KINDS
unfoldable pub first_domain : ItemsView → Option (Domain × ItemsView)
first_domain view = do
  name ← first_name view
  on ← first_switch name.1
  kinds ← first_item on.1
  domain ← with_kinds (record {
    name = name.0;
    on = on.0;
    synchronous = false;
    asynchronous = false;
    notify = false;
  }) kinds.0
  Some (domain, kinds.1)

-- a rate after others
unfoldable pub with_rate : List ℕ → List ℕ → Option (List ℕ)
with_rate list part = do
  rate ← number_of 64 part
  Some (list ++ rate ∷ [])

-- R,R,..
unfoldable pub first_list : ItemsView → Option (SupportedRates × ItemsView)
first_list view = do
  item ← first_item view
  list ← after_each with_rate [] (parts_of item.0)
  Some (rates.list list, item.1)

-- LOW HIGH STEP
unfoldable pub first_steps : ItemsView → Option (SupportedRates × ItemsView)
first_steps view = do
  low ← first_number 64 view
  high ← first_number 64 low.1
  step ← first_number 64 high.1
  Some (rates.steps low.0 high.0 step.0, step.1)

-- list R,R,.. or steps LOW HIGH STEP
unfoldable pub first_rates : ItemsView → Option (SupportedRates × ItemsView)
first_rates view = do
  word ← first_item view
  if bytes_eq word.0 LIST.now then first_list word.1 else if bytes_eq word.0 STEPS.now
      then first_steps word.1 else None

-- NAME on|off RATE, and its rates
unfoldable pub first_clock : ItemsView → Option (Clock × ItemsView)
first_clock view = do
  name ← first_name view
  enabled ← first_switch name.1
  rate ← first_number 64 enabled.1
  others ← first_rates rate.1
  Some (record { name = name.0; enabled = enabled.0; rate = rate.0; rates = others.0 }, others.1)

-- one of the numbers 0 to 31, which the set does not have yet
unfoldable pub with_place : ℕ → List ℕ → Option ℕ
with_place set part = do
  place ← number_of 8 part
  if nat_lt place 32 && (bit_and set (2 ^ place) == 0) then Some (bit_or set (2 ^ place)) else None

-- `-`, or some numbers
unfoldable pub set_of : List ℕ → Option ℕ
set_of item = if bytes_eq item NONE.now then Some 0 else after_each with_place 0 (parts_of item)

-- D,D..|- C,C,..|-
unfoldable pub first_device : ItemsView → Option (Device × ItemsView)
first_device view = do
  domains ← first_item view
  first ← set_of domains.0
  clocks ← first_item domains.1
  second ← set_of clocks.0
  Some (record { domains = first; clocks = second }, clocks.1)

-- the rows, each after its word
unfoldable pub with_agent : Board → ItemsView → Option (Board × ItemsView)
with_agent board view = do
  agent ← first_name view
  Some (record board { agents = board.agents ++ agent.0 ∷ [] }, agent.1)

-- a board with the domain that a row encodes
unfoldable pub with_domain : Board → ItemsView → Option (Board × ItemsView)
with_domain board view = do
  domain ← first_domain view
  Some (record board { domains = board.domains ++ domain.0 ∷ [] }, domain.1)

-- a board with the clock that a row encodes
unfoldable pub with_clock : Board → ItemsView → Option (Board × ItemsView)
with_clock board view = do
  clock ← first_clock view
  Some (record board { clocks = board.clocks ++ clock.0 ∷ [] }, clock.1)

-- a board with the device that a row encodes
unfoldable pub with_device : Board → ItemsView → Option (Board × ItemsView)
with_device board view = do
  device ← first_device view
  Some (record board { devices = board.devices ++ device.0 ∷ [] }, device.1)

-- a board with the row of this first word
unfoldable pub with_row_named : Board → List ℕ → ItemsView → Option (Board × ItemsView)
with_row_named board word view =
    if bytes_eq word AGENT.now then with_agent board view
    else if bytes_eq word DOMAIN.now then with_domain board view
    else if bytes_eq word CLOCK.now then with_clock board view
    else if bytes_eq word DEVICE.now then with_device board view
    else None

-- the board with the row of a line; none where the line is no row
unfoldable pub with_row : Board → List ℕ → Option Board
with_row board text = do
  word ← first_item (items_left text)
  row ← with_row_named board word.0 word.1
  end ← no_item row.1
  Some row.0

-- VENDOR SUBVENDOR VERSION TRUSTED, and nothing more: a board without rows
unfoldable pub bare_board : ItemsView → Option Board
bare_board view = do
  vendor ← first_name view
  sub_vendor ← first_name vendor.1
  version ← first_number 32 sub_vendor.1
  trusted ← first_number 32 version.1
  end ← no_item trusted.1
  Some (record {
    vendor = vendor.0;
    sub_vendor = sub_vendor.0;
    version = version.0;
    trusted = trusted.0;
    agents = [];
    domains = [];
    clocks = [];
    devices = [];
    channels = replicate AGENTS whole_channel;
    kept = nothing_held;
    denied = nothing_denied;
    absent = nothing_held;
    free = 0;
    protocols = own_protocols;
    loose = false;
  })

-- board VENDOR SUBVENDOR VERSION TRUSTED; none where the line is no heading
unfoldable pub heading_of : List ℕ → Option Board
heading_of text = do
  word ← first_item (items_left text)
  if bytes_eq word.0 BOARD.now then bare_board word.1 else None
