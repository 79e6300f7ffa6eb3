-- Which events a history has without the hardware's refusals and reports, without restarts, and
-- without promotions and settlings; and what each of these alone is needed for.
use Rattle.std.specs.Prelude.{◌≡◌, ◌⊎◌, List, [], ◌++◌, Option, None, Some}
use Rattle.std.specs.List.{All}
use Rattle.std.specs.Option.{option_and_then, option_to_list}
use Rattle.scmi_plan.specs.Board.{Board}
use Rattle.scmi_core.specs.declared.pending_set.PendingSet.{PendingSet}
use Rattle.scmi_core.specs.Deed.{Deed, fold_with_prefix, success_at}
use Rattle.scmi_core.specs.History.{deeds}
use Rattle.scmi_core.specs.Laws.{HasCause, IsReported}
use Rattle.scmi_core.specs.Pending.{PendingChange, First, acceptance, accepted_sets, advances, pending_change, sets_left}
use Rattle.scmi_core.specs.Standing.{Standing, StandsAfter}
use Rattle.scmi_core.specs.Value.{Change, changes}
use Rattle.scmi_core.specs.declared.event.Event.{Event}
use Rattle.scmi_core.specs.declared.event.Event.TheVariants.{Command, Advance, Sent, CommandFailed, AdvanceFailed, Restarted, Promoted, Settled, Reported}

-- a command, an advance or a posting: nothing failed, no agent restarted, no set was promoted or
-- settled, and the hardware changed nothing by itself
abbrev pub IsPlain : Event → Type 0
IsPlain (Command a frame) = Unit {0}
IsPlain Advance = Unit {0}
IsPlain (Sent a) = Unit {0}
IsPlain (CommandFailed a frame fault) = ⊥
IsPlain (AdvanceFailed fault) = ⊥
IsPlain (Restarted a) = ⊥
IsPlain (Promoted place) = ⊥
IsPlain (Settled clock rate) = ⊥
IsPlain (Reported effect) = ⊥

-- any event but a restart
abbrev pub IsNoRestart : Event → Type 0
IsNoRestart (Restarted a) = ⊥
IsNoRestart _ = Unit {0}

-- any event but a report of the hardware
abbrev pub IsNoReport : Event → Type 0
IsNoReport (Reported effect) = ⊥
IsNoReport _ = Unit {0}

-- any event but a promotion
abbrev pub IsNoPromotion : Event → Type 0
IsNoPromotion (Promoted place) = ⊥
IsNoPromotion _ = Unit {0}

-- any event but one that settles a set
abbrev pub IsNoSettling : Event → Type 0
IsNoSettling (Settled clock rate) = ⊥
IsNoSettling _ = Unit {0}

-- what an event changes of the pending sets besides their order
abbrev pub change_in_place : Option PendingChange → Option PendingChange
change_in_place (Some (First place)) = None
change_in_place change = change

-- the sets that were accepted for later, in order of acceptance, whatever was promoted
abbrev pub sets_in_order : Board → List Deed → List PendingSet
sets_in_order board h =
    fold_with_prefix
    (λ before so_far deed. sets_left (advances before)
    (change_in_place (pending_change deed.event)) so_far ++ option_to_list
    (option_and_then (acceptance board) (success_at board deed.event deed.reply)))
    [] [] h

-- sets end in order of acceptance
abbrev pub EndsInOrder : Board → List Event → Type 0
EndsInOrder board h = accepted_sets board (deeds board h) ≡ sets_in_order board (deeds board h)

-- a change came of a command that asked for exactly this change
abbrev pub IsAskedFor : Board → List Event → Change → Type 0
IsAskedFor board h change = (cause : HasCause board h change) × (cause.wanted ≡ change)

-- or the hardware reported it
abbrev pub HasPlainOrigin : Board → List Event → Change → Type 0
HasPlainOrigin board h change = IsAskedFor board h change ⊎ IsReported board h change

-- and so did each change
abbrev pub HasPlainOrigins : Board → List Event → Type 0
HasPlainOrigins board h = All (HasPlainOrigin board h) (changes board (deeds board h))

-- a platform is as a history of plain events leaves it
abbrev pub HasPlainHistory : Standing → Type 0
HasPlainHistory p = (h : List Event) × StandsAfter p h × All IsPlain h
