-- The first word of an event in a trace.
use Rattle.std.specs.Prelude.{ℕ, ◌-◌, ◌/◌, ◌%◌, ◌==◌, ◌≤◌, if◌then◌else◌}
use Rattle.scmi_codec.specs.declared.fault.Fault.{Fault}
use Rattle.scmi_codec.specs.declared.fault.Fault.TheVariants as fault
use Rattle.scmi_core.specs.declared.mark.Mark.{Mark}
use Rattle.scmi_core.specs.declared.mark.Mark.TheVariants.{Advance, Sent, Malformed, Message, Failed, AdvanceFailed, Restarted, Promoted, StateReported, RateReported, EnabledReported, RateSettled}

-- the fault of a number, counted from 0; any other number is read as the last fault
abbrev pub fault_numbered : ℕ → Fault
fault_numbered number =
    if number == 0 then fault.NotSupported
    else if number == 1 then fault.InvalidParameters
    else if number == 2 then fault.Denied
    else if number == 3 then fault.OutOfRange
    else if number == 4 then fault.Busy
    else if number == 5 then fault.GenericError
    else fault.HardwareError

-- the mark of a report, by what it is of, of a settled rate, or from 4 on of a promotion, by its
-- place
abbrev pub report_of : ℕ → Mark
report_of number =
    if number == 0 then StateReported
    else if number == 1 then RateReported
    else if number == 2 then EnabledReported
    else if number == 3 then RateSettled
    else Promoted (number - 4)

-- what a word marks: its lowest three bits say what the event is, and the bits above them whose; of
-- a command that failed these are four bits; from bit 7 on there is the fault of what failed; of a
-- report and of a settled rate the bits above say of what, and of a promotion at which place
abbrev pub mark_of : ℕ → Mark
mark_of word =
    if word % 8 == 0 then Advance
    else if word % 8 == 1 then AdvanceFailed (fault_numbered (word / 128))
    else if word % 8 == 2 then Sent (word / 8)
    else if word % 8 == 3 then Malformed (word / 8)
    else if word % 8 == 4 then Failed (word / 8 % 16) (fault_numbered (word / 128))
    else if word % 8 == 5 then Restarted (word / 8)
    else if word % 8 == 6 then Message (word / 8)
    else report_of (word / 8)

-- a mark's agent or place, if it has one, is at most a number
abbrev pub HasAgent : Mark → ℕ → Type 0
HasAgent Advance most = Unit {0}
HasAgent (Sent a) most = a ≤ most
HasAgent (Malformed a) most = a ≤ most
HasAgent (Message a) most = a ≤ most
HasAgent (Failed a fault) most = a ≤ most
HasAgent (Restarted a) most = a ≤ most
HasAgent (Promoted place) most = place ≤ most
HasAgent (AdvanceFailed fault) most = Unit {0}
HasAgent StateReported most = Unit {0}
HasAgent RateReported most = Unit {0}
HasAgent EnabledReported most = Unit {0}
HasAgent RateSettled most = Unit {0}
