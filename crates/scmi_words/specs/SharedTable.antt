-- The shared table, the seats at it, and the count of their accesses.
use Rattle.std.specs.Prelude.{◌≡◌, ℕ, ◌+◌}
use Rattle.atomic_table.specs.Seated.{TableId}
use Rattle.atomic_table.specs.Table.{Me}
use Rattle.scmi_words.specs.declared.shared_table.SharedTable.{SharedTable}
use Rattle.scmi_words.specs.declared.view.View.{View}
use Rattle.scmi_words.specs.View.{TableSeat, caller_or, callee_or}

-- what distinguishes the table from every other
abbrev pub id_of : SharedTable → TableId
id_of shared = shared.words.shared.table_id

-- the seat is at this table
abbrev pub IsSeatAt : SharedTable → TableSeat → Type 0
IsSeatAt shared seat = seat.table_id ≡ id_of shared

-- what a seat has: its view, and no slots
abbrev SeatState : Type 0
SeatState = Me (Unit {0}) View

-- how many accesses a seat has made, by the counts of the halves in its view
abbrev pub accesses : SeatState → ℕ
accesses me = (caller_or me.0.caller).steps + (callee_or me.0.callee).steps

-- an access that reports this of what it found is counted, whatever it found
abbrev pub Counts : (ℕ → SeatState → Type 0) → SeatState → Type 0
Counts tells before = (found : ℕ) (after : SeatState) → tells found after
    → accesses after ≡ accesses before + 1
