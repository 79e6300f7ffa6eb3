-- What a seat at the table knows: the halves in its view.
use Rattle.std.specs.Prelude.{◌≡◌, [], Option, Some, None, false}
use Rattle.atomic_table.specs.declared.shared.Seat.{Seat}
use Rattle.scmi_words.specs.declared.phase.Phase.TheVariants.{Idle}
use Rattle.scmi_words.specs.declared.view.CallerHalf.{CallerHalf}
use Rattle.scmi_words.specs.declared.view.CalleeHalf.{CalleeHalf}
use Rattle.scmi_words.specs.declared.view.View.{View}

-- a seat at the table
abbrev pub TableSeat : Type 0
TableSeat = Seat (Unit {0}) View

-- the half of a caller that has done nothing
abbrev pub first_caller : CallerHalf
first_caller =
    record {
      state = record { posted = []; read = []; phase = Idle; draft = []; closed = false };
      told = false;
      shown_taken = 0;
      shown_answered = 0;
      final_posted = 0;
      final_taken = 0;
      steps = 0;
      looks = 0;
      saw = 0;
    }

-- the half of a callee that has done nothing
abbrev pub first_callee : CalleeHalf
first_callee =
    record {
      state = record { taken = []; answered = []; draft = []; closed = false };
      told = false;
      final_posted = 0;
      final_taken = 0;
      steps = 0;
      looks = 0;
      saw = 0;
    }

-- the view of the seat that the table is made with
abbrev pub first_view : View
first_view = record { caller = Some first_caller; callee = Some first_callee }

-- a view with another caller's half
abbrev pub with_caller : View → CallerHalf → View
with_caller v h = record { caller = Some h; callee = v.callee }

-- a view with another callee's half
abbrev pub with_callee : View → CalleeHalf → View
with_callee v h = record { caller = v.caller; callee = Some h }

-- the caller's half, if there is one
abbrev pub caller_or : Option CallerHalf → CallerHalf
caller_or (Some h) = h
caller_or None = first_caller

-- the callee's half, if there is one
abbrev pub callee_or : Option CalleeHalf → CalleeHalf
callee_or (Some h) = h
callee_or None = first_callee

-- the caller's half in a seat's view
abbrev pub caller_of : TableSeat → CallerHalf
caller_of s = caller_or s.me.0.caller

-- the callee's half in a seat's view
abbrev pub callee_of : TableSeat → CalleeHalf
callee_of s = callee_or s.me.0.callee

-- the seat has the caller's half
abbrev pub HasCaller : TableSeat → Type 0
HasCaller s = s.me.0.caller ≡ Some (caller_of s)

-- the seat has the callee's half
abbrev pub HasCallee : TableSeat → Type 0
HasCallee s = s.me.0.callee ≡ Some (callee_of s)

-- the same seat with this caller's half, and all else as it was
abbrev pub CallerBecomes : TableSeat → CallerHalf → TableSeat → Type 0
CallerBecomes s h t = (t.table_id ≡ s.table_id) × (t.id ≡ s.id)
    × (t.me ≡ (with_caller s.me.0 h, s.me.1))

-- the same seat with this callee's half, and all else as it was
abbrev pub CalleeBecomes : TableSeat → CalleeHalf → TableSeat → Type 0
CalleeBecomes s h t = (t.table_id ≡ s.table_id) × (t.id ≡ s.id)
    × (t.me ≡ (with_callee s.me.0 h, s.me.1))

-- a view's first part when its halves are parted
abbrev pub caller_only : View → View
caller_only v = record { caller = v.caller; callee = None }

-- a view's second part when its halves are parted
abbrev pub callee_only : View → View
callee_only v = record { caller = None; callee = v.callee }

-- the caller's half of one view and the callee's of another, joined
abbrev pub both_halves : View → View → View
both_halves v w = record { caller = v.caller; callee = w.callee }

-- the view of a seat that was joined into another
abbrev pub no_half : View
no_half = record { caller = None; callee = None }
