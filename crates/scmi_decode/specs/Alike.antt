-- When two areas are described alike.
use Rattle.std.specs.Prelude.{◌≡◌, ℕ, ◌%◌, ◌==◌, if◌then◌else◌, List}
use Rattle.scmi_codec.specs.Area.{frame_of, status_at}

-- the state of a channel by the status word of its area: 0 busy, 1 free, 3 free with the error bit
abbrev pub state_of : List ℕ → ℕ
state_of area = if status_at area % 2 == 1 then status_at area % 4 else 0

-- two areas have the same frame, and their channels are in the same state
pub record StandAlike (first second : List ℕ) : Type 0 where
  pub frame : frame_of first ≡ frame_of second
  pub state : state_of first ≡ state_of second
