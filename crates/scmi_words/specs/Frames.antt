-- A message in the words of the table, whose length and header may have been loaded.
use Rattle.std.specs.Prelude.{◌≡◌, []}
use Rattle.scmi_codec.specs.declared.message.Message.{Message}
use Rattle.scmi_codec.specs.declared.frame.Frame.TheVariants.{Good}
use Rattle.scmi_words.specs.declared.phase.Phase.TheVariants.{Idle}
use Rattle.scmi_words.specs.declared.shared_table.SharedTable.{SharedTable}
use Rattle.scmi_words.specs.Area.{frame_words, IsValidMessage}
use Rattle.scmi_words.specs.View.{TableSeat, HasCaller, HasCallee, caller_of, callee_of}
use Rattle.scmi_words.specs.SharedTable.{IsSeatAt}
use Rattle.scmi_words.specs.CallerSteps.{answer_area}
use Rattle.scmi_words.specs.CalleeSteps.{frame_area, IsOwing}

-- this message is the response that the caller collected, and nothing was stored since
abbrev pub HasResponse : SharedTable → TableSeat → Message → Type 0
HasResponse table seat given = IsSeatAt table seat
    × (HasCaller seat × ((caller_of seat).state.phase ≡ Idle) × ((caller_of seat).state.draft ≡ []))
    × (answer_area (caller_of seat) ≡ frame_words (Good given))
    × IsValidMessage given

-- this message is the frame that the callee took and owes an answer to, and nothing was stored
-- since
abbrev pub HasMessage : SharedTable → TableSeat → Message → Type 0
HasMessage table seat posted = IsSeatAt table seat
    × (HasCallee seat × IsOwing (callee_of seat) × ((callee_of seat).state.draft ≡ []))
    × (frame_area (callee_of seat) ≡ frame_words (Good posted))
    × IsValidMessage posted
