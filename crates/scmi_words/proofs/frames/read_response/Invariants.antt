use Rattle.std.proofs.Common.{◌≡◌, length, take}
use Rattle.scmi_codec.specs.Header.{header_of}
use Rattle.scmi_words.specs.View.{CallerBecomes, caller_of}
use Rattle.scmi_words.specs.CallerSteps.{caller_after}
use Rattle.scmi_words.proofs.frames.read_response.Given as goal

abbrev pub invariant-loop-i : goal.invariant-loop-i
invariant-loop-i g l = CallerBecomes l.fn.seat (caller_after (caller_of l.fn.seat) l.i) l.seat
    × (length l.message.payload.items ≡ l.count) × (take l.i l.message.payload.items
    ≡ take l.i g.given.payload.items) × (l.message.header ≡ header_of l.header)
