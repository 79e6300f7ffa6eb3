use Rattle.std.proofs.Common.{◌≡◌, length, take}
use Rattle.scmi_codec.specs.Header.{header_of}
use Rattle.scmi_words.specs.View.{CalleeBecomes, callee_of}
use Rattle.scmi_words.specs.CalleeSteps.{callee_after}
use Rattle.scmi_words.proofs.frames.read_message.Given as goal

abbrev pub invariant-loop-i : goal.invariant-loop-i
invariant-loop-i g l = CalleeBecomes l.fn.seat (callee_after (callee_of l.fn.seat) l.i) l.seat
    × (length l.message.payload.items ≡ l.count) × (take l.i l.message.payload.items
    ≡ take l.i g.posted.payload.items) × (l.message.header ≡ header_of l.header)
