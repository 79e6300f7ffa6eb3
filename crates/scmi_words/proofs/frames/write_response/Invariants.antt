use Rattle.std.proofs.Common.{◌+◌, ◌*◌, ◌∷◌, length, take}
use Rattle.scmi_codec.specs.Header.{header_word}
use Rattle.scmi_words.specs.View.{CalleeBecomes, callee_of}
use Rattle.scmi_words.specs.CalleeSteps.{callee_drafted}
use Rattle.scmi_words.proofs.frames.write_response.Given as goal

abbrev pub invariant-loop-i : goal.invariant-loop-i
invariant-loop-i l = CalleeBecomes l.fn.seat (callee_drafted (callee_of l.fn.seat)
    ((4 + 4 * length l.words) ∷ header_word l.message.header ∷ take l.i l.words) (2 + l.i)) l.seat
