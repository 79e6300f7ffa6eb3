use Rattle.std.proofs.Common.{◌+◌, ◌*◌, ◌∷◌, length, take}
use Rattle.scmi_codec.specs.Header.{header_word}
use Rattle.scmi_words.specs.View.{CallerBecomes, caller_of}
use Rattle.scmi_words.specs.CallerSteps.{caller_drafted}
use Rattle.scmi_words.proofs.frames.write_command.Given as goal

abbrev pub invariant-loop-i : goal.invariant-loop-i
invariant-loop-i l = CallerBecomes l.fn.seat (caller_drafted (caller_of l.fn.seat)
    ((4 + 4 * length l.words) ∷ header_word l.fn.header ∷ take l.i l.words) (2 + l.i)) l.seat
