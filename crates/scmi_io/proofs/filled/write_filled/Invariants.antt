use Rattle.std.proofs.Common.{List, ℕ, Option, drop, map}
use Rattle.std.specs.Io.KnownBytes.{Appends}
use Rattle.scmi_io.specs.Filled.{filled}
use Rattle.scmi_io.proofs.filled.write_filled.Given as goal

-- once the rest is filled with the pieces that are left, all is
abbrev pub invariant-pieces : goal.invariant-pieces
invariant-pieces g l =
    let contents = g.W.Write.contents in
    let text = g.P.Piece.text in
    (after : Option (List ℕ))
    → Appends (contents l.writer) after (filled l.rest (map text (drop l.piece-index l.pieces)))
    → Appends (contents l.fn.writer) after (filled l.text (map text l.pieces))
