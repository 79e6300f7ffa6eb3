-- Texts with holes, filled.
use Rattle.std.proofs.Common.{◌≡◌, [], ◌∷◌, refl}
use Rattle.std.specs.Prelude.{codes}
use Rattle.scmi_io.specs.Filled.{filled}

-- each hole has its piece
each_hole : filled (codes "command %, token %\n") (codes "BASE" ∷ codes "7" ∷ [])
    ≡ codes "command BASE, token 7\n"
unfolding filled
each_hole = refl

-- a piece without a hole follows the text, and a hole without a piece stays
other_count : filled (codes "a % b %") (codes "1" ∷ []) ≡ codes "a 1 b %"
unfolding filled
other_count = refl

more_pieces : filled (codes "a %") (codes "1" ∷ codes "2" ∷ []) ≡ codes "a 12"
unfolding filled
more_pieces = refl
