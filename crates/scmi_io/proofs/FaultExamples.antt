-- The lines of faults, computed.
use Rattle.std.proofs.Common.{◌≡◌, [], ◌∷◌, ◌++◌, refl}
use Rattle.std.specs.Prelude.{codes}
use Rattle.scmi_io.specs.FaultLine.{fault_line}
use Rattle.scmi_io.specs.declared.fault_words.TheConstants.{AREA, BOARD, LIMIT, MEMORY, MODE, PLAN, READ, RECORD, SCRIPT, SIZE, WRITE}

-- the texts without a number
words : MODE.now ∷ SIZE.now ∷ READ.now ∷ AREA.now ∷ LIMIT.now ∷ MEMORY.now ∷ WRITE.now ∷ []
    ≡ codes "mode" ∷ codes "size" ∷ codes "read" ∷ codes "area" ∷ codes "limit" ∷ codes "memory"
    ∷ codes "write" ∷ []
words = refl

-- those that a number follows
numbered : BOARD.now ∷ SCRIPT.now ∷ RECORD.now ∷ PLAN.now ∷ []
    ≡ codes "board " ∷ codes "script " ∷ codes "record " ∷ codes "plan " ∷ []
numbered = refl

memory : fault_line MEMORY.now ≡ codes "fault memory\n"
unfolding fault_line
memory = refl

board : fault_line (BOARD.now ++ codes "3") ≡ codes "fault board 3\n"
unfolding fault_line
board = refl
