-- What was due in place of an entry that differs.
use Rattle.std.specs.Prelude.{⊤}
use Rattle.scmi_judge.specs.declared.entry.Entry.{Entry}
use Rattle.scmi_judge.specs.declared.entry.Entry.TheVariants.{Answered, Delivered, Replied}
use Rattle.scmi_judge.specs.declared.verdict.Verdict.{Verdict}
use Rattle.scmi_judge.specs.declared.verdict.Verdict.TheVariants.{Answer, Message}

-- an entry with the answer or the message that a verdict says was due
abbrev pub in_place : Entry → Verdict → Entry
in_place (Answered a frame seen) (Answer due) = Answered a frame due
in_place (Replied k a frame seen) (Answer due) = Replied k a frame due
in_place (Delivered a seen) (Message due) = Delivered a due
in_place entry verdict = entry

-- the answer or the message that a verdict says was due, in place of that of an entry, if it says
-- so
abbrev pub IsDue : Verdict → Entry → (Entry → Type 0) → Type 0
IsDue (Answer due) (Answered a frame seen) Does = Does (Answered a frame due)
IsDue (Answer due) (Replied k a frame seen) Does = Does (Replied k a frame due)
IsDue (Message due) (Delivered a seen) Does = Does (Delivered a due)
IsDue verdict entry Does = ⊤
