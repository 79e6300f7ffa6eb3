-- What is found of an entry, by the verdict on it.
use Rattle.std.specs.Prelude.{⊤, Bool, true, false, if◌then◌else◌, Some, None}
use Rattle.scmi_codec.specs.Command.{command_of}
use Rattle.scmi_codec.specs.declared.frame.Answer.TheVariants.{Reply}
use Rattle.scmi_codec.specs.declared.frame.Frame.TheVariants.{Good}
use Rattle.scmi_codec.specs.declared.message.Message.{Message}
use Rattle.scmi_codec.specs.Header.{is_same_header}
use Rattle.scmi_judge.specs.Due.{in_place}
use Rattle.scmi_judge.specs.declared.entry.Entry.{Entry}
use Rattle.scmi_judge.specs.declared.entry.Entry.TheVariants.{Answered, Replied}
use Rattle.scmi_judge.specs.declared.verdict.Verdict.{Verdict}
use Rattle.scmi_judge.specs.declared.verdict.Verdict.TheVariants as verdict
use Rattle.scmi_check.specs.Own.{own_rule}
use Rattle.scmi_check.specs.declared.finding.Finding.{Finding}
use Rattle.scmi_check.specs.declared.finding.Finding.TheVariants.{Same, Own, Differs}

-- another reply to a command than was due: own if the headers are the same and a rule of the
-- profile's own decides
abbrev pub reply_finding : Message → Message → Message → Finding
reply_finding command due seen =
    if is_same_header due.header seen.header then
    elim (own_rule (command_of command) due.payload.items seen.payload.items)
    [ None ↦ Differs | Some rule ↦ Own rule ]
    else Differs

-- another answer than the reply that was due
abbrev pub answer_finding : Entry → Message → Finding
answer_finding (Answered a (Good command) (Reply seen)) due = reply_finding command due seen
answer_finding (Replied place a (Good command) (Reply seen)) due = reply_finding command due seen
answer_finding _ due = Differs

-- what is found of an entry with a verdict
abbrev pub finding_of : Entry → Verdict → Finding
finding_of entry verdict.Same = Same
finding_of entry (verdict.Answer (Reply due)) = answer_finding entry due
finding_of entry _ = Differs

-- an entry does not differ, but by a rule of the profile's own
abbrev pub Fits : Finding → Type 0
Fits Same = ⊤
Fits (Own rule) = ⊤
Fits Differs = ⊥

-- the same as a test
abbrev pub is_difference : Finding → Bool
is_difference Differs = true
is_difference _ = false

-- what an entry is judged as: a reply that differs by a rule of the profile's own is judged as the
-- one that was due
abbrev pub judged_as : Entry → Verdict → Entry
judged_as entry v =
    elim (finding_of entry v) [ Same ↦ entry | Own rule ↦ in_place entry v | Differs ↦ entry ]
