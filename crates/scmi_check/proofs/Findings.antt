-- What is found of an entry, by the verdict on it.
use Rattle.std.proofs.Common.{◌≡◌, ◌≢◌, ◌⊎◌, inl, inr, Bool, true, false, if◌then◌else◌, Option, Some, None, refl, sym, subst}
use Rattle.scmi_codec.specs.Command.{command_of}
use Rattle.scmi_codec.specs.Header.{is_same_header}
use Rattle.scmi_codec.specs.declared.frame.Answer.TheVariants.{Reply, Released, ChannelError}
use Rattle.scmi_codec.specs.declared.frame.Frame.TheVariants.{Good, Malformed}
use Rattle.scmi_codec.specs.declared.message.Message.{Message}
use Rattle.scmi_judge.specs.Due.{IsDue, in_place}
use Rattle.scmi_judge.specs.declared.entry.Entry.{Entry}
use Rattle.scmi_judge.specs.declared.entry.Entry.TheVariants.{Answered, Asked, Delivered, GivenUp, Replied, Told}
use Rattle.scmi_judge.specs.declared.verdict.Verdict.{Verdict}
use Rattle.scmi_judge.specs.declared.verdict.Verdict.TheVariants as verdict
use Rattle.scmi_check.specs.Finding.{Fits, answer_finding, finding_of, judged_as, reply_finding}
use Rattle.scmi_check.specs.Own.{own_rule}
use Rattle.scmi_check.specs.declared.finding.Finding.{Finding}
use Rattle.scmi_check.specs.declared.finding.Finding.TheVariants.{Same, Own, Differs}
use Rattle.scmi_check.specs.declared.own_rule.OwnRule.{OwnRule}

-- a verdict is that an entry is the same, or another
pub same-or-not : (v : Verdict) → (v ≡ verdict.Same) ⊎ (v ≢ verdict.Same)
same-or-not verdict.Same = inl refl
same-or-not verdict.NoAgent = inr (λ is. absurd (cc))
same-or-not verdict.NoMessage = inr (λ is. absurd (cc))
same-or-not verdict.NoReport = inr (λ is. absurd (cc))
same-or-not (verdict.Answer due) = inr (λ is. absurd (cc))
same-or-not (verdict.Message due) = inr (λ is. absurd (cc))

-- an entry fits, or differs
pub fits-or-not : (f : Finding) → Fits f ⊎ (¬ (Fits f))
fits-or-not Same = inl tt
fits-or-not (Own rule) = inl tt
fits-or-not Differs = inr (λ none. none)

-- an entry that differs is judged as it is
pub as-it-is : (entry : Entry) (v : Verdict) → ¬ (Fits (finding_of entry v))
    → judged_as entry v ≡ entry
as-it-is entry v differs = by (finding_of entry v) differs where
  by : (f : Finding) → ¬ (Fits f)
      → elim f [ Same ↦ entry | Own rule ↦ in_place entry v | Differs ↦ entry ] ≡ entry
  by Same away = refl
  by (Own rule) away = absurd (away tt)
  by Differs away = refl

-- so is one that is the same
pub as-same : (entry : Entry) (v : Verdict) → finding_of entry v ≡ Same → judged_as entry v ≡ entry
as-same entry v is = by (finding_of entry v) is where
  by : (f : Finding) → f ≡ Same
      → elim f [ Same ↦ entry | Own rule ↦ in_place entry v | Differs ↦ entry ] ≡ entry
  by Same is = refl
  by (Own rule) is = absurd (cc)
  by Differs is = refl

-- one that differs by a rule of the profile's own is judged with the answer that was due
pub as-meant : (entry : Entry) (v : Verdict) (rule : OwnRule) → finding_of entry v ≡ Own rule
    → judged_as entry v ≡ in_place entry v
as-meant entry v rule is = by (finding_of entry v) is where
  by : (f : Finding) → f ≡ Own rule
      → elim f [ Same ↦ entry | Own rule ↦ in_place entry v | Differs ↦ entry ] ≡ in_place entry v
  by Same is = absurd (cc)
  by (Own other) is = refl
  by Differs is = absurd (cc)

-- another reply than was due is never the same
reply-other : (command due seen : Message) → reply_finding command due seen ≢ Same
reply-other command due seen = by (is_same_header due.header seen.header)
    (own_rule (command_of command) due.payload.items seen.payload.items) where
      by : (same : Bool) (rule : Option OwnRule)
          → (if same then elim rule [ None ↦ Differs | Some r ↦ Own r ] else Differs) ≢ Same
      by true None = λ is. absurd (cc)
      by true (Some r) = λ is. absurd (cc)
      by false rule = λ is. absurd (cc)

answer-other : (entry : Entry) (due : Message) → answer_finding entry due ≢ Same
answer-other (Answered a (Good command) (Reply seen)) due = reply-other command due seen
answer-other (Answered a (Good command) Released) due = λ is. absurd (cc)
answer-other (Answered a (Good command) ChannelError) due = λ is. absurd (cc)
answer-other (Answered a (Malformed len header) answer) due = λ is. absurd (cc)
answer-other (Delivered a message) due = λ is. absurd (cc)
answer-other (Asked k a frame) due = λ is. absurd (cc)
answer-other (Replied k a (Good command) (Reply seen)) due = reply-other command due seen
answer-other (Replied k a (Good command) Released) due = λ is. absurd (cc)
answer-other (Replied k a (Good command) ChannelError) due = λ is. absurd (cc)
answer-other (Replied k a (Malformed len header) answer) due = λ is. absurd (cc)
answer-other (GivenUp k) due = λ is. absurd (cc)
answer-other (Told report) due = λ is. absurd (cc)

-- an entry that is found the same has that verdict
pub same-found : (entry : Entry) (v : Verdict) → finding_of entry v ≡ Same → v ≡ verdict.Same
same-found entry verdict.Same is = refl
same-found entry verdict.NoAgent is = absurd (cc)
same-found entry verdict.NoMessage is = absurd (cc)
same-found entry verdict.NoReport is = absurd (cc)
same-found entry (verdict.Message due) is = absurd (cc)
same-found entry (verdict.Answer (Reply due)) is = absurd (answer-other entry due is)
same-found entry (verdict.Answer Released) is = absurd (cc)
same-found entry (verdict.Answer ChannelError) is = absurd (cc)

-- one that is not found so has another
pub other-found : (entry : Entry) (v : Verdict) → finding_of entry v ≢ Same → v ≢ verdict.Same
other-found entry v away is = away (subst (λ x. finding_of entry x ≡ Same) (sym is) refl)

-- a reply that differs by a rule of the profile's own has one that was due
pub own-due : (entry : Entry) (v : Verdict) (rule : OwnRule) (Does : Entry → Type 0)
    → finding_of entry v ≡ Own rule → IsDue v entry Does → Does (in_place entry v)
own-due entry verdict.Same rule Does is due = absurd (cc)
own-due entry verdict.NoAgent rule Does is due = absurd (cc)
own-due entry verdict.NoMessage rule Does is due = absurd (cc)
own-due entry verdict.NoReport rule Does is due = absurd (cc)
own-due entry (verdict.Message message) rule Does is due = absurd (cc)
own-due (Answered a frame answer) (verdict.Answer reply) rule Does is due = due
own-due (Replied k a frame answer) (verdict.Answer reply) rule Does is due = due
own-due (Asked k a frame) (verdict.Answer (Reply reply)) rule Does is due = absurd (cc)
own-due (Asked k a frame) (verdict.Answer Released) rule Does is due = absurd (cc)
own-due (Asked k a frame) (verdict.Answer ChannelError) rule Does is due = absurd (cc)
own-due (GivenUp k) (verdict.Answer (Reply reply)) rule Does is due = absurd (cc)
own-due (GivenUp k) (verdict.Answer Released) rule Does is due = absurd (cc)
own-due (GivenUp k) (verdict.Answer ChannelError) rule Does is due = absurd (cc)
own-due (Told report) (verdict.Answer (Reply reply)) rule Does is due = absurd (cc)
own-due (Told report) (verdict.Answer Released) rule Does is due = absurd (cc)
own-due (Told report) (verdict.Answer ChannelError) rule Does is due = absurd (cc)
own-due (Delivered a message) (verdict.Answer (Reply reply)) rule Does is due = absurd (cc)
own-due (Delivered a message) (verdict.Answer Released) rule Does is due = absurd (cc)
own-due (Delivered a message) (verdict.Answer ChannelError) rule Does is due = absurd (cc)
