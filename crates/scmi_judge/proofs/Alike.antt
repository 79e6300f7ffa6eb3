-- The tests of two messages, frames, answers and outstanding commands are right.
use Rattle.std.proofs.Common.{◌≡◌, ◌↔◌, ◌==◌, ◌&&◌, ◌∙◌, ℕ, Bool, true, List, Option, Some, None, unwrap_or, refl, ap}
use Rattle.std.specs.Option.{option_eq}
use Rattle.std.specs.Cmp.Lexicographic.{pointwise}
use Rattle.std.proofs.lemmas.Bool.Decides.{Decides-and, Decides-eqb, Decides-like}
use Rattle.std.proofs.lemmas.Slice.Eq.{slice_eq-Decides}
use Rattle.scmi_codec.proofs.HeaderLemmas.{header_decides}
use Rattle.scmi_codec.specs.declared.message.Message.{Message}
use Rattle.scmi_codec.specs.declared.frame.Frame.{Frame}
use Rattle.scmi_codec.specs.declared.frame.Frame.TheVariants.{Good, Malformed}
use Rattle.scmi_codec.specs.declared.frame.Answer.{Answer}
use Rattle.scmi_codec.specs.declared.frame.Answer.TheVariants.{Reply, Released, ChannelError}
use Rattle.scmi_judge.specs.Same.{is_same_answer, is_same_frame, is_same_message, is_same_outstanding}
use Rattle.scmi_judge.specs.declared.guess.Guess.{Guess}
use Rattle.scmi_judge.specs.declared.outstanding.Outstanding.{Outstanding}

parts_to_message : (a b : Message)
    → (a.header ≡ b.header) × (a.payload.items ≡ b.payload.items) → a ≡ b
parts_to_message a b same = λ i. record { header = same.0 i; payload = record { items = same.1 i } }

pub same_message_decides : (a b : Message) → (is_same_message a b ≡ true) ↔ (a ≡ b)
same_message_decides a b =
    Decides-like (is_same_message a b) (parts_to_message a b)
    (λ is. (ap (λ m. m.header) is, ap (λ m. m.payload.items) is))
    (Decides-and _ _ (header_decides a.header b.header)
    (slice_eq-Decides Decides-eqb a.payload.items b.payload.items _ refl))

reply-inj : (a b : Message) → Reply a ≡ Reply b → a ≡ b
reply-inj a b is = ap (message_in a) is where
  message_in : Message → Answer → Message
  message_in d (Reply m) = m
  message_in d _ = d

pub same_answer_decides : (a b : Answer) → (is_same_answer a b ≡ true) ↔ (a ≡ b)
same_answer_decides (Reply a) (Reply b) =
    Decides-like (is_same_message a b) (ap Reply) (reply-inj a b) (same_message_decides a b)
same_answer_decides Released Released = (λ h. refl, λ h. refl)
same_answer_decides ChannelError ChannelError = (λ h. refl, λ h. refl)
same_answer_decides (Reply a) Released = (λ h. absurd (cc), λ h. absurd (cc))
same_answer_decides (Reply a) ChannelError = (λ h. absurd (cc), λ h. absurd (cc))
same_answer_decides Released (Reply b) = (λ h. absurd (cc), λ h. absurd (cc))
same_answer_decides Released ChannelError = (λ h. absurd (cc), λ h. absurd (cc))
same_answer_decides ChannelError (Reply b) = (λ h. absurd (cc), λ h. absurd (cc))
same_answer_decides ChannelError Released = (λ h. absurd (cc), λ h. absurd (cc))

some-inj : {X : Type 0} (a b : X) → Some a ≡ Some b → a ≡ b
some-inj a b is = ap (λ o. unwrap_or o a) is

posted_decides : (a b : Option Message) → (option_eq is_same_message a b ≡ true) ↔ (a ≡ b)
posted_decides None None = (λ h. refl, λ h. refl)
posted_decides None (Some b) = (λ h. absurd (cc), λ h. absurd (cc))
posted_decides (Some a) None = (λ h. absurd (cc), λ h. absurd (cc))
posted_decides (Some a) (Some b) =
    Decides-like (is_same_message a b) (ap Some) (some-inj a b) (same_message_decides a b)

pub same_posted_decides : (a b : List (Option Message)) (r : Bool)
    → r ≡ pointwise (option_eq is_same_message) a b → (r ≡ true) ↔ (a ≡ b)
same_posted_decides a b r is = slice_eq-Decides posted_decides a b r is

good-inj : (a b : Message) → Good a ≡ Good b → a ≡ b
good-inj a b is = ap (message_in a) is where
  message_in : Message → Frame → Message
  message_in d (Good m) = m
  message_in d _ = d

pub same_frame_decides : (a b : Frame) → (is_same_frame a b ≡ true) ↔ (a ≡ b)
same_frame_decides (Good a) (Good b) =
    Decides-like (is_same_message a b) (ap Good) (good-inj a b) (same_message_decides a b)
same_frame_decides (Malformed l h) (Malformed m k) =
    Decides-like (l == m && h == k) (λ is. ap (λ n. Malformed n h) is.0 ∙ ap (Malformed m) is.1)
    (λ is. (ap (length_in l) is, ap (header_in h) is))
    (Decides-and _ _ (Decides-eqb l m) (Decides-eqb h k)) where
      length_in : ℕ → Frame → ℕ
      length_in d (Malformed n k) = n
      length_in d _ = d

      header_in : ℕ → Frame → ℕ
      header_in d (Malformed n k) = k
      header_in d _ = d
same_frame_decides (Good a) (Malformed m k) = (λ h. absurd (cc), λ h. absurd (cc))
same_frame_decides (Malformed l h) (Good b) = (λ h. absurd (cc), λ h. absurd (cc))

answered_decides : (a b : Option Answer) → (option_eq is_same_answer a b ≡ true) ↔ (a ≡ b)
answered_decides None None = (λ h. refl, λ h. refl)
answered_decides None (Some b) = (λ h. absurd (cc), λ h. absurd (cc))
answered_decides (Some a) None = (λ h. absurd (cc), λ h. absurd (cc))
answered_decides (Some a) (Some b) =
    Decides-like (is_same_answer a b) (ap Some) (some-inj a b) (same_answer_decides a b)

parts_to_outstanding : (a b : Outstanding)
    → (a.agent ≡ b.agent) × ((a.frame ≡ b.frame) × (a.answer ≡ b.answer)) → a ≡ b
parts_to_outstanding a b same =
    λ i. record { agent = same.0 i; frame = same.1.0 i; answer = same.1.1 i }

same_outstanding_decides : (a b : Outstanding) → (is_same_outstanding a b ≡ true) ↔ (a ≡ b)
same_outstanding_decides a b =
    Decides-like (is_same_outstanding a b) (parts_to_outstanding a b)
    (λ is. (ap (λ c. c.agent) is, (ap (λ c. c.frame) is, ap (λ c. c.answer) is)))
    (Decides-and _ _ (Decides-eqb a.agent b.agent)
    (Decides-and _ _ (same_frame_decides a.frame b.frame) (answered_decides a.answer b.answer)))

pub same_place_decides : (a b : Option Outstanding)
    → (option_eq is_same_outstanding a b ≡ true) ↔ (a ≡ b)
same_place_decides None None = (λ h. refl, λ h. refl)
same_place_decides None (Some b) = (λ h. absurd (cc), λ h. absurd (cc))
same_place_decides (Some a) None = (λ h. absurd (cc), λ h. absurd (cc))
same_place_decides (Some a) (Some b) =
    Decides-like (is_same_outstanding a b) (ap Some) (some-inj a b) (same_outstanding_decides a b)

-- guesses are the same if their parts are
pub same_guess_decides : (a b : Guess) (commands : Bool) → a.platform ≡ b.platform → a.posted
    ≡ b.posted → (commands ≡ true) ↔ (a.outstanding ≡ b.outstanding) → (commands ≡ true) ↔ (a ≡ b)
same_guess_decides a b commands platform posted decides = (
  λ is i. record { platform = platform i; posted = posted i; outstanding = decides.0 is i },
  λ same. decides.1 (ap (λ (g : Guess). g.outstanding) same),
)
