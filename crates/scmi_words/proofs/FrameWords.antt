-- The words of a frame encode it.
use Rattle.std.proofs.Common.{◌≡◌, ℕ, ◌+◌, ◌-◌, ◌*◌, ◌/◌, ◌%◌, ◌<◌, ◌≤◌, Bool, true, cond, [], length, get_or, sym, refl, ap, ◌∙◌, subst, arith}
use Rattle.std.proofs.lemmas.Bool.Decides.{nat_tests}
use Rattle.std.proofs.lemmas.Bool.{false≢true}
use Rattle.scmi_codec.specs.Header.{HeaderFields, header_of, header_word}
use Rattle.scmi_codec.specs.Area.{is_well_formed}
use Rattle.scmi_codec.specs.declared.message.Message.{Message}
use Rattle.scmi_codec.specs.declared.frame.Frame.{Frame}
use Rattle.scmi_codec.specs.declared.frame.Frame.TheVariants.{Good, Malformed}
use Rattle.scmi_words.specs.Area.{IsValid, IsValidMessage, frame_in, frame_words}
use Rattle.scmi_codec.specs.declared.payload.TheConstants.{PAYLOAD_WORDS}
use Rattle.scmi_words.proofs.Picks.{message_in}

pub well_formed_test : (k : ℕ) → k ≤ PAYLOAD_WORDS → is_well_formed (4 + 4 * k) ≡ true
well_formed_test k h = grind (arith, nat_tests)

-- a well-formed length has at most the words of a payload
pub well_formed_few : (l : ℕ) → is_well_formed l ≡ true
    → (l / 4 - 1 ≤ PAYLOAD_WORDS) × (l ≡ 4 + 4 * (l / 4 - 1))
well_formed_few l e =
    let a : 4 ≤ l = grind (arith, nat_tests) in
    let b : l ≤ 4 + 4 * PAYLOAD_WORDS = grind (arith, nat_tests) in
    let d : l % 4 ≡ 0 = grind (arith, nat_tests) in
    (omega arith, omega arith)

pub unpacked : (m : Message) → IsValidMessage m → (let w : Message =
    record { header = header_of (header_word m.header); payload = m.payload } in w) ≡ m
unpacked m h = ap (λ (z : HeaderFields). let w : Message =
    record { header = z; payload = m.payload } in w) h.header

pub frame_of_words : (f : Frame) → IsValid f → frame_in (frame_words f) ≡ f
frame_of_words (Good m) h =
    ap (λ (b : Bool). cond b (Good record {
      header = header_of (header_word m.header);
      payload = m.payload;
    }) (Malformed (4 + 4 * length m.payload.items) (header_word m.header)))
    (well_formed_test (length m.payload.items) h.few) ∙ ap (λ (z : Message). Good z) (unpacked m h)
frame_of_words (Malformed l w) h = ap (λ (b : Bool). cond b
    (Good record { header = header_of w; payload = record { items = [] } }) (Malformed l w)) h

-- a well-formed length is that of a good frame
pub good_here : (f : Frame) (l : ℕ) → IsValid f → l ≡ get_or (frame_words f) 0 0
    → is_well_formed l ≡ true → f ≡ Good (message_in f)
good_here (Good m) l h is good = refl
good_here (Malformed w x) l h is good =
    absurd (false≢true (sym h ∙ (ap is_well_formed (sym is) ∙ good)))

pub good_long : (f : Frame) (l : ℕ) → l ≡ get_or (frame_words f) 0 0 → f ≡ Good (message_in f)
    → l ≡ 4 + 4 * length (message_in f).payload.items
good_long f l is good = is ∙ ap (λ (z : Frame). get_or (frame_words z) 0 0) good

pub two_words : (f : Frame) → 1 < length (frame_words f)
two_words (Good m) = omega arith
two_words (Malformed l h) = omega arith

pub good_valid : (f : Frame) → IsValid f → f ≡ Good (message_in f) → IsValidMessage (message_in f)
good_valid f h good = subst IsValid good h
