-- Areas have the same description if and only if they have the same frame and their channels are in
-- the same state.
use Rattle.std.proofs.Common.{◌≡◌, ℕ, ◌/◌, ◌%◌, Bool, true, false, if◌then◌else◌, ◌==◌, ◌&&◌, List, Option, Some, None, refl, sym, ap, ◌∙◌, arith}
use Rattle.std.proofs.lemmas.Bool.Decides.{nat_tests}
use Rattle.scmi_codec.specs.Area.{frame_of, status_at}
use Rattle.scmi_codec.specs.Command.{command_of}
use Rattle.scmi_codec.specs.declared.message.Message.{Message}
use Rattle.scmi_codec.specs.declared.status.Status.{Status}
use Rattle.scmi_codec.specs.declared.status.Status.TheVariants.{Success}
use Rattle.scmi_codec.specs.declared.frame.Frame.{Frame}
use Rattle.scmi_codec.specs.declared.frame.Frame.TheVariants.{Good, Malformed}
use Rattle.scmi_decode.specs.Replies.{response_status}
use Rattle.scmi_decode.specs.Description.{described_area, described_by_status, described_left, described_p2a, described_posted, described_response}
use Rattle.scmi_decode.specs.Alike.{state_of, StandAlike}
use Rattle.scmi_decode.specs.declared.description.Description.{Description}
use Rattle.scmi_decode.specs.declared.description.Description.TheVariants as is

abbrev by_free : Bool → ℕ
by_free free = if free then 1 else 0

-- the state of the channel of a description, and its frame
abbrev held_in : Description → ℕ × Frame
held_in is.Unused = (1, Malformed 0 0)
held_in (is.Command m r) = (0, Good m)
held_in (is.Withdrawn m r) = (1, Good m)
held_in (is.Reply m) = (1, Good m)
held_in (is.Refusal m s) = (1, Good m)
held_in (is.Delayed free m) = (by_free free, Good m)
held_in (is.Notification free m) = (by_free free, Good m)
held_in (is.ChannelError f) = (3, f)
held_in (is.Malformed free len header) = (by_free free, Malformed len header)
held_in (is.Foreign free m) = (by_free free, Good m)

-- the description of a frame in a channel of this state
abbrev described_at : ℕ → Frame → Description
described_at n f = if n == 0 then described_posted f else described_left (n == 3) f

abbrev Has : ℕ → Frame → Description → Type 0
Has n f d = held_in d ≡ (n, f)

p2a-has : (free : Bool) (m : Message) → Has (by_free free) (Good m) (described_p2a free m)
p2a-has free m = by_kind (m.header.kind == 2) (m.header.kind == 3)
  where
    by_kind : (a b : Bool) → Has (by_free free) (Good m)
        (if a then is.Delayed free m else if b then is.Notification free m else is.Foreign free m)
    by_kind true b = refl
    by_kind false true = refl
    by_kind false false = refl

posted-has : (f : Frame) → Has 0 f (described_posted f)
posted-has (Malformed len header) = refl
posted-has (Good m) = by_kind (m.header.kind == 0)
  where
    by_kind : (a : Bool)
        → Has 0 (Good m) (if a then is.Command m (command_of m) else described_p2a false m)
    by_kind true = refl
    by_kind false = p2a-has false m

free-has : (f : Frame) → Has 1 f (described_left false f)
free-has (Malformed len header) = by_zeros (len == 0) (header == 0) refl refl
  where
    by_zeros : (a b : Bool) → (len == 0) ≡ a → (header == 0) ≡ b
        → Has 1 (Malformed len header) (if a && b then is.Unused else is.Malformed true len header)
    by_zeros true true ha hb =
        let no_length : 0 ≡ len = grind (arith, nat_tests) in
        let no_header : 0 ≡ header = grind (arith, nat_tests) in
        λ j. (1, Malformed (no_length j) (no_header j))
    by_zeros true false ha hb = refl
    by_zeros false b ha hb = refl
free-has (Good m) = by_kind (m.header.kind == 0)
  where
    by_status : (o : Option Status) → Has 1 (Good m) (described_by_status m o)
    by_status None = refl
    by_status (Some Success) = refl
    by_status (Some s) = refl

    by_kind : (a : Bool) → Has 1 (Good m) (if a then described_response m else described_p2a true m)
    by_kind true = by_status (response_status m)
    by_kind false = p2a-has true m

low_bits : (n : ℕ) → (n % 2 == 1) ≡ true → (n / 2 % 2 == 1) ≡ true → n % 4 ≡ 3
low_bits n odd error = grind (arith, nat_tests)

low_bit : (n : ℕ) → (n % 2 == 1) ≡ true → (n / 2 % 2 == 1) ≡ false → n % 4 ≡ 1
low_bit n odd error = grind (arith, nat_tests)

abbrev IsOfArea : List ℕ → Type 0
IsOfArea area = (described_area area ≡ described_at (state_of area) (frame_of area))
    × Has (state_of area) (frame_of area) (described_area area)

by_bits : (area : List ℕ) (odd error : Bool) → (status_at area % 2 == 1) ≡ odd
    → (status_at area / 2 % 2 == 1) ≡ error → IsOfArea area
by_bits area true true odd error = rw (odd, error, low_bits (status_at area) odd error) (refl, refl)
by_bits area true false odd error =
    rw (odd, error, low_bit (status_at area) odd error) (refl, free-has (frame_of area))
by_bits area false error odd _ = rw odd (refl, posted-has (frame_of area))

is_of_area : (area : List ℕ) → IsOfArea area
is_of_area area = by_bits area (status_at area % 2 == 1) (status_at area / 2 % 2 == 1) refl refl

-- areas with the same frame, whose channels are in the same state, have the same description
pub described_from_alike : (a b : List ℕ) → StandAlike a b → described_area a ≡ described_area b
described_from_alike a b same =
    (is_of_area a).0 ∙ ap (λ n. described_at n (frame_of a)) same.state
    ∙ ap (described_at (state_of b)) same.frame ∙ sym (is_of_area b).0

-- areas with the same description have the same frame, and their channels are in the same state
pub alike_from_described : (a b : List ℕ) → described_area a ≡ described_area b → StandAlike a b
alike_from_described a b e =
    let same : (state_of a, frame_of a) ≡ (state_of b, frame_of b) =
    sym (is_of_area a).1 ∙ ap held_in e ∙ (is_of_area b).1 in
    record { frame = ap (λ p. p.1) same; state = ap (λ p. p.0) same }

pub ruleset same_description = (described_from_alike, alike_from_described)
