-- What is left of a word channel, and what its bytes encode.
use Rattle.std.specs.Prelude.{◌≡◌, ℕ, ◌+◌, ◌%◌, ◌^◌, ◌<◌, ◌≤◌, ◌⊎◌, List, [], ◌∷◌, ◌++◌, length, drop, replicate, slice_index, Some, None}
use Rattle.std.specs.List.{last_or}
use Rattle.scmi_codec.specs.Area.{status_at, StandsFor, StandsForAnswer}
use Rattle.scmi_codec.specs.Word.{word_at, put_word, put_words}
use Rattle.scmi_codec.specs.declared.area.TheConstants.{AREA_BYTES}
use Rattle.scmi_codec.specs.declared.frame.Frame.{Frame}
use Rattle.scmi_codec.specs.declared.frame.Answer.{Answer}
use Rattle.scmi_codec.specs.declared.frame.Answer.TheVariants.{ChannelError}
use Rattle.scmi_words.specs.declared.layout.TheConstants.{STATUS, STATUS_AT, FLAGS_AT}
use Rattle.scmi_words.specs.declared.phase.Phase.{Phase}
use Rattle.scmi_words.specs.declared.phase.Phase.TheVariants.{Withdrawn}
use Rattle.scmi_words.specs.declared.view.CallerState.{CallerState}
use Rattle.scmi_words.specs.declared.view.CalleeState.{CalleeState}
use Rattle.scmi_words.specs.declared.word_image.WordImage.{WordImage}

-- a free area of zeros
unfoldable pub fresh_area : List ℕ
fresh_area = put_word STATUS_AT 1 (replicate AREA_BYTES 0)

-- the area of the words of a table: the low half of the status, the flags, and the words after them
unfoldable pub area_of : List ℕ → List ℕ
area_of words = put_words FLAGS_AT (drop 1 words)
    (put_word STATUS_AT (slice_index words STATUS % 2 ^ 32) (replicate AREA_BYTES 0))

-- the words that are left
abbrev pub image_words : WordImage → List ℕ
image_words image = image.words

-- their area
abbrev pub image_area : WordImage → List ℕ
image_area image = area_of (image_words image)

-- the channel status of a frame that was not taken
abbrev pub untaken_status : Phase → ℕ
untaken_status Withdrawn = 1
untaken_status _ = 0

-- the channel status of an answer
abbrev pub answer_status : Answer → ℕ
answer_status ChannelError = 3
answer_status _ = 1

-- what the area encodes once both ends are gathered
pub record StandsAtEnd (caller : CallerState) (callee : CalleeState) (area : List ℕ) : Type 0 where
  pub size : length area ≡ AREA_BYTES
  pub reserved : (i : ℕ) → (i < 0x04) ⊎ ((0x08 ≤ i) × (i < 0x10)) → slice_index area i ≡ 0
  pub flags : word_at FLAGS_AT area ≡ 0
  -- all was taken and answered: the last answer to the last frame, unless a post was refused as
  -- closed
  pub answered : (f : Frame) (x : Answer) → callee.taken ≡ caller.posted
      → last_or None callee.taken ≡ Some f → last_or None callee.answered ≡ Some x
      → length callee.answered ≡ length callee.taken
      → (status_at area ≡ answer_status x) × (caller.draft ≡ [] → StandsForAnswer area f x)
  -- the last post was left untaken: that frame, with status 1 where it was withdrawn
  pub untaken : (f : Frame) → caller.posted ≡ callee.taken ++ f ∷ []
      → StandsFor area (untaken_status caller.phase) f
  -- the callee still owes: the status alone
  pub owing : length callee.taken ≡ length callee.answered + 1 → status_at area ≡ 0
  -- nothing was posted: the fresh area, unless a post was refused as closed
  pub unposted : caller.posted ≡ [] → (status_at area ≡ 1) × (caller.draft ≡ [] → area ≡ fresh_area)
