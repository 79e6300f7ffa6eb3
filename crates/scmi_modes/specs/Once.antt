-- What the mode `once` reads and writes.
use Rattle.std.specs.Prelude.{ℕ, List, [], ◌∷◌, ◌++◌, Option, option_and_then, IsSomeAnd}
use Rattle.std.specs.Option.{option_map_or}
use Rattle.std.specs.Result.{result_ok}
use Rattle.std.specs.Io.KnownBytes.{Appends}
use Rattle.hex.specs.Hex.{decode_sized, encode_lower}
use Rattle.scmi_codec.specs.Area.{frame_waiting, area_after_answer}
use Rattle.scmi_codec.specs.declared.area.TheConstants.{AREA_BYTES}
use Rattle.scmi_core.specs.BoardB.{board_b}
use Rattle.scmi_core.specs.History.{answer_to}
use Rattle.scmi_modes.specs.Lines.{only, significant_lines}

-- the area of an input whose one line that counts is its hexadecimal digits, two for each byte
abbrev pub area_of : List ℕ → Option (List ℕ)
area_of input = option_and_then (λ line. result_ok (decode_sized line AREA_BYTES))
    (only (significant_lines input))

-- an area with the answer to its frame, agent 1's first command on the reference board; a free
-- channel's area as it is
abbrev pub answered_area : List ℕ → List ℕ
answered_area area = option_map_or (λ frame. area_after_answer (answer_to board_b 1 frame []) area)
    (frame_waiting area) area

-- an area in lower-case digits, and a line feed
abbrev pub area_text : List ℕ → List ℕ
area_text area = encode_lower area ++ (10 ∷ [])

-- the input has an area, and what is written is the text of that area with its answer
abbrev pub IsAnswerTo : List ℕ → Option (List ℕ) → Option (List ℕ) → Type 0
IsAnswerTo input old new =
    IsSomeAnd (area_of input) (λ area. Appends old new (area_text (answered_area area)))
