-- Which bytes of a dump are areas.
use Rattle.std.specs.Prelude.{ℕ, zero, suc, ◌+◌, ◌-◌, ◌||◌, nat_lt, not, if◌then◌else◌, List, [], ◌∷◌, length, take, drop, Option, Some, None, Result, Ok, Err}
use Rattle.scmi_codec.specs.ChannelArea.{channel_bytes, channel_words, is_channel_size}
use Rattle.scmi_decode.specs.declared.layout.Layout.{Layout}
use Rattle.scmi_decode.specs.declared.layout.Layout.TheVariants.{Whole, From, Each}
use Rattle.scmi_decode.specs.declared.layout.LayoutError.{LayoutError}
use Rattle.scmi_decode.specs.declared.layout.LayoutError.TheVariants as refused
use Rattle.scmi_decode.specs.declared.layout.Pieces.{Pieces}

-- the size of each area in bytes
abbrev pub size_of : Pieces → ℕ
size_of p = channel_bytes p.words

-- areas of one size that a channel has, and that do not overlap
abbrev pub each_layout : (offset size stride : ℕ) → Result Layout LayoutError
each_layout offset size stride =
    if is_channel_size size
    then (if nat_lt stride size then Err refused.Stride else Ok
    (Each (record { offset = offset; words = channel_words size; gap = stride - size })))
    else Err refused.Size

-- the layout of an offset, a size and a stride, each of which may be left out
abbrev pub layout_of : (offset size stride : Option ℕ) → Result Layout LayoutError
layout_of None None None = Ok Whole
layout_of (Some offset) None None = Ok (From offset)
layout_of None None (Some stride) = Err refused.NoSize
layout_of (Some offset) None (Some stride) = Err refused.NoSize
layout_of None (Some size) None = each_layout 0 size size
layout_of None (Some size) (Some stride) = each_layout 0 size stride
layout_of (Some offset) (Some size) None = each_layout offset size size
layout_of (Some offset) (Some size) (Some stride) = each_layout offset size stride

-- bytes of a dump that are read as an area, and where they begin
pub record Part : Type 0 where
  pub start : ℕ
  pub bytes : List ℕ

-- bytes at the beginning of the rest of a dump of so many bytes
abbrev pub part_at : (total : ℕ) → (rest bytes : List ℕ) → Part
part_at total rest bytes = record { start = total - length rest; bytes = bytes }

-- the rest of a dump if it has no room for another area: a part if it has a byte, and if no area
-- was before it
abbrev pub last_part : Pieces → (total : ℕ) → (rest : List ℕ) → List Part
last_part p total rest = if nat_lt 0 (length rest) || not (nat_lt p.offset total)
    then part_at total rest rest ∷ [] else []

-- the areas of one size in the rest of a dump of so many bytes, of which there are at most so many,
-- and what is left after them
abbrev pub parts_from : Pieces → (total most : ℕ) → (rest : List ℕ) → List Part
parts_from p total zero rest = []
parts_from p total (suc most) rest =
    if nat_lt (length rest) (size_of p) then last_part p total rest
    else part_at total rest (take (size_of p) rest)
    ∷ parts_from p total most (drop p.gap (drop (size_of p) rest))

-- the parts of a dump that are read as areas, in order
abbrev pub parts_of : Layout → List ℕ → List Part
parts_of Whole bytes = part_at (length bytes) bytes bytes ∷ []
parts_of (From offset) bytes = part_at (length bytes) (drop offset bytes) (drop offset bytes) ∷ []
parts_of (Each p) bytes = parts_from p (length bytes) (length bytes + 1) (drop p.offset bytes)
