-- What is found in the bytes of a dump.
use Rattle.std.specs.Prelude.{ℕ, ◌+◌, ◌*◌, ◌^◌, nat_lt, Bool, true, false, if◌then◌else◌, List, [], ◌∷◌, length, map, Option, Some, None}
use Rattle.std.specs.List.{list_any}
use Rattle.std.specs.Option.{option_or}
use Rattle.byteorder.specs.Endian.{big_from}
use Rattle.scmi_codec.specs.Area.{is_well_formed, length_at}
use Rattle.scmi_codec.specs.ChannelArea.{is_channel_size}
use Rattle.scmi_decode.specs.Description.{described_channel}
use Rattle.scmi_decode.specs.Layout.{Part, parts_of, size_of}
use Rattle.scmi_decode.specs.declared.finding.Finding.{Finding}
use Rattle.scmi_decode.specs.declared.finding.Found.{Found}
use Rattle.scmi_decode.specs.declared.finding.Found.TheVariants.{Area, OtherSize, Cut}
use Rattle.scmi_decode.specs.declared.finding.Found.TheVariants as found
use Rattle.scmi_decode.specs.declared.layout.Layout.{Layout}
use Rattle.scmi_decode.specs.declared.layout.Layout.TheVariants.{Whole, From, Each}
use Rattle.scmi_decode.specs.declared.no_bytes.NoBytes.{NoBytes}

-- whether bytes are as many as the area of a channel may have
abbrev pub is_area : List ℕ → Bool
is_area bytes = is_channel_size (length bytes)

-- a length, if a frame may have it
abbrev pub if_well_formed : ℕ → Option ℕ
if_well_formed n = if is_well_formed n then Some n else None

-- a number of an area that is printed in the other byte order, if a frame may have it as its length
abbrev pub length_from : (place : ℕ) → List ℕ → Option ℕ
length_from place area = if_well_formed (big_from place 4 area)

-- the same of two numbers of 16 bits, where the length is
abbrev pub length_of_halves : List ℕ → Option ℕ
length_of_halves area = if_well_formed (big_from 0x14 2 area + big_from 0x16 2 area * 2 ^ 16)

-- the first length that a frame may have if the numbers are printed in the other byte order: of 32
-- bits; of 16; of 64, of which the second half is the length; or of 64, of which the first half is
-- it, since the area begins in the middle of one
abbrev pub swapped_length : List ℕ → Option ℕ
swapped_length area =
    option_or (length_from 0x14 area) (option_or (length_of_halves area)
    (option_or (length_from 0x10 area) (length_from 0x18 area)))

-- that length, if the length of an area's frame as it is printed is that of no frame
abbrev pub swapped_of : List ℕ → Option ℕ
swapped_of area = if is_well_formed (length_at area) then None else swapped_length area

-- what bytes are
abbrev pub bytes_found : List ℕ → Found
bytes_found bytes = if is_area bytes then Area (described_channel bytes) (swapped_of bytes)
    else OtherSize (length bytes)

-- what a part of a dump is: bytes that are fewer than the size of each area are none, whatever they
-- look like
abbrev pub part_found : Layout → List ℕ → Found
part_found (Each p) bytes = if nat_lt (length bytes) (size_of p) then Cut (length bytes) (size_of p)
    else bytes_found bytes
part_found Whole bytes = bytes_found bytes
part_found (From offset) bytes = bytes_found bytes

-- where a part begins, if not all is read as one area
abbrev pub shown_start : Layout → ℕ → Option ℕ
shown_start Whole start = None
shown_start (From offset) start = Some start
shown_start (Each p) start = Some start

-- what is found at a part
abbrev pub part_finding : Layout → Option ℕ → Part → Finding
part_finding l line part =
    record { line = line; start = shown_start l part.start; found = part_found l part.bytes }

-- what is found in bytes
abbrev pub parts_found : Layout → Option ℕ → List ℕ → List Finding
parts_found l line bytes = map (part_finding l line) (parts_of l bytes)

-- the same of a dump that begins at a line of this number, or why it has no bytes
abbrev pub dump_findings : Layout → (number : ℕ) → NoBytes → Option (List ℕ) → List Finding
dump_findings l number why None =
    record { line = Some number; start = None; found = found.NoBytes why } ∷ []
dump_findings l number why (Some bytes) = parts_found l (Some number) bytes

-- whether it is an area
abbrev pub is_area_found : Found → Bool
is_area_found (Area description swapped) = true
is_area_found f = false

-- whether one of the findings is an area
abbrev pub any_area : List Finding → Bool
any_area findings = list_any (λ f. is_area_found f.found) findings
