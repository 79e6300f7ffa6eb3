-- Rows as programs print them, which the prover reads by the definitions: each has the same sixteen
-- bytes.
use Rattle.std.proofs.Common.{◌≡◌, ℕ, Bool, List, [], ◌∷◌, ◌++◌, length, map, replicate, Option, None, Some, true, false, codes, refl}
use Rattle.hex.specs.Hex.{decode_pairs}
use Rattle.std.specs.List.{slice_split}
use Rattle.std.specs.Option.{option_map}
use Rattle.scmi_decode.specs.Cell.{settled}
use Rattle.scmi_decode.specs.Decoded.{is_remark}
use Rattle.scmi_decode.specs.Dump.{is_gap}
use Rattle.scmi_decode.specs.declared.dump_end.repeated.TheConstants.{REPEATED_BYTES, SURE_BYTES}
use Rattle.scmi_decode.specs.declared.first_column.TheConstants.{SURE_STEPS}
use Rattle.scmi_decode.specs.HeldRow.{may_be_parts, pair_lack}
use Rattle.scmi_decode.specs.declared.layout.Layout.{Layout}
use Rattle.scmi_decode.specs.declared.layout.Layout.TheVariants.{Whole, From, Each}
use Rattle.scmi_decode.specs.declared.no_bytes.NoBytes.{NoBytes}
use Rattle.scmi_decode.specs.declared.no_bytes.NoBytes.TheVariants as lack
use Rattle.scmi_decode.specs.DumpEnd.{column_begun, column_with, end_of, extended, is_filled_from, line_end}
use Rattle.scmi_decode.specs.FirstColumn.{counts}
use Rattle.scmi_decode.specs.OpenDump.{begun, end_at, may_repeat, no_dump}
use Rattle.scmi_decode.specs.WideRow.{is_wide_row}
use Rattle.scmi_decode.specs.Row.{RowView, row_of, without_prefix, parts_at, parts_row, marked_parts, offset_parts, piped_parts, address_of}
use Rattle.scmi_decode.specs.declared.form.Form.{Form}
use Rattle.scmi_decode.specs.declared.form.Form.TheVariants.{Plain, Marked, Offset, Equals, Value}

-- the second row of an area with a POWER_STATE_SET: 0, a length of 16, the header word 0x001c4404,
-- and 1
abbrev pub sixteen_bytes : List ℕ
sixteen_bytes = 0 ∷ 0 ∷ 0 ∷ 0 ∷ 0x10 ∷ 0 ∷ 0 ∷ 0 ∷ 0x04 ∷ 0x44 ∷ 0x1C ∷ 0 ∷ 1 ∷ 0 ∷ 0 ∷ 0 ∷ []

-- a row's form, its address, and its bytes
pub record ReadRow : Type 0 where
  pub form : Form
  pub address : ℕ
  pub bytes : Option (List ℕ)

abbrev pub read_row : List ℕ → Option ReadRow
read_row line = option_map (λ r.
    record { form = r.form; address = r.address; bytes = settled r.order r.cells }) (row_of line)

-- lines of which each is this row
abbrev pub AreRead : Option ReadRow → List (List ℕ) → Type 0
AreRead row lines = map read_row lines ≡ replicate (length lines) row

abbrev pub row_at : Form → ℕ → ReadRow
row_at f address = record { form = f; address = address; bytes = Some sixteen_bytes }

pub rows :
    -- xxd in bytes, in groups of two, of four and of eight, and with -e in words; the kernel's log
    AreRead (Some (row_at Marked 0x10)) (
    codes "00000010: 00 00 00 00 10 00 00 00 04 44 1c 00 01 00 00 00  .........D......"
    ∷ codes "00000010: 0000 0000 1000 0000 0444 1c00 0100 0000  .........D......"
    ∷ codes "00000010: 00000000 10000000 04441c00 01000000  .........D......"
    ∷ codes "00000010: 0000000010000000 04441c0001000000  .........D......"
    ∷ codes "00000010: 00000000 00000010 001c4404 00000001  .........D......"
    ∷ codes "00000010: 0000001000000000 00000001001c4404  .........D......"
    ∷ codes "[   12.345678] scmi: 00000010: 00000000 00000010 001c4404 00000001  .........D......"
    ∷ [])
    -- xxd -p and xxd -i, and od without addresses
    × AreRead (Some (row_at Plain 0)) (
    codes "000000001000000004441c0001000000"
    ∷ codes
    "  0x00, 0x00, 0x00, 0x00, 0x10, 0x00, 0x00, 0x00, 0x04, 0x44, 0x1c, 0x00, 0x01, 0x00, 0x00, 0x00,"
    ∷ codes " 0000001000000000 00000001001c4404"
    ∷ [])
    -- hexdump, and od in each size of groups, and beside a column of text that shows their order
    × AreRead (Some (row_at Offset 0x10)) (
    codes "00000010  00 00 00 00 10 00 00 00  04 44 1c 00 01 00 00 00  |.........D......|"
    ∷ codes "0000020 00 00 00 00 10 00 00 00 04 44 1c 00 01 00 00 00"
    ∷ codes "0000020 0000 0000 0010 0000 4404 001c 0001 0000"
    ∷ codes "000010 00000000 00000010 001c4404 00000001"
    ∷ codes "0000020 0000001000000000 00000001001c4404"
    ∷ codes "000010 00000000 00000010 001c4404 00000001  >.........D......<"
    ∷ codes "000010 0000 0000 1000 0000 0444 1c00 0100 0000  >.........D......<"
    ∷ codes "000010 00000000 10000000 04441c00 01000000  >.........D......<"
    ∷ codes "000010 0000000010000000 04441c0001000000  >.........D......<"
    ∷ [])
    -- U-Boot in each size
    × AreRead (Some (row_at Marked 0x2E000010)) (
    codes "2e000010: 0000 0000 0010 0000 4404 001c 0001 0000    .........D......"
    ∷ codes "2e000010: 00000000 00000010 001c4404 00000001    .........D......"
    ∷ codes "2e000010: 0000001000000000 00000001001c4404    .........D......"
    ∷ [])
    -- gdb, and Lauterbach's debugger
    × AreRead (Some (row_at Marked 0x45000010)) (
    codes "0x45000010 <shmem+16>:\t0x0000001000000000\t0x00000001001c4404"
    ∷ codes " NSD:45000010|>00000000 00000010 001C4404 00000001 .........D......"
    ∷ codes "  SD:45000010|00 00 00 00 10 00 00 00 04 44 1C 00 01 00 00 00 .........D......"
    ∷ [])
    -- J-Link
    × AreRead (Some (row_at Equals 0x45000010)) (
    codes "45000010 = 00000000 00000010 001C4404 00000001 "
    ∷ codes "45000010 = 0000 0000 0010 0000 4404 001C 0001 0000 "
    ∷ [])
    -- addresses of 48 and of 64 bits
    × AreRead (Some (row_at Marked 0x5555555580B0)) (
    codes "0x5555555580b0 <shmem+16>:\t0x00000000\t0x00000010\t0x001c4404\t0x00000001" ∷ [])
    × AreRead (Some (row_at Marked 0xFFFF000045000010)) (
    codes "ffff000045000010:  0000001000000000 00000001001c4404   .........D......" ∷ [])
    -- addresses of more digits, but not as many as a group has
    × AreRead (Some (row_at Offset 0x80000010)) (
    codes "80000010 00 00 00 00 10 00 00 00 04 44 1c 00 01 00 00 00"
    ∷ codes "80000010 0000 0000 0010 0000 4404 001c 0001 0000"
    ∷ codes "80000010 0000001000000000 00000001001c4404"
    ∷ [])
    × AreRead (Some (row_at Offset 0x1080000010)) (
    codes "1080000010 00000000 00000010 001c4404 00000001" ∷ [])
    -- a column that shows either order
    × AreRead (Some (record { form = Offset; address = 0; bytes = None })) (
    codes "000000 00000000 00000001 00000000 00000000  >................<" ∷ [])
    -- and groups beside such a column, or without one, which may be bytes or numbers
    × AreRead (Some (record { form = Marked; address = 0; bytes = None })) (
    codes "00000000: 00000000 00000001 00000000 00000000  ................"
    ∷ codes "00000000: 0000 0000 1000 0000 0444 1c00 0100 0000"
    ∷ [])
    -- four bytes in a last row are no bits
    × (read_row (codes "000040 00000000                             >....<")
    ≡ Some (record { form = Offset; address = 0x40; bytes = Some (0 ∷ 0 ∷ 0 ∷ 0 ∷ []) }))
    -- an address and a value
    × (read_row (codes "0x2e000018 0x001C4404") ≡ Some (record
    { form = Marked; address = 0x2E000018; bytes = Some (0x04 ∷ 0x44 ∷ 0x1C ∷ 0 ∷ []) }))
    -- what is no row: a prompt, and bits in a row and in a shorter one
    × AreRead None (
    codes "=> md.l 0x2e000000 0x47"
    ∷ codes "00000018: 00000100 01000100 00011100 00000000 00000001 00000000  .D...."
    ∷ codes "0000007e: 00000000 00000000                                      .."
    ∷ [])
unfolding row_of without_prefix parts_at parts_row marked_parts offset_parts piped_parts address_of decode_pairs
rows = (refl, refl, refl, refl, refl, refl, refl, refl, refl, refl, refl, refl, refl, refl, refl)

-- as many: whether the first items of two rows may be their addresses
abbrev pub counts_both : Option RowView → Option RowView → Option Bool
counts_both (Some r) (Some s) = Some (counts (column_with (column_begun r) s))
counts_both _ _ = None

abbrev pub Count : Bool → List ((List ℕ) × List ℕ) → Type 0
Count is pairs =
    map (λ p. counts_both (row_of p.0) (row_of p.1)) pairs ≡ replicate (length pairs) (Some is)

pub columns :
    -- of od in hexadecimal, octal and decimal digits, and where it filled up the last number
    Count true ((
      codes "80000000 00000000 00000000 00000000 00000000",
      codes "80000010 00000000 00000010 001c4404 00000001",
    )
    ∷ (
      codes "10000000 00000000 00000000 00000000 00000000",
      codes "10000020 00000000 00000010 001c4404 00000001",
    )
    ∷ (
      codes "20000000 00000000 00000000 00000000 00000000",
      codes "20000016 00000000 00000010 001c4404 00000001",
    )
    ∷ (codes "80000020 00000000 40000000 00000000 00000000", codes "8000002e")
    ∷ [])
    × Count false (
    (codes "00000000 00000000 00000000 00000000", codes "00000000 00000010 001c4404 00000001")
    ∷ (codes "00000000", codes "00000000")
    ∷ [])
unfolding row_of without_prefix parts_at parts_row marked_parts offset_parts piped_parts address_of decode_pairs
columns = (refl, refl)

-- a number without leading zeros
pub devmem2 : read_row (codes "Value at address 0x45000018 (0xffff8018): 0x1C4404") ≡ Some
    (record { form = Value; address = 0x45000018; bytes = Some (0x04 ∷ 0x44 ∷ 0x1C ∷ 0 ∷ []) })
unfolding row_of without_prefix parts_at parts_row marked_parts offset_parts piped_parts address_of decode_pairs
devmem2 = refl

-- whether it is known how often `*` repeats the first row of a dump, and the second
abbrev pub repeats_one : Option RowView → Option Bool
repeats_one row = option_map (λ r. may_repeat r.form (end_of r)) row

abbrev pub repeats_two : Option RowView → Option RowView → Option Bool
repeats_two (Some r) (Some s) = Some (may_repeat r.form (extended (end_of r) s))
repeats_two _ _ = None

abbrev pub Repeat : Bool → List ((List ℕ) × List ℕ) → Type 0
Repeat is pairs =
    map (λ p. repeats_two (row_of p.0) (row_of p.1)) pairs ≡ replicate (length pairs) (Some is)

pub repeated :
    -- of hexdump and od -A d, whose addresses have other bases, and of od
    (repeats_one (row_of (codes "0000000 0000 0000 0000 0000 0000 0000 0000 0000")) ≡ Some false)
    × Repeat true ((
      codes "0000000 0000 0000 0000 0000 0000 0000 0000 0000",
      codes "0000020 0000 0000 0010 0000 4404 001c 0001 0000",
    )
    ∷ (
      codes "80000000 00000000 00000000 00000000 00000000",
      codes "80000010 00000000 00000010 001c4404 00000001",
    )
    ∷ [])
    -- rows of eight bytes, whose addresses may be decimal, and rows that have none
    × Repeat false ((
      codes "00000000: 0000 0000 0000 0000  ........",
      codes "00000008: 0000 0000 0000 0000  ........",
    )
    ∷ (codes "10000000 00000000 00000000", codes "10000008 00000000 00000000")
    ∷ (
      codes "00 00 00 00 00 00 00 00 00 00 00 00 00 00 00 00",
      codes "00 00 00 00 10 00 00 00 04 44 1c 00 01 00 00 00",
    )
    ∷ [])
unfolding row_of without_prefix parts_at parts_row marked_parts offset_parts piped_parts address_of decode_pairs end_of extended
repeated = (refl, refl, refl)

-- an address alone before 36 bytes, before 32, and words alone
abbrev pub AreWide : Bool → List (List ℕ) → Type 0
AreWide are lines =
    map (λ line. is_wide_row (slice_split is_gap line)) lines ≡ replicate (length lines) are

pub wide_rows :
    AreWide true (
    codes "10000000 0000000000000000 0000001000000000 00000001001c4404 4000000000000000 00000000"
    ∷ codes
    "0000000 00000000 00000000 00000000 00000000 00000000 00000010 001c4404 00000001 00000000"
    ∷ [])
    × AreWide false (
    codes "10000000 0000000000000000 0000001000000000 00000001001c4404 4000000000000000"
    ∷ codes
    "00000000 00000000 00000000 00000000 00000000 00000010 001c4404 00000001 00000000 40000000"
    ∷ [])
wide_rows = (refl, refl)

-- words, and bytes as xxd -p prints them
abbrev pub eight_area_words : List ℕ
eight_area_words = codes " 00000000 00000000 00000000 00000000 00000000 00000010 001c4404 00000001"

abbrev pub eight_zeros : List ℕ
eight_zeros = codes " 00000000 00000000 00000000 00000000 00000000 00000000 00000000 00000000"

abbrev pub six_longs : List ℕ
six_longs = codes " 0000000000000000 0000000000000000 0000000000000000" ++ codes
    " 0000000000000000 0000000000000000 0000000000000000"

abbrev pub thirty_bytes : List ℕ
thirty_bytes = codes "000000000000000000000000000000000000000010000000010000000000"

abbrev pub sixty_bytes : List ℕ
sixty_bytes = thirty_bytes ++ thirty_bytes

abbrev pub sixty_four_bytes : List ℕ
sixty_four_bytes = sixty_bytes ++ codes "00000000"

-- why a wide row and the line behind it are refused
abbrev pub LackOf : Layout → Option NoBytes → List ((List ℕ) × List ℕ) → Type 0
LackOf l why pairs = map (λ p. pair_lack l p.0 p.1) pairs ≡ replicate (length pairs) why

abbrev pub areas_of_60 : Layout
areas_of_60 = Each (record { offset = 0; words = 8; gap = 0 })

pub pairs :
    -- of od after addresses of eight digits in hexadecimal, octal and
    -- decimal digits, and after one of seven digits
    LackOf Whole (Some lack.WideRow) (
    (codes "10000000" ++ eight_zeros, codes "10000020" ++ eight_area_words)
    ∷ (codes "10000000" ++ eight_zeros, codes "10000040" ++ eight_area_words)
    ∷ (codes "20000000" ++ eight_zeros, codes "20000032" ++ eight_area_words)
    ∷ (codes "fffffe0" ++ eight_zeros, codes "10000000" ++ eight_area_words)
    ∷ [])
    -- the last line of od, which filled up the last number, also beside a size of areas
    × LackOf areas_of_60 (Some lack.WideRow) (
    (codes "10000000" ++ eight_area_words, codes "1000001e") ∷ [])
    -- words without addresses: two rows, and a row and the rest of an area; 284 bytes as numbers of
    -- 64 bits, of which od fills up the last; and 64 and 60 bytes
    × LackOf Whole (Some lack.Part) (
    (eight_area_words ++ eight_zeros, eight_zeros ++ eight_zeros)
    ∷ (eight_area_words ++ eight_zeros, codes "40000000 00000000")
    ∷ (six_longs ++ six_longs ++ six_longs, six_longs ++ six_longs ++ six_longs)
    ∷ (sixty_four_bytes, sixty_bytes)
    ∷ [])
    -- rows where areas have a size; 60 bytes and 64, and bytes and a blank line
    × LackOf areas_of_60 None (
    (eight_area_words ++ eight_zeros, eight_zeros ++ eight_zeros) ∷ [])
    × LackOf Whole None (
    (sixty_bytes, sixty_four_bytes)
    ∷ (sixty_four_bytes, codes " ")
    ∷ [])
unfolding decode_pairs
pairs = (refl, refl, refl, refl, refl)

pub part_sizes :
    -- sizes whose sum is that of the longest area, and more; and both from an offset on
    (may_be_parts Whole 0 (Some 142) (Some 142) ≡ true)
    × (may_be_parts Whole 3 (Some 144) (Some 144) ≡ false)
    × (may_be_parts (From 16) 3 (Some 156) (Some 144) ≡ true)
part_sizes = (refl, refl, refl)

-- the address at which a line ends a dump of one row
abbrev pub ends_at : (line end : List ℕ) → Option (Option ℕ)
ends_at line end = option_map (λ r. end_at (begun (no_dump Whole) 1 r) end) (row_of line)

abbrev pub NoEnd : List ((List ℕ) × List ℕ) → Type 0
NoEnd pairs = map (λ p. ends_at p.0 p.1) pairs ≡ replicate (length pairs) (Some None)

pub ends :
    (ends_at (codes "000110 0000000000000000 0000000000000000") (codes "00011c")
    ≡ Some (Some 0x11C))
    × (ends_at (codes "0000420 0000000000000000 0000000000000000") (codes "0000434")
    ≡ Some (Some 284))
    -- an end before the last number, and bytes behind the end
    × NoEnd (
    (codes "000110 0000000000000000 0000000000000000", codes "000118")
    ∷ (codes "000110 0000000000000000 0000000100000000", codes "00011c")
    ∷ [])
unfolding row_of without_prefix parts_at parts_row marked_parts offset_parts piped_parts address_of decode_pairs begun end_of is_filled_from line_end end_at
ends = (refl, refl, refl)

-- the lines that devmem2 prints beside each number
pub devmem2_opened : is_remark (codes "/dev/mem opened.") ≡ true
devmem2_opened = refl

pub devmem2_mapped : is_remark (codes "Memory mapped at address 0xffff8000.") ≡ true
devmem2_mapped = refl

-- 64 KiB
pub repeated_bytes : REPEATED_BYTES ≡ 65536
repeated_bytes = refl

-- ten bytes
pub sure_bytes : SURE_BYTES ≡ 10
sure_bytes = refl

-- two rows that go on with the first
pub sure_steps : SURE_STEPS ≡ 2
sure_steps = refl
