-- The first column of rows without addresses: it may be one of addresses.
use Rattle.std.specs.Prelude.{ℕ, ◌+◌, ◌-◌, ◌%◌, ◌^◌, ◌&&◌, ◌||◌, nat_le, nat_lt, not, Bool, if◌then◌else◌, List, Option, Some, None, is_some}
use Rattle.scmi_decode.specs.Cell.{settled}
use Rattle.scmi_decode.specs.declared.cell.Cell.{Cell}
use Rattle.scmi_decode.specs.declared.first_column.FirstColumn.{FirstColumn}
use Rattle.scmi_decode.specs.declared.first_column.TheConstants.{SURE_STEPS}
use Rattle.scmi_decode.specs.declared.no_bytes.NoBytes.{NoBytes}
use Rattle.scmi_decode.specs.declared.no_bytes.NoBytes.TheVariants as lack
use Rattle.scmi_decode.specs.declared.order.Order.{Order}

-- no address in any base
abbrev pub no_column : FirstColumn
no_column = record { hexadecimal = None; decimal = None; octal = None; steps = 0 }

-- an address after so many bytes
abbrev pub later : (count : ℕ) → Option ℕ → Option ℕ
later count None = None
later count (Some n) = Some ((n + count) % 2 ^ 64)

-- the addresses after so many bytes
abbrev pub column_after : (count : ℕ) → FirstColumn → FirstColumn
column_after count c = record {
  hexadecimal = later count c.hexadecimal;
  decimal = later count c.decimal;
  octal = later count c.octal;
  steps = c.steps;
}

-- an address, if it is the expected one or at most so many bytes before it
abbrev pub met : (slack : ℕ) → (expected found : Option ℕ) → Option ℕ
met slack (Some n) (Some m) = if nat_le m n && nat_le (n - m) slack then Some m else None
met slack _ _ = None

-- the addresses of an item in those bases in which it is the expected one
abbrev pub met_by : (slack : ℕ) → (expected found : FirstColumn) → FirstColumn
met_by slack c item = record {
  hexadecimal = met slack c.hexadecimal item.hexadecimal;
  decimal = met slack c.decimal item.decimal;
  octal = met slack c.octal item.octal;
  steps = c.steps;
}

-- whether there is an address in one base at least
abbrev pub has_base : FirstColumn → Bool
has_base c = is_some c.hexadecimal || is_some c.decimal || is_some c.octal

-- one more row, if it goes on with the addresses
abbrev pub stepped : FirstColumn → FirstColumn
stepped c = if has_base c && nat_lt c.steps SURE_STEPS then record c { steps = c.steps + 1 } else c

-- a column that goes on with an item, before so many bytes
abbrev pub followed : (slack count : ℕ) → (c item : FirstColumn) → FirstColumn
followed slack count c item = column_after count (stepped (met_by slack c item))

-- whether a column may be one of addresses: it counts the bytes of all rows, or it did so of the
-- first three
abbrev pub counts : FirstColumn → Bool
counts c = not (nat_lt c.steps SURE_STEPS) || (nat_lt 0 c.steps && has_base c)

-- whether it counts in hexadecimal digits alone
abbrev pub is_hexadecimal_alone : FirstColumn → Bool
is_hexadecimal_alone c = is_some c.hexadecimal && not (is_some c.decimal) && not (is_some c.octal)

-- the bytes of rows with this column, none if it may be one of addresses
abbrev pub bytes_beside : FirstColumn → Order → List Cell → Option (List ℕ)
bytes_beside c o cells = if counts c then None else settled o cells

-- why they have none
abbrev pub lack_beside : FirstColumn → NoBytes
lack_beside c = if counts c then lack.Address else lack.Order
