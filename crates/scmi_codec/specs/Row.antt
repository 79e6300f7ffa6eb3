-- How a table of commands is read: by message id, then by the number of payload words.
use Rattle.std.specs.Prelude.{ℕ, ◌==◌, Bool, if◌then◌else◌, List, length, Option, Some, None, Result, Ok, Err}
use Rattle.std.specs.List.{find, list_any}
use Rattle.scmi_codec.specs.declared.status.Status.{Status}
use Rattle.scmi_codec.specs.declared.status.Status.TheVariants.{ProtocolError, NotSupported}

-- a row of a protocol's table: message id, number of payload words, and the command that the words
-- give
abbrev pub Row : Type 0 → Type 0
Row C = ℕ × ℕ × (List ℕ → C)

-- the command of a row, if the payload has its number of words
abbrev pub row_of : {C : Type 0} → List ℕ → Option (Row C) → Result C Status
row_of words None = Err NotSupported
row_of words (Some row) = if length words == row.1 then Ok (row.2 words) else Err ProtocolError

-- the command of a message id and payload words by a table, or the status of the first check that
-- fails
abbrev pub from_table : {C : Type 0} → List (Row C) → ℕ → List ℕ → Result C Status
from_table rows id words = row_of words (find (λ row. row.0 == id) rows)

-- whether a table has a message id
abbrev pub is_listed : {C : Type 0} → List (Row C) → ℕ → Bool
is_listed rows id = list_any (λ row. row.0 == id) rows
