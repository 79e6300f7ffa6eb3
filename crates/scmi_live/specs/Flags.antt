-- Flags by their names.
use Rattle.std.specs.Prelude.{ℕ, if◌then◌else◌, List, [], ◌∷◌, map, Option, Some, None}
use Rattle.std.specs.Borrow.{Bor}
use Rattle.scmi_codec.specs.declared.messages.Part.{Part}
use Rattle.scmi_codec.specs.declared.messages.Part.TheVariants as part
use Rattle.scmi_live.specs.Letters.{is_word}
use Rattle.scmi_live.specs.declared.flags.FlagsRow.{FlagsRow}
use Rattle.scmi_live.specs.declared.flags.TheConstants.{PERMIT_FLAGS, POWER_FLAGS, RATE_FLAGS, RESET_FLAGS}

-- a row, with its name as bytes
abbrev pub said : FlagsRow (Bor (List ℕ)) → FlagsRow (List ℕ)
said row = record { name = row.name.now; word = row.word }

-- the word of the first row that has this name
abbrev pub flags_in : List ℕ → List (FlagsRow (List ℕ)) → Option ℕ
flags_in item [] = None
flags_in item (row ∷ rows) = if is_word item row.name then Some row.word else flags_in item rows

-- the names of flags that a message may have in the place of this part
abbrev pub flags_of : Part → List (FlagsRow (List ℕ))
flags_of part.PermitFlags = map (λ r. record { name = r.name.now; word = r.word }) PERMIT_FLAGS
flags_of part.ResetFlags = map (λ r. record { name = r.name.now; word = r.word }) RESET_FLAGS
flags_of part.PowerFlags = map (λ r. record { name = r.name.now; word = r.word }) POWER_FLAGS
flags_of part.RateFlags = map (λ r. record { name = r.name.now; word = r.word }) RATE_FLAGS
flags_of part = []
