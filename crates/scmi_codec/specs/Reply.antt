-- A reply by its checks: the status of the first that fails, or else the row of the command's
-- table.
use Rattle.std.specs.Prelude.{◌≡◌, ◌≢◌, ℕ, Bool, List, [], ◌∷◌, if◌then◌else◌, ◌==◌, ◌%◌, nat_lt, Result, Ok, Err, MatchResult}
use Rattle.scmi_codec.specs.Status.{status_word}
use Rattle.scmi_codec.specs.declared.status.Status.{Status}
use Rattle.scmi_codec.specs.declared.status.Status.TheVariants.{InvalidParameters, Success}

-- a check: whether it fails, and the status that it then gives
abbrev pub Check : Type 0
Check = Bool × Status

-- the status of the first check that fails, alone, or else the row
abbrev pub reply_unless : List Check → List ℕ → List ℕ
reply_unless [] row = row
reply_unless (check ∷ checks) row = if check.0 then status_word check.1 ∷ []
    else reply_unless checks row

-- what checks decide, in the words of a reply: SUCCESS alone if each passes, or else the status of
-- the first that fails
abbrev pub AreDecided : {T : Type 0} → List ℕ → Result T Status → Type 0
AreDecided words r = MatchResult r (λ _. words ≡ 0 ∷ [])
    (λ status. (words ≡ status_word status ∷ []) × (status ≢ Success))

-- whether bit 0 of a word of flags is set
abbrev pub bit_0 : ℕ → Bool
bit_0 flags = flags % 2 == 1

-- whether any bit but bit 0 is set
abbrev pub other_bits : ℕ → Bool
other_bits flags = nat_lt 1 flags

-- bit 0 of a word of flags, if no other is set
abbrev pub single_flag : ℕ → Result Bool Status
single_flag flags = if other_bits flags then Err InvalidParameters else Ok (bit_0 flags)
