-- What is added to the findings that were taken.
use Rattle.std.specs.Prelude.{◌≡◌, List, ◌++◌, Option, None, Some, ⊤}
use Rattle.scmi_decode.specs.declared.finding.Finding.{Finding}

-- the known findings grow by these
abbrev pub Reported : (old new : Option (List Finding)) → List Finding → Type 0
Reported None new found = ⊤
Reported (Some xs) None found = ⊥
Reported (Some xs) (Some ys) found = ys ≡ xs ++ found
