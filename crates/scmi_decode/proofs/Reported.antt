-- Findings that are reported one after the other.
use Rattle.std.proofs.Common.{List, [], ◌++◌, Option, None, Some, ◌∙◌, sym, ap, append_assoc, append-nil}
use Rattle.scmi_decode.specs.Reported.{Reported}
use Rattle.scmi_decode.specs.declared.finding.Finding.{Finding}

pub reported_nil : (a : Option (List Finding)) → Reported a a []
reported_nil None = tt
reported_nil (Some xs) = sym (append-nil xs)

pub reported_trans : (a b c : Option (List Finding)) (fs gs : List Finding) → Reported a b fs
    → Reported b c gs → Reported a c (fs ++ gs)
reported_trans None b c fs gs p q = tt
reported_trans (Some xs) None c fs gs p q = absurd p
reported_trans (Some xs) (Some ys) None fs gs p q = absurd q
reported_trans (Some xs) (Some ys) (Some zs) fs gs p q = q ∙ ap (λ l. l ++ gs) p
    ∙ append_assoc xs fs gs
