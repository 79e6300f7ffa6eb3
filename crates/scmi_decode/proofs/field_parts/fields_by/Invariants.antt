use Rattle.std.proofs.Common.{◌≡◌, ◌≤◌, ◌++◌, drop, length}
use Rattle.scmi_decode.specs.FieldParts.{fields_by}
use Rattle.scmi_decode.proofs.field_parts.fields_by.Given as goal

abbrev pub invariant-parts : goal.invariant-parts
invariant-parts l =
    (l.fields.items ++ fields_by (drop l.part-index l.parts) l.words
    ≡ fields_by l.parts l.initial.words)
    × (length l.fields.items ≤ l.part-index)
