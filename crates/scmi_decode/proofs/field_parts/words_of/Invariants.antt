use Rattle.std.proofs.Common.{◌≡◌, ◌+◌, ◌*◌, ◌≤◌, drop}
use Rattle.scmi_codec.specs.Listing.{words_of}
use Rattle.scmi_decode.proofs.field_parts.words_of.Given as goal

abbrev pub invariant-parts : goal.invariant-parts
invariant-parts l = (l.words + words_of (drop l.part-index l.parts) ≡ words_of l.parts)
    × (l.words ≤ 4 * l.part-index)
