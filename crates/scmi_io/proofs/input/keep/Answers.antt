use Rattle.std.proofs.Common.{◌∷◌, [], arith}
use Rattle.std.proofs.lemmas.List.{take-append-le}
use Rattle.std.proofs.Math.Seq.{take-length}
use Rattle.std.proofs.lemmas.Grind.{common_steps}
use Rattle.scmi_io.specs.declared.input.TheConstants.{KEPT_BYTES}
use Rattle.scmi_io.proofs.input.keep.Goals as goal

pub returns-else-not-is_full : goal.returns-else-not-is_full
returns-else-not-is_full c =
    let kept = c.args.kept.now.items in
    let e = take-append-le KEPT_BYTES kept (c.args.byte ∷ []) in
    let w = take-length kept in
    grind (arith, common_steps)
