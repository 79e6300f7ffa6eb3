use Rattle.std.proofs.Common.{ℕ, Option, length, ap, ◌∙◌}
use Rattle.std.specs.Option.{unwrap_or}
use Rattle.scmi_board.proofs.PlaceLemmas.{place_or_length, place_within}
use Rattle.scmi_board.proofs.protocol_row.count_of.Goals as goal

pub returns : goal.returns
returns c =
    let row = c.args.row.now in
    let is = c.unwrap_or.ensures ∙ ap
    (λ (o : Option ℕ). unwrap_or o (length row)) c.zero_place.ensures ∙ place_or_length _ row in
    record { count = is; within = rw is (place_within _ row) }
