use Rattle.std.proofs.Common.{ℕ, Option, length, ap, ◌∙◌}
use Rattle.std.specs.Option.{unwrap_or}
use Rattle.scmi_board.proofs.PlaceLemmas.{place_or_length, place_within}
use Rattle.scmi_c.proofs.tabled.name_length.Goals as goal

pub returns : goal.returns
returns c =
    let name = c.args.name.now in
    let is = c.unwrap_or.ensures ∙ ap (λ (o : Option ℕ). unwrap_or o (length name))
    c.zero_place.ensures ∙ place_or_length _ name in
    record { length = is; within = rw is (place_within _ name) }
