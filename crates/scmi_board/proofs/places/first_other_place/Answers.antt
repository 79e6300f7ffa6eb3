use Rattle.std.proofs.Common.{ℕ, Option, length, ap, ◌∙◌}
use Rattle.std.specs.Option.{unwrap_or}
use Rattle.scmi_board.proofs.PlaceLemmas.{place_or_length, place_within}
use Rattle.scmi_board.proofs.places.first_other_place.Goals as goal

pub returns : goal.returns
returns c =
    let text = c.args.text.now in
    let is = c.unwrap_or.ensures ∙ ap (λ (o : Option ℕ). unwrap_or o (length text))
    c.other_place_of.ensures ∙ place_or_length _ text in
    record { place = is; within = rw is (place_within _ text) }
