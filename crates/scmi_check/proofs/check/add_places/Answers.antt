use Rattle.std.proofs.Common.{◌∙◌, [], arith}
use Rattle.scmi_check.proofs.check.add_places.Goals as goal

pub places-preserved : goal.places-preserved
places-preserved c =
    let before = c.places.invariant in
    record {
      board = c.add_place.ensures.board ∙ before.board;
      unseen = c.add_place.ensures.unseen ∙ before.unseen;
      knows = c.add_place.ensures.knows [] before.knows;
      places =
          let one = c.in_ok-add_place.ensures.place in
          let so_far = before.places in
          omega (arith, one, so_far);
    }

pub kept-preserved : goal.kept-preserved
kept-preserved c =
    let before = c.kept.invariant in
    record {
      board = c.add_look_back.ensures.board ∙ before.board;
      unseen = c.add_look_back.ensures.unseen ∙ before.unseen;
      knows = c.add_look_back.ensures.knows [] before.knows;
      places = c.add_look_back.ensures.places ∙ before.places;
    }
