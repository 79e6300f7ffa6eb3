use Rattle.std.proofs.Common.{◌≡◌, ◌+◌, ◌≤◌, length, refl, sym, ◌∙◌, arith, rules, tests}
use Rattle.std.specs.List.{position_or_len}
use Rattle.std.proofs.lemmas.Iterator.{YieldsList-from_slice}
use Rattle.std.proofs.lemmas.Iterator.Search.{position_from_yields_List}
use Rattle.std.proofs.lemmas.List.{take_all, take_rest, drop_all}
use Rattle.scmi_io.specs.Filled.{is_hole}
use Rattle.scmi_io.proofs.Holes.{place_found, found_at, all_before}
use Rattle.scmi_io.proofs.filled.split_at_hole.Goals as goal
use Rattle.scmi_io.proofs.filled.split_at_hole.Goals.{In-None, In-Some}

-- the search ends at the first hole
hole : (c : In-Some) → position_or_len is_hole c.args.text.now ≡ c.in-Some.hole
hole c =
    let found : c.position.result ≡ place_found is_hole c.args.text.now =
    position_from_yields_List is_hole _ _ c.position.result c.position.ensures.ran
    (YieldsList-from_slice _ c.iter.ensures.rest) (λ x b q k. search (rules, tests)) in
    found_at is_hole c.args.text.now c.in-Some.hole (sym found ∙ c.in-Some.is)

-- no byte is a hole
no_hole : (c : In-None) → length c.args.text.now ≤ position_or_len is_hole c.args.text.now
no_hole c =
    let found : c.position.result ≡ place_found is_hole c.args.text.now =
    position_from_yields_List is_hole _ _ c.position.result c.position.ensures.ran
    (YieldsList-from_slice _ c.iter.ensures.rest) (λ x b q k. search (rules, tests)) in
    all_before is_hole c.args.text.now (sym found ∙ c.in-None.is)

pub returns-in-Some-clause-start : goal.returns-in-Some-clause-start
returns-in-Some-clause-start c = rw (hole (goal.at.returns-in-Some-clause-start c).In-Some) refl

pub returns-in-Some-clause-rest : goal.returns-in-Some-clause-rest
returns-in-Some-clause-rest c = rw (hole (goal.at.returns-in-Some-clause-rest c).In-Some)
    (take_rest c.args.text.now (c.in-Some.hole + 1))

pub returns-in-None-clause-start : goal.returns-in-None-clause-start
returns-in-None-clause-start c =
    sym (take_all _ c.args.text.now (no_hole (goal.at.returns-in-None-clause-start c).In-None))

pub returns-in-None-clause-rest : goal.returns-in-None-clause-rest
returns-in-None-clause-rest c =
    let all : length c.args.text.now ≤ position_or_len is_hole c.args.text.now =
    no_hole (goal.at.returns-in-None-clause-rest c).In-None in
    sym (drop_all _ c.args.text.now (omega (arith, all)))
