use Rattle.std.proofs.Common.{◌≡◌, ◌+◌, ◌≤◌, length, refl, sym, ◌∙◌, arith, rules, tests}
use Rattle.std.specs.List.{position_or_len}
use Rattle.std.proofs.lemmas.Iterator.{YieldsList-from_slice}
use Rattle.std.proofs.lemmas.Iterator.Search.{position_from_yields_List}
use Rattle.std.proofs.lemmas.List.{take_all, take_rest, drop_all}
use Rattle.scmi_io.specs.Lines.{is_line_feed}
use Rattle.scmi_io.proofs.Holes.{place_found, found_at, all_before}
use Rattle.scmi_explain.proofs.text.split_first.Goals as goal
use Rattle.scmi_explain.proofs.text.split_first.Goals.{In-None, In-Some}

-- the search ends at the first line feed
feed : (c : In-Some) → position_or_len is_line_feed c.args.input.now ≡ c.in-Some.place
feed c =
    let found : c.position.result ≡ place_found is_line_feed c.args.input.now =
    position_from_yields_List is_line_feed _ _ c.position.result c.position.ensures.ran
    (YieldsList-from_slice _ c.iter.ensures.rest) (λ x b q k. search (rules, tests)) in
    found_at is_line_feed c.args.input.now c.in-Some.place (sym found ∙ c.in-Some.is)

-- no byte is a line feed
no_feed : (c : In-None) → length c.args.input.now ≤ position_or_len is_line_feed c.args.input.now
no_feed c =
    let found : c.position.result ≡ place_found is_line_feed c.args.input.now =
    position_from_yields_List is_line_feed _ _ c.position.result c.position.ensures.ran
    (YieldsList-from_slice _ c.iter.ensures.rest) (λ x b q k. search (rules, tests)) in
    all_before is_line_feed c.args.input.now (sym found ∙ c.in-None.is)

pub returns-in-Some-clause-line : goal.returns-in-Some-clause-line
returns-in-Some-clause-line c = rw (feed (goal.at.returns-in-Some-clause-line c).In-Some) refl

pub returns-in-Some-clause-rest : goal.returns-in-Some-clause-rest
returns-in-Some-clause-rest c = rw (feed (goal.at.returns-in-Some-clause-rest c).In-Some)
    (take_rest c.args.input.now (c.in-Some.place + 1))

pub returns-in-None-clause-line : goal.returns-in-None-clause-line
returns-in-None-clause-line c =
    sym (take_all _ c.args.input.now (no_feed (goal.at.returns-in-None-clause-line c).In-None))

pub returns-in-None-clause-rest : goal.returns-in-None-clause-rest
returns-in-None-clause-rest c =
    let all : length c.args.input.now ≤ position_or_len is_line_feed c.args.input.now =
    no_feed (goal.at.returns-in-None-clause-rest c).In-None in
    sym (drop_all _ c.args.input.now (omega (arith, all)))
