use Rattle.std.proofs.Common.{rules, ◌≡◌, ◌∙◌, sym, true}
use Rattle.scmi_plan.specs.BoardRows.{HasNames}
use Rattle.scmi_plan.specs.PlanError.{has_valid_counts}
use Rattle.scmi_c.specs.Tables.{board_in, tables_of}
use Rattle.scmi_c.proofs.TableLemmas.{agents_named, agents_unnamed, clocks_formed, clocks_unnamed, domains_formed, domains_unnamed, row_fault, rows_named}
use Rattle.scmi_c.proofs.tabled.board_rows.Goals as goal

pub add_agents-requires-clause-rows : goal.add_agents-requires-clause-rows
add_agents-requires-clause-rows c = agents_named (tables_of c.args.tables.now) c.requires.formed

pub add_domains-requires-clause-rows : goal.add_domains-requires-clause-rows
add_domains-requires-clause-rows c = domains_formed (tables_of c.args.tables.now) c.requires.formed

pub add_clocks-requires-clause-rows : goal.add_clocks-requires-clause-rows
add_clocks-requires-clause-rows c = clocks_formed (tables_of c.args.tables.now) c.requires.formed

pub returns-in_err-vendor-clause-fault : goal.returns-in_err-vendor-clause-fault
returns-in_err-vendor-clause-fault c =
    let t = tables_of c.args.tables.now in
    let counts : has_valid_counts (board_in t) ≡ true = sym c.has_valid_counts.ensures
    ∙ c.if-not-has_valid_counts.false in
    let broken = row_fault t _ counts (λ _.
    (c.in_err-vendor.ensures.fault.0, λ names. c.in_err-vendor.ensures.fault.1 names.vendor)) in
    search rules

pub returns-in_err-sub_vendor-clause-fault : goal.returns-in_err-sub_vendor-clause-fault
returns-in_err-sub_vendor-clause-fault c =
    let t = tables_of c.args.tables.now in
    let counts : has_valid_counts (board_in t) ≡ true = sym c.has_valid_counts.ensures
    ∙ c.if-not-has_valid_counts.false in
    let broken = row_fault t _ counts (λ _. (
      c.in_err-sub_vendor.ensures.fault.0,
      λ names. c.in_err-sub_vendor.ensures.fault.1 names.sub_vendor,
    )) in
    search rules

pub returns-in_err-add_agents-clause-fault : goal.returns-in_err-add_agents-clause-fault
returns-in_err-add_agents-clause-fault c =
    let t = tables_of c.args.tables.now in
    let counts : has_valid_counts (board_in t) ≡ true = sym c.has_valid_counts.ensures
    ∙ c.if-not-has_valid_counts.false in
    let broken = row_fault t _ counts (λ _. (
      c.in_err-add_agents.ensures.fault.0,
      agents_unnamed t c.in_err-add_agents.ensures.fault.1,
    )) in
    search rules

pub returns-in_err-add_domains-clause-fault : goal.returns-in_err-add_domains-clause-fault
returns-in_err-add_domains-clause-fault c =
    let t = tables_of c.args.tables.now in
    let counts : has_valid_counts (board_in t) ≡ true = sym c.has_valid_counts.ensures
    ∙ c.if-not-has_valid_counts.false in
    let broken = row_fault t _ counts (λ _. (
      c.in_err-add_domains.ensures.fault.0,
      domains_unnamed t c.in_err-add_domains.ensures.fault.1,
    )) in
    search rules

pub returns-in_err-add_clocks-clause-fault : goal.returns-in_err-add_clocks-clause-fault
returns-in_err-add_clocks-clause-fault c =
    let t = tables_of c.args.tables.now in
    let counts : has_valid_counts (board_in t) ≡ true = sym c.has_valid_counts.ensures
    ∙ c.if-not-has_valid_counts.false in
    let broken = row_fault t _ counts (λ other. (
      (c.in_err-add_clocks.ensures.fault other).0,
      clocks_unnamed t (c.in_err-add_clocks.ensures.fault other).1,
    )) in
    search rules

pub invariant_of-result : goal.invariant_of-result
invariant_of-result c =
    let t = tables_of c.args.tables.now in
    let counts : has_valid_counts (board_in t) ≡ true = sym c.has_valid_counts.ensures
    ∙ c.if-not-has_valid_counts.false in
    let names : HasNames (board_in t) = rows_named t c.in_ok-vendor.ensures.valid
    c.in_ok-sub_vendor.ensures.valid c.in_ok-add_agents.ensures.valid
    c.in_ok-add_domains.ensures.valid c.in_ok-add_clocks.ensures.valid in
    search rules
