use Rattle.std.proofs.Common.{◌≡◌, ℕ, true, length, ap, ◌∙◌, sym, subst}
use Rattle.std.specs.List.{All}
use Rattle.std.proofs.lemmas.List.{length-map}
use Rattle.scmi_plan.specs.Board.{Board}
use Rattle.scmi_c.specs.Tables.{agent_lines, clock_in, device_in, domain_in, domain_lines, is_said_row, lines_from, tables_of}
use Rattle.scmi_c.proofs.TableLemmas.{agents_said, heading_formed, rows_said}
use Rattle.scmi_c.proofs.table_lines.set_lines.Goals as goal

pub set_agents-requires-clause-rows : goal.set_agents-requires-clause-rows
set_agents-requires-clause-rows c =
    let t = tables_of c.args.tables.now in
    let devices : length c.args.plan.now.devices ≡ length t.devices =
    ap (λ (b : Board). length b.devices) c.requires.board ∙ length-map t.devices device_in in
    let P : ℕ → Type 0 = λ n. All (λ row. is_said_row n row ≡ true) t.agents in
    subst P (sym devices) (agents_said t c.requires.formed)

pub set_domains-requires : goal.set_domains-requires
set_domains-requires c =
    let t = tables_of c.args.tables.now in
    let alike = rows_said c.args.plan.now c.set_agents.new.plan
    (lines_from agent_lines 1 t.agents) c.set_agents.ensures.lines in
    let domains : length c.args.plan.now.domains ≡ length t.domains =
    ap (λ (b : Board). length b.domains) c.requires.board ∙ length-map t.domains domain_in in
    record { domains = sym (alike.domains ∙ domains) }

pub set_clocks-requires : goal.set_clocks-requires
set_clocks-requires c =
    let t = tables_of c.args.tables.now in
    let agents = rows_said c.args.plan.now c.set_agents.new.plan
    (lines_from agent_lines 1 t.agents) c.set_agents.ensures.lines in
    let kept = rows_said c.set_agents.new.plan c.set_domains.new.plan
    (lines_from domain_lines 0 t.domains) c.set_domains.ensures.lines in
    let clocks : length c.args.plan.now.clocks ≡ length t.clocks =
    ap (λ (b : Board). length b.clocks) c.requires.board ∙ length-map t.clocks (clock_in t.rates) in
    record { clocks = sym (kept.clocks ∙ agents.clocks ∙ clocks) }

pub set_heading-requires : goal.set_heading-requires
set_heading-requires c = heading_formed (tables_of c.args.tables.now) c.requires.formed
