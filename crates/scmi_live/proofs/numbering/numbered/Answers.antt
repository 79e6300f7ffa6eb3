use Rattle.std.proofs.Common.{IfOk, List, Result, Ok, Err, string_bytes, sym, ◌∙◌, ap}
use Rattle.std.proofs.lemmas.List.{length-map}
use Rattle.scmi_board.specs.BoardLines.{Described, described, described_left}
use Rattle.scmi_board.specs.Lines.{Line, lines_left}
use Rattle.scmi_live.proofs.Numbers.{lines_same, no_names, of_board}
use Rattle.scmi_live.proofs.numbering.numbered.Goals as goal

if_ok : {T E : Type 0} {P Q : T → Type 0} (r : Result T E) → IfOk r P
    → ((x : T) → P x → Q x) → IfOk r Q
if_ok (Ok x) holds then = then x holds
if_ok (Err e) holds then = tt

pub returns-in-Ok-agent_count-clause-stays : goal.returns-in-Ok-agent_count-clause-stays
returns-in-Ok-agent_count-clause-stays c =
    let found : Described × List Line =
    (described c.in-Ok.said, lines_left c.read_board_with_lines.new.lines) in
    let there = sym (ap described_left (lines_same c.new-lines.result c.args.text.now
    c.new-lines.ensures.rest c.new-lines.ensures.number)) ∙ c.in-Ok.ensures.board in
    let count = c.in-Ok-agent_count.ensures.agents
    ∙ sym (length-map c.in-Ok.said.board.agents.items string_bytes) in
    if_ok c.numbered_lines.result c.numbered_lines.ensures
    (λ made numbers none. no_names c.args.text.now made.items (of_board c.args.text.now
    made.items found c.in-Ok-agent_count.agents there count numbers) none)
