use Rattle.std.proofs.Common.{rules, ◌≡◌, ◌∙◌, length, string_bytes}
use Rattle.std.proofs.lemmas.List.{length-map}
use Rattle.scmi_plan.specs.RawPlan.{asked_board, asked_clock, asked_domain}
use Rattle.scmi_plan.proofs.fault.has_valid_counts.Goals as goal

pub returns : goal.returns
returns c =
    let raw = c.args.raw.now in
    let agents : length raw.agents.items ≡ c.len.result = search rules in
    let domains : length raw.domains.items ≡ c.len-2.result = search rules in
    let clocks : length raw.clocks.items ≡ c.len-3.result = search rules in
    let devices : length raw.devices.items ≡ c.len-4.result = search rules in
    c.are_valid_counts.ensures (asked_board raw) (length-map raw.agents.items string_bytes ∙ agents)
    (length-map raw.domains.items asked_domain ∙ domains)
    (length-map raw.clocks.items asked_clock ∙ clocks) devices
