use Rattle.std.proofs.Common.{◌≡◌, ◌+◌, ◌<◌, get_or, length, rules, ap, ◌∙◌, string_bytes}
use Rattle.scmi_chart.specs.Signs.{lane}
use Rattle.scmi_chart.proofs.Heads.{heads_step}
use Rattle.scmi_chart.proofs.lifelines.lifelines_of.Goals as goal

pub agents-preserved : goal.agents-preserved
agents-preserved c =
    let counted : c.len.result ≡ c.agents.name-index = search rules in
    let below : c.agents.name-index < length c.args.board.now.agents.items = search rules in
    record {
      count = search rules;
      heads = heads_step string_bytes c.args.board.now.agents.items c.agents.name-index
          c.name-item.result c.agents.lifelines.items _ _ below c.in_ok-push.ensures.items
          c.agents.invariant.heads (c.lane_behind-agent.ensures ∙ ap (λ n. lane (1 + n)) counted)
          (c.in_ok-from_slice.ensures.items
          ∙ c.as_bytes.ensures.value ∙ ap string_bytes c.name-item.is ∙ ap (λ agents. string_bytes
          (get_or agents c.agents.name-index c.name-item.result)) c.deref-name-items.ensures.value);
    }
