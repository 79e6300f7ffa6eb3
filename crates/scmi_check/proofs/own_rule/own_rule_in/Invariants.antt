use Rattle.std.proofs.Common.{◌≡◌, length}
use Rattle.std.specs.List.{find}
use Rattle.scmi_check.specs.Own.{is_by}
use Rattle.scmi_check.proofs.own_rule.own_rule_in.Given as goal

abbrev pub invariant-loop-rules : goal.invariant-loop-rules
invariant-loop-rules l = find (λ rule. is_by rule l.command l.due l.seen) l.rules
    ≡ find (λ rule. is_by rule l.command l.due l.seen) l.initial.rules

abbrev pub decreases-loop-rules : goal.decreases-loop-rules
decreases-loop-rules l = length l.rules
