use Rattle.std.proofs.Common.{◌≡◌, map, take}
use Rattle.scmi_plan.specs.RawPlan.{asked_domain}
use Rattle.scmi_plan.proofs.build.build_domains.Given as goal

abbrev pub invariant-loop-domain : goal.invariant-loop-domain
invariant-loop-domain l = l.domains.items ≡ map asked_domain (take l.domain-index l.raw)
