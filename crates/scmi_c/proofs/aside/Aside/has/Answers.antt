use Rattle.std.proofs.Common.{◌≡◌, ◌<◌, ◌-◌, length, None, refl, arith}
use Rattle.scmi_c.specs.Kept.{aside_by}
use Rattle.scmi_c.proofs.Places.{has-none, past-places}
use Rattle.scmi_c.proofs.aside.Aside.has.Goals as goal
use Rattle.scmi_c.proofs.aside.Aside.has.Goals.{then-agent-eq0-via-then-agent-eq0, then-agent-eq0-via-else-agent-eq0+then-agent-gt-AGENTS}

pub returns-then-agent-eq0-clause-none : goal.returns-then-agent-eq0-clause-none
returns-then-agent-eq0-clause-none c =
    let few : length c.args.self.now.slots ≡ 8 = c.requires in
    elim c.then-agent-eq0.branch [
      | then-agent-eq0-via-then-agent-eq0 w ↦ let none : aside_by c.args.self.now.slots c.args.agent
          ≡ None = rw w.if-agent-eq0.true refl in (λ off. none, λ off. refl)
      | then-agent-eq0-via-else-agent-eq0+then-agent-gt-AGENTS w ↦ let none = past-places
          c.args.self.now.slots c.args.agent (omega (arith, few)) in (λ off. none, λ off. refl)
    ]

pub returns-clause-none : goal.returns-clause-none
returns-clause-none c =
    let few : length c.args.self.now.slots ≡ 8 = c.requires in
    let within : c.args.agent - 1 < length c.args.self.now.slots = omega (arith, few) in
    has-none c.args.self.now.slots c.args.agent c.index-self-agent.result (omega arith) within
