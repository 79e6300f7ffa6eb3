use Rattle.std.proofs.Common.{rules, ◌≡◌, ◌↔◌, ◌^◌, ◌&&◌, ◌||◌, nat_le, nat_lt, length, None, Some, sym, subst, ◌∙◌}
use Rattle.std.specs.List.{list_all}
use Rattle.scmi_plan.specs.BoardRows.{board_of_rows}
use Rattle.scmi_plan.specs.Plan.{IsValid}
use Rattle.scmi_plan.specs.PlanError.{first_fault, has_trusted_agent, has_valid_clocks, has_valid_devices, is_valid, supports}
use Rattle.scmi_plan.specs.declared.plan_error.PlanError.TheVariants as error
use Rattle.scmi_plan.proofs.FaultLemmas.{device_fault, no_fault, rates_fault, trusted_fault, valid_rows}
use Rattle.scmi_plan.proofs.board_rows.BoardRows.fault.Goals as goal

pub returns-then-not-are_valid_clocks-clause-fault :
    goal.returns-then-not-are_valid_clocks-clause-fault
returns-then-not-are_valid_clocks-clause-fault c =
    let rows = c.self.inside in
    let clocks : c.are_valid_clocks.result ≡ has_valid_clocks (board_of_rows rows) =
    subst (λ items. c.are_valid_clocks.result ≡ list_all
    (λ clock. is_valid clock.rates && (rows.loose || supports clock.rates clock.rate)) items)
    c.deref.ensures.value c.are_valid_clocks.ensures in
    subst (λ board. Some error.Rates ≡ first_fault board) c.self.view_is
    (sym (rates_fault rows c.self.invariant (sym clocks ∙ c.if-not-are_valid_clocks.true)))

pub returns-then-not-are_valid_devices-clause-fault :
    goal.returns-then-not-are_valid_devices-clause-fault
returns-then-not-are_valid_devices-clause-fault c =
    let rows = c.self.inside in
    let clocks : c.are_valid_clocks.result ≡ has_valid_clocks (board_of_rows rows) =
    subst (λ items. c.are_valid_clocks.result ≡ list_all
    (λ clock. is_valid clock.rates && (rows.loose || supports clock.rates clock.rate)) items)
    c.deref.ensures.value c.are_valid_clocks.ensures in
    let n : c.len.result ≡ length rows.domains.items = search rules in
    let m : c.len-else-not-are_valid_clocks.result ≡ length rows.clocks.items = search rules in
    let devices : c.are_valid_devices.result ≡ has_valid_devices (board_of_rows rows) =
    subst (λ k. c.are_valid_devices.result ≡ list_all (λ device. nat_lt device.domains (2 ^ k)
    && nat_lt device.clocks (2 ^ length rows.clocks.items)) rows.devices.items) n
    (subst (λ k. c.are_valid_devices.result ≡ list_all (λ device. nat_lt device.domains
    (2 ^ c.len.result) && nat_lt device.clocks (2 ^ k)) rows.devices.items) m
    (subst (λ items. c.are_valid_devices.result ≡ list_all (λ device. nat_lt device.domains (2
    ^ c.len.result) && nat_lt device.clocks (2 ^ c.len-else-not-are_valid_clocks.result)) items)
    c.deref-else-not-are_valid_clocks.ensures.value c.are_valid_devices.ensures)) in
    subst (λ board. Some error.Device ≡ first_fault board) c.self.view_is
    (sym (device_fault rows c.self.invariant (sym clocks ∙ c.if-not-are_valid_clocks.false)
    (sym devices ∙ c.if-not-are_valid_devices.true)))

pub returns-then-not-is_trusted_agent-clause-fault :
    goal.returns-then-not-is_trusted_agent-clause-fault
returns-then-not-is_trusted_agent-clause-fault c =
    let rows = c.self.inside in
    let clocks : c.are_valid_clocks.result ≡ has_valid_clocks (board_of_rows rows) =
    subst (λ items. c.are_valid_clocks.result ≡ list_all
    (λ clock. is_valid clock.rates && (rows.loose || supports clock.rates clock.rate)) items)
    c.deref.ensures.value c.are_valid_clocks.ensures in
    let n : c.len.result ≡ length rows.domains.items = search rules in
    let m : c.len-else-not-are_valid_clocks.result ≡ length rows.clocks.items = search rules in
    let devices : c.are_valid_devices.result ≡ has_valid_devices (board_of_rows rows) =
    subst (λ k. c.are_valid_devices.result ≡ list_all (λ device. nat_lt device.domains (2 ^ k)
    && nat_lt device.clocks (2 ^ length rows.clocks.items)) rows.devices.items) n
    (subst (λ k. c.are_valid_devices.result ≡ list_all (λ device. nat_lt device.domains
    (2 ^ c.len.result) && nat_lt device.clocks (2 ^ k)) rows.devices.items) m
    (subst (λ items. c.are_valid_devices.result ≡ list_all (λ device. nat_lt device.domains (2
    ^ c.len.result) && nat_lt device.clocks (2 ^ c.len-else-not-are_valid_clocks.result)) items)
    c.deref-else-not-are_valid_clocks.ensures.value c.are_valid_devices.ensures)) in
    let agents : c.len-else-not-are_valid_devices.result ≡ length rows.agents.items =
    search rules in
    let trusted : c.is_trusted_agent.result ≡ has_trusted_agent (board_of_rows rows) =
    subst (λ k. c.is_trusted_agent.result ≡ (nat_le 1 rows.trusted && nat_le rows.trusted k)) agents
    c.is_trusted_agent.ensures in
    subst (λ board. Some error.Trusted ≡ first_fault board) c.self.view_is (sym
    (trusted_fault rows c.self.invariant (sym clocks ∙ c.if-not-are_valid_clocks.false) (sym
    devices ∙ c.if-not-are_valid_devices.false) (sym trusted ∙ c.if-not-is_trusted_agent.true)))

pub returns-else-not-is_trusted_agent-clause-fault :
    goal.returns-else-not-is_trusted_agent-clause-fault
returns-else-not-is_trusted_agent-clause-fault c =
    let rows = c.self.inside in
    let clocks : c.are_valid_clocks.result ≡ has_valid_clocks (board_of_rows rows) =
    subst (λ items. c.are_valid_clocks.result ≡ list_all
    (λ clock. is_valid clock.rates && (rows.loose || supports clock.rates clock.rate)) items)
    c.deref.ensures.value c.are_valid_clocks.ensures in
    let n : c.len.result ≡ length rows.domains.items = search rules in
    let m : c.len-else-not-are_valid_clocks.result ≡ length rows.clocks.items = search rules in
    let devices : c.are_valid_devices.result ≡ has_valid_devices (board_of_rows rows) =
    subst (λ k. c.are_valid_devices.result ≡ list_all (λ device. nat_lt device.domains (2 ^ k)
    && nat_lt device.clocks (2 ^ length rows.clocks.items)) rows.devices.items) n
    (subst (λ k. c.are_valid_devices.result ≡ list_all (λ device. nat_lt device.domains
    (2 ^ c.len.result) && nat_lt device.clocks (2 ^ k)) rows.devices.items) m
    (subst (λ items. c.are_valid_devices.result ≡ list_all (λ device. nat_lt device.domains (2
    ^ c.len.result) && nat_lt device.clocks (2 ^ c.len-else-not-are_valid_clocks.result)) items)
    c.deref-else-not-are_valid_clocks.ensures.value c.are_valid_devices.ensures)) in
    let agents : c.len-else-not-are_valid_devices.result ≡ length rows.agents.items =
    search rules in
    let trusted : c.is_trusted_agent.result ≡ has_trusted_agent (board_of_rows rows) =
    subst (λ k. c.is_trusted_agent.result ≡ (nat_le 1 rows.trusted && nat_le rows.trusted k)) agents
    c.is_trusted_agent.ensures in
    subst (λ board. None ≡ first_fault board) c.self.view_is (sym
    (no_fault rows c.self.invariant (sym clocks ∙ c.if-not-are_valid_clocks.false) (sym devices
    ∙ c.if-not-are_valid_devices.false) (sym trusted ∙ c.if-not-is_trusted_agent.false)))

pub returns-then-not-are_valid_clocks-clause-rules :
    goal.returns-then-not-are_valid_clocks-clause-rules
returns-then-not-are_valid_clocks-clause-rules c = subst
    (λ board. (first_fault board ≡ None) ↔ IsValid board) c.self.view_is (valid_rows c.self.inside)

pub returns-then-not-are_valid_devices-clause-rules :
    goal.returns-then-not-are_valid_devices-clause-rules
returns-then-not-are_valid_devices-clause-rules c = subst
    (λ board. (first_fault board ≡ None) ↔ IsValid board) c.self.view_is (valid_rows c.self.inside)

pub returns-else-not-is_trusted_agent-clause-rules :
    goal.returns-else-not-is_trusted_agent-clause-rules
returns-else-not-is_trusted_agent-clause-rules c = subst
    (λ board. (first_fault board ≡ None) ↔ IsValid board) c.self.view_is (valid_rows c.self.inside)

pub returns-then-not-is_trusted_agent-clause-rules :
    goal.returns-then-not-is_trusted_agent-clause-rules
returns-then-not-is_trusted_agent-clause-rules c = subst
    (λ board. (first_fault board ≡ None) ↔ IsValid board) c.self.view_is (valid_rows c.self.inside)
