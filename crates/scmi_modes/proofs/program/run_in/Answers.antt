use Rattle.std.proofs.Common.{◌≡◌, rules}
use Rattle.scmi_modes.specs.declared.any_mode.AnyMode.TheVariants as any
use Rattle.scmi_modes.specs.declared.mode.Mode.TheVariants as mode
use Rattle.scmi_modes.proofs.Faults.{of_once}
use Rattle.scmi_modes.proofs.FirstLine.{on_hardware, on_steps, on_threads}
use Rattle.scmi_modes.proofs.program.run_in.Goals as goal

pub returns-in-Plain-Threads-clause-threads : goal.returns-in-Plain-Threads-clause-threads
returns-in-Plain-Threads-clause-threads g c =
    let is : c.in-Plain-Threads.field-0 ≡ mode.Threads c.in-Plain-Threads.kind =
    rw c.in-Plain-Threads.is at c.in-Plain-Threads.field-0-is in
    rw (c.in-Plain-Threads.is, is) (on_threads _ _ _ _ _ c.run_threads_counted.ensures.text)

pub returns-in-Plain-Steps-clause-steps : goal.returns-in-Plain-Steps-clause-steps
returns-in-Plain-Steps-clause-steps g c =
    let is : c.args.mode ≡ any.Plain (mode.Steps c.in-Plain-Steps.kind) = search rules in
    rw is (on_steps _ _ _ _ _ c.run_steps_counted.ensures.text)

pub returns-in-Hardware-clause-hardware : goal.returns-in-Hardware-clause-hardware
returns-in-Hardware-clause-hardware g c =
    rw c.in-Hardware.is (on_hardware _ _ _ _ _ c.run_hardware_counted.ensures.text)

pub returns-in-Plain-Once-clause-faults : goal.returns-in-Plain-Once-clause-faults
returns-in-Plain-Once-clause-faults g c =
    let is : c.args.mode ≡ any.Plain mode.Once = search rules in
    rw is (of_once _ _ c.run_once_counted.ensures.area c.run_once_counted.ensures.size
    c.run_once_counted.ensures.errors)

pub returns-in-Plain-Steps-clause-faults : goal.returns-in-Plain-Steps-clause-faults
returns-in-Plain-Steps-clause-faults g c =
    let is : c.args.mode ≡ any.Plain (mode.Steps c.in-Plain-Steps.kind) = search rules in
    rw is c.run_steps_counted.ensures.faults

pub returns-in-Plain-Threads-clause-faults : goal.returns-in-Plain-Threads-clause-faults
returns-in-Plain-Threads-clause-faults g c =
    let is : c.args.mode ≡ any.Plain (mode.Threads c.in-Plain-Threads.kind) = search rules in
    rw is c.run_threads_counted.ensures.faults

pub returns-in-Hardware-clause-faults : goal.returns-in-Hardware-clause-faults
returns-in-Hardware-clause-faults g c = rw c.in-Hardware.is c.run_hardware_counted.ensures.faults
