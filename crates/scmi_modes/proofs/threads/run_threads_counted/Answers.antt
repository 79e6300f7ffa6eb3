use Rattle.std.proofs.Common.{Err, ap}
use Rattle.std.proofs.lemmas.Result.{err_from_is_err_and}
use Rattle.scmi_io.specs.declared.input_error.InputError.{InputError}
use Rattle.scmi_modes.proofs.Inputs.{known_length, known_or_limit, known_run, known_stands, known_text}
use Rattle.scmi_modes.proofs.RunLemmas.{either_way, on_ok}
use Rattle.scmi_modes.specs.Input.{scripts_of_input}
use Rattle.scmi_modes.proofs.threads.run_threads_counted.Goals as goal

pub returns-in_err-bytes-clause-faults : goal.returns-in_err-bytes-clause-faults
returns-in_err-bytes-clause-faults g c =
    let p = err_from_is_err_and c.from_residual.result c.from_residual.ensures.1 in
    rw (p.1, p.2) (known_or_limit scripts_of_input _ _
    (known_length scripts_of_input _ c.in_err-bytes.field-0.0
    (λ is. c.in_err-bytes.ensures.size (ap (λ (e : InputError). Err e) is))))

pub returns-in_err-plan-clause-faults : goal.returns-in_err-plan-clause-faults
returns-in_err-plan-clause-faults g c =
    let p = err_from_is_err_and c.from_residual-in_err-plan.result
    c.from_residual-in_err-plan.ensures.1 in
    rw (p.1, p.2) (known_or_limit scripts_of_input _ _ (known_text scripts_of_input
    _ c.deref.result.now c.in_ok-bytes.bytes.items c.in_err-plan.field-0.0 c.deref.ensures.value
    c.in_ok-bytes.ensures.whole c.in_err-plan.ensures.input))

pub returns-clause-faults : goal.returns-clause-faults
returns-clause-faults g c =
    let are = known_stands scripts_of_input
    (g.R.CountedRead.remaining c.args.reader.now) c.deref.result.now c.in_ok-bytes.bytes.items
    c.deref.ensures.value c.in_ok-bytes.ensures.whole c.in_ok-plan.ensures.input in
    known_run scripts_of_input _ c.run_over.result _ are c.run_over.ensures.errors

pub returns-clause-text : goal.returns-clause-text
returns-clause-text g c =
    let are = known_stands scripts_of_input
    (g.R.CountedRead.remaining c.args.reader.now) c.deref.result.now c.in_ok-bytes.bytes.items
    c.deref.ensures.value c.in_ok-bytes.ensures.whole c.in_ok-plan.ensures.input in
    on_ok _ _ c.run_over.result c.run_over.ensures.text
    (λ text. (_, _, are, rw c.deref-2.ensures.value at text))

pub returns-clause-limit : goal.returns-clause-limit
returns-clause-limit g c = λ limit.
    let are = known_stands scripts_of_input
    (g.R.CountedRead.remaining c.args.reader.now) c.deref.result.now c.in_ok-bytes.bytes.items
    c.deref.ensures.value c.in_ok-bytes.ensures.whole c.in_ok-plan.ensures.input in
    (_, _, are, rw c.deref-2.ensures.value at (c.run_over.ensures.limit limit))

pub returns-clause-memory : goal.returns-clause-memory
returns-clause-memory g c = λ memory.
    let are = known_stands scripts_of_input
    (g.R.CountedRead.remaining c.args.reader.now) c.deref.result.now c.in_ok-bytes.bytes.items
    c.deref.ensures.value c.in_ok-bytes.ensures.whole c.in_ok-plan.ensures.input in
    either_way (c.run_over.ensures.memory memory)
    (λ text. (_, _, are, rw c.deref-2.ensures.value at text))
