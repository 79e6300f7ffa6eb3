use Rattle.std.proofs.Common.{Err, ap}
use Rattle.std.proofs.lemmas.Result.{err_from_is_err_and}
use Rattle.scmi_io.specs.declared.input_error.InputError.{InputError}
use Rattle.scmi_modes.proofs.Inputs.{known_length, known_stands, known_steps, known_text}
use Rattle.scmi_modes.proofs.RunLemmas.{either_way, on_ok}
use Rattle.scmi_modes.specs.Input.{steps_of_input}
use Rattle.scmi_modes.proofs.steps.run_script.Goals as goal

pub returns-in_err-bytes-clause-faults : goal.returns-in_err-bytes-clause-faults
returns-in_err-bytes-clause-faults g c =
    let p = err_from_is_err_and c.from_residual.result c.from_residual.ensures.1 in
    rw (p.1, p.2) (known_length (steps_of_input c.args.script) _ c.in_err-bytes.field-0.0
    (λ is. c.in_err-bytes.ensures.size (ap (λ (e : InputError). Err e) is)))

pub returns-in_err-plan-clause-faults : goal.returns-in_err-plan-clause-faults
returns-in_err-plan-clause-faults g c =
    let p = err_from_is_err_and c.from_residual-in_err-plan.result
    c.from_residual-in_err-plan.ensures.1 in
    rw (p.1, p.2) (known_text (steps_of_input c.args.script)
    _ c.deref.result.now c.in_ok-bytes.bytes.items c.in_err-plan.field-0.0 c.deref.ensures.value
    c.in_ok-bytes.ensures.whole c.in_err-plan.ensures.input)

pub returns-clause-faults : goal.returns-clause-faults
returns-clause-faults g c =
    let are = known_stands (steps_of_input c.args.script)
    (g.R.CountedRead.remaining c.args.reader.now) c.deref.result.now c.in_ok-bytes.bytes.items
    c.deref.ensures.value c.in_ok-bytes.ensures.whole c.in_ok-plan.ensures.input in
    known_steps (steps_of_input c.args.script) _ c.step_over.result _ are c.step_over.ensures.errors

pub returns-clause-text : goal.returns-clause-text
returns-clause-text g c =
    let are = known_stands (steps_of_input c.args.script)
    (g.R.CountedRead.remaining c.args.reader.now) c.deref.result.now c.in_ok-bytes.bytes.items
    c.deref.ensures.value c.in_ok-bytes.ensures.whole c.in_ok-plan.ensures.input in
    on_ok _ _ c.step_over.result c.step_over.ensures.text
    (λ text. (_, _, are, c.in_ok-plan.ensures.kinds, text))

pub returns-clause-memory : goal.returns-clause-memory
returns-clause-memory g c = λ memory.
    let are = known_stands (steps_of_input c.args.script)
    (g.R.CountedRead.remaining c.args.reader.now) c.deref.result.now c.in_ok-bytes.bytes.items
    c.deref.ensures.value c.in_ok-bytes.ensures.whole c.in_ok-plan.ensures.input in
    either_way (c.step_over.ensures.memory memory)
    (λ lines. (_, _, are, c.in_ok-plan.ensures.kinds, lines))
