use Rattle.std.proofs.Common.{◌≡◌, Err, ap, rules}
use Rattle.scmi_modes.specs.AnyMode.{Takes, any_text_of}
use Rattle.std.proofs.lemmas.Result.{err_from_is_err_and}
use Rattle.scmi_io.specs.declared.input_error.InputError.{InputError}
use Rattle.scmi_modes.proofs.Faults.{in_mode, not_read, where_named}
use Rattle.scmi_modes.proofs.FirstLine.{where_hardware, where_plain, where_steps, where_threads}
use Rattle.scmi_modes.proofs.program.run_mode.Goals as goal

pub returns-clause-named : goal.returns-clause-named
returns-clause-named g c =
    let named : c.in_ok-line.line.items ≡ any_text_of c.in_ok-mode.mode = search rules in
    let taken : Takes c.args.modes c.in_ok-mode.mode = search rules in
    where_named c.args.modes _ _ _ _ c.in_ok-line.ensures.line named taken

pub returns-clause-text : goal.returns-clause-text
returns-clause-text g c =
    let named : c.in_ok-line.line.items ≡ any_text_of c.in_ok-mode.mode = search rules in
    where_threads _ _ _ _ _ _ _ c.in_ok-line.ensures.line c.in_ok-line.ensures.rest named
    c.run_in.ensures.threads

pub returns-clause-steps : goal.returns-clause-steps
returns-clause-steps g c =
    let named : c.in_ok-line.line.items ≡ any_text_of c.in_ok-mode.mode = search rules in
    where_steps _ _ _ _ _ _ _ c.in_ok-line.ensures.line c.in_ok-line.ensures.rest named
    c.run_in.ensures.steps

pub returns-clause-hardware : goal.returns-clause-hardware
returns-clause-hardware g c =
    let named : c.in_ok-line.line.items ≡ any_text_of c.in_ok-mode.mode = search rules in
    where_hardware _ _ _ _ _ _ _ c.in_ok-line.ensures.line c.in_ok-line.ensures.rest named
    c.run_in.ensures.hardware

pub returns-clause-plain : goal.returns-clause-plain
returns-clause-plain g c =
    let named : c.in_ok-line.line.items ≡ any_text_of c.in_ok-mode.mode = search rules in
    let taken : Takes c.args.modes c.in_ok-mode.mode = search rules in
    where_plain _ _ _ _ _ c.in_ok-line.ensures.line named taken

pub returns-in_err-line-clause-faults : goal.returns-in_err-line-clause-faults
returns-in_err-line-clause-faults g c =
    let p = err_from_is_err_and c.from_residual.result c.from_residual.ensures.1 in
    rw (p.1, p.2) (not_read c.args.modes _ c.in_err-line.field-0.0
    (λ is. c.in_err-line.ensures.size (ap (λ (e : InputError). Err e) is)))

pub returns-clause-faults : goal.returns-clause-faults
returns-clause-faults g c =
    let named : c.in_ok-line.line.items ≡ any_text_of c.in_ok-mode.mode = search rules in
    let taken : Takes c.args.modes c.in_ok-mode.mode = search rules in
    in_mode c.args.modes _ _ _ _ _ c.in_ok-line.ensures.line c.in_ok-line.ensures.rest named taken
    c.run_in.ensures.faults
