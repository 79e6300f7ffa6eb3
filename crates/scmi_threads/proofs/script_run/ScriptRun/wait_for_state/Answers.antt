use Rattle.std.proofs.Common.{true, false, ap, refl, rules, subst, Ok}
use Rattle.scmi_link.specs.declared.line.Line.TheVariants as line
use Rattle.scmi_link.specs.declared.order.Order.TheVariants as order
use Rattle.scmi_threads.specs.Orders.{HasLooked, stop_of}
use Rattle.scmi_threads.specs.declared.stop.Stop.TheVariants as stop
use Rattle.std.proofs.Common.{None, Some}
use Rattle.scmi_threads.proofs.OrderLemmas.{nothing_done, done_since, still_rests, until_noted, until_ended}
use Rattle.scmi_threads.proofs.script_run.ScriptRun.wait_for_state.Goals as goal

pub returns-in_err-reserve_line-clause-done : goal.returns-in_err-reserve_line-clause-done
returns-in_err-reserve_line-clause-done g c = λ u rest.
    nothing_done g.C.Channel.FULL (order.Until c.args.domain c.args.state) c.from_residual.result
    c.args.self.now.end.caller c.args.self.now.end.caller c.args.self.now.log
    c.reserve_line.new.self (search rules) (λ x. x) c.reserve_line.ensures.same

pub returns-in_err-sees_state-clause-done : goal.returns-in_err-sees_state-clause-done
returns-in_err-sees_state-clause-done g c = λ u rest.
    let old = c.args.self.now in
    let reserved = c.reserve_line.new.self in
    let same = c.reserve_line.ensures.same in
    let after = c.sees_state.new.self in
    done_since g.C.Channel.FULL (order.Until c.args.domain c.args.state)
    (stop_of c.from_residual-in_err-sees_state.result) old.end.caller after.end.caller old.log
    reserved after.log same
    (until_ended g.C.Channel.FULL c.args.domain c.args.state c.in_err-sees_state.field-0.0
    c.from_residual-in_err-sees_state.result old.end.caller after.end.caller reserved after.log
    (search rules) (c.in_err-sees_state.ensures.looked u (still_rests old.log reserved same
    rest)) c.sees_state.ensures.rest (ap (λ v. v.items) c.sees_state.ensures.lines))

pub returns-then-branch-clause-done : goal.returns-then-branch-clause-done
returns-then-branch-clause-done g c = λ u rest.
    let old = c.args.self.now in
    let reserved = c.reserve_line.new.self in
    let same = c.reserve_line.ensures.same in
    let mid = c.sees_state.new.self in
    done_since g.C.Channel.FULL (order.Until c.args.domain c.args.state) None old.end.caller
    mid.end.caller old.log reserved c.note.new.self same
    (until_noted g.C.Channel.FULL c.args.domain c.args.state
    (Ok true) line.UntilOk old.end.caller mid.end.caller reserved mid.log c.note.new.self
    (subst (λ b. HasLooked g.C.Channel.FULL old.end.caller.closed c.args.domain c.args.state
    (Ok b) reserved mid.log) c.if-branch.true
    (c.in_ok-sees_state.ensures.looked u (still_rests old.log reserved same rest)))
    refl c.sees_state.ensures.rest (ap (λ v. v.items) c.sees_state.ensures.lines)
    (record {
      posted = ap (λ v. v.items) c.note.ensures.same.0;
      read = ap (λ v. v.items) c.note.ensures.same.1;
      taken = ap (λ v. v.items) c.note.ensures.same.2;
      lines = c.note.ensures.lines;
      stopped = c.note.ensures.same.4;
      looks = c.note.ensures.looks;
    }))

pub returns-clause-done : goal.returns-clause-done
returns-clause-done g c = λ u rest.
    let old = c.args.self.now in
    let reserved = c.reserve_line.new.self in
    let same = c.reserve_line.ensures.same in
    let mid = c.sees_state.new.self in
    done_since g.C.Channel.FULL (order.Until c.args.domain c.args.state)
    (Some stop.Limit) old.end.caller mid.end.caller old.log reserved c.note-2.new.self same
    (until_noted g.C.Channel.FULL c.args.domain c.args.state
    (Ok false) line.UntilLimit old.end.caller mid.end.caller reserved mid.log c.note-2.new.self
    (subst (λ b. HasLooked g.C.Channel.FULL old.end.caller.closed c.args.domain c.args.state
    (Ok b) reserved mid.log) c.if-branch.false
    (c.in_ok-sees_state.ensures.looked u (still_rests old.log reserved same rest)))
    refl c.sees_state.ensures.rest (ap (λ v. v.items) c.sees_state.ensures.lines)
    (record {
      posted = ap (λ v. v.items) c.note-2.ensures.same.0;
      read = ap (λ v. v.items) c.note-2.ensures.same.1;
      taken = ap (λ v. v.items) c.note-2.ensures.same.2;
      lines = c.note-2.ensures.lines;
      stopped = c.note-2.ensures.same.4;
      looks = c.note-2.ensures.looks;
    }))
