use Rattle.std.proofs.Common.{ap, rules, subst, sym}
use Rattle.scmi_link.specs.declared.order.Order.TheVariants as order
use Rattle.scmi_threads.specs.Orders.{HasDone, stop_of, ending}
use Rattle.scmi_threads.proofs.OrderLemmas.{nothing_done, done_since, call_done, still_rests}
use Rattle.scmi_threads.proofs.script_run.ScriptRun.call.Goals as goal

pub returns-in_err-reserve_line-clause-done : goal.returns-in_err-reserve_line-clause-done
returns-in_err-reserve_line-clause-done g c = λ u rest.
    nothing_done g.C.Channel.FULL (order.Call c.args.protocol c.args.id c.args.payload.now)
    c.from_residual.result c.args.self.now.end.caller c.args.self.now.end.caller c.args.self.now.log
    c.reserve_line.new.self (search rules) (λ x. x) c.reserve_line.ensures.same

pub returns-in_err-line-clause-done : goal.returns-in_err-line-clause-done
returns-in_err-line-clause-done g c = λ u rest.
    let old = c.args.self.now in
    let reserved = c.reserve_line.new.self in
    let called = order.Call c.args.protocol c.args.id c.args.payload.now in
    done_since g.C.Channel.FULL called (stop_of c.from_residual-in_err-line.result) old.end.caller
    c.ask.new.self.end.caller old.log reserved c.ask.new.self.log c.reserve_line.ensures.same
    (nothing_done g.C.Channel.FULL called c.from_residual-in_err-line.result
    old.end.caller c.ask.new.self.end.caller reserved c.ask.new.self.log (search rules)
    (λ x. x) c.in_err-line.ensures.same)

pub returns-clause-done : goal.returns-clause-done
returns-clause-done g c = λ u rest.
    let old = c.args.self.now in
    let reserved = c.reserve_line.new.self in
    let same = c.reserve_line.ensures.same in
    let called = order.Call c.args.protocol c.args.id c.args.payload.now in
    subst (λ r. HasDone g.C.Channel.FULL called (stop_of r) old.end.caller c.ask.new.self.end.caller
    old.log c.note.new.self) (sym c.ending_of-ended.ensures)
    (done_since g.C.Channel.FULL called (stop_of (ending c.in_ok-line.line)) old.end.caller
    c.ask.new.self.end.caller old.log reserved c.note.new.self same
    (call_done g.C.Channel.FULL c.args.protocol c.args.id c.args.payload.now old.end.caller
    c.ask.new.self.end.caller reserved c.ask.new.self.log c.note.new.self c.ask.ensures.rest
    c.in_ok-line.line (c.in_ok-line.ensures.asked u (still_rests old.log reserved same rest))
    (ap (λ v. v.items) c.ask.ensures.lines)
    (record {
      posted = ap (λ v. v.items) c.note.ensures.same.0;
      read = ap (λ v. v.items) c.note.ensures.same.1;
      taken = ap (λ v. v.items) c.note.ensures.same.2;
      lines = c.note.ensures.lines;
      stopped = c.note.ensures.same.4;
      looks = c.note.ensures.looks;
    })))
