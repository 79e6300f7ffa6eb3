use Rattle.std.proofs.Common.{◌≡◌, ◌∙◌, length, sym, ap, rules, Ok, subst}
use Rattle.scmi_link.specs.declared.closing.Closing.{Closing}
use Rattle.scmi_link.specs.declared.closing.Closing.TheVariants as closing
use Rattle.scmi_link.specs.Calls.{ClosesCaller}
use Rattle.scmi_link.specs.declared.line.Line.TheVariants as line
use Rattle.scmi_link.specs.declared.order.Order.TheVariants as order
use Rattle.scmi_threads.proofs.OrderLemmas.{nothing_done, noted_since, close_noted}
use Rattle.scmi_threads.proofs.script_run.ScriptRun.close.Goals as goal

pub returns-in_err-reserve_line-clause-done : goal.returns-in_err-reserve_line-clause-done
returns-in_err-reserve_line-clause-done g c = λ rest. nothing_done g.C.Channel.FULL order.Close
    c.from_residual.result c.args.self.now.end.caller c.args.self.now.end.caller c.args.self.now.log
    c.reserve_line.new.self (search rules) (λ x. x) c.reserve_line.ensures.same

pub returns-in-Ok-clause-done : goal.returns-in-Ok-clause-done
returns-in-Ok-clause-done g c = λ rest.
    let old = c.args.self.now in
    let same = c.reserve_line.ensures.same in
    let closes : (k : Closing) → c.in-Ok.closing ≡ k
    → ClosesCaller old.end.caller (Ok k) c.close.new.self.caller = λ k e. subst (λ k.
    ClosesCaller old.end.caller (Ok k) c.close.new.self.caller) e c.in-Ok.ensures.closes in
    close_noted g.C.Channel.FULL c.in-Ok.closing old.end.caller c.close.new.self.caller old.log
    c.note_closing.new.self
    (noted_since (line.Close c.in-Ok.closing) old.log c.reserve_line.new.self
    c.note_closing.new.self same (record {
      posted = ap (λ v. v.items) c.note_closing.ensures.same.0;
      read = ap (λ v. v.items) c.note_closing.ensures.same.1;
      taken = ap (λ v. v.items) c.note_closing.ensures.same.2;
      lines = c.note_closing.ensures.lines;
      stopped = c.note_closing.ensures.same.3;
      looks = c.note_closing.ensures.looks;
    }))
    (λ e. ap (λ v. v.closed) (closes closing.Idle e).closed)
    (λ e. (closes closing.Withdrawn e).was_outstanding)
    (sym (ap length old.posted_is) ∙ rest ∙ ap length old.read_is)
