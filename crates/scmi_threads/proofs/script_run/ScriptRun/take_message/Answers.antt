use Rattle.std.proofs.Common.{◌≡◌, rules, refl, sym, subst, ap, ◌∙◌, ◌<◌, vec_len, vec_capacity}
use Rattle.scmi_threads.proofs.Looking.{none_counted, next_counted, message_came, not_looked}
use Rattle.scmi_threads.proofs.OrderLemmas.{moved_on}
use Rattle.scmi_threads.proofs.ScriptRunLemmas.{has_run}
use Rattle.scmi_threads.proofs.script_run.ScriptRun.take_message.Goals as goal

pub returns-in_err-reserve_message-clause-looks : goal.returns-in_err-reserve_message-clause-looks
returns-in_err-reserve_message-clause-looks g c =
    not_looked c.from_residual.result c.args.self.now.log c.reserve_message.new.self
    (search rules) c.reserve_message.ensures.same.looks.messages

pub turns-init : goal.turns-init
turns-init g c =
    let same = c.reserve_message.ensures.same in
    record {
      ran = record { a2p = refl; p2a = refl; script = refl; id = refl; undisturbed = λ u. u };
      p2a = c.in_ok-reserve_message.ensures.p2a;
      room = c.in_ok-reserve_message.ensures.room;
      unmoved = record {
        posted = same.posted;
        read = same.read;
        stopped = same.stopped;
        closed = refl;
        reply_looks = same.looks.replies;
      };
      taken = same.p2a;
      lines = same.lines;
      looks = none_counted c.args.self.now.log.message_looks
          c.reserve_message.new.self.message_looks same.looks.messages;
    }

pub returns-then-look-clause-looks : goal.returns-then-look-clause-looks
returns-then-look-clause-looks g c =
    message_came c.turns.counter c.args.self.now.log c.turns.self.log c.look.new.self.log
    c.turns-test.true c.turns.invariant.looks c.look.ensures.counted

pub turns-preserved : goal.turns-preserved
turns-preserved g c =
    let before = c.args.self.now in
    let mid = c.turns.self in
    let after = c.look.new.self in
    let none : (after.log.p2a ≡ mid.log.p2a) × (after.log.lines ≡ mid.log.lines) = search rules in
    record {
      ran = has_run before mid after c.turns.invariant.ran c.look.ensures.ran;
      p2a = subst (λ v. vec_len v < vec_capacity v) (sym none.0) c.turns.invariant.p2a;
      room = subst (λ v. vec_len v < vec_capacity v) (sym none.1) c.turns.invariant.room;
      unmoved = moved_on before.end.caller mid.end.caller after.end.caller before.log mid.log
          after.log c.turns.invariant.unmoved c.look.ensures.unmoved;
      taken = ap (λ v. v.items) none.0 ∙ c.turns.invariant.taken;
      lines = ap (λ v. v.items) none.1 ∙ c.turns.invariant.lines;
      looks = next_counted c.turns.counter before.log.message_looks mid.log.message_looks
          after.log.message_looks c.turns.invariant.looks c.look.ensures.counted;
    }
