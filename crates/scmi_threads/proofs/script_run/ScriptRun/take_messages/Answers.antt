use Rattle.std.proofs.Common.{◌≡◌, refl, rules, arith}
use Rattle.scmi_threads.proofs.ScriptRunLemmas.{has_run}
use Rattle.scmi_threads.proofs.OrderLemmas.{none_taken, one_taken, moved_on, all_taken, taken_until}
use Rattle.scmi_threads.proofs.script_run.ScriptRun.take_messages.Goals as goal

pub messages-init : goal.messages-init
messages-init g c = record {
  ran = record { a2p = refl; p2a = refl; script = refl; id = refl; undisturbed = λ u. u };
  unmoved =
      record { posted = refl; read = refl; stopped = refl; closed = refl; reply_looks = refl };
  taken = none_taken c.args.self.now.end.caller.closed c.args.self.now.log c.args.self.now.log
      refl refl refl;
}

pub messages-preserved : goal.messages-preserved
messages-preserved g c =
    let before = c.args.self.now in
    let mid = c.messages.self in
    let after = c.take_message.new.self in
    record {
      ran = has_run before mid after c.messages.invariant.ran c.take_message.ensures.ran;
      unmoved = moved_on before.end.caller mid.end.caller after.end.caller before.log mid.log
          after.log c.messages.invariant.unmoved c.take_message.ensures.unmoved;
      taken = one_taken before.end.caller.closed mid.end.caller.closed c.messages._taken before.log
          mid.log after.log c.messages.invariant.unmoved.closed c.messages.invariant.taken
          c.in_ok-take_message.ensures.taken c.in_ok-take_message.ensures.looks;
    }

pub returns-in_err-take_message-clause-done : goal.returns-in_err-take_message-clause-done
returns-in_err-take_message-clause-done g c =
    let before = c.args.self.now in
    let mid = c.messages.self in
    let after = c.take_message.new.self in
    taken_until g.C.Channel.FULL c.args.count c.messages._taken
    c.in_err-take_message.field-0.0 c.from_residual.result before.end.caller mid.end.caller
    after.end.caller before.log mid.log after.log c.messages-test.true (search rules)
    c.messages.invariant.unmoved c.messages.invariant.taken c.take_message.ensures.unmoved
    c.in_err-take_message.ensures.taken c.in_err-take_message.ensures.looks

pub returns-clause-done : goal.returns-clause-done
returns-clause-done g c =
    let before = c.args.self.now in
    let after = c.messages.self in
    let is : c.messages._taken ≡ c.args.count = omega arith in
    all_taken g.C.Channel.FULL c.args.count c.messages._taken before.end.caller after.end.caller
    before.log after.log is c.messages.invariant.unmoved c.messages.invariant.taken
