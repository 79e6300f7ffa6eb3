use Rattle.std.proofs.Common.{◌≡◌, ◌∙◌, ◌∷◌, [], refl, rules, arith, subst, length}
use Rattle.scmi_threads.specs.Orders.{HasAsked, IsGot, ShowsState}
use Rattle.scmi_threads.specs.Parts.{command}
use Rattle.scmi_threads.proofs.ScriptRunLemmas.{has_run}
use Rattle.scmi_threads.proofs.OrderLemmas.{left_rest, asked_rests, one_asked, looked_seen, looked_in_vain, looked_to_the_end, looked_without_room, none_asked}
use Rattle.scmi_threads.proofs.script_run.ScriptRun.sees_state.Goals as goal

pub calls-init : goal.calls-init
calls-init g c = record {
  ran = record { a2p = refl; p2a = refl; script = refl; id = refl; undisturbed = λ u. u };
  lines = refl;
  rest = record { taken = refl; message_looks = refl; stopped = refl; closed = refl };
  asking = λ u rest. none_asked c.args.self.now.end.caller.closed c.args.domain c.args.state
      c.args.self.now.log c.args.self.now.log
      (record {
        posted = refl;
        read = refl;
        p2a = refl;
        lines = refl;
        closing = refl;
        stopped = refl;
        looks = record { replies = refl; messages = refl };
      });
}

pub returns-in_err-line-clause-looked : goal.returns-in_err-line-clause-looked
returns-in_err-line-clause-looked g c = λ u rest.
    looked_without_room g.C.Channel.FULL c.args.self.now.end.caller.closed c.args.domain
    c.args.state c.calls._calls c.from_residual.result c.args.self.now.log c.calls.self.log
    c.ask_state.new.self.log c.calls-test.true (search rules) (c.calls.invariant.asking
    (c.ask_state.ensures.ran.undisturbed u) rest) c.in_err-line.ensures.same

pub returns-then-shows_state-clause-looked : goal.returns-then-shows_state-clause-looked
returns-then-shows_state-clause-looked g c = λ u rest.
    let before = c.args.self.now in
    let mid = c.calls.self in
    let after = c.ask_state.new.self in
    let so_far = c.calls.invariant.asking (c.ask_state.ensures.ran.undisturbed u) rest in
    let shows : ShowsState c.args.state c.in_ok-line.line = search rules in
    looked_seen g.C.Channel.FULL c.args.domain c.args.state c.calls._calls 0x11 0x5
    (record { items = c.args.domain ∷ [] }) before.end.caller.closed before.log mid.log
    after.log so_far refl refl refl c.in_ok-line.line c.calls-test.true
    (subst (λ b. HasAsked g.C.Channel.FULL b (command (length mid.log.posted.items) 0x11 0x5
    (record { items = c.args.domain ∷ [] })) c.in_ok-line.line mid.log after.log)
    c.calls.invariant.rest.closed (c.in_ok-line.ensures.asked u
    (asked_rests c.args.domain c.args.state c.calls._calls before.log mid.log so_far rest)))
    shows

pub returns-then-not-is_reply-clause-looked : goal.returns-then-not-is_reply-clause-looked
returns-then-not-is_reply-clause-looked g c = λ u rest.
    let before = c.args.self.now in
    let mid = c.calls.self in
    let after = c.ask_state.new.self in
    let so_far = c.calls.invariant.asking (c.ask_state.ensures.ran.undisturbed u) rest in
    let none : ¬ (IsGot c.in_ok-line.line) = search rules in
    looked_in_vain g.C.Channel.FULL c.args.domain c.args.state c.calls._calls 0x11 0x5
    (record { items = c.args.domain ∷ [] }) before.end.caller.closed before.log mid.log
    after.log so_far refl refl refl c.in_ok-line.line c.calls-test.true
    (subst (λ b. HasAsked g.C.Channel.FULL b (command (length mid.log.posted.items) 0x11 0x5
    (record { items = c.args.domain ∷ [] })) c.in_ok-line.line mid.log after.log)
    c.calls.invariant.rest.closed (c.in_ok-line.ensures.asked u
    (asked_rests c.args.domain c.args.state c.calls._calls before.log mid.log so_far rest)))
    none

pub calls-preserved : goal.calls-preserved
calls-preserved g c =
    let before = c.args.self.now in
    let mid = c.calls.self in
    let after = c.ask_state.new.self in
    let got : IsGot c.in_ok-line.line = search rules in
    let another : ¬ (ShowsState c.args.state c.in_ok-line.line) = search rules in
    record {
      ran = has_run before mid after c.calls.invariant.ran c.ask_state.ensures.ran;
      lines = c.ask_state.ensures.lines ∙ c.calls.invariant.lines;
      rest = left_rest before.end.caller mid.end.caller after.end.caller before.log mid.log
          after.log c.calls.invariant.rest c.ask_state.ensures.rest;
      asking = λ u rest.
          let so_far = c.calls.invariant.asking (c.ask_state.ensures.ran.undisturbed u) rest in
          one_asked g.C.Channel.FULL c.args.domain c.args.state c.calls._calls 0x11 0x5
          (record { items = c.args.domain ∷ [] }) before.end.caller.closed before.log mid.log
          after.log so_far refl refl refl c.in_ok-line.line
          (subst (λ b. HasAsked g.C.Channel.FULL b (command (length mid.log.posted.items) 0x11 0x5
          (record { items = c.args.domain ∷ [] })) c.in_ok-line.line mid.log after.log)
          c.calls.invariant.rest.closed (c.in_ok-line.ensures.asked u (asked_rests c.args.domain
          c.args.state c.calls._calls before.log mid.log so_far rest)))
          got another;
    }

pub returns-clause-looked : goal.returns-clause-looked
returns-clause-looked g c = λ u rest.
    let is : c.calls._calls ≡ 100_000 = omega arith in
    looked_to_the_end g.C.Channel.FULL c.args.self.now.end.caller.closed c.args.domain c.args.state
    c.calls._calls c.args.self.now.log c.calls.self.log is (c.calls.invariant.asking u rest)
