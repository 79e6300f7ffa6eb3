use Rattle.std.proofs.Common.{rules, ◌≡◌, ap, sym, ◌∙◌, subst, Some, ◌∷◌, ◌++◌, [], false, length, ◌+◌}
use Rattle.scmi_codec.specs.declared.frame.Answer.{Answer}
use Rattle.scmi_link.specs.View.{one_more}
use Rattle.scmi_words.specs.declared.phase.Phase.{Phase}
use Rattle.scmi_words.specs.declared.phase.Phase.TheVariants.{Waiting}
use Rattle.scmi_words.specs.declared.view.CallerHalf.{CallerHalf}
use Rattle.scmi_words.specs.Area.{IsValidAnswer}
use Rattle.scmi_words.specs.StatusWord.{status_word, answer_mark}
use Rattle.scmi_words.specs.Phase.{is_left, unread}
use Rattle.scmi_words.specs.View.{caller_of}
use Rattle.scmi_words.specs.CallerSteps.{caller_collected, caller_after}
use Rattle.scmi_words.proofs.Collects.{collected, remembers_after}
use Rattle.scmi_words.proofs.Loads.{half_is}
use Rattle.scmi_words.proofs.TableIdentities.{same_table}
use Rattle.scmi_words.proofs.word_channel.WordChannelChannel.collect_into.Goals as goal

pub read_answer-requires : goal.read_answer-requires
read_answer-requires c =
    let t = c.look-status.ensures in
    let waiting : (caller_of c.args.caller.now.seat).state.phase ≡ Waiting = search rules in
    let got = (t.2 waiting).0 (c.is_free.ensures.0 c.if-is_free.true) in
    let d = collected c.args.caller.now.seat c.look-status.new.seat
    t.0 got.0 c.look-status.result c.without_closed-caller.result t.1 got.1
    (c.without_closed-caller.ensures got.0 got.2.0 got.2.1) in (
      t.1.0 ∙ same_table _ _ c.requires.identity,
      (
        (d.has, d.phase, d.draft),
        (
          (
            d.last ∙ ap (λ (x : Answer). Some x) (sym d.picked),
            subst IsValidAnswer (sym d.picked)
                got.3,
          ),
          d.free ∙ ap (λ (x : Answer). status_word (answer_mark x) false) (sym d.picked),
        ),
      ),
    )

pub invariant_of-caller-then-is_free : goal.invariant_of-caller-then-is_free
invariant_of-caller-then-is_free c =
    let t = c.look-status.ensures in
    let h0 = caller_of c.args.caller.now.seat in
    let waiting : h0.state.phase ≡ Waiting = search rules in
    let got = (t.2 waiting).0 (c.is_free.ensures.0 c.if-is_free.true) in
    let v = c.read_answer.ensures.view in
    let now : caller_of c.read_answer.new.seat
    ≡ caller_after (caller_collected h0 c.look-status.result got.0) v.0 =
    half_is c.look-status.new.seat c.read_answer.new.seat (caller_after
    (caller_of c.look-status.new.seat) v.0) v.2 ∙ ap (λ (z : CallerHalf). caller_after z v.0)
    (half_is c.args.caller.now.seat c.look-status.new.seat t.0 t.1 ∙ got.1) in record {
      seated = search rules;
      remembers =
          remembers_after _ h0 _ _ _ _ c.look-status.result v.0 _ got.0 c.args.caller.now.remembers
          c.in-Waiting.is now (c.without_closed-caller.ensures got.0 got.2.0 got.2.1);
    }

pub returns-then-is_free-clause-collects : goal.returns-then-is_free-clause-collects
returns-then-is_free-clause-collects c =
    let t = c.look-status.ensures in
    let p = c.args.caller.now in
    let h0 = caller_of p.seat in
    let waiting : h0.state.phase ≡ Waiting = search rules in
    let got = (t.2 waiting).0 (c.is_free.ensures.0 c.if-is_free.true) in
    let v = c.read_answer.ensures.view in
    let now : caller_of c.read_answer.new.seat
    ≡ caller_after (caller_collected h0 c.look-status.result got.0) v.0 =
    half_is c.look-status.new.seat c.read_answer.new.seat (caller_after
    (caller_of c.look-status.new.seat) v.0) v.2 ∙ ap (λ (z : CallerHalf). caller_after z v.0)
    (half_is p.seat c.look-status.new.seat t.0 t.1 ∙ got.1) in
    let d = collected p.seat c.look-status.new.seat t.0 got.0 c.look-status.result
    c.without_closed-caller.result t.1 got.1
    (c.without_closed-caller.ensures got.0 got.2.0 got.2.1) in
    let value : c.read_answer.new.answer ≡ got.0 = c.read_answer.ensures.value ∙ d.picked in
    let ps : (caller_of c.read_answer.new.seat).state.posted ≡ h0.state.posted =
    ap (λ (z : CallerHalf). z.state.posted) now in
    let rs : (caller_of c.read_answer.new.seat).state.read
    ≡ h0.state.read ++ c.read_answer.new.answer ∷ [] = ap (λ (z : CallerHalf). z.state.read) now
    ∙ ap (λ (x : Answer). h0.state.read ++ x ∷ []) (sym value) in
    let left : false ≡ is_left p.phase = ap is_left (sym c.in-Waiting.is) in
    record {
      was_outstanding = record {
        unread = p.remembers.counted
            ∙ ap (λ (z : Phase). length h0.state.read + unread z) c.in-Waiting.is;
        stays = sym left;
      };
      read = λ i. record {
        posted = ps i;
        read = rs i;
        closed = p.closed;
        told = p.told;
        left = left i;
        posts = p.posts;
        collects = one_more p.collects;
      };
    }

pub returns-then-caller-clause-collects : goal.returns-then-caller-clause-collects
returns-then-caller-clause-collects c = search rules
