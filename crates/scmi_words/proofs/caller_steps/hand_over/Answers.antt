use Rattle.std.proofs.Common.{rules, ◌≡◌, ap, ◌∙◌}
use Rattle.scmi_words.specs.declared.view.CallerHalf.{CallerHalf}
use Rattle.scmi_words.specs.Area.{frame_in, frame_words, IsValid}
use Rattle.scmi_words.specs.View.{caller_of, with_caller}
use Rattle.scmi_words.specs.CallerSteps.{caller_posted}
use Rattle.scmi_words.proofs.TableWords.{match_equal}
use Rattle.scmi_words.proofs.FrameWords.{frame_of_words}
use Rattle.scmi_words.proofs.CallerSteps.{posts_allowed}
use Rattle.scmi_words.proofs.Counted.{posts_count}
use Rattle.scmi_words.proofs.caller_steps.hand_over.Goals as goal

pub compare_exchange-requires-clause-rule : goal.compare_exchange-requires-clause-rule
compare_exchange-requires-clause-rule g c =
    posts_allowed _ _ _ (caller_of c.args.seat.now) _ (search rules) (search rules) (search rules)
    (search rules) g.frame (search rules) (search rules)

pub compare_exchange-requires-clause-counts : goal.compare_exchange-requires-clause-counts
compare_exchange-requires-clause-counts g c =
    posts_count 0 _ (caller_of c.args.seat.now) (search rules) _

pub returns : goal.returns
returns g c =
    let e = c.compare_exchange.ensures in
    let h = caller_of c.args.seat.now in
    let t = e.tells h (search rules) in
    let valid : IsValid g.frame = search rules in
    let whole : h.state.draft ≡ frame_words g.frame = search rules in
    let is : frame_in h.state.draft ≡ g.frame = ap frame_in whole ∙ frame_of_words g.frame valid in
    match_equal c.compare_exchange.result c.args.free _ _
    (λ hit. (
      e.seat.0,
      e.seat.1,
      t.1 ∙ ap (λ (x : CallerHalf). (
        with_caller c.args.seat.now.me.0 x,
        c.args.seat.now.me.1,
      )) (t.2.0 hit ∙ ap (caller_posted h) is),
    ))
    (λ miss. (
      e.seat.0,
      e.seat.1,
      t.1 ∙ ap (λ (x : CallerHalf).
          (with_caller c.args.seat.now.me.0 x, c.args.seat.now.me.1)) (t.2.1 miss),
    ))
