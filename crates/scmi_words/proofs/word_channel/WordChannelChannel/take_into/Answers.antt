use Rattle.std.proofs.Common.{rules, ◌≡◌, ap, sym, ◌∙◌, subst, Some, ◌∷◌, ◌++◌, [], length, ◌+◌}
use Rattle.scmi_codec.specs.declared.frame.Frame.{Frame}
use Rattle.scmi_link.specs.View.{one_more}
use Rattle.scmi_words.specs.declared.view.CalleeHalf.{CalleeHalf}
use Rattle.scmi_words.specs.Area.{IsValid}
use Rattle.scmi_words.specs.Area.{frame_size}
use Rattle.scmi_words.specs.View.{callee_of}
use Rattle.scmi_words.specs.CalleeSteps.{callee_took, callee_after}
use Rattle.scmi_words.proofs.Collects.{took}
use Rattle.scmi_words.proofs.Loads.{callee_is}
use Rattle.scmi_words.proofs.TableIdentities.{same_table}
use Rattle.scmi_words.proofs.word_channel.WordChannelChannel.take_into.Goals as goal

pub read_frame-requires : goal.read_frame-requires
read_frame-requires c =
    let t = c.take_over-found.ensures in
    let got = t.2 (search rules) in
    let even : length (callee_of c.args.callee.now.seat).state.taken
    ≡ length (callee_of c.args.callee.now.seat).state.answered = search rules in
    let d = took c.args.callee.now.seat c.take_over-found.new.seat t.0 got.0 t.1 got.2 even in (
      t.1.0 ∙ same_table _ _ c.requires.identity,
      (
        (search rules, d.owes, d.draft),
        (d.last ∙ ap (λ (x : Frame). Some x) (sym d.picked), subst IsValid (sym d.picked) got.1),
      ),
    )

pub returns-clause-takes : goal.returns-clause-takes
returns-clause-takes c =
    let t = c.take_over-found.ensures in
    let got = t.2 (search rules) in
    let k = c.args.callee.now in
    let s = k.seat in
    let even : length (callee_of s).state.taken ≡ length (callee_of s).state.answered =
    search rules in
    let d = took s c.take_over-found.new.seat t.0 got.0 t.1 got.2 even in
    let v = c.read_frame.ensures in
    let now : callee_of c.take_over-found.new.seat ≡ callee_took (callee_of s) got.0 =
    callee_is s c.take_over-found.new.seat t.0 t.1 ∙ got.2 in
    let after : (callee_of c.read_frame.new.seat).state
    ≡ (callee_of c.take_over-found.new.seat).state =
    ap (λ (z : CalleeHalf). z.state) (callee_is c.take_over-found.new.seat c.read_frame.new.seat
    (callee_after (callee_of c.take_over-found.new.seat) (2 + frame_size _)) v.view) in
    let frame : c.read_frame.new.frame ≡ got.0 = v.value ∙ d.picked in
    let ts : (callee_of c.read_frame.new.seat).state.taken
    ≡ (callee_of s).state.taken ++ c.read_frame.new.frame ∷ [] =
    ap (λ z. z.taken) after ∙ (ap (λ (z : CalleeHalf). z.state.taken) now
    ∙ ap (λ (f : Frame). (callee_of s).state.taken ++ f ∷ []) (sym frame)) in
    let ans : (callee_of c.read_frame.new.seat).state.answered ≡ (callee_of s).state.answered =
    ap (λ z. z.answered) after ∙ ap (λ (z : CalleeHalf). z.state.answered) now in
    record {
      open_before = search rules;
      owed_nothing = even;
      taken = λ i. record {
        taken = ts i;
        answered = ans i;
        closed = k.closed;
        told = k.told;
        takes = one_more k.takes;
      };
    }
