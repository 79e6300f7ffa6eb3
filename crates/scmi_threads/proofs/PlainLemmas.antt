-- What each call of a round adds to the history: no restart, no promotion, no settling and no
-- report, and beside hardware that never refuses a plain event.
use Rattle.std.proofs.Common.{◌≡◌, inl, inr, ℕ, Bool, true, false, List, [], ◌∷◌, ◌++◌, refl, sym, subst}
use Rattle.std.specs.Prelude.{IsTrue}
use Rattle.std.specs.List.{All}
use Rattle.std.proofs.lemmas.List.Elements.{All-nil}
use Rattle.scmi_codec.specs.declared.frame.Frame.{Frame}
use Rattle.scmi_core.specs.Asked.{Asked}
use Rattle.scmi_core.specs.Driven.{HappensOn, IsCommandOf, IsEnd}
use Rattle.scmi_core.specs.Plain.{IsNoReport, IsNoRestart, IsPlain}
use Rattle.scmi_core.specs.declared.event.Event.{Event}
use Rattle.scmi_core.specs.declared.event.Event.TheVariants.{Command, Advance, Sent, CommandFailed, AdvanceFailed, Restarted, Promoted, Reported, Settled}
use Rattle.scmi_link.specs.declared.served.Served.{Served}
use Rattle.scmi_link.specs.declared.served.Served.TheVariants as served
use Rattle.scmi_ends.specs.ControllerView.{ControllerView, callee_of}
use Rattle.scmi_ends.specs.ServeOn.{ServesOn, ServesOneOn}
use Rattle.scmi_ends.proofs.PlainCalls.{one_more_event}
use Rattle.scmi_link.specs.View.{CalleeView}
use Rattle.scmi_plan.specs.Board.{Board}
use Rattle.scmi_threads.specs.Rounds.{IsOfRounds}

pub unrestarted : (e : Event) → IsOfRounds e → IsNoRestart e
unrestarted (Command a frame) is = tt
unrestarted Advance is = tt
unrestarted (Sent a) is = tt
unrestarted (CommandFailed a frame fault) is = tt
unrestarted (AdvanceFailed fault) is = tt
unrestarted (Restarted a) is = is
unrestarted (Promoted place) is = tt
unrestarted (Settled clock rate) is = tt
unrestarted (Reported effect) is = tt

pub unreported : (e : Event) → IsOfRounds e → IsNoReport e
unreported (Command a frame) is = tt
unreported Advance is = tt
unreported (Sent a) is = tt
unreported (CommandFailed a frame fault) is = tt
unreported (AdvanceFailed fault) is = tt
unreported (Restarted a) is = tt
unreported (Promoted place) is = tt
unreported (Settled clock rate) is = tt
unreported (Reported effect) is = is

command_of_rounds : (a : ℕ) (f : Frame) (e : Event) → IsCommandOf a f e → IsOfRounds e
command_of_rounds a f e (inl is) = subst IsOfRounds (sym is) tt
command_of_rounds a f e (inr (fault, is)) = subst IsOfRounds (sym is) tt

end_of_rounds : (e : Event) → IsEnd e → IsOfRounds e
end_of_rounds e (inl is) = subst IsOfRounds (sym is) tt
end_of_rounds e (inr (fault, is)) = subst IsOfRounds (sym is) tt

-- serving an agent

one_served_of_rounds : (board : Board) (a : ℕ) (h h' : List Event) (b b' : List Asked → Type 0)
    (v w : CalleeView) (r : Served) → ServesOneOn board a h b v r h' b' w → All IsOfRounds h
    → All IsOfRounds h'
one_served_of_rounds board a h h' b b' v w served.Nothing s all =
    subst (All IsOfRounds) (sym s.0) all
one_served_of_rounds board a h h' b b' v w served.Done s all =
    let happens = s.executes.happens in
    one_more_event IsOfRounds h h' happens.event happens.history
    (command_of_rounds a s.frame happens.event happens.is_one) all

pub served_of_rounds : (a : ℕ) (c : ControllerView) (b : List Asked → Type 0)
    (r : Served) (c' : ControllerView) (b' : List Asked → Type 0) → ServesOn a c b r c' b'
    → All IsOfRounds c.history → All IsOfRounds c'.history
served_of_rounds a c b r c' b' s all =
    one_served_of_rounds c.board a c.history c'.history b b' (callee_of c a) s.callee r s.step all

-- ending a pending set

pub advanced_of_rounds : (did : Bool) (board : Board) (h h' : List Event)
    (b b' : List Asked → Type 0) → (IsTrue did → HappensOn board IsEnd h b h' b')
    → (¬ (IsTrue did) → h' ≡ h) → All IsOfRounds h → All IsOfRounds h'
advanced_of_rounds true board h h' b b' happens same all =
    let one = happens refl in
    one_more_event IsOfRounds h h' one.event one.history (end_of_rounds one.event one.is_one) all
advanced_of_rounds false board h h' b b' happens same all =
    subst (All IsOfRounds) (sym (same (λ never. cc))) all

pub advanced_plain : (did : Bool) (h h' : List Event) → (IsTrue did → h' ≡ h ++ Advance ∷ [])
    → (¬ (IsTrue did) → h' ≡ h) → All IsPlain h → All IsPlain h'
advanced_plain true h h' event same all = one_more_event IsPlain h h' Advance (event refl) tt all
advanced_plain false h h' event same all = subst (All IsPlain) (sym (same (λ never. cc))) all

-- the rounds of a whole run, which begin with no event, of which the history at the end has another
-- name
pub all_of_run : (P : Event → Type 0) (h h' k : List Event) → h ≡ [] → k ≡ h'
    → (All P h → All P h') → All P k
all_of_run P h h' k none is goes =
    subst (All P) (sym is) (goes (subst (All P) (sym none) (All-nil P)))
