-- What serving an agent and flushing its outbox add to a history of plain events.
use Rattle.std.proofs.Common.{◌≡◌, ℕ, Bool, true, false, List, [], ◌∷◌, ◌++◌, None, Result, Ok, Err, OnOk, OnErr, IfOk, refl, sym, ap, subst, ◌∙◌}
use Rattle.std.specs.List.{All}
use Rattle.std.proofs.lemmas.List.Elements.{All-push}
use Rattle.scmi_core.proofs.EffectsMade.{asks-stay}
use Rattle.scmi_core.specs.Driven.{ask_after, asks}
use Rattle.scmi_core.specs.Legal.{told}
use Rattle.scmi_core.specs.Platform.{Platform}
use Rattle.scmi_core.specs.declared.core_error.CoreError.{CoreError}
use Rattle.scmi_core.specs.Plain.{IsPlain}
use Rattle.scmi_core.specs.declared.event.Event.{Event}
use Rattle.scmi_core.specs.declared.event.Event.TheVariants.{Command, Reported, Restarted, Sent}
use Rattle.scmi_link.specs.declared.flushed.Flushed.{Flushed}
use Rattle.scmi_link.specs.declared.flushed.Flushed.TheVariants as flushed
use Rattle.scmi_link.specs.declared.served.Served.{Served}
use Rattle.scmi_link.specs.declared.served.Served.TheVariants as served
use Rattle.scmi_ends.specs.ControllerView.{ControllerView, callee_of}
use Rattle.scmi_ends.specs.Flush.{Flushes, FlushesOne}
use Rattle.scmi_ends.specs.Serve.{Serves, ServesOne}
use Rattle.scmi_link.specs.View.{CallerView, CalleeView}
use Rattle.scmi_plan.specs.Board.{Board}
use Rattle.scmi_plan.specs.declared.effect.Effect.{Effect}
use Rattle.scmi_plan.specs.declared.report.Report.{Report}
use Rattle.scmi_plan.specs.declared.report.Report.TheVariants as report

pub one_more_event : (P : Event → Type 0) (h h' : List Event) (e : Event) → h' ≡ h ++ e ∷ [] → P e
    → All P h → All P h'
one_more_event P h h' e is p all = subst (All P) (sym is) (All-push P h e all p)

one_served : (board : Board) (a : ℕ) (h h' : List Event) (v w : CalleeView) (r : Served)
    → ServesOne board a h v r h' w → All IsPlain h → All IsPlain h'
one_served board a h h' v w served.Nothing s all = subst (All IsPlain) (sym s.0) all
one_served board a h h' v w served.Done s all =
    one_more_event IsPlain h h' (Command a s.frame) s.event tt all

pub served_plain : (a : ℕ) (c : ControllerView) (r : Served) (c' : ControllerView) → Serves a c r c'
    → All IsPlain c.history → All IsPlain c'.history
served_plain a c r c' s all =
    one_served c.board a c.history c'.history (callee_of c a) s.callee r s.step all

one_flushed : (P : Event → Type 0) (full : Bool) (board : Board) (a : ℕ) (h h' : List Event)
    (v w : CallerView) (r : Flushed) → P (Sent a) → FlushesOne full board a h v r h' w
    → All P h → All P h'
one_flushed P full board a h h' v w flushed.Waiting p s all = subst (All P) (sym s.0) all
one_flushed P full board a h h' v w flushed.Nothing p s all = subst (All P) (sym s.0) all
one_flushed P full board a h h' v w flushed.Closed p s all = subst (All P) (sym s.0) all
one_flushed P full board a h h' v w flushed.Posted p s all =
    one_more_event P h h' (Sent a) s.event p all

pub flushed_all : (P : Event → Type 0) (full : Bool) (a : ℕ) (c : ControllerView) (r : Flushed)
    (c' : ControllerView) → P (Sent a) → Flushes full a c r c' → All P c.history → All P c'.history
flushed_all P full a c r c' p s all =
    one_flushed P full c.board a c.history c'.history s.step.collected s.caller r p s.step.step all

pub flushed_plain : (full : Bool) (a : ℕ) (c : ControllerView) (r : Flushed) (c' : ControllerView)
    → Flushes full a c r c' → All IsPlain c.history → All IsPlain c'.history
flushed_plain full a c r c' s all = flushed_all IsPlain full a c r c' tt s all

-- hardware is asked for nothing by the flushing of an outbox
pub flushed_asks : (full : Bool) (board : Board) (a : ℕ) (h h' : List Event) (v w : CallerView)
    (r : Flushed) → FlushesOne full board a h v r h' w → asks board h' ≡ asks board h
flushed_asks full board a h h' v w flushed.Waiting s = ap (asks board) s.0
flushed_asks full board a h h' v w flushed.Nothing s = ap (asks board) s.0
flushed_asks full board a h h' v w flushed.Closed s = ap (asks board) s.0
flushed_asks full board a h h' v w flushed.Posted s = ap (asks board) s.event
    ∙ asks-stay board h (Sent a) refl

-- nor by a call of `Core` that adds an event at which it is asked for nothing, or is refused
asked_after : (old new : Platform) (e : Event) (r : Result (Unit {0}) CoreError)
    → ask_after old.board old.history e ≡ None → new.board ≡ old.board
    → OnOk r (new.history ≡ old.history ++ e ∷ []) → OnErr r (new ≡ old)
    → asks new.board new.history ≡ asks old.board old.history
asked_after old new e (Ok done) none eb event err =
    ap (λ board. asks board new.history) eb
    ∙ ap (asks old.board) event
    ∙ asks-stay old.board old.history e none
asked_after old new e (Err error) none eb event err = ap (λ p. asks p.board p.history) err

-- such as the restart of an agent
pub restarted_asks : (old new : Platform) (a : ℕ) (r : Result (Unit {0}) CoreError) → new.board
    ≡ old.board → OnOk r (new.history ≡ old.history ++ Restarted a ∷ []) → OnErr r (new ≡ old)
    → asks new.board new.history ≡ asks old.board old.history
restarted_asks old new a r eb event err = asked_after old new (Restarted a) r refl eb event err

-- or the report of a change that it made by itself
pub reported_asks : (old new : Platform) (effect : Effect) (r : Result (Unit {0}) CoreError)
    → new.board ≡ old.board → OnOk r (new.history ≡ old.history ++ Reported effect ∷ [])
    → OnErr r (new ≡ old)
    → asks new.board new.history ≡ asks old.board old.history
reported_asks old new effect r eb event err =
    asked_after old new (Reported effect) r refl eb event err

-- nor for anything else that it reports
told_unasked : (board : Board) (h : List Event) (r : Report) → ask_after board h (told r) ≡ None
told_unasked board h (report.Changed effect) = refl
told_unasked board h (report.First place) = refl
told_unasked board h (report.Settled clock rate) = refl

pub told_asks : (old new : Platform) (said : Report) (r : Result Bool CoreError) → new.board
    ≡ old.board → IfOk r (λ did. did ≡ true → new.history ≡ old.history ++ told said ∷ [])
    → IfOk r (λ did. did ≡ false → new ≡ old) → OnErr r (new ≡ old)
    → asks new.board new.history ≡ asks old.board old.history
told_asks old new said (Ok true) eb event same err = asked_after old new (told said) (Ok tt)
    (told_unasked old.board old.history said) eb (event refl) tt
told_asks old new said (Ok false) eb event same err = ap (λ p. asks p.board p.history) (same refl)
told_asks old new said (Err error) eb event same err = ap (λ p. asks p.board p.history) err
