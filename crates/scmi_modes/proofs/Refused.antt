-- What happens beside hardware that refuses each change with one fault.
use Rattle.std.proofs.Common.{◌≡◌, ◌<◌, inl, inr, Bool, true, false, List, [], ◌∷◌, ◌++◌, length, Option, Some, None, refl, sym, ap, subst, ◌∙◌, arith}
use Rattle.std.proofs.lemmas.List.{append-nil, append_cancel_left}
use Rattle.std.proofs.lemmas.List.Elements.{All-head, All-nil, All-push}
use Rattle.std.specs.Prelude.{◌↔◌, ◌≢◌, ℕ, IsTrue, option_map, slice_get}
use Rattle.std.specs.Option.{option_or}
use Rattle.scmi_codec.specs.declared.frame.Frame.{Frame}
use Rattle.scmi_plan.specs.Board.{Board}
use Rattle.scmi_plan.specs.declared.effect.Effect.{Effect}
use Rattle.scmi_plan.specs.declared.effect.Effect.TheVariants.{State}
use Rattle.scmi_core.specs.declared.event.Event.{Event}
use Rattle.scmi_core.specs.declared.event.Event.TheVariants.{Advance, AdvanceFailed, Command, CommandFailed}
use Rattle.scmi_codec.specs.declared.fault.Fault.{Fault}
use Rattle.scmi_core.specs.declared.pending_set.PendingSet.{PendingSet}
use Rattle.scmi_core.specs.Asked.{Asked, IsAsked, Made, Refused, and_asked}
use Rattle.scmi_core.specs.Driven.{HappensOn, IsEnd, ask_after}
use Rattle.scmi_core.specs.Effect.{effect_of, effect_after}
use Rattle.scmi_core.specs.History.{deeds}
use Rattle.scmi_core.specs.Legal.{IsLegal}
use Rattle.scmi_core.specs.Pending.{pending_sets}
use Rattle.scmi_core.specs.Value.{completion}
use Rattle.scmi_link.specs.declared.served.Served.{Served}
use Rattle.scmi_link.specs.declared.served.Served.TheVariants.{Nothing, Done}
use Rattle.scmi_ends.specs.ControllerView.{ControllerView}
use Rattle.scmi_ends.specs.ServeOn.{ServesOn}
use Rattle.scmi_modes.specs.Refusing.{IsAllRefusedWith, IsRefusedWith}
use Rattle.scmi_modes.specs.SessionSteps.{AdvancesRefused, ServesRefused}

-- hardware that refuses each change refuses one more
pub refuses_more : (fault : Fault) (effect : Effect)
    → IsAsked (IsAllRefusedWith fault) (Some (Refused effect fault)) (IsAllRefusedWith fault)
refuses_more fault effect =
    λ asks all. All-push (IsRefusedWith fault) asks (Refused effect fault) all (effect, refl)

-- what was refused with this fault and with the other was refused with one
one_fault : (fault left : Fault) (effect : Effect) (asks : List Asked)
    → IsAllRefusedWith left (Refused effect fault ∷ asks) → left ≡ fault
one_fault fault left effect asks all =
    let first = All-head (IsRefusedWith left) (Refused effect fault) asks all in
    let is : Refused effect fault ≡ Refused first.0 left = first.1 in
    cc

-- after a change that it was asked for, or none, it refuses with the fault with which it refused
-- before
same_fault : (fault left : Fault) (ask : Option Asked)
    → IsAsked (IsAllRefusedWith fault) ask (IsAllRefusedWith left) → left ≡ fault
same_fault fault left ask asked = by ask (asked (before ∷ []) (All-push (IsRefusedWith fault)
    [] before (All-nil (IsRefusedWith fault)) (State 0 0, refl))) where
      before : Asked
      before = Refused (State 0 0) fault

      by : (ask : Option Asked) → IsAllRefusedWith left (and_asked (before ∷ []) ask) → left ≡ fault
      by None all = one_fault fault left (State 0 0) [] all
      by (Some ask) all = one_fault fault left (State 0 0) (ask ∷ []) all

-- if a set is pending, its completion changes something
completion_changes : (sets : List PendingSet) → 0 < length sets
    → option_map effect_of (option_or (option_map completion (slice_get sets 0)) None) ≡ None → ⊥
completion_changes [] some none = omega (arith, some)
completion_changes (set ∷ sets) some none = cc

same_last : (h : List Event) (x y : Event) → h ++ x ∷ [] ≡ h ++ y ∷ [] → x ≡ y
same_last h x y is = let last : x ∷ [] ≡ y ∷ [] = append_cancel_left h (x ∷ []) (y ∷ []) is in cc

longer : (h : List Event) (x : Event) → h ≡ h ++ x ∷ [] → ⊥
longer h x is = let none : [] ≡ x ∷ [] = append_cancel_left h [] (x ∷ []) (append-nil h ∙ is) in cc

module _ (fault : Fault) where
  -- such hardware refused all that it was asked for
  abbrev AllRefused : List Asked → Type 0
  AllRefused = IsAllRefusedWith fault

  -- what it was asked for, it refused
  one_refused : (ask : Asked) → IsAsked AllRefused (Some ask) AllRefused → IsRefusedWith fault ask
  one_refused ask asked =
      All-head (IsRefusedWith fault) ask [] (asked [] (All-nil (IsRefusedWith fault)))

  -- if it has made a change, if there was one, it was to change nothing
  made_none : (change : Option Effect) → IsAsked AllRefused (option_map Made change) AllRefused
      → change ≡ None
  made_none None asked = refl
  made_none (Some effect) asked =
      let one = one_refused (Made effect) asked in
      let made : Made effect ≡ Refused one.0 fault = one.1 in
      cc

  -- the fault with which it refused a change
  refused_as : (change : Option Effect) (given : Fault) → change ≢ None → IsAsked AllRefused
      (option_map (λ effect. Refused effect given) change) AllRefused → given ≡ fault
  refused_as None given some asked = absurd (some refl)
  refused_as (Some effect) given some asked =
      let one = one_refused (Refused effect given) asked in
      let refused : Refused effect given ≡ Refused one.0 fault = one.1 in
      cc

  -- beside it a pending set ends as failed
  ends_failed : (board : Board) (h h' : List Event)
      → 0 < length (pending_sets board (deeds board h))
      → HappensOn board IsEnd h AllRefused h' AllRefused → h' ≡ h ++ AdvanceFailed fault ∷ []
  ends_failed board h h' some happens =
      let changes : effect_after board h Advance ≢ None =
      completion_changes (pending_sets board (deeds board h)) some in
      let asked = (λ (event : Event). IsAsked AllRefused (ask_after board h event) AllRefused) in
      elim happens.is_one [
        | inl is ↦ absurd
            (changes (made_none (effect_after board h Advance) (subst asked is happens.hardware)))
        | inr is ↦
            let same : is.0 ≡ fault = refused_as (effect_after board h Advance) is.0 changes
            (subst asked is.1 happens.hardware) in
            happens.history ∙ ap (λ (event : Event). h ++ event ∷ [])
            (is.1 ∙ ap (λ (given : Fault). AdvanceFailed given) same)
      ]

  -- a command that is in the history of an agent served beside it was to change nothing
  done_none : (a : ℕ) (old : ControllerView) (served : Served) (new : ControllerView)
      → ServesOn a old AllRefused served new AllRefused
      → (frame : Frame) → new.history ≡ old.history ++ Command a frame ∷ []
      → effect_after old.board old.history (Command a frame) ≡ None
  done_none a old Nothing new serves frame is =
      absurd (longer old.history (Command a frame) (sym serves.step.0 ∙ is))
  done_none a old Done new serves frame is =
      let happens = serves.step.executes.happens in
      let event : happens.event ≡ Command a frame =
      same_last old.history happens.event (Command a frame) (sym happens.history ∙ is) in
      made_none (effect_after old.board old.history (Command a frame)) (subst (λ event. IsAsked
      AllRefused (ask_after old.board old.history event) AllRefused) event happens.hardware)

  -- one that failed there, and was to change something, failed with its fault
  failed_as : (a : ℕ) (old : ControllerView) (served : Served) (new : ControllerView)
      → ServesOn a old AllRefused served new AllRefused
      → (frame : Frame) (given : Fault) → new.history ≡ old.history ++ CommandFailed a frame given
      ∷ [] → effect_after old.board old.history (Command a frame) ≢ None → given ≡ fault
  failed_as a old Nothing new serves frame given is some =
      absurd (longer old.history (CommandFailed a frame given) (sym serves.step.0 ∙ is))
  failed_as a old Done new serves frame given is some =
      let happens = serves.step.executes.happens in
      let event : happens.event ≡ CommandFailed a frame given = same_last old.history happens.event
      (CommandFailed a frame given) (sym happens.history ∙ is) in
      refused_as (effect_after old.board old.history (Command a frame)) given some
      (subst (λ event. IsAsked AllRefused (ask_after old.board old.history event) AllRefused)
      event happens.hardware)

  served_refused : (a : ℕ) (old : ControllerView) (served : Served) (new : ControllerView)
      → IsLegal new.board new.history → new.board ≡ old.board
      → ServesOn a old AllRefused served new AllRefused → ServesRefused fault a old served new
  served_refused a old served new legal board serves = record {
    serves = serves;
    done = done_none a old served new serves;
    failed = λ frame given is.
        let some = subst (λ (b : Board). effect_after b old.history (Command a frame) ≢ None) board
        (legal.each old.history [] (CommandFailed a frame given) is).1 in
        (failed_as a old served new serves frame given is some, some);
  }

-- after an agent was served it refuses with the fault with which it refused before
fault_stays : (fault left : Fault) (a : ℕ)
    (old : ControllerView) (served : Served) (new : ControllerView)
    → ServesOn a old (IsAllRefusedWith fault) served new (IsAllRefusedWith left) → left ≡ fault
fault_stays fault left a old Nothing new serves = same_fault fault left None serves.step.1
fault_stays fault left a old Done new serves =
    let happens = serves.step.executes.happens in
    same_fault fault left (ask_after old.board old.history happens.event) happens.hardware

-- an agent is served beside hardware that refuses each change
pub serves_refused : (fault left : Fault) (a : ℕ) (old : ControllerView) (served : Served)
    (new : ControllerView) → IsLegal new.board new.history → new.board ≡ old.board
    → ServesOn a old (IsAllRefusedWith fault) served new (IsAllRefusedWith left)
    → ServesRefused fault a old served new
serves_refused fault left a old served new legal board serves =
    served_refused fault a old served new legal board
    (subst (λ x. ServesOn a old (IsAllRefusedWith fault) served new (IsAllRefusedWith x))
    (fault_stays fault left a old served new serves) serves)

none_left : (sets : List PendingSet) → ¬ (0 < length sets) → sets ≡ []
none_left [] none = refl
none_left (set ∷ sets) none = absurd (none (omega arith))

no_truth : IsTrue false → ⊥
no_truth is = cc

-- an advance beside hardware that refuses each change
pub advance_refused : (fault left : Fault) (old new : ControllerView) (more : Bool)
    → (IsTrue more ↔ (0 < length (pending_sets old.board (deeds old.board old.history))))
    → (IsTrue more → HappensOn old.board IsEnd old.history (IsAllRefusedWith fault) new.history
    (IsAllRefusedWith left))
    → new ≡ record old { history = new.history; room = new.room }
    → (¬ (IsTrue more) → new ≡ old)
    → AdvancesRefused fault old more new
advance_refused fault left old new true pending happens rest same =
    let some = pending.0 refl in
    let end = happens refl in
    let stays = same_fault fault left (ask_after old.board old.history end.event) end.hardware in
    let refuses = subst (λ x. HappensOn old.board IsEnd old.history
    (IsAllRefusedWith fault) new.history (IsAllRefusedWith x)) stays end in (
      some,
      rest ∙ ap (λ h. record old { history = h; room = new.room })
          (ends_failed fault old.board old.history new.history some refuses),
    )
advance_refused fault left old new false pending happens rest same = (
  none_left (pending_sets old.board (deeds old.board old.history))
      (λ some. no_truth (pending.1 some)),
  same no_truth,
)
