-- What is said of the hardware, and what belongs to a history.
use Rattle.std.proofs.Common.{◌≡◌, ◌≢◌, ◌↔◌, ◌⊎◌, inl, inr, ℕ, Bool, true, false, Result, Ok, Err, IfErr, List, [], ◌∷◌, ◌++◌, Option, Some, None, option_map, slice_get, sym, subst, ap, refl, ◌∙◌}
use Rattle.std.specs.Option.{option_or, option_to_list}
use Rattle.std.specs.Result.{is_ok}
use Rattle.std.proofs.lemmas.Bool.{cases_Bool}
use Rattle.scmi_codec.specs.declared.frame.Frame.{Frame}
use Rattle.scmi_plan.specs.Board.{Board}
use Rattle.scmi_core.specs.Asked.{Asked, Made, Refused, and_asked}
use Rattle.scmi_core.specs.Driven.{ask_after, asks, asks_from}
use Rattle.scmi_core.specs.Commands.{setting_effect}
use Rattle.scmi_core.specs.Effect.{effect_after, effect_of}
use Rattle.scmi_core.specs.Standing.{Standing, StandsAfter}
use Rattle.scmi_core.specs.History.{HasPendingAt, IsIdle, deeds}
use Rattle.scmi_core.specs.Pending.{pending_sets}
use Rattle.scmi_core.specs.Value.{completion, set_to_change}
use Rattle.scmi_plan.specs.declared.effect.Effect.{Effect}
use Rattle.scmi_core.specs.declared.event.Event.{Event}
use Rattle.scmi_core.specs.declared.event.Event.TheVariants.{Command as Called, Advance, Sent, CommandFailed, AdvanceFailed, Restarted, Promoted, Reported, Settled}
use Rattle.scmi_codec.specs.declared.fault.Fault.{Fault}
use Rattle.scmi_core.specs.declared.pending_set.PendingSet.{PendingSet}
use Rattle.scmi_core.specs.declared.pending_set.Setting.{Setting}
use Rattle.scmi_core.specs.declared.pending_set.Setting.TheVariants as setting
use Rattle.scmi_core.proofs.EffectsMade.{asks-push}
use Rattle.scmi_core.proofs.Ties.{promoted-waits}
use Rattle.scmi_c.specs.declared.refusal.Refusal.{Refusal}
use Rattle.scmi_c.specs.declared.refusal.Refusal.TheVariants.{Nothing, WrongStatus}
use Rattle.scmi_c.specs.Calls.{HasHappened}
use Rattle.scmi_c.specs.Driven.{Drives, IsDriven, IsUnsaid, failure_after, failures, failures_from, refused_of}
use Rattle.scmi_core.specs.Said.{next_effect}
use Rattle.scmi_c.specs.Standing.{Held, IsCount, StandsAt, board_of}

-- one more event, at which what belongs to it was said
driven_on : (p k : Held) (event : Event) (h : List Event) → HasHappened p k event → IsDriven p h
    → k.said ≡ and_asked p.said (ask_after (board_of p) h event)
    → IsDriven k (h ++ event ∷ [])
driven_on p k event h happened is said = (
  happened.after h is.0,
  said
      ∙ ap (λ (asks : List Asked). and_asked asks (ask_after (board_of p) h event)) is.1
      ∙ asks-push (board_of p) [] h event
      ∙ ap (λ (board : Board). asks board (h ++ event ∷ [])) (sym happened.board),
)

pub drives : (p k : Held) (event : Event) → HasHappened p k event → ((h : List Event) → StandsAt p h
    → k.said ≡ and_asked p.said (ask_after (board_of p) h event)) → Drives p k event
drives p k event happened said =
    record { said = said; driven = λ h is. driven_on p k event h happened is (said h is.0) }

-- nothing belongs to a history without events
pub starts : (p : Held) → StandsAt p [] → p.said ≡ [] → IsDriven p []
unfolding asks
starts p at said = (at, said)

-- after a promotion a set is pending
pub promoted-idle : (p k : Held) (place : ℕ) → HasHappened p k (Promoted place) → (h : List Event)
    → StandsAt p h → HasPendingAt (board_of p) h place
    → ¬ (IsIdle (board_of k) (h ++ Promoted place ∷ []))
promoted-idle p k place happened h at within = λ idle.
    promoted-waits (board_of p) h place at.0.legal within
    (subst (λ (board : Board). IsIdle board (h ++ Promoted place ∷ [])) happened.board idle)

-- so that a call which ends a set, unless none is pending, ends one
pub ends : (p k : Held) (place : ℕ) → HasHappened p k (Promoted place) → (h : List Event)
    → StandsAt p h → HasPendingAt (board_of p) h place
    → (done : Bool) → ((h' : List Event) → StandsAt k h' → (done ≡ false) → IsIdle (board_of k) h')
    → done ≡ true
ends p k place happened h at within done waiting = by (cases_Bool done) where
  by : (done ≡ true) ⊎ (done ≡ false) → done ≡ true
  by (inl did) = did
  by (inr not) = absurd (promoted-idle p k place happened h at within
      (waiting (h ++ Promoted place ∷ []) (happened.after h at) not))

-- with a fault nothing else is refused
pub only-nothing : (r : Result (Unit {0}) Refusal) (fault : Fault) → is_ok r ≡ false
    → IfErr r (λ e. (e ≡ Nothing) ⊎ ((e ≡ WrongStatus) × (Some fault ≡ None))) → r ≡ Err Nothing
only-nothing (Ok done) fault not errors = absurd (let both : true ≡ false = not in cc)
only-nothing (Err e) fault not (inl is) = ap (λ (refusal : Refusal). Err refusal) is
only-nothing (Err e) fault not (inr is) = absurd (let none : Some fault ≡ None = is.1 in cc)

-- a command's change, which was made or refused
pub drives_made : (p k : Held) (agent : ℕ) (frame : Frame) (effect : Effect)
    → HasHappened p k (Called agent frame)
    → ((h : List Event) → StandsAt p h → effect_after (board_of p) h (Called agent frame)
    ≡ Some effect) → k.said ≡ p.said ++ Made effect ∷ []
    → Drives p k (Called agent frame)
drives_made p k agent frame effect happened is said =
    drives p k (Called agent frame) happened (λ h at. said
    ∙ ap (λ (o : Option Effect). and_asked p.said (option_map Made o)) (sym (is h at)))

pub drives_refused : (p k : Held) (agent : ℕ) (frame : Frame) (effect : Effect) (fault : Fault)
    → HasHappened p k (CommandFailed agent frame fault)
    → ((h : List Event) → StandsAt p h → effect_after (board_of p) h (Called agent frame)
    ≡ Some effect) → k.said ≡ p.said ++ Refused effect fault ∷ []
    → Drives p k (CommandFailed agent frame fault)
drives_refused p k agent frame effect fault happened is said =
    drives p k (CommandFailed agent frame fault) happened
    (λ h at. said ∙ ap (λ (o : Option Effect). and_asked p.said
    (option_map (λ effect. Refused effect fault) o)) (sym (is h at)))

-- a command without one
pub is_unsaid : (p k : Held) (agent : ℕ) (frame : Frame) → HasHappened p k (Called agent frame)
    → k.said ≡ p.said → IsUnsaid p k agent frame
is_unsaid p k agent frame happened said = record {
  said = said;
  driven = λ h is none. driven_on p k (Called agent frame) h happened is
      (said ∙ ap (λ (o : Option Effect). and_asked p.said (option_map Made o)) (sym none));
}

pub drives_none : (p k : Held) (agent : ℕ) (frame : Frame) → IsUnsaid p k agent frame
    → ((h : List Event) → StandsAt p h → None ≡ effect_after (board_of p) h (Called agent frame))
    → Drives p k (Called agent frame)
drives_none p k agent frame quiet none = record {
  said = λ h at. quiet.said
      ∙ ap (λ (o : Option Effect). and_asked p.said (option_map Made o)) (none h at);
  driven = λ h is. quiet.driven h is (sym (none h is.0));
}

-- the change of the first pending set, by the tables and by the history
first : (o : Option PendingSet) → option_map (λ set. setting_effect set.setting) o
    ≡ option_map effect_of (option_or (option_map completion o) None)
first None = refl
first (Some set) = by set.agent set.setting where
  by : (agent : ℕ) (s : Setting)
      → Some (setting_effect s) ≡ Some (effect_of (set_to_change agent s))
  by agent (setting.State d state) = refl
  by agent (setting.Rate c rate) = refl

next_is : (p : Standing) (h : List Event) → StandsAfter p h
    → next_effect p ≡ effect_after p.board h Advance
next_is p h at = ap (λ (sets : List PendingSet). option_map (λ set. setting_effect set.setting)
    (slice_get sets 0)) at.pending ∙ first (slice_get (pending_sets p.board (deeds p.board h)) 0)

pub drives_next : (p k : Held) → HasHappened p k Advance
    → k.said ≡ and_asked p.said (option_map Made (next_effect p.platform)) → Drives p k Advance
drives_next p k happened said =
    drives p k Advance happened (λ h at. said ∙ ap
    (λ (o : Option Effect). and_asked p.said (option_map Made o)) (next_is p.platform h at.0))

pub drives_failed : (p k : Held) (fault : Fault) → HasHappened p k (AdvanceFailed fault)
    → k.said ≡ and_asked p.said (option_map (λ effect. Refused effect fault)
    (next_effect p.platform)) → Drives p k (AdvanceFailed fault)
drives_failed p k fault happened said =
    drives p k (AdvanceFailed fault) happened
    (λ h at. said ∙ ap (λ (o : Option Effect). and_asked p.said
    (option_map (λ effect. Refused effect fault) o)) (next_is p.platform h at.0))

-- an event that happened has happened, whatever is said after it
pub happened_said : (p k n : Held) (event : Event) → HasHappened p k event → n.platform ≡ k.platform
    → n.events ≡ k.events → HasHappened p n event
happened_said p k n event happened platform events = record {
  after = λ h at. let was = happened.after h at in (
    subst (λ (s : Standing). StandsAfter s (h ++ event ∷ [])) (sym platform) was.0,
    subst (λ (count : Option ℕ). IsCount count (h ++ event ∷ [])) (sym events) was.1,
  );
  board = ap (λ (s : Standing). s.board) platform ∙ happened.board;
  counted = subst (λ (count : Option ℕ). (p.events ≢ None) ↔ (count ≢ None))
      (sym events) happened.counted;
}

-- A LIST OF WHAT WAS ASKED FOR

refused_of-append : (xs ys : List Asked) → refused_of (xs ++ ys) ≡ refused_of xs ++ refused_of ys
refused_of-append [] ys = refl
refused_of-append (Made effect ∷ xs) ys = refused_of-append xs ys
refused_of-append (Refused effect fault ∷ xs) ys = ap (λ zs. effect ∷ zs) (refused_of-append xs ys)

made : (o : Option Effect) → refused_of (option_to_list (option_map Made o)) ≡ []
made None = refl
made (Some effect) = refl

refused : (fault : Fault) (o : Option Effect)
    → refused_of (option_to_list (option_map (λ effect. Refused effect fault) o)) ≡ option_to_list o
refused fault None = refl
refused fault (Some effect) = refl

-- what is refused at an event is what fails at it
refused_after : (board : Board) (h : List Event) (event : Event) → refused_of
    (option_to_list (ask_after board h event)) ≡ option_to_list (failure_after board h event)
refused_after board h (Called a frame) = made (effect_after board h (Called a frame))
refused_after board h Advance = made (effect_after board h Advance)
refused_after board h (Sent a) = refl
refused_after board h (CommandFailed a frame fault) =
    refused fault (effect_after board h (Called a frame))
refused_after board h (AdvanceFailed fault) = refused fault (effect_after board h Advance)
refused_after board h (Restarted a) = refl
refused_after board h (Promoted place) = refl
refused_after board h (Settled clock rate) = refl
refused_after board h (Reported effect) = refl

refused_from : (board : Board) (before h : List Event)
    → refused_of (asks_from board before h) ≡ failures_from board before h
refused_from board before [] = refl
refused_from board before (event ∷ h) =
    refused_of-append (option_to_list (ask_after board before event))
    (asks_from board (before ++ event ∷ []) h)
    ∙ ap (λ xs. xs ++ refused_of (asks_from board (before ++ event ∷ []) h))
    (refused_after board before event)
    ∙ ap (λ xs. option_to_list (failure_after board before event) ++ xs)
    (refused_from board (before ++ event ∷ []) h)

-- what the hardware is asked for in a history and refuses is what fails in it
pub refused_failures : (board : Board) (h : List Event)
    → refused_of (asks board h) ≡ failures board h
unfolding asks
refused_failures board h = refused_from board [] h
