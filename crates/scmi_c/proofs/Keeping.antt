-- A command that was asked about, and its change.
use Rattle.std.proofs.Common.{rules, ◌≡◌, ◌≢◌, ◌≤◌, ◌<◌, ◌==◌, ◌||◌, ℕ, Bool, true, false, if◌then◌else◌, List, [], ◌∷◌, ◌++◌, length, Option, Some, None, IfSome, IsSomeAnd, Result, Ok, IfOk, refl, sym, subst, ap, ◌∙◌, eq-eqb}
use Rattle.scmi_codec.specs.ChannelArea.{channel_words, is_channel_size}
use Rattle.scmi_codec.specs.declared.frame.Frame.{Frame}
use Rattle.scmi_codec.specs.declared.frame.Frame.TheVariants.{Good, Malformed}
use Rattle.scmi_codec.specs.declared.message.Message.{Message}
use Rattle.scmi_plan.specs.Board.{Board, channel_of}
use Rattle.scmi_core.specs.Asked.{Asked as Request}
use Rattle.scmi_core.specs.Effect.{effect_after, is_set_frame}
use Rattle.scmi_plan.specs.declared.effect.Effect.{Effect}
use Rattle.scmi_plan.specs.declared.effect.Effect.TheVariants.{Rate}
use Rattle.scmi_core.specs.declared.event.Event.{Event}
use Rattle.scmi_core.specs.declared.event.Event.TheVariants.{Command as Called}
use Rattle.scmi_c.specs.Calls.{HasHappened, IsAskedAbout}
use Rattle.scmi_c.specs.Driven.{Says}
use Rattle.scmi_c.specs.Effect.{IsRate, numbers_of}
use Rattle.scmi_c.specs.Aside.{IsHeldBackBy, KeepsSpared, Spares, disturbs, holds_back}
use Rattle.scmi_c.specs.Kept.{AreAskable, Asked, IsAskable, IsKept, aside_by, asked_by, asked_of}
use Rattle.scmi_c.specs.declared.aside.Slot.{Slot}
use Rattle.scmi_c.specs.declared.refusal.Refusal.{Refusal}
use Rattle.scmi_c.specs.Standing.{Held, StandsAt, board_of}
use Rattle.scmi_c.specs.declared.desk.Waiting.{Waiting}
use Rattle.scmi_c.proofs.Places.{own-agent}
use Rattle.scmi_c.proofs.RateChanges.{rate-given}

-- what holds of the command that waits
pub kept-of : (P : Asked → Type 0) (frame : Frame) (waiting : Waiting) → waiting.is_asked ≡ true
    → IfSome (asked_by frame waiting) P
    → P (asked_of frame waiting)
kept-of P frame waiting is holds =
    subst (λ (b : Bool). IfSome (if b then Some (asked_of frame waiting) else None) P) is holds

-- the change of the numbers that wait is the one that was given
module _ (p : Held) (frame : Frame) (waiting : Waiting) (effect : Effect)
    (is : waiting.is_asked ≡ true) (all : IfSome (asked_by frame waiting) (IsAskable p))
    (only : (other : Effect) → numbers_of other ≡ waiting.change → effect ≡ other) where
  may : IsAskable p (asked_of frame waiting)
  may = kept-of (IsAskable p) frame waiting is all

  given : effect ≡ may.change
  given = only may.change may.given

  pub effect-is : (h : List Event) → StandsAt p h
      → effect_after (board_of p) h (Called waiting.agent frame) ≡ Some effect
  effect-is h at = may.effect h at ∙ ap (λ (e : Effect). Some e) (sym given)

  -- so what is said of it is said of these numbers
  pub effect-said : (ask : Effect → Request) (q k : Held) → k.said ≡ q.said ++ ask effect ∷ []
      → Says ask waiting.change q k
  effect-said ask q k said = record {
    effect = effect;
    numbers = ap numbers_of given ∙ may.given;
    said = said;
  }

  -- and if they give a clock a rate, the board has the clock
  pub rate-clock : (k : Held) (event : Event)
      → ((clock rate : ℕ) → effect ≡ Rate clock rate → clock < length (board_of p).clocks)
      → HasHappened p k event → IsRate waiting.change
      → waiting.change.id < length (board_of k).clocks
  rate-clock k event known happened kind =
      let rate = rate-given may.change waiting.change may.given kind in
      subst (λ (board : Board). waiting.change.id < length board.clocks) (sym happened.board)
      (known waiting.change.id rate.0 (given ∙ rate.1))

-- so there is a change
pub effect-some : (o : Option Effect) (effect : Effect) → o ≡ Some effect → o ≢ None
effect-some o effect is = λ none. absurd (cc)

-- what was asked about may be committed and may fail
pub askable : (p k : Held) (agent bytes : ℕ) (frame : Frame) (waits : Option Frame)
    (effect : Effect) (waiting : Waiting)
    → IsAskedAbout p k agent → waits ≡ Some frame
    → IsSomeAnd waits (λ frame. (h : List Event) → StandsAt p h
    → Some effect ≡ effect_after (board_of p) h (Called agent frame))
    → waiting.is_asked ≡ true → waiting.agent ≡ agent → waiting.bytes ≡ bytes
    → waiting.change ≡ numbers_of effect
    → is_channel_size bytes ≡ true → (channel_of (board_of p) agent).words ≤ channel_words bytes
    → IfSome (asked_by frame waiting) (IsAskable k)
askable p k agent bytes frame waits effect waiting about is given asks of_agent of_bytes to
    size words =
    let all : (h : List Event) → StandsAt p h
    → Some effect ≡ effect_after (board_of p) h (Called agent frame) =
    subst (λ (o : Option Frame). IsSomeAnd o (λ frame. (h : List Event) → StandsAt p h
    → Some effect ≡ effect_after (board_of p) h (Called agent frame))) is given in
    let asked : Asked =
    record { agent = agent; frame = frame; bytes = bytes; change = waiting.change } in
    let may : IsAskable p asked = record {
      agent = about.is_agent;
      valid = about.valid;
      change = effect;
      given = sym to;
      effect = λ h at. sym (all h at);
      size = size;
      words = words;
    } in
    let there : asked_by frame waiting ≡ Some asked = search rules in
    subst (λ (o : Option Asked). IfSome o (IsAskable k)) (sym there)
    (subst (λ (held : Held). IsAskable held asked) (sym about.same) may)

-- WHAT IS SET ASIDE

spares : (command : Asked) (agent : ℕ) (frame : Frame) (m : Message) → frame ≡ Good m
    → (holds_back command agent m ≡ true → ⊥) → Spares frame command
spares command agent frame m is free =
    subst (λ (f : Frame). Spares f command) (sym is)
    (by (command.agent == agent) (disturbs m command.change) free) where
      by : (own other : Bool) → ((own || other) ≡ true → ⊥) → other ≡ false
      by true other free = absurd (free refl)
      by false true free = absurd (free refl)
      by false false free = refl

-- it is kept by a frame that is not held back
pub spared-aside : (p k : Held) (aside : ℕ → Option Asked) (agent : ℕ) (frame : Frame) → KeepsSpared
    frame p k → (IsHeldBackBy aside agent frame → ⊥) → AreAskable p aside → AreAskable k aside
spared-aside p k aside agent (Malformed len header) keeps free may other =
    by (aside other) (may other) where
      by : (o : Option Asked) → IfSome o (IsAskable p) → IfSome o (IsAskable k)
      by None had = tt
      by (Some command) had = keeps command tt had
spared-aside p k aside agent (Good m) keeps free may other =
    by (aside other) (may other) (λ held. free (other, held)) where
      by : (o : Option Asked) → IfSome o (IsAskable p)
          → (IsSomeAnd o (λ command. holds_back command agent m ≡ true) → ⊥)
          → IfSome o (IsAskable k)
      by None had free = tt
      by (Some command) had free = keeps command (spares command agent (Good m) m refl free) had

-- a set that is not held back is of an agent that has nothing set aside
pub own-free : (slots : List Slot) (agent : ℕ) (frame : Frame) → is_set_frame frame ≡ true
    → (IsHeldBackBy (aside_by slots) agent frame → ⊥) → aside_by slots agent ≡ None
own-free slots agent (Malformed len header) set free = absurd (let no : false ≡ true = set in cc)
own-free slots agent (Good m) set free =
    by (aside_by slots agent) (own-agent slots agent) (λ held. free (agent, held)) where
      by : (o : Option Asked) → IfSome o (λ command. command.agent ≡ agent)
          → (IsSomeAnd o (λ command. holds_back command agent m ≡ true) → ⊥) → o ≡ None
      by None own free = refl
      by (Some command) own free = absurd
          (free (ap (λ (is : Bool). is || disturbs m command.change)
          (eq-eqb command.agent agent own)))

-- no command waits, whatever frame is read next
still-unasked : (f g : Frame) (waiting : Waiting) → asked_by f waiting ≡ None
    → asked_by g waiting ≡ None
still-unasked f g waiting none = by waiting.is_asked none where
  by : (b : Bool) → (if b then Some (asked_of f waiting) else None) ≡ None
      → (if b then Some (asked_of g waiting) else None) ≡ None
  by true none = absurd (cc)
  by false none = refl

-- a desk of which no command waits
pub plain-kept : (k : Held) (f g : Frame) (waiting : Waiting) (slots : List Slot) → asked_by f
    waiting ≡ None → AreAskable k (aside_by slots) → IsKept k (asked_by g waiting) (aside_by slots)
plain-kept k f g waiting slots none may =
    let still = still-unasked f g waiting none in
    record {
      asked = subst (λ (o : Option Asked). IfSome o (IsAskable k)) (sym still) tt;
      aside = may;
      apart = subst (λ (o : Option Asked). IfSome o
          (λ command. aside_by slots command.agent ≡ None)) (sym still) tt;
    }

-- and none is set aside
pub free-kept : (k : Held) (f g : Frame) (waiting : Waiting) (slots : List Slot)
    → asked_by f waiting ≡ None → ((agent : ℕ) → aside_by slots agent ≡ None)
    → IsKept k (asked_by g waiting) (aside_by slots)
free-kept k f g waiting slots none free = plain-kept k f g waiting slots none
    (λ agent. subst (λ (o : Option Asked). IfSome o (IsAskable k)) (sym (free agent)) tt)

-- a desk of which a command waits
pub asked-kept : (k : Held) (frame : Frame) (waiting : Waiting) (slots : List Slot) (agent : ℕ)
    → IfSome (asked_by frame waiting) (IsAskable k) → AreAskable k (aside_by slots)
    → waiting.agent ≡ agent → aside_by slots agent ≡ None
    → IsKept k (asked_by frame waiting) (aside_by slots)
asked-kept k frame waiting slots agent asked may own free =
    record { asked = asked; aside = may; apart = by waiting.is_asked } where
      by : (b : Bool) → IfSome (if b then Some (asked_of frame waiting) else None)
          (λ command. aside_by slots command.agent ≡ None)
      by true = ap (aside_by slots) own ∙ free
      by false = tt

-- what holds of an effect that was given
pub of-effect : (P : Option Effect → Type 0) (r : Result (Option Effect) Refusal)
    (effect : Option Effect) → r ≡ Ok effect → IfOk r P → P effect
of-effect P r effect is all = subst (λ (r : Result (Option Effect) Refusal). IfOk r P) is all

pub some-map : (o : Option Frame) (P Q : Frame → Type 0) → ((frame : Frame) → P frame → Q frame)
    → IsSomeAnd o P → IsSomeAnd o Q
some-map None P Q more had = had
some-map (Some frame) P Q more had = more frame had
