-- The places of commands that are set aside.
use Rattle.std.proofs.Common.{rules, ◌≡◌, ◌≢◌, ◌↔◌, ◌≤◌, ◌<◌, ◌+◌, ◌-◌, ◌==◌, ◌&&◌, ◌||◌, ℕ, zero, suc, Bool, true, false, List, [], ◌∷◌, length, slice_get, slice_set, Option, Some, None, IfSome, IsSomeAnd, refl, sym, subst, ap, ◌∙◌, arith, get_or, ◌⊎◌, inl, inr, get_or-set_same, length-set}
use Rattle.std.proofs.lemmas.Bool.{cases_eq, or_parts}
use Rattle.std.proofs.lemmas.List.Folds.{list_any_at}
use Rattle.std.proofs.lemmas.Option.{slice_get-get_or, slice_get_cases, slice_get_past}
use Rattle.scmi_codec.specs.declared.frame.Frame.{Frame}
use Rattle.scmi_codec.specs.declared.frame.Frame.TheVariants.{Good, Malformed}
use Rattle.scmi_codec.specs.declared.message.Message.{Message}
use Rattle.scmi_c.specs.Aside.{IsHeldBackBy, disturbs, holds_back, holds_in, is_any, is_used}
use Rattle.scmi_c.specs.Kept.{aside_by, command_at, command_if, command_in, Asked}
use Rattle.scmi_c.specs.declared.aside.Slot.{Slot}

unused : (slot : Slot) → slot.is_used ≡ false → (own : ℕ) → command_in own slot ≡ None
unused slot off own = search rules

used : (slot : Slot) → slot.is_used ≡ true → (own : ℕ) → command_in own slot ≡ None → ⊥
used slot on own none = by slot.is_used on none where
  by : (b : Bool) → b ≡ true → (command_if b own slot) ≡ None → ⊥
  by true on none = absurd (cc)
  by false on none = absurd (cc)

-- the command of an agent is the one in its place
pub own-place : (slots : List Slot) (agent : ℕ) (slot : Slot) → 1 ≤ agent
    → slice_get slots (agent - 1) ≡ Some slot → aside_by slots agent ≡ command_in agent slot
own-place slots zero slot first is = absurd (let no : 1 ≤ 0 = first in omega arith)
own-place slots (suc place) slot first is =
    let same : suc place - 1 ≡ place = omega arith in
    ap (command_at (suc place)) (ap (slice_get slots) (sym same) ∙ is)

used_or : (b : Bool) → (b ≡ true → ⊥) → b ≡ false
used_or true unless = absurd (unless refl)
used_or false unless = refl

-- and there is one if its place is used
pub has-none : (slots : List Slot) (agent : ℕ) (d : Slot) → 1 ≤ agent → agent - 1 < length slots
    → ((get_or slots (agent - 1) d).is_used ≡ false) ↔ (aside_by slots agent ≡ None)
has-none slots agent d first within =
    let slot : Slot = get_or slots (agent - 1) d in
    let is : aside_by slots agent ≡ command_in agent slot =
    own-place slots agent slot first (slice_get-get_or slots (agent - 1) d within) in (
      λ off. is ∙ unused slot off agent,
      λ none. used_or slot.is_used (λ on. used slot on agent (sym is ∙ none)),
    )

pub past-places : (slots : List Slot) (agent : ℕ) → length slots < agent
    → aside_by slots agent ≡ None
past-places slots zero past = refl
past-places slots (suc place) past =
    ap (command_at (suc place)) (slice_get_past slots place (omega arith))

none-at : (slots : List Slot) → is_any slots ≡ false → (place own : ℕ)
    → command_at own (slice_get slots place) ≡ None
none-at [] off place own = refl
none-at (slot ∷ slots) off zero own = unused slot (or_parts slot.is_used (is_any slots) off).0 own
none-at (slot ∷ slots) off (suc place) own =
    none-at slots (or_parts slot.is_used (is_any slots) off).1 place own

-- no command is there if no place is used, and one is if some place is
pub none-aside : (slots : List Slot) → is_any slots ≡ false → (agent : ℕ)
    → aside_by slots agent ≡ None
none-aside slots off zero = refl
none-aside slots off (suc place) = none-at slots off place (suc place)

some-at : (slots : List Slot) (own : ℕ → ℕ) → is_any slots ≡ true
    → ((place : ℕ) → command_at (own place) (slice_get slots place) ≡ None) → ⊥
some-at [] own on none = absurd (let no : false ≡ true = on in cc)
some-at (slot ∷ slots) own on none = by slot.is_used refl on
    (λ more. some-at slots (λ place. own (suc place)) more (λ place. none (suc place))) where
      by : (b : Bool) → slot.is_used ≡ b → (b || is_any slots) ≡ true
          → (is_any slots ≡ true → ⊥) → ⊥
      by true is on rest = used slot is (own 0) (none 0)
      by false is on rest = rest on

pub some-aside : (slots : List Slot) → is_any slots ≡ true
    → ((agent : ℕ) → aside_by slots agent ≡ None) → ⊥
some-aside slots on none = some-at slots suc on (λ place. none (suc place))

pub any-set : (slots : List Slot) (place : ℕ) (slot : Slot) → place < length slots
    → slot.is_used ≡ true → true ≡ is_any (slice_set slots place slot)
any-set slots place slot within on =
    let long : place < length (slice_set slots place slot) =
    subst (λ (n : ℕ). place < n) (sym (length-set slots place slot)) within in
    sym (list_any_at is_used (slice_set slots place slot) place slot long
    (ap is_used (get_or-set_same slots place slot slot within) ∙ on))

-- FRAMES THAT ARE HELD BACK

pub holds-in : (own : ℕ) (slot : Slot) (agent : ℕ) (m : Message) → holds_in own slot agent m ≡ true
    → IsSomeAnd (command_in own slot) (λ command. holds_back command agent m ≡ true)
holds-in own slot agent m on = by slot.is_used on where
  by : (b : Bool) → (b && (own == agent || disturbs m slot.change)) ≡ true
      → IsSomeAnd (command_if b own slot) (λ command. holds_back command agent m ≡ true)
  by true on = on
  by false on = absurd (cc)

pub holds-not : (own : ℕ) (slot : Slot) (agent : ℕ) (m : Message) → holds_in own slot agent m
    ≡ false → IsSomeAnd (command_in own slot) (λ command. holds_back command agent m ≡ true) → ⊥
holds-not own slot agent m off = by slot.is_used off where
  by : (b : Bool) → (b && (own == agent || disturbs m slot.change)) ≡ false
      → IsSomeAnd (command_if b own slot) (λ command. holds_back command agent m ≡ true) → ⊥
  by true off on = absurd (let no : true ≡ false = sym on ∙ off in cc)
  by false off on = on

-- a place that was looked at
pub held-by : (slots : List Slot) (place : ℕ) (slot : Slot) (agent : ℕ) (m : Message)
    → slice_get slots place ≡ Some slot → holds_in (suc place) slot agent m ≡ true
    → IsHeldBackBy (aside_by slots) agent (Good m)
held-by slots place slot agent m is on = (
  suc place,
  subst (λ (o : Option Slot). IsSomeAnd (command_at (suc place) o) (λ command.
      holds_back command agent m ≡ true)) (sym is) (holds-in (suc place) slot agent m on),
)

pub unheld-by : (slots : List Slot) (place : ℕ) (slot : Slot) (agent : ℕ) (m : Message)
    → slice_get slots place ≡ Some slot → holds_in (suc place) slot agent m ≡ false
    → IsSomeAnd (command_at (suc place) (slice_get slots place))
    (λ command. holds_back command agent m ≡ true) → ⊥
unheld-by slots place slot agent m is off held =
    holds-not (suc place) slot agent m off (subst (λ (o : Option Slot). IsSomeAnd
    (command_at (suc place) o) (λ command. holds_back command agent m ≡ true)) is held)

-- one more place was looked at
pub more-unheld : (slots : List Slot) (count agent : ℕ) (m : Message)
    → ((place : ℕ) → place < count → IsSomeAnd (command_at (suc place) (slice_get slots place))
    (λ command. holds_back command agent m ≡ true) → ⊥)
    → (IsSomeAnd (command_at (suc count) (slice_get slots count))
    (λ command. holds_back command agent m ≡ true) → ⊥)
    → (place : ℕ) → place < count + 1 → IsSomeAnd (command_at (suc place) (slice_get slots place))
    (λ command. holds_back command agent m ≡ true) → ⊥
more-unheld slots count agent m had next place within = by (cases_eq place count) where
  by : (place ≡ count) ⊎ (place ≢ count) → IsSomeAnd (command_at (suc place)
      (slice_get slots place)) (λ command. holds_back command agent m ≡ true) → ⊥
  by (inl same) = subst (λ (n : ℕ). IsSomeAnd (command_at (suc n) (slice_get slots n))
      (λ command. holds_back command agent m ≡ true) → ⊥) (sym same) next
  by (inr other) = had place (omega arith)

-- all places were looked at
pub unheld : (slots : List Slot) (count agent : ℕ) (m : Message) → length slots ≤ count
    → ((place : ℕ) → place < count → IsSomeAnd (command_at (suc place) (slice_get slots place))
    (λ command. holds_back command agent m ≡ true) → ⊥)
    → IsHeldBackBy (aside_by slots) agent (Good m) → ⊥
unheld slots count agent m all none held = by held.0 held.1 where
  by : (other : ℕ)
      → IsSomeAnd (aside_by slots other) (λ command. holds_back command agent m ≡ true) → ⊥
  by zero it = it
  by (suc place) it = within (slice_get_cases slots place).1 where
    within : ((x : Slot) × (place < length slots) × (slice_get slots place ≡ Some x)
        × (get_or slots place x ≡ x)) ⊎ ((length slots ≤ place) × (slice_get slots place ≡ None))
        → ⊥
    within (inl found) = none place (omega (arith, found.1)) it
    within (inr past) = subst (λ (o : Option Slot). IsSomeAnd (command_at (suc place) o)
        (λ command. holds_back command agent m ≡ true)) past.1 it

-- nothing is held back if nothing is set aside
pub none-held : (aside : ℕ → Option Asked) → ((agent : ℕ) → aside agent ≡ None)
    → (agent : ℕ) (frame : Frame) → IsHeldBackBy aside agent frame → ⊥
none-held aside none agent (Good m) held = subst (λ (o : Option Asked). IsSomeAnd o
    (λ command. holds_back command agent m ≡ true)) (none held.0) held.1
none-held aside none agent (Malformed len header) held = held

-- the command in the place of an agent is the agent's
pub own-agent : (slots : List Slot) (agent : ℕ)
    → IfSome (aside_by slots agent) (λ command. command.agent ≡ agent)
own-agent slots zero = tt
own-agent slots (suc place) = at (slice_get slots place) where
  if-used : (slot : Slot) (b : Bool)
      → IfSome (command_if b (suc place) slot) (λ command. command.agent ≡ suc place)
  if-used slot true = refl
  if-used slot false = tt

  at : (o : Option Slot) → IfSome (command_at (suc place) o) (λ command. command.agent ≡ suc place)
  at None = tt
  at (Some slot) = if-used slot slot.is_used
