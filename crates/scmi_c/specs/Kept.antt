-- What a handle keeps: a platform, the command that it was asked about, which is to be committed or
-- to fail, and the commands that are set aside.
use Rattle.std.specs.Prelude.{◌≡◌, ◌≢◌, ◌⊎◌, ℕ, zero, suc, ◌≤◌, Bool, List, length, slice_get, true, if◌then◌else◌, Option, Some, None, IfSome, IsSomeAnd}
use Rattle.scmi_codec.specs.ChannelArea.{channel_words, is_channel_size}
use Rattle.scmi_codec.specs.declared.frame.Frame.{Frame}
use Rattle.scmi_codec.specs.declared.frame.Frame.TheVariants.{Good}
use Rattle.scmi_plan.specs.Agent.{IsAgent}
use Rattle.scmi_plan.specs.Board.{channel_of}
use Rattle.scmi_plan.specs.Plan.{IsValid}
use Rattle.scmi_core.specs.Effect.{effect_after}
use Rattle.scmi_plan.specs.declared.effect.Effect.{Effect}
use Rattle.scmi_core.specs.declared.event.Event.{Event}
use Rattle.scmi_core.specs.declared.event.Event.TheVariants.{Command as Called}
use Rattle.scmi_c.specs.declared.aside.Slot.{Slot}
use Rattle.scmi_c.specs.declared.desk.Waiting.{Waiting}
use Rattle.scmi_c.specs.declared.effect.EffectNumbers.{EffectNumbers}
use Rattle.scmi_c.specs.Effect.{numbers_of}
use Rattle.scmi_c.specs.Standing.{Held, StandsAt, board_of}

-- a command that was asked about: its agent, its frame as it was read, the bytes of its area, and
-- the change of the hardware that was given for it
pub record Asked : Type 0 where
  pub agent : ℕ
  pub frame : Frame
  pub bytes : ℕ
  pub change : EffectNumbers

-- the command of an agent in a place, if it holds one
abbrev pub command_if : Bool → ℕ → Slot → Option Asked
command_if is_used agent slot =
    if is_used
    then Some (record {
      agent = agent;
      frame = Good (record {
        header = slot.header;
        payload =
            record { items = slot.words.items };
      });
      bytes = slot.bytes;
      change = slot.change;
    })
    else None

abbrev pub command_in : ℕ → Slot → Option Asked
command_in agent slot = command_if slot.is_used agent slot

abbrev pub command_at : ℕ → Option Slot → Option Asked
command_at agent None = None
command_at agent (Some slot) = command_in agent slot

-- the commands in places, that of agent a in the place before a
abbrev pub aside_by : List Slot → ℕ → Option Asked
aside_by slots zero = None
aside_by slots (suc place) = command_at (suc place) (slice_get slots place)

-- a platform, the command that it was asked about, if there is one, and the places of the commands
-- that are set aside
pub record Kept : Type 0 where
  pub held : Held
  pub asked : Option Asked
  pub aside : List Slot

-- the command of an agent that is set aside, if one is
abbrev pub aside_of : Kept → ℕ → Option Asked
aside_of k = aside_by k.aside

-- a platform before a call, and the same after it
abbrev pub BeforeAfter : Option Kept → Option Kept → (Kept → Kept → Type 0) → Type 0
BeforeAfter old new P = IsSomeAnd old (λ p. IsSomeAnd new (λ k. P p k))

-- the same of one that had asked, with the command that it had asked about
abbrev pub OfAsked : Option Kept → Option Kept → (Kept → Kept → Asked → Type 0) → Type 0
OfAsked old new P = BeforeAfter old new (λ p k. IsSomeAnd p.asked (λ asked. P p k asked))

-- a command was asked about, and is neither committed nor failed
abbrev pub IsAsked : Kept → Type 0
IsAsked k = k.asked ≢ None

-- no command waits to be committed or to fail
abbrev pub IsUnasked : Kept → Type 0
IsUnasked k = k.asked ≡ None

-- no command is set aside
abbrev pub HasNoneAside : Kept → Type 0
HasNoneAside k = (agent : ℕ) → aside_of k agent ≡ None

-- a command is set aside
abbrev pub HasAside : Kept → Type 0
HasAside k = ¬ (HasNoneAside k)

-- no command waits, and none is set aside
pub record IsFree (k : Kept) : Type 0 where
  pub unasked : IsUnasked k
  pub none : HasNoneAside k

-- a command waits, or one is set aside
abbrev pub IsBusy : Kept → Type 0
IsBusy k = IsAsked k ⊎ HasAside k

-- what is set aside is as it was
abbrev pub HasSameAside : Option Kept → Option Kept → Type 0
HasSameAside old new = IfSome old (λ p. IsSomeAnd new (λ k. k.aside ≡ p.aside))

-- the command that waits, with the frame that was read
abbrev pub asked_of : Frame → Waiting → Asked
asked_of frame waiting =
    record { agent = waiting.agent; frame = frame; bytes = waiting.bytes; change = waiting.change }

-- the same, if one waits
abbrev pub asked_by : Frame → Waiting → Option Asked
asked_by frame waiting = if waiting.is_asked then Some (asked_of frame waiting) else None

-- a command may be committed and may fail: it is of an agent of the board and is to make the change
-- that was given, and its area has room for its answer
pub record IsAskable (held : Held) (asked : Asked) : Type 0 where
  pub agent : IsAgent (length (board_of held).agents) asked.agent
  pub valid : IsValid (board_of held)
  pub change : Effect
  pub given : numbers_of change ≡ asked.change
  pub effect : (h : List Event) → StandsAt held h
      → effect_after (board_of held) h (Called asked.agent asked.frame) ≡ Some change
  pub size : is_channel_size asked.bytes ≡ true
  pub words : (channel_of (board_of held) asked.agent).words ≤ channel_words asked.bytes

-- each command that may be committed and may fail still may
abbrev pub KeepsAskable : Held → Held → Type 0
KeepsAskable p k = (command : Asked) → IsAskable p command → IsAskable k command

-- and so may each command that is set aside
abbrev pub AreAskable : Held → (ℕ → Option Asked) → Type 0
AreAskable held aside = (agent : ℕ) → IfSome (aside agent) (IsAskable held)

-- what waits and what is set aside may be committed and may fail, and what waits is of an agent
-- that has nothing set aside
pub record IsKept (held : Held) (waits : Option Asked) (others : ℕ → Option Asked) : Type 0 where
  pub asked : IfSome waits (IsAskable held)
  pub aside : AreAskable held others
  pub apart : IfSome waits (λ command. others command.agent ≡ None)

-- a platform was asked about a frame in an area of this many bytes, gave a change, and is as before
pub record HasAsked (p : Held) (k : Kept) (agent : ℕ) (frame : Frame) (bytes : ℕ) : Type 0 where
  pub change : EffectNumbers
  pub asked : k.asked
      ≡ Some (record { agent = agent; frame = frame; bytes = bytes; change = change })
  pub same : k.held ≡ p
