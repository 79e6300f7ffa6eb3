-- A command that may be committed and may fail still may after an event that does not disturb it.
use Rattle.std.proofs.Common.{◌≡◌, ℕ, ◌≤◌, false, List, [], ◌∷◌, ◌++◌, length, Option, Some, sym, subst, ap, ◌∙◌}
use Rattle.scmi_codec.specs.ChannelArea.{channel_words}
use Rattle.scmi_codec.specs.declared.fault.Fault.{Fault}
use Rattle.scmi_codec.specs.declared.frame.Frame.{Frame}
use Rattle.scmi_codec.specs.declared.frame.Frame.TheVariants.{Good, Malformed}
use Rattle.scmi_plan.specs.Agent.{IsAgent}
use Rattle.scmi_plan.specs.Board.{Board, channel_of}
use Rattle.scmi_plan.specs.Plan.{IsValid}
use Rattle.scmi_plan.specs.declared.effect.Effect.{Effect}
use Rattle.scmi_base.specs.Protocol.{resource_changed}
use Rattle.scmi_core.specs.Effect.{effect_after}
use Rattle.scmi_core.specs.History.{deed_after, deeds}
use Rattle.scmi_core.specs.declared.event.Event.{Event}
use Rattle.scmi_core.specs.declared.event.Event.TheVariants.{Advance, AdvanceFailed, Command as Called, CommandFailed, Promoted, Reported, Sent, Settled}
use Rattle.scmi_core.proofs.Ties.{effect-table}
use Rattle.scmi_c.specs.Aside.{IsSmall, Spares, disturbs}
use Rattle.scmi_c.specs.declared.effect.EffectNumbers.{EffectNumbers}
use Rattle.scmi_c.specs.Calls.{HasHappened}
use Rattle.scmi_c.specs.Effect.{numbers_of}
use Rattle.scmi_c.specs.Kept.{Asked, IsAskable}
use Rattle.scmi_core.specs.Standing.{Standing, StandsAfter}
use Rattle.scmi_c.specs.Standing.{Held, HasHistory, IsCount, StandsAt, board_of}
use Rattle.scmi_c.proofs.Undisturbed.{IsQuiet, effect-still, quiet-advance, quiet-advance_failed, quiet-effect, quiet-failed, quiet-malformed, quiet-plain, quiet-promoted, quiet-reported, quiet-sent, quiet-settled, short}

-- whatever history the platform stands at, since its tables say the effect
pub still : (p k : Held) (event : Event) (x : Asked) → HasHistory p → HasHappened p k event
    → ((change : Effect) → numbers_of change ≡ x.change → (h : List Event) → StandsAt p h
    → IsQuiet (board_of p) (resource_changed change)
    (deed_after (board_of p) (deeds (board_of p) h) event))
    → IsAskable p x → IsAskable k x
still p k event x had happened quiet may =
    let board : board_of p ≡ board_of k = sym happened.board in
    let agent : IsAgent (length (board_of k).agents) x.agent =
    subst (λ (b : Board). IsAgent (length b.agents) x.agent) board may.agent in
    let valid : IsValid (board_of k) = subst IsValid board may.valid in
    let before = had.0 in
    let after : List Event = before ++ event ∷ [] in
    let one : effect_after (board_of p) after (Called x.agent x.frame) ≡ Some may.change =
    effect-still (board_of p) before event x.agent x.frame may.change had.1.0.legal
    (quiet may.change may.given before had.1) (may.effect before had.1) in
    let there : effect_after (board_of k) after (Called x.agent x.frame) ≡ Some may.change =
    subst (λ (b : Board). effect_after b after (Called x.agent x.frame) ≡ Some may.change)
    board one in
    record {
      agent = agent;
      valid = valid;
      change = may.change;
      given = may.given;
      effect = λ h at.
          sym (effect-table
          (board_of k) k.platform.tables h x.agent x.frame at.0 valid agent.0 agent.1)
          ∙ effect-table (board_of k) k.platform.tables after x.agent x.frame
          (happened.after before had.1).0 valid agent.0 agent.1
          ∙ there;
      size = may.size;
      words = subst
          (λ (b : Board). (channel_of b x.agent).words ≤ channel_words x.bytes) board may.words;
    }

-- whatever is said of the hardware
pub askable-said : (p k : Held) (x : Asked) → k.platform ≡ p.platform → k.events ≡ p.events
    → IsAskable p x → IsAskable k x
askable-said p k x platform events may =
    let board : board_of p ≡ board_of k = sym (ap (λ (s : Standing). s.board) platform) in
    record {
      agent = subst (λ (b : Board). IsAgent (length b.agents) x.agent) board may.agent;
      valid = subst IsValid board may.valid;
      change = may.change;
      given = may.given;
      effect = λ h at.
          subst (λ (b : Board). effect_after b h (Called x.agent x.frame) ≡ Some may.change) board
          (may.effect h (
            subst (λ (s : Standing). StandsAfter s h) platform at.0,
            subst (λ (n : Option ℕ). IsCount n h) events at.1,
          ));
      size = may.size;
      words = subst
          (λ (b : Board). (channel_of b x.agent).words ≤ channel_words x.bytes) board may.words;
    }

pub still-sent : (p k : Held) (agent : ℕ) → HasHistory p → HasHappened p k (Sent agent)
    → (x : Asked) → IsAskable p x → IsAskable k x
still-sent p k agent had happened x may = still p k (Sent agent) x had happened
    (λ change given h at. quiet-sent (board_of p) h (resource_changed change) agent) may

pub still-reported : (p k : Held) (effect : Effect) → HasHistory p
    → HasHappened p k (Reported effect) → (x : Asked) → IsAskable p x → IsAskable k x
still-reported p k effect had happened x may = still p k (Reported effect) x had happened
    (λ change given h at. quiet-reported (board_of p) h (resource_changed change) effect) may

pub still-promoted : (p k : Held) (place : ℕ) → HasHistory p → HasHappened p k (Promoted place)
    → (x : Asked) → IsAskable p x → IsAskable k x
still-promoted p k place had happened x may = still p k (Promoted place) x had happened
    (λ change given h at. quiet-promoted (board_of p) h (resource_changed change) place) may

pub still-settled : (p k : Held) (clock rate : ℕ) → HasHistory p
    → HasHappened p k (Settled clock rate) → (x : Asked) → IsAskable p x → IsAskable k x
still-settled p k clock rate had happened x may = still p k (Settled clock rate) x had happened
    (λ change given h at. quiet-settled (board_of p) h (resource_changed change) clock rate) may

pub still-advanced : (p k : Held) → HasHistory p → HasHappened p k Advance → (x : Asked)
    → IsAskable p x → IsAskable k x
still-advanced p k had happened x may = still p k Advance x had happened
    (λ change given h at. quiet-advance (board_of p) h (resource_changed change)) may

pub still-advance_failed : (p k : Held) (fault : Fault) → HasHistory p
    → HasHappened p k (AdvanceFailed fault) → (x : Asked) → IsAskable p x → IsAskable k x
still-advance_failed p k fault had happened x may = still p k (AdvanceFailed fault) x had happened
    (λ change given h at. quiet-advance_failed (board_of p) h (resource_changed change) fault) may

pub still-failed : (p k : Held) (agent : ℕ) (frame : Frame) (fault : Fault)
    → HasHistory p → HasHappened p k (CommandFailed agent frame fault) → (x : Asked) → IsAskable p x
    → IsAskable k x
still-failed p k agent frame fault had happened x may =
    still p k (CommandFailed agent frame fault) x had happened (λ change given h at. quiet-failed
    (board_of p) h (resource_changed change) agent frame fault) may

-- a command whose change was made
pub still-made : (p k : Held) (agent : ℕ) (frame : Frame) (effect : Effect) → HasHistory p
    → HasHappened p k (Called agent frame)
    → ((h : List Event) → StandsAt p h → effect_after (board_of p) h (Called agent frame)
    ≡ Some effect) → (x : Asked) → IsAskable p x → IsAskable k x
still-made p k agent frame effect had happened has x may =
    still p k (Called agent frame) x had happened (λ change given h at. quiet-effect (board_of p) h
    (resource_changed change) agent frame effect (has h at)) may

-- a command that does not disturb it
pub still-plain : (p k : Held) (agent : ℕ) (frame : Frame) → HasHistory p → HasHappened p k
    (Called agent frame) → (x : Asked) → Spares frame x → IsAskable p x → IsAskable k x
still-plain p k agent (Malformed len header) had happened x spares may =
    still p k (Called agent (Malformed len header)) x had happened (λ change given h at.
    quiet-malformed (board_of p) h (resource_changed change) agent len header) may
still-plain p k agent (Good m) had happened x spares may =
    still p k (Called agent (Good m)) x had happened
    (λ change given h at. quiet-plain (board_of p) h agent m change
    (subst (λ (n : EffectNumbers). disturbs m n ≡ false) (sym given) spares)) may

-- its frame is a message of few words
pub small : (p : Held) (x : Asked) → HasHistory p → IsAskable p x → IsSmall x.frame
small p x had may =
    let it = short (board_of p) had.0 x.agent x.frame may.change (may.effect had.0 had.1) in
    subst IsSmall (sym it.is) it.few
