-- A change of a clock's rate: its clock is the board's.
use Rattle.std.proofs.Common.{◌≡◌, ◌<◌, ℕ, Bool, true, false, if◌then◌else◌, List, [], length, Some, None, option_map, ap, ◌∙◌}
use Rattle.scmi_codec.specs.declared.frame.Frame.{Frame}
use Rattle.scmi_codec.specs.declared.frame.Frame.TheVariants.{Good, Malformed}
use Rattle.scmi_plan.specs.Board.{Board}
use Rattle.scmi_plan.specs.declared.effect.Effect.{Effect}
use Rattle.scmi_plan.specs.declared.effect.Effect.TheVariants.{State, Rate, Enabled}
use Rattle.scmi_core.specs.Deed.{success_of}
use Rattle.scmi_core.specs.Effect.{effect_after, effect_of}
use Rattle.scmi_core.specs.History.{deeds}
use Rattle.scmi_core.specs.Outbox.{situation_after}
use Rattle.scmi_core.specs.ReadCommand.{command_on}
use Rattle.scmi_core.specs.Reply.{fits_channel, reply_words}
use Rattle.scmi_core.specs.Value.{change_of}
use Rattle.scmi_core.specs.declared.event.Event.{Event}
use Rattle.scmi_core.specs.declared.event.Event.TheVariants.{Command as Called}
use Rattle.scmi_core.proofs.Commits.{makes}
use Rattle.scmi_c.specs.Effect.{IsRate, numbers_of}
use Rattle.scmi_c.specs.declared.effect.EffectNumbers.{EffectNumbers}

-- a command that gives a clock a rate is of a clock of the board
pub clock-known : (board : Board) (a : ℕ) (h : List Event) (frame : Frame) (clock rate : ℕ)
    → effect_after board h (Called a frame) ≡ Some (Rate clock rate) → clock < length board.clocks
clock-known board a h (Good m) clock rate is = by (fits_channel board a m) is where
  by : (b : Bool)
      → option_map effect_of
      (change_of board (success_of a m.header (command_on board m) (if b then reply_words board
      a (situation_after board a (deeds board h)) (command_on board m) else [])) None)
      ≡ Some (Rate clock rate)
      → clock < length board.clocks
  by true is = (makes board a m.header (situation_after board a (deeds board h))
      (command_on board m) (Rate clock rate) is).known
  by false is = absurd (let no : None ≡ Some (Rate clock rate) = is in cc)
clock-known board a h (Malformed len header) clock rate is =
    absurd (let no : None ≡ Some (Rate clock rate) = is in cc)

-- the change of numbers that give a clock a rate
pub rate-given : (effect : Effect) (change : EffectNumbers) → numbers_of effect ≡ change
    → IsRate change
    → (rate : ℕ) × (effect ≡ Rate change.id rate)
rate-given (State domain state) change is kind =
    absurd (let no : 1 ≡ 2 = ap (λ (n : EffectNumbers). n.kind) is ∙ kind in cc)
rate-given (Rate clock rate) change is kind = (rate, ap (λ (n : EffectNumbers). Rate n.id rate) is)
rate-given (Enabled clock enabled) change is kind =
    absurd (let no : 3 ≡ 2 = ap (λ (n : EffectNumbers). n.kind) is ∙ kind in cc)
