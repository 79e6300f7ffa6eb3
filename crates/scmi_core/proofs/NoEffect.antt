-- A message that is no set has no effect.
use Rattle.std.proofs.Common.{◌≡◌, ℕ, Bool, true, false, if◌then◌else◌, option_map, Option, None, Result, Err, refl, rules, tests}
use Rattle.scmi_codec.specs.Command.{command_of}
use Rattle.scmi_codec.specs.declared.command.Command.{Command}
use Rattle.scmi_codec.specs.declared.frame.Frame.TheVariants.{Good}
use Rattle.scmi_codec.specs.declared.message.Message.{Message}
use Rattle.scmi_codec.specs.declared.status.Status.{Status}
use Rattle.scmi_codec.specs.declared.status.Status.TheVariants.{NotSupported}
use Rattle.scmi_plan.specs.Board.{Board}
use Rattle.scmi_plan.specs.declared.effect.Effect.{Effect}
use Rattle.scmi_core.specs.Deed.{success_of}
use Rattle.scmi_core.specs.Effect.{effect_in, effect_of, is_set_header}
use Rattle.scmi_core.specs.ReadCommand.{command_on, lacks_protocol}
use Rattle.scmi_core.specs.Reply.{fits_channel, reply_words}
use Rattle.scmi_core.specs.Situation.{Situation}
use Rattle.scmi_core.specs.Value.{change_of}

module _ (board : Board) (a : ℕ) (m : Message) (s : Situation)
    (unset : is_set_header m.header ≡ false) where
  abbrev effect_with : Result Command Status → Option Effect
  effect_with r = option_map effect_of
      (change_of board (success_of a m.header r (reply_words board a s r)) None)

  read-none : effect_with (command_of m) ≡ None
  read-none = search (rules, tests)

  on-none : (missing : Bool)
      → effect_with (if missing then Err NotSupported else command_of m) ≡ None
  unfolding reply_words
  on-none true = refl
  on-none false = read-none

  fits-none : (fits : Bool) → (if fits then effect_with (command_on board m) else None) ≡ None
  fits-none true = on-none (lacks_protocol board m.header)
  fits-none false = refl

  pub no_effect : effect_in board a (Good m) s ≡ None
  no_effect = fits-none (fits_channel board a m)
