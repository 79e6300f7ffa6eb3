-- What a message with an effect is: a command that makes it at once, and its reply is SUCCESS
-- alone.
use Rattle.std.proofs.Common.{◌≡◌, ℕ, Bool, true, false, [], ◌∷◌, option_map, Option, Some, None, Result, Ok, Err, refl, sym, ap, subst, ◌∙◌, if◌then◌else◌}
use Rattle.std.specs.Option.{option_and_then, option_or}
use Rattle.scmi_codec.specs.Header.{HeaderFields}
use Rattle.scmi_codec.specs.Payload.{begins_with_success}
use Rattle.scmi_codec.specs.declared.status.Status.{Status}
use Rattle.scmi_codec.specs.declared.message.Message.{Message}
use Rattle.scmi_codec.specs.declared.frame.Frame.TheVariants.{Good}
use Rattle.scmi_codec.specs.declared.frame.Answer.TheVariants.{Reply, ChannelError}
use Rattle.scmi_codec.specs.declared.command.Command as codec
use Rattle.scmi_plan.specs.Board.{Board}
use Rattle.scmi_plan.specs.declared.effect.Effect.{Effect}
use Rattle.scmi_plan.specs.declared.effect.Effect.TheVariants as effect
use Rattle.scmi_base.specs.Protocol.{HasResource, resource_changed}
use Rattle.scmi_core.specs.declared.tables.Tables.{Tables}
use Rattle.scmi_core.specs.Commands.{now_of}
use Rattle.scmi_core.specs.Deed.{success_of, success_with}
use Rattle.scmi_core.specs.Effect.{effect_in, effect_of, effect_read}
use Rattle.scmi_core.specs.ReadCommand.{command_on}
use Rattle.scmi_core.specs.Reply.{answer_in, fits_channel, reply_in, reply_words}
use Rattle.scmi_core.specs.Situation.{Situation}
use Rattle.scmi_core.specs.Step.{HasAnswered, HasChanged, HasStepped}
use Rattle.scmi_core.specs.Tables.{IsThing, situation_in}
use Rattle.scmi_core.specs.Value.{change_now, change_of, given, thing_of}
use Rattle.scmi_core.proofs.Changes.{effect-given, made-stepped}
use Rattle.scmi_core.proofs.CommandLaws.{command_laws}

module _ (board : Board) (a : ℕ) (header : HeaderFields) (s : Situation) where
  abbrev pub effect_by : Result codec.Command Status → Option Effect
  effect_by r =
      option_map effect_of (change_of board (success_of a header r (reply_words board a s r)) None)

  -- a command that makes a change at once
  pub record IsChange (r : Result codec.Command Status) (e : Effect) : Type 0 where
    pub command : codec.Command
    pub read : r ≡ Ok command
    pub now : now_of board command ≡ Some e
    pub reply : reply_words board a s r ≡ 0 ∷ []
    pub known : HasResource board (resource_changed e)

  back : (now : Option Effect) (e : Effect)
      → option_map effect_of (option_map (given a) now) ≡ Some e → now ≡ Some e
  back None e is = is
  back (Some f) e is = ap Some (sym (effect-given a f)) ∙ is

  pub makes : (r : Result codec.Command Status) (e : Effect) → effect_by r ≡ Some e → IsChange r e
  unfolding reply_words
  makes (Err x) e has = by (begins_with_success (reply_words board a s (Err x))) has where
    by : (b : Bool) → option_map effect_of (option_or None (option_and_then (change_now board)
        (if b then success_with a header (Err x) else None))) ≡ Some e → IsChange (Err x) e
    by true is = absurd (cc)
    by false is = absurd (cc)
  makes (Ok c) e has = by (begins_with_success (reply_words board a s (Ok c))) refl has where
    by : (b : Bool) → begins_with_success (reply_words board a s (Ok c)) ≡ b
        → option_map effect_of (option_or None (option_and_then (change_now board)
        (if b then success_with a header (Ok c) else None))) ≡ Some e → IsChange (Ok c) e
    by true ok is =
        let now = back (now_of board c) e is in
        record {
          command = c;
          read = refl;
          now = now;
          reply = (command_laws board a).made board s c e ok now;
          known = (command_laws board a).known board s c e ok now;
        }
    by false ok is = absurd (cc)

-- what a reply of SUCCESS alone leaves is what the message leaves
answered : (board : Board) (a : ℕ) (m : Message) (t new : Tables) (r : Result codec.Command Status)
    → fits_channel board a m ≡ true → command_on board m ≡ r
    → reply_words board a (situation_in a t) (command_on board m) ≡ 0 ∷ []
    → HasStepped board t (success_of a m.header r (0 ∷ [])) None new
    → HasAnswered board a (Good m) t new
answered board a m t new r short read reply stepped =
    subst (λ o. HasStepped board t o None new)
    (ap (λ c. success_of a m.header c (0 ∷ [])) (sym read)
    ∙ ap (success_of a m.header (command_on board m)) (sym (ap (λ b. if b
    then reply_words board a (situation_in a t) (command_on board m) else []) short ∙ reply)))
    stepped

-- a message that fits its channel is answered by its reply
pub answer-fits : (board : Board) (a : ℕ) (m : Message) (s : Situation)
    → fits_channel board a m ≡ true → answer_in board a (Good m) s ≡ Reply (reply_in board a m s)
answer-fits board a m s short =
    ap (λ b. if b then Reply (reply_in board a m s) else ChannelError) short

-- a message with an effect fits its channel
pub effect-fits : (board : Board) (a : ℕ) (m : Message) (s : Situation) (e : Effect)
    → effect_in board a (Good m) s ≡ Some e
    → (fits_channel board a m ≡ true) × (effect_by board a m.header s (command_on board m) ≡ Some e)
effect-fits board a m s e = by (fits_channel board a m) refl where
  by : (b : Bool) → fits_channel board a m ≡ b
      → (if b then effect_read board a m s else None) ≡ Some e
      → (fits_channel board a m ≡ true)
      × (effect_by board a m.header s (command_on board m) ≡ Some e)
  by true short has = (short, has)
  by false long has = absurd (cc)

-- what changes is a thing of the board
thing-known : (board : Board) (e : Effect) → HasResource board (resource_changed e)
    → IsThing board (thing_of e)
thing-known board (effect.State d state) has = has
thing-known board (effect.Rate c rate) has = has
thing-known board (effect.Enabled c enabled) has = has

-- what a message with an effect is
pub changed-by : (board : Board) (a : ℕ) (m : Message) (s : Situation) (e : Effect)
    → effect_in board a (Good m) s ≡ Some e → IsChange board a m.header s (command_on board m) e
changed-by board a m s e has =
    makes board a m.header s (command_on board m) e (effect-fits board a m s e has).1

pub effect-known : (board : Board) (a : ℕ) (m : Message) (s : Situation) (e : Effect)
    → effect_in board a (Good m) s ≡ Some e → IsThing board (thing_of e)
effect-known board a m s e has = thing-known board e (changed-by board a m s e has).known

-- the tables with its change are those that it leaves
pub committed : (board : Board) (t new : Tables) (a : ℕ) (m : Message) (e : Effect)
    → effect_in board a (Good m) (situation_in a t) ≡ Some e
    → HasChanged board (given a e) t new → HasAnswered board a (Good m) t new
committed board t new a m e has changed =
    let it = changed-by board a m (situation_in a t) e has in
    answered board a m t new (Ok it.command)
    (effect-fits board a m (situation_in a t) e has).0 it.read it.reply
    (made-stepped board t new a m.header it.command e it.now changed)
