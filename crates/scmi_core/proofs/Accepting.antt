-- What a success that leaves a set pending says: it is its caller's, it met room, and the platform
-- can send to it.
use Rattle.std.proofs.Common.{◌≡◌, ℕ, Bool, true, false, [], Option, Some, None, Result, Ok, Err, option_map, refl, sym, ap, if◌then◌else◌}
use Rattle.std.specs.List.{All}
use Rattle.std.specs.Option.{option_and_then, option_map_or, option_to_list}
use Rattle.std.proofs.lemmas.List.Elements.{All-cons, All-nil}
use Rattle.scmi_codec.specs.Header.{HeaderFields}
use Rattle.scmi_codec.specs.Payload.{begins_with_success}
use Rattle.scmi_codec.specs.declared.command.Command as codec
use Rattle.scmi_codec.specs.declared.status.Status.{Status}
use Rattle.scmi_plan.specs.Board.{Board, channel_of}
use Rattle.scmi_core.specs.Commands.{later_effect_of, later_of, setting_effect}
use Rattle.scmi_core.specs.Deed.{Success, success_with}
use Rattle.scmi_core.specs.Pending.{acceptance, made_pending}
use Rattle.scmi_core.specs.Reply.{reply_words}
use Rattle.scmi_core.specs.Situation.{Situation, has_room}
use Rattle.scmi_core.specs.declared.pending_set.PendingSet.{PendingSet}
use Rattle.scmi_core.proofs.CommandLaws.{command_laws}

pub then_some : {A B : Type 0} (b : Bool) (o : Option A) (f : A → Option B) (y : B)
    → option_and_then f (if b then o else None) ≡ Some y
    → (b ≡ true) × (option_and_then f o ≡ Some y)
then_some true o f y e = (refl, e)
then_some false o f y e = absurd (cc)

pub mapped : {A B : Type 0} (f : A → B) (o : Option A) (y : B) → option_map f o ≡ Some y
    → (x : A) × (o ≡ Some x) × (f x ≡ y)
mapped f None y e = absurd (cc)
mapped f (Some x) y e = (x, refl, ap (λ o. option_map_or (λ z. z) o y) e)

pub All-option : {X : Type 0} (P : X → Type 0) (o : Option X) → ((x : X) → o ≡ Some x → P x)
    → All P (option_to_list o)
All-option P None each = All-nil P
All-option P (Some x) each = All-cons P x [] (each x refl) (All-nil P)

-- a set that was accepted from agent a
pub record IsAccepted (board : Board) (a : ℕ) (s : Situation) (p : PendingSet) : Type 0 where
  pub own : p.agent ≡ a
  pub room : has_room board a s ≡ true
  pub sent : (channel_of board a).one_way ≡ false

module _ (board : Board) (a : ℕ) (header : HeaderFields) (s : Situation) (p : PendingSet) where
  abbrev leaves : Option Success → Type 0
  leaves o = option_and_then (acceptance board) o ≡ Some p

  pub accepted : (r : Result codec.Command Status) → leaves (if begins_with_success
      (reply_words board a s r) then success_with a header r else None) → IsAccepted board a s p
  unfolding reply_words
  accepted (Err e) is = absurd (let gone = (then_some
      (begins_with_success (reply_words board a s (Err e))) None (acceptance board) p is).1 in cc)
  accepted (Ok c) is =
      let two = then_some (begins_with_success (reply_words board a s (Ok c)))
      (success_with a header (Ok c)) (acceptance board) p is in
      let set = mapped (made_pending a header) (later_of board c) p two.1 in
      let effect = setting_effect set.0.setting in
      let later : later_effect_of board c ≡ Some effect =
      ap (option_map (λ l. setting_effect l.setting)) set.1 in
      record {
        own = sym (ap (λ q. q.agent) set.2);
        room = (command_laws board a).free board s c effect two.0 later;
        sent = (command_laws board a).sent board s c effect two.0 later;
      }
