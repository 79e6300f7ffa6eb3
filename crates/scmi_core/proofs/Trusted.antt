-- Who may do what is said by the trusted agent alone.
use Rattle.std.proofs.Common.{◌≡◌, ℕ, Bool, true, false, List, [], None, Result, Ok, Err, refl, sym, ap, ◌∙◌, subst, if◌then◌else◌}
use Rattle.std.specs.List.{All}
use Rattle.std.specs.Option.{option_to_list}
use Rattle.std.proofs.lemmas.List.Elements.{All-append, All-cons, All-nil}
use Rattle.scmi_codec.specs.Header.{HeaderFields}
use Rattle.scmi_codec.specs.Payload.{begins_with_success}
use Rattle.scmi_codec.specs.declared.command.Command as codec
use Rattle.scmi_codec.specs.declared.frame.Frame.TheVariants.{Good, Malformed}
use Rattle.scmi_codec.specs.declared.status.Status.{Status}
use Rattle.scmi_plan.specs.Board.{Board}
use Rattle.scmi_core.specs.declared.event.Event.{Event}
use Rattle.scmi_core.specs.declared.event.Event.TheVariants.{Command, Advance, Sent, CommandFailed, AdvanceFailed, Restarted, Promoted, Settled, Reported}
use Rattle.scmi_core.specs.Deed.{fold_with_prefix, success_of, success_with, successes}
use Rattle.scmi_core.specs.History.{deed_after, deeds}
use Rattle.scmi_core.specs.Laws.{HasTrustedPermissions, IsTrusted}
use Rattle.scmi_core.specs.Outbox.{situation_after}
use Rattle.scmi_core.specs.ReadCommand.{command_on}
use Rattle.scmi_core.specs.Reply.{fits_channel, reply_words}
use Rattle.scmi_core.specs.Situation.{Situation}
use Rattle.scmi_core.proofs.CommandLaws.{trusted}
use Rattle.scmi_core.proofs.Deeds.{added_success, successes-push}
use Rattle.scmi_core.proofs.Legal.{Grown, deeds-push, empty, grow, grown}

success-trusted : (board : Board) (a : ℕ) (header : HeaderFields) (s : Situation)
    (r : Result codec.Command Status)
    → All (IsTrusted board) (option_to_list
    (if begins_with_success (reply_words board a s r) then success_with a header r else None))
unfolding reply_words
success-trusted board a header s (Err e) =
    by (begins_with_success (reply_words board a s (Err e))) where
      by : (b : Bool)
          → All (IsTrusted board)
          (option_to_list (if b then success_with a header (Err e) else None))
      by true = All-nil (IsTrusted board)
      by false = All-nil (IsTrusted board)
success-trusted board a header s (Ok c) =
    by (begins_with_success (reply_words board a s (Ok c))) refl where
      by : (b : Bool) → begins_with_success (reply_words board a s (Ok c)) ≡ b
          → All (IsTrusted board)
          (option_to_list (if b then success_with a header (Ok c) else None))
      by true ok =
          All-cons (IsTrusted board) (record { caller = a; header = header; command = c }) []
          (trusted board a s header c ok) (All-nil (IsTrusted board))
      by false ok = All-nil (IsTrusted board)

deed-trusted : (board : Board) (h : List Event) (e : Event) → All (IsTrusted board)
    (option_to_list (added_success board (deed_after board (deeds board h) e)))
deed-trusted board h (Command a (Good m)) = by (fits_channel board a m) where
  by : (short : Bool)
      → All (IsTrusted board)
      (option_to_list (success_of a m.header (command_on board m) (if short then reply_words
      board a (situation_after board a (deeds board h)) (command_on board m) else [])))
  by true = success-trusted board a m.header (situation_after board a (deeds board h))
      (command_on board m)
  by false = All-nil (IsTrusted board)
deed-trusted board h (Command a (Malformed len header)) = All-nil (IsTrusted board)
deed-trusted board h (CommandFailed a (Good m) fault) = All-nil (IsTrusted board)
deed-trusted board h (CommandFailed a (Malformed len header) fault) = All-nil (IsTrusted board)
deed-trusted board h Advance = All-nil (IsTrusted board)
deed-trusted board h (AdvanceFailed fault) = All-nil (IsTrusted board)
deed-trusted board h (Sent a) = All-nil (IsTrusted board)
deed-trusted board h (Restarted a) = All-nil (IsTrusted board)
deed-trusted board h (Promoted place) = All-nil (IsTrusted board)
deed-trusted board h (Settled clock rate) = All-nil (IsTrusted board)
deed-trusted board h (Reported effect) = All-nil (IsTrusted board)

trusted_of : (board : Board) {h : List Event} → Grown h → HasTrustedPermissions board h
unfolding deeds fold_with_prefix
trusted_of board empty = All-nil (IsTrusted board)
trusted_of board (grow {xs} g e) =
    let deed = deed_after board (deeds board xs) e in
    subst (All (IsTrusted board)) (sym
    (ap (successes board) (deeds-push board xs e) ∙ successes-push board (deeds board xs) deed))
    (All-append (IsTrusted board) (successes board (deeds board xs))
    (option_to_list (added_success board deed)) (trusted_of board g) (deed-trusted board xs e))

pub permissions : (board : Board) (h : List Event) → HasTrustedPermissions board h
permissions board h = trusted_of board (grown h)
