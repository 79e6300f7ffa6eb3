-- What one more event adds to a legal history, by the situations before it.
use Rattle.std.proofs.Common.{◌≡◌, ℕ, ◌+◌, ◌≤◌, true, not, List, [], ◌∷◌, ◌++◌, length, refl, ap, ◌∙◌, if◌then◌else◌}
use Rattle.std.specs.Option.{option_to_list}
use Rattle.scmi_codec.specs.Payload.{begins_with_success}
use Rattle.scmi_plan.specs.Board.{Board}
use Rattle.scmi_core.specs.declared.event.Event.{Event}
use Rattle.scmi_codec.specs.declared.fault.Fault.{Fault}
use Rattle.scmi_codec.specs.declared.fault.Fault.TheVariants as fault
use Rattle.scmi_core.specs.Deed.{Deed}
use Rattle.scmi_core.specs.History.{deed_after, deeds}
use Rattle.scmi_core.specs.Legal.{IsLegal}
use Rattle.scmi_core.specs.Outbox.{failed_words, is_restart_of, is_sent_by, messages_left, messages_made, sent_count, situation_after}
use Rattle.scmi_core.specs.Pending.{accepted_sets, advances, pending_sets}
use Rattle.scmi_core.specs.Value.{changes}
use Rattle.scmi_core.proofs.Deeds.{changes-push, sent_count-push}
use Rattle.scmi_core.proofs.Following.{change-is, change_in, made_next, messages-next, next, pending_next, situation-next}
use Rattle.scmi_core.proofs.Legal.{advances_le-accepted, deeds-push, sent_le-made}
use Rattle.scmi_laws.specs.Others.{situation_of}

-- the status of no fault is success
pub unsuccessful : (f : Fault) → not (begins_with_success (failed_words f)) ≡ true
unsuccessful fault.NotSupported = refl
unsuccessful fault.InvalidParameters = refl
unsuccessful fault.Denied = refl
unsuccessful fault.OutOfRange = refl
unsuccessful fault.Busy = refl
unsuccessful fault.GenericError = refl
unsuccessful fault.HardwareError = refl

module _ (board : Board) (h : List Event) (e : Event) (legal : IsLegal board h) where
  abbrev ds : List Deed
  ds = deeds board h

  abbrev added : Deed
  added = deed_after board ds e

  enough : advances ds ≤ length (accepted_sets board ds)
  enough = advances_le-accepted board h legal

  pub made-more : (b : ℕ) → messages_made board b (deeds board (h ++ e ∷ []))
      ≡ messages_left (sent_count b ds) (is_restart_of b added.event) (messages_made board b ds)
      ++ made_next board b (situation_of board b h) added
  made-more b =
      ap (messages_made board b) (deeds-push board h e)
      ∙ messages-next board b ds e enough

  pub sent-more : (b : ℕ) → sent_count b (deeds board (h ++ e ∷ []))
      ≡ sent_count b ds + (if is_sent_by b added.event then 1 else 0)
  sent-more b = ap (sent_count b) (deeds-push board h e) ∙ sent_count-push b ds added

  pub changed-more : changes board (deeds board (h ++ e ∷ []))
      ≡ changes board ds ++ option_to_list (change_in board (pending_sets board ds) added)
  changed-more =
      ap (changes board) (deeds-push board h e)
      ∙ changes-push board ds added
      ∙ ap (λ change. changes board ds ++ option_to_list change) (change-is board ds added)

  pub situation-more : (b : ℕ)
      → situation_of board b (h ++ e ∷ []) ≡ next board b (situation_of board b h) added
  situation-more b =
      ap (situation_after board b) (deeds-push board h e)
      ∙ situation-next board b ds e enough (sent_le-made board h legal b)

  pub pending-more : pending_sets board (deeds board (h ++ e ∷ []))
      ≡ pending_next board (pending_sets board ds) added
  pending-more = ap (λ s. s.pending) (situation-more 0)
