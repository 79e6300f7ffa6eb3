-- Tables that took a report over agree with the history that has it, and what a report leaves of
-- that.
use Rattle.std.proofs.Common.{◌≡◌, ◌-◌, ◌==◌, true, List, [], ◌∷◌, ◌++◌, get_or, Some, None, unwrap_or, refl, sym, ap, ◌∙◌, subst, if◌then◌else◌}
use Rattle.std.specs.Int.{bit_at}
use Rattle.std.specs.List.{All}
use Rattle.std.proofs.lemmas.Bool.{eq-eqb}
use Rattle.std.proofs.lemmas.List.{append-nil}
use Rattle.scmi_plan.specs.Board.{Board}
use Rattle.scmi_plan.specs.Plan.{IsValid}
use Rattle.scmi_base.specs.Permission.{is_allowed}
use Rattle.scmi_plan.specs.declared.effect.Effect.{Effect}
use Rattle.scmi_plan.specs.declared.effect.Effect.TheVariants as effect
use Rattle.scmi_core.specs.declared.event.Event.{Event}
use Rattle.scmi_core.specs.declared.event.Event.TheVariants.{Reported}
use Rattle.scmi_core.specs.declared.tables.Tables.{Tables}
use Rattle.scmi_core.specs.Agreement.{Agrees}
use Rattle.scmi_core.specs.Deed.{Deed}
use Rattle.scmi_core.specs.History.{deeds, made_for, outbox}
use Rattle.scmi_core.specs.Legal.{IsLegal}
use Rattle.scmi_core.specs.Outbox.{made_in, messages_made, outbox_after, situation_after}
use Rattle.scmi_core.specs.Pending.{pending_sets}
use Rattle.scmi_core.specs.Permissions.{has_permission}
use Rattle.scmi_core.specs.Reports.{IsTakenOver}
use Rattle.scmi_core.specs.Step.{HasChanged}
use Rattle.scmi_core.specs.Subscriptions.{is_subscriber}
use Rattle.scmi_core.specs.Tables.{IsOfBoard, IsThing, situation_in}
use Rattle.scmi_core.specs.Value.{IsReportable, change_reported, same_thing, thing_of, value, value_in}
use Rattle.scmi_core.proofs.Changes.{effect-given}
use Rattle.scmi_core.proofs.Deeds.{IsLegal-push, has_permission-push, is_subscriber-push, messages_made-push, outbox-push, pending_sets-push, value-push}
use Rattle.scmi_core.proofs.Legal.{advances_le-accepted, deeds-push, sent_le-made}
use Rattle.scmi_core.proofs.Situations.{messages_made-same}
use Rattle.scmi_core.proofs.Ties.{same-situation}

-- tables that took a report over agree with the history that has it
pub Agrees-reported : (board : Board) (t new : Tables) (h : List Event) (effect : Effect)
    → Agrees board t h → IsValid board → IsReportable board effect
    → HasChanged board (change_reported effect) t new → Agrees board new (h ++ Reported effect ∷ [])
unfolding outbox
Agrees-reported board t new h effect agrees law reportable it =
    let deed : Deed = record { event = Reported effect; reply = [] } in
    let ds = deeds board h in
    let more = deeds-push board h (Reported effect) in
    let pend : pending_sets board (ds ++ deed ∷ []) ≡ pending_sets board ds
    = pending_sets-push board ds deed refl (advances_le-accepted board h agrees.legal)
    ∙ append-nil (pending_sets board ds) in
    record {
      legal = IsLegal-push board h (Reported effect) agrees.legal reportable;
      permissions = λ x d scope lo hi small.
          ap (λ b. is_allowed b x d scope) it.base ∙ agrees.permissions x d scope lo hi small
          ∙ sym (ap (has_permission board x d scope) more
          ∙ has_permission-push board x d scope ds deed);
      subscriptions = λ x d lo hi small.
          ap (λ l. bit_at (get_or l d 0) (x - 1) == 1) it.subscribers
          ∙ agrees.subscriptions x d lo hi small
          ∙ sym (ap (is_subscriber board x d) more ∙ is_subscriber-push board x d ds deed);
      values = λ x within.
          it.values x within
          ∙ ap (unwrap_or (value_in x (change_reported effect))) (agrees.values x within)
          ∙ sym (ap (value board x) more ∙ value-push board x ds deed);
      pending = it.pending ∙ agrees.pending ∙ sym (ap (pending_sets board) more ∙ pend);
      known = subst (All (IsOfBoard board)) (sym it.pending) agrees.known;
      outboxes = λ x lo hi.
          it.outboxes x lo hi
          ∙ ap (λ b. b ++ made_in x (situation_in x t) t.pending None
          (Some (change_reported effect))) (agrees.outboxes x lo hi)
          ∙ ap (λ left. outbox board x h ++ made_in x (situation_in x t) left None
          (Some (change_reported effect))) (agrees.pending ∙ sym pend)
          ∙ ap (λ ys. outbox board x h ++ ys)
          (messages_made-same board x (situation_in x t) (situation_after board x ds)
          (same-situation board t h x agrees law lo hi)
          (pending_sets board (ds ++ deed ∷ [])) None (Some (change_reported effect)) it.known)
          ∙ sym (ap (outbox_after board x) more
          ∙ outbox-push board x ds deed refl (sent_le-made board h agrees.legal x));
    }

-- what may be reported is a thing of the board
pub reportable_known : (board : Board) (effect : Effect) → IsReportable board effect
    → IsThing board (thing_of effect)
reportable_known board (effect.State d state) is = is.0
reportable_known board (effect.Rate k rate) is = is
reportable_known board (effect.Enabled k enabled) is = is

same_as : (effect : Effect)
    → same_thing (change_reported effect).thing (change_reported effect).thing ≡ true
same_as (effect.State d state) = eq-eqb d d refl
same_as (effect.Rate k rate) = eq-eqb k k refl
same_as (effect.Enabled k enabled) = eq-eqb k k refl

-- what a report leaves
pub taken-over : (board : Board) (h : List Event) (effect : Effect) → IsLegal board h
    → IsTakenOver board h effect
unfolding made_for
taken-over board h effect legal =
    let deed : Deed = record { event = Reported effect; reply = [] } in
    let ds = deeds board h in
    let change = change_reported effect in
    let more = deeds-push board h (Reported effect) in
    let pend : pending_sets board (ds ++ deed ∷ []) ≡ pending_sets board ds
    = pending_sets-push board ds deed refl (advances_le-accepted board h legal)
    ∙ append-nil (pending_sets board ds) in
    record {
      changed = ap Some (effect-given 0 effect);
      value =
          ap (value board change.thing) more ∙ value-push board change.thing ds deed
          ∙ ap (λ same. unwrap_or (if same then Some change.value else None)
          (value board change.thing ds)) (same_as effect);
      others = λ x other.
          ap (value board x) more ∙ value-push board x ds deed
          ∙ ap (λ same. unwrap_or (if same then Some change.value else None) (value board x ds))
          other;
      pending = ap (pending_sets board) more ∙ pend;
      permissions = λ a d scope. ap (has_permission board a d scope) more
          ∙ has_permission-push board a d scope ds deed;
      requests = λ a d. ap (is_subscriber board a d) more ∙ is_subscriber-push board a d ds deed;
      made = λ a.
          ap (messages_made board a) more ∙ messages_made-push board a ds deed
          ∙ ap (λ left. messages_made board a ds ++ made_in a (situation_after board a ds) left None
          (Some change)) pend;
    }
