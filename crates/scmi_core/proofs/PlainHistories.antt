-- Plain events add up to plain histories, without promotions sets end in order of acceptance, and
-- without settled rates each change is as it was asked for.
use Rattle.std.proofs.Common.{◌≡◌, ◌⊎◌, inl, inr, List, [], ◌∷◌, ◌++◌, Some, refl, sym, ap, ◌∙◌, subst}
use Rattle.std.specs.Option.{option_and_then, option_to_list}
use Rattle.std.specs.List.{All}
use Rattle.std.proofs.lemmas.List.Elements.{All-head, All-nil, All-pop, All-push, All-tail, All-weaker}
use Rattle.scmi_codec.specs.declared.frame.Frame.TheVariants.{Good}
use Rattle.scmi_plan.specs.Board.{Board}
use Rattle.scmi_core.specs.Deed.{Deed, fold_with_prefix, success_at}
use Rattle.scmi_core.specs.History.{deed_after, deeds}
use Rattle.scmi_core.specs.Laws.{HasOrigin, IsSettled}
use Rattle.scmi_core.specs.Legal.{IsLegal}
use Rattle.scmi_core.specs.Pending.{acceptance, accepted_sets, advances, pending_change, sets_left}
use Rattle.scmi_core.specs.Plain.{EndsInOrder, HasPlainHistory, HasPlainOrigin, HasPlainOrigins, IsNoPromotion, IsNoSettling, IsPlain, change_in_place, sets_in_order}
use Rattle.scmi_core.specs.Standing.{MovesOn, Standing, StandsAfter}
use Rattle.scmi_core.specs.Value.{Change, changes}
use Rattle.scmi_core.specs.declared.event.Event.{Event}
use Rattle.scmi_core.specs.declared.event.Event.TheVariants.{Command, Advance, Sent, CommandFailed, AdvanceFailed, Restarted, Promoted, Settled, Reported}
use Rattle.scmi_core.proofs.Causes.{integrity}
use Rattle.scmi_core.proofs.Deeds.{accepted_sets-push, added_success, fold_with_prefix-push}
use Rattle.scmi_core.proofs.Legal.{Grown, deed-event, deeds-push, empty, grow, grown}

pub begins : (p : Standing) → StandsAfter p [] → HasPlainHistory p
begins p stands = ([], stands, All-nil IsPlain)

pub moves : (p k : Standing) (event : Event) → IsPlain event → MovesOn p event k → HasPlainHistory p
    → HasPlainHistory k
moves p k event plain moves_on has =
    (has.0 ++ event ∷ [], moves_on has.0 has.1, All-push IsPlain has.0 event has.2 plain)

pub adds : (h : List Event) (event : Event) → IsPlain event → All IsPlain h
    → All IsPlain (h ++ event ∷ [])
adds h event plain all = All-push IsPlain h event all plain

sets_in_order-push : (board : Board) (h : List Deed) (deed : Deed)
    → sets_in_order board (h ++ deed ∷ [])
    ≡ sets_left (advances h) (change_in_place (pending_change deed.event)) (sets_in_order board h)
    ++ option_to_list (option_and_then (acceptance board) (added_success board deed))
sets_in_order-push board h deed =
    fold_with_prefix-push
    (λ before so_far x. sets_left (advances before)
    (change_in_place (pending_change x.event)) so_far
    ++ option_to_list (option_and_then (acceptance board) (success_at board x.event x.reply)))
    [] [] h deed

unpromoted : (e : Event) → IsNoPromotion e → pending_change e ≡ change_in_place (pending_change e)
unpromoted (Command a frame) is = refl
unpromoted Advance is = refl
unpromoted (Sent a) is = refl
unpromoted (CommandFailed a frame fault) is = refl
unpromoted (AdvanceFailed fault) is = refl
unpromoted (Restarted a) is = refl
unpromoted (Promoted place) is = elim is [ ]
unpromoted (Settled clock rate) is = refl
unpromoted (Reported effect) is = refl

in_order_of : (board : Board) {h : List Event} → Grown h → All IsNoPromotion h → EndsInOrder board h
unfolding deeds fold_with_prefix
in_order_of board empty all = refl
in_order_of board (grow {xs} g e) all =
    let two = All-pop IsNoPromotion (xs ++ e ∷ []) xs (Some e) refl all in
    let ds = deeds board xs in
    let deed = deed_after board ds e in
    let more = option_to_list (option_and_then (acceptance board) (added_success board deed)) in
    ap (accepted_sets board) (deeds-push board xs e)
    ∙ accepted_sets-push board ds deed
    ∙ ap (λ change. sets_left (advances ds) change (accepted_sets board ds) ++ more)
    (ap pending_change (deed-event board ds e) ∙ unpromoted e two.1
    ∙ sym (ap (λ event. change_in_place (pending_change event)) (deed-event board ds e)))
    ∙ ap (λ sets. sets_left (advances ds) (change_in_place (pending_change deed.event)) sets
    ++ more) (in_order_of board g two.0)
    ∙ sym (ap (sets_in_order board) (deeds-push board xs e) ∙ sets_in_order-push board ds deed)

-- without promotions sets end in order of acceptance
pub in_order : (board : Board) (h : List Event) → All IsNoPromotion h → EndsInOrder board h
in_order board h all = in_order_of board (grown h) all

-- what holds of each event holds of each after a place
all-behind : (before after : List Event) → All IsNoSettling (before ++ after)
    → All IsNoSettling after
all-behind [] after all = all
all-behind (e ∷ before) after all =
    all-behind before after (All-tail IsNoSettling e (before ++ after) all)

-- without settled rates a change that a command is the cause of is what it asked for
plain-origin : (board : Board) (h : List Event) → All IsNoSettling h → (change : Change)
    → HasOrigin board h change → HasPlainOrigin board h change
plain-origin board h all change (inr reported) = inr reported
plain-origin board h all change (inl cause) = by cause.given where
  after : All IsNoSettling cause.after
  after =
      let command = Command change.causer (Good cause.message) in
      All-tail IsNoSettling command cause.after (all-behind cause.before (command ∷ cause.after)
      (subst (All IsNoSettling) cause.place all))

  by : (change ≡ cause.wanted) ⊎ IsSettled board cause.after cause.wanted change
      → HasPlainOrigin board h change
  by (inl same) = inl (cause, sym same)
  by (inr was) =
      let settling = Settled was.clock was.rate in
      absurd (All-head IsNoSettling settling was.later (all-behind was.earlier
      (settling ∷ was.later) (subst (All IsNoSettling) was.place after)))

pub asked : (board : Board) (h : List Event) → IsLegal board h → All IsNoSettling h
    → HasPlainOrigins board h
asked board h legal all =
    All-weaker (HasOrigin board h) (HasPlainOrigin board h) (plain-origin board h all)
    (changes board (deeds board h)) (integrity board h legal)
