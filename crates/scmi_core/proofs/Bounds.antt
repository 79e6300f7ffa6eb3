-- In every legal history at most 8 sets are pending, and an outbox and its agent's pending sets are
-- at most 16 together.
use Rattle.std.proofs.Common.{◌≡◌, ◌≢◌, ◌⊎◌, inl, inr, ℕ, suc, ◌+◌, ◌<◌, ◌≤◌, ◌==◌, ◌&&◌, nat_lt, Bool, true, false, not, List, [], ◌∷◌, ◌++◌, length, drop, map, slice_get, Option, Some, None, Result, refl, sym, ap, ◌∙◌, subst, arith, if◌then◌else◌}
use Rattle.std.specs.Option.{option_map_or}
use Rattle.std.proofs.lemmas.List.{append-nil, length-append, length-drop, length-map}
use Rattle.std.proofs.lemmas.List.Elements.{filter-append}
use Rattle.std.proofs.lemmas.Bool.{leb-true}
use Rattle.std.proofs.lemmas.Bool.Decides.{eqb_tells}
use Rattle.scmi_plan.specs.Board.{Board}
use Rattle.scmi_codec.specs.Header.{HeaderFields}
use Rattle.scmi_codec.specs.Payload.{begins_with_success}
use Rattle.scmi_codec.specs.declared.status.Status.{Status}
use Rattle.scmi_codec.specs.declared.message.Message.{Message}
use Rattle.scmi_codec.specs.declared.frame.Frame.TheVariants.{Good, Malformed}
use Rattle.scmi_codec.specs.declared.command.Command as codec
use Rattle.scmi_core.specs.declared.pending_set.PendingSet.{PendingSet}
use Rattle.scmi_core.specs.declared.event.Event.{Event}
use Rattle.scmi_codec.specs.declared.fault.Fault.{Fault}
use Rattle.scmi_core.specs.declared.event.Event.TheVariants.{Command, Advance, Sent, CommandFailed, AdvanceFailed, Restarted, Promoted, Settled, Reported}
use Rattle.scmi_core.specs.declared.tables.Tables.{Tables}
use Rattle.std.specs.Option.{option_to_list, option_and_then}
use Rattle.scmi_core.specs.Deed.{Deed, success_of, success_with, fold_with_prefix, restarted_by}
use Rattle.scmi_core.specs.Value.{Change, Thing, State, Rate, Enabled, completed_set, failed_set, change_by}
use Rattle.scmi_core.specs.Pending.{acceptance, accepted_sets, advances, pending_sets, pending_change, pending_left, pending_of, promoted, sets_by, settled, is_advance, unwanted}
use Rattle.scmi_core.specs.Outbox.{failed_response_for, failed_response_to, messages_made, made_by, outbox_after, sent_count, is_sent_by, response_for, response_to, notice_in, situation_after}
use Rattle.scmi_core.specs.History.{deeds, deed_after, outbox}
use Rattle.scmi_core.specs.Legal.{IsLegal}
use Rattle.scmi_core.specs.ReadCommand.{command_on}
use Rattle.scmi_core.specs.Reply.{fits_channel, reply_words}
use Rattle.scmi_core.specs.Situation.{Situation, has_room}
use Rattle.scmi_core.specs.Tables.{load_at}
use Rattle.scmi_core.specs.Bounds.{HasBounds}
use Rattle.scmi_core.specs.Agreement.{Agrees}
use Rattle.scmi_core.proofs.Accepting.{accepted}
use Rattle.scmi_core.proofs.Deeds.{added_success, made_by-unfailed, pending_sets-push, pending_sets-advance, pending_sets-failed, outbox-push, sent_count-push}
use Rattle.scmi_core.proofs.Legal.{Grown, empty, grow, grown, deeds-push, IsLegal-front, advances_le-accepted, sent_le-made}
use Rattle.scmi_core.proofs.Situations.{messages_made-sent, nothing-made, outbox-promoted, outbox-restarted, outbox-settled}
use Rattle.scmi_core.proofs.Promotions.{promoted-by, promoted-length}
use Rattle.scmi_core.proofs.Settlings.{mapped-by}

both_true : (a b : Bool) → (a && b) ≡ true → (a ≡ true) × (b ≡ true)
both_true true true e = (refl, refl)
both_true true false e = absurd (cc)
both_true false b e = absurd (cc)

-- what room says
room_says : (board : Board) (a : ℕ) (h : List Deed)
    → has_room board a (situation_after board a h) ≡ true → (length (pending_sets board h) < 8)
    × (length (outbox_after board a h) + length (pending_of board a h) < 16)
room_says board a h e =
    let two = both_true _ _ e in
    let rest = both_true _ _ two.1 in (
      leb-true (suc (length (pending_sets board h))) 8 two.0,
      leb-true (suc (length (outbox_after board a h) + length (pending_of board a h))) 16 rest.1,
    )

-- at most one notification
one_notice : (s : Situation) (change : Option Change)
    → length (option_map_or (notice_in s) change []) ≤ 1
one_notice s None = omega arith
one_notice s (Some change) = by change.thing where
  at_most : (b : Bool) (m : Message) → length (if b then m ∷ [] else []) ≤ 1
  at_most true m = omega arith
  at_most false m = omega arith

  by : (x : Thing) → length
      (notice_in s (record { thing = x; value = change.value; causer = change.causer })) ≤ 1
  by (State d) = at_most (not (change.value == s.value (State d)) && s.subscribed d) _
  by (Rate k) = omega arith
  by (Enabled k) = omega arith

-- notifications fill no more than there is
within : (outbox responses notices left : ℕ) → notices ≤ 1 → outbox + responses + left ≤ 16
    → (b : Bool) → nat_lt (outbox + responses + left) 16 ≡ b
    → outbox + (responses + (if b then notices else 0)) + left ≤ 16
within outbox responses notices left few base true is =
    let less = leb-true (suc (outbox + responses + left)) 16 is in
    omega arith
within outbox responses notices left few base false is = omega arith

length_if : (b : Bool) (xs : List Message)
    → length (if b then xs else []) ≡ (if b then length xs else 0)
length_if true xs = refl
length_if false xs = refl

messages_made-within : (board : Board) (a : ℕ) (h : List Deed) (deed : Deed)
    → failed_set board h deed.event ≡ None
    → length (outbox_after board a h) + length (option_map_or (response_for a)
    (completed_set board h deed.event) []) + length (pending_of board a (h ++ deed ∷ [])) ≤ 16
    → length (outbox_after board a h) + length (made_by board a h (messages_made board a h) deed)
    + length (pending_of board a (h ++ deed ∷ [])) ≤ 16
messages_made-within board a h deed unfailed base =
    let responses = option_map_or (response_for a) (completed_set board h deed.event) [] in
    let notices =
    option_map_or (notice_in (situation_after board a h)) (change_by board h deed) [] in
    let left = length (pending_of board a (h ++ deed ∷ [])) in
    let load = length (outbox_after board a h) + length responses + left in
    let size : length (made_by board a h (messages_made board a h) deed)
    ≡ length responses + (if nat_lt load 16 then length notices else 0)
    = ap length (made_by-unfailed board a h (messages_made board a h) deed unfailed)
    ∙ length-append responses (if nat_lt load 16 then notices else [])
    ∙ ap (λ n. length responses + n) (length_if (nat_lt load 16) notices) in
    rw size (within (length (outbox_after board a h)) (length responses)
    (length notices) left (one_notice (situation_after board a h) (change_by board h deed)) base
    (nat_lt load 16) refl)

-- what is pending after a deed that accepts at most one set
record Fits (board : Board) (h : List Deed) (more : Option PendingSet) : Type 0 where
  pub few : length (pending_sets board h ++ option_to_list more) ≤ 8
  pub loads : (a : ℕ) → length (outbox_after board a h) + length
      (sets_by a (pending_sets board h ++ option_to_list more)) ≤ 16

fits-none : (board : Board) (h : List Deed) → HasBounds board h → Fits board h None
fits-none board h had = record {
  few = rw (append-nil (pending_sets board h)) had.pending;
  loads = λ a. rw (append-nil (pending_sets board h)) (had.loads a);
}

fits-some : (board : Board) (h : List Deed) (b : ℕ) (p : PendingSet) → HasBounds board h
    → p.agent ≡ b → has_room board b (situation_after board b h) ≡ true → Fits board h (Some p)
fits-some board h b p had by room =
    let says = room_says board b h room in
    let less = says.0 in
    record {
      few = omega (arith, length-append (pending_sets board h) (p ∷ []));
      loads = λ a. rw (
        filter-append (λ q. q.agent == a) (pending_sets board h) (p ∷ []),
        length-append (sets_by a (pending_sets board h)) (sets_by a (p ∷ [])),
      )
          (by_agent a (eqb_tells p.agent a));
    } where
      by_agent : (a : ℕ) → (((p.agent == a) ≡ true) × (p.agent ≡ a))
          ⊎ (((p.agent == a) ≡ false) × (p.agent ≢ a))
          → length (outbox_after board a h)
          + (length (sets_by a (pending_sets board h)) + length (sets_by a (p ∷ []))) ≤ 16
      by_agent a (inl same) =
          let less : length (outbox_after board a h) + length (pending_of board a h) < 16 =
          subst (λ x. length (outbox_after board x h) + length (pending_of board x h) < 16)
          (sym by ∙ same.1) (room_says board b h room).1 in
          rw same.0 (omega arith)
      by_agent a (inr other) = let old = had.loads a in rw other.0 (omega arith)

fits : (board : Board) (h : List Deed) (b : ℕ) (header : HeaderFields)
    (r : Result codec.Command Status) → HasBounds board h → (o : Option PendingSet)
    → option_and_then (acceptance board) (if begins_with_success (reply_words board b
    (situation_after board b h) r) then success_with b header r else None) ≡ o → Fits board h o
fits board h b header r had None e = fits-none board h had
fits board h b header r had (Some p) e =
    let one = accepted board b header (situation_after board b h) p r e in
    fits-some board h b p had one.own one.room

-- a deed that completes and posts nothing, and changes no set that is pending
unmoved : (board : Board) (h : List Deed) (deed : Deed) → is_advance deed.event ≡ false
    → ((a : ℕ) → is_sent_by a deed.event ≡ false) → completed_set board h deed.event ≡ None
    → failed_set board h deed.event ≡ None → restarted_by deed.event ≡ None
    → pending_change deed.event ≡ None
    → advances h ≤ length (accepted_sets board h)
    → ((a : ℕ) → sent_count a h ≤ length (messages_made board a h))
    → Fits board h (option_and_then (acceptance board) (added_success board deed))
    → HasBounds board (h ++ deed ∷ [])
unmoved board h deed stays unsent none unfailed unrestarted unchanged enough enough_sent fit =
    let pend = pending_sets-push board h deed stays enough
    ∙ ap (λ change. pending_left change (pending_sets board h) ++ option_to_list
    (option_and_then (acceptance board) (added_success board deed))) unchanged in
    record {
      pending = rw pend fit.few;
      loads = λ a.
          let zero_more : length (outbox_after board a h) + 0 ≡ length (outbox_after board a h) =
          omega arith in
          let base : length (outbox_after board a h) + length
          (option_map_or (response_for a) (completed_set board h deed.event) []) + length
          (pending_of board a (h ++ deed ∷ [])) ≤ 16
          = rw (none, pend, zero_more) (fit.loads a) in
          let all = messages_made-within board a h deed unfailed base in
          let more = outbox-push board a h deed (unsent a) (enough_sent a)
          ∙ ap (λ restarted. (if option_map_or (λ b. a == b) restarted false then []
          else outbox_after board a h) ++ made_by board a h (messages_made board a h) deed)
          unrestarted in
          rw (
            more,
            length-append (outbox_after board a h)
                (made_by board a h (messages_made board a h) deed),
          ) all;
    }

-- a completed set leaves room for its delayed response
first-left : (a : ℕ) (xs : List PendingSet) → length (option_map_or (response_for a)
    (slice_get xs 0) []) + length (sets_by a (drop 1 xs)) ≤ length (sets_by a xs)
first-left a [] = omega arith
first-left a (p ∷ ps) = by (p.agent == a) p.wanted where
  by : (is wanted : Bool) → length (if is && wanted then response_to p.header p.setting ∷ []
      else []) + length (sets_by a ps) ≤ length (if is then p ∷ sets_by a ps else sets_by a ps)
  by true true = omega arith
  by true false = omega arith
  by false wanted = omega arith

bounds-advance : (board : Board) (h : List Deed)
    → ((a : ℕ) → sent_count a h ≤ length (messages_made board a h)) → HasBounds board h
    → HasBounds board (h ++ record { event = Advance; reply = [] } ∷ [])
bounds-advance board h enough_sent had =
    let deed : Deed = record { event = Advance; reply = [] } in
    let old = had.pending in
    record {
      pending =
          rw (pending_sets-advance board h, length-drop 1 (pending_sets board h)) (omega arith);
      loads = λ a.
          let before = had.loads a in
          let step = first-left a (pending_sets board h) in
          let base : length (outbox_after board a h) + length
          (option_map_or (response_for a) (slice_get (pending_sets board h) 0) []) + length
          (pending_of board a (h ++ deed ∷ [])) ≤ 16
          = rw (pending_sets-advance board h) (omega arith) in
          rw (
            outbox-push board a h deed refl (enough_sent a),
            length-append
                (outbox_after board a h) (made_by board a h (messages_made board a h) deed),
          )
          (messages_made-within board a h deed refl base);
    }

-- and so does one that failed
failed-left : (a : ℕ) (fault : Fault) (xs : List PendingSet)
    → length (option_map_or (failed_response_for a fault) (slice_get xs 0) []) + length
    (sets_by a (drop 1 xs)) ≤ length (sets_by a xs)
failed-left a fault [] = omega arith
failed-left a fault (p ∷ ps) = by (p.agent == a) p.wanted where
  by : (is wanted : Bool) → length (if is && wanted then failed_response_to p.header fault ∷ []
      else []) + length (sets_by a ps) ≤ length (if is then p ∷ sets_by a ps else sets_by a ps)
  by true true = omega arith
  by true false = omega arith
  by false wanted = omega arith

bounds-failed : (board : Board) (h : List Deed) (fault : Fault)
    → ((a : ℕ) → sent_count a h ≤ length (messages_made board a h)) → HasBounds board h
    → HasBounds board (h ++ record { event = AdvanceFailed fault; reply = [] } ∷ [])
bounds-failed board h fault enough_sent had =
    let deed : Deed = record { event = AdvanceFailed fault; reply = [] } in
    let old = had.pending in
    record {
      pending = rw (pending_sets-failed board h fault, length-drop 1 (pending_sets board h))
          (omega arith);
      loads = λ a.
          let before = had.loads a in
          let step = failed-left a fault (pending_sets board h) in
          let failures =
          option_map_or (failed_response_for a fault) (slice_get (pending_sets board h) 0) [] in
          let nothing : made_by board a h (messages_made board a h) deed ≡ failures
          = ap (λ ys. failures ++ ys) (nothing-made a (situation_after board a h)
          (pending_sets board (h ++ deed ∷ []))) ∙ append-nil failures in
          rw (
            outbox-push board a h deed refl (enough_sent a),
            length-append
                (outbox_after board a h) (made_by board a h (messages_made board a h) deed),
            nothing,
            pending_sets-failed board h fault,
          ) (omega arith);
    }

bounds-sent : (board : Board) (h : List Deed) (b : ℕ) → advances h ≤ length (accepted_sets board h)
    → HasBounds board h → HasBounds board (h ++ record { event = Sent b; reply = [] } ∷ [])
bounds-sent board h b enough had =
    let deed : Deed = record { event = Sent b; reply = [] } in
    let pend = pending_sets-push board h deed refl enough ∙ append-nil (pending_sets board h) in
    record {
      pending = rw pend had.pending;
      loads = λ a.
          let old = had.loads a in
          let size = length-drop (sent_count a (h ++ deed ∷ [])) (messages_made board a h) in
          let size' = length-drop (sent_count a h) (messages_made board a h) in
          let more = sent_count-push a h deed in
          rw (pend, messages_made-sent board a h b) (omega arith);
    }

bounds-restarted : (board : Board) (h : List Deed) (b : ℕ)
    → advances h ≤ length (accepted_sets board h)
    → ((a : ℕ) → sent_count a h ≤ length (messages_made board a h)) → HasBounds board h
    → HasBounds board (h ++ record { event = Restarted b; reply = [] } ∷ [])
bounds-restarted board h b enough enough_sent had =
    let deed : Deed = record { event = Restarted b; reply = [] } in
    let pend = pending_sets-push board h deed refl enough
    ∙ append-nil (map (unwanted b) (pending_sets board h)) in
    record {
      pending = rw (pend, length-map (pending_sets board h) (unwanted b)) had.pending;
      loads = λ a. rw (
        pend,
        mapped-by a (unwanted b) (λ p. refl) (pending_sets board h),
        outbox-restarted board a h b (enough_sent a),
      ) (by a (a == b));
    } where
      by : (a : ℕ) (own : Bool)
          → length (if own then [] else outbox_after board a h) + length (pending_of board a h) ≤ 16
      by a true = let old = had.loads a in omega arith
      by a false = had.loads a

-- a promotion leaves each agent as many
bounds-promoted : (board : Board) (h : List Deed) (place : ℕ)
    → advances h ≤ length (accepted_sets board h)
    → ((a : ℕ) → sent_count a h ≤ length (messages_made board a h)) → HasBounds board h
    → HasBounds board (h ++ record { event = Promoted place; reply = [] } ∷ [])
bounds-promoted board h place enough enough_sent had =
    let deed : Deed = record { event = Promoted place; reply = [] } in
    let pend = pending_sets-push board h deed refl enough
    ∙ append-nil (promoted place (pending_sets board h)) in
    record {
      pending = rw (pend, promoted-length place (pending_sets board h)) had.pending;
      loads = λ a. rw (
        pend,
        promoted-by a place (pending_sets board h),
        outbox-promoted board a h place (enough_sent a),
      ) (had.loads a);
    }

-- and so does a settled rate
bounds-settled : (board : Board) (h : List Deed) (clock rate : ℕ)
    → advances h ≤ length (accepted_sets board h)
    → ((a : ℕ) → sent_count a h ≤ length (messages_made board a h)) → HasBounds board h
    → HasBounds board (h ++ record { event = Settled clock rate; reply = [] } ∷ [])
bounds-settled board h clock rate enough enough_sent had =
    let deed : Deed = record { event = Settled clock rate; reply = [] } in
    let pend = pending_sets-push board h deed refl enough
    ∙ append-nil (map (settled clock rate) (pending_sets board h)) in
    record {
      pending = rw (pend, length-map (pending_sets board h) (settled clock rate)) had.pending;
      loads = λ a. rw (
        pend,
        mapped-by a (settled clock rate) (λ p. refl) (pending_sets board h),
        outbox-settled board a h clock rate (enough_sent a),
      ) (had.loads a);
    }

bounds-more : (board : Board) (h : List Deed) (e : Event) → advances h
    ≤ length (accepted_sets board h) → ((a : ℕ) → sent_count a h ≤ length (messages_made board a h))
    → HasBounds board h → HasBounds board (h ++ deed_after board h e ∷ [])
bounds-more board h (Command b (Good m)) enough enough_sent had =
    unmoved board h (deed_after board h (Command b (Good m))) refl
    (λ a. refl) refl refl refl refl enough enough_sent (by (fits_channel board b m)) where
      by : (short : Bool)
          → Fits board h (option_and_then
          (acceptance board) (success_of b m.header (command_on board m) (if short
          then reply_words board b (situation_after board b h) (command_on board m) else [])))
      by true = fits board h b m.header (command_on board m) had _ refl
      by false = fits-none board h had
bounds-more board h (Command b (Malformed len header)) enough enough_sent had =
    unmoved board h (deed_after board h (Command b (Malformed len header))) refl
    (λ a. refl) refl refl refl refl enough enough_sent (fits-none board h had)
bounds-more board h (CommandFailed b (Good m) fault) enough enough_sent had =
    unmoved board h (deed_after board h (CommandFailed b (Good m) fault)) refl
    (λ a. refl) refl refl refl refl enough enough_sent (fits-none board h had)
bounds-more board h (CommandFailed b (Malformed len header) fault) enough enough_sent had =
    unmoved board h (deed_after board h (CommandFailed b (Malformed len header) fault)) refl
    (λ a. refl) refl refl refl refl enough enough_sent (fits-none board h had)
bounds-more board h (AdvanceFailed fault) enough enough_sent had =
    bounds-failed board h fault enough_sent had
bounds-more board h (Reported effect) enough enough_sent had =
    unmoved board h (deed_after board h (Reported effect)) refl
    (λ a. refl) refl refl refl refl enough enough_sent (fits-none board h had)
bounds-more board h (Restarted b) enough enough_sent had =
    bounds-restarted board h b enough enough_sent had
bounds-more board h (Promoted place) enough enough_sent had =
    bounds-promoted board h place enough enough_sent had
bounds-more board h (Settled clock rate) enough enough_sent had =
    bounds-settled board h clock rate enough enough_sent had
bounds-more board h Advance enough enough_sent had = bounds-advance board h enough_sent had
bounds-more board h (Sent b) enough enough_sent had = bounds-sent board h b enough had

bounds_of : (board : Board) {h : List Event} → Grown h → IsLegal board h
    → HasBounds board (deeds board h)
unfolding deeds fold_with_prefix
bounds_of board empty legal = record { pending = omega arith; loads = λ a. omega arith }
bounds_of board (grow {xs} g e) legal =
    let front = IsLegal-front board xs e legal in
    rw (deeds-push board xs e) (bounds-more board (deeds board xs) e (advances_le-accepted board xs
    front) (sent_le-made board xs front) (bounds_of board g front))

pub bounds : (board : Board) (h : List Event) → IsLegal board h → HasBounds board (deeds board h)
bounds board h legal = bounds_of board (grown h) legal

pub load-bound : (board : Board) (t : Tables) (h : List Event) → Agrees board t h → (a : ℕ) → 1 ≤ a
    → a ≤ length board.agents → load_at t a ≤ 16
unfolding outbox
load-bound board t h agrees a lo hi =
    rw (agrees.outboxes a lo hi, agrees.pending) ((bounds board h agrees.legal).loads a)
