-- The delayed responses of a legal history.
use Rattle.std.proofs.Common.{◌≡◌, ◌⊎◌, inl, inr, ℕ, zero, suc, ◌+◌, ◌≤◌, ◌==◌, ◌&&◌, nat_lt, Bool, true, false, not, List, [], ◌∷◌, ◌++◌, length, take, drop, map, slice_get, option_map, Option, Some, None, refl, sym, ap, ◌∙◌, arith, if◌then◌else◌}
use Rattle.std.specs.List.{filter}
use Rattle.std.proofs.lemmas.List.{append-nil, map-append}
use Rattle.std.proofs.lemmas.List.Elements.{filter-append}
use Rattle.std.proofs.lemmas.Bool.{cases_Bool}
use Rattle.std.proofs.lemmas.Grind.{fold-append}
use Rattle.scmi_codec.specs.declared.message.Message.{Message}
use Rattle.scmi_codec.specs.declared.frame.Frame.TheVariants.{Good, Malformed}
use Rattle.scmi_plan.specs.Board.{Board}
use Rattle.scmi_core.specs.declared.pending_set.PendingSet.{PendingSet}
use Rattle.scmi_core.specs.declared.event.Event.{Event}
use Rattle.scmi_codec.specs.declared.fault.Fault.{Fault}
use Rattle.scmi_core.specs.declared.event.Event.TheVariants.{Command, Advance, Sent, CommandFailed, AdvanceFailed, Restarted, Promoted, Settled, Reported}
use Rattle.std.specs.Option.{option_map_or, option_to_list, option_and_then}
use Rattle.scmi_core.specs.Deed.{Deed, fold_with_prefix}
use Rattle.scmi_core.specs.Value.{Change, Thing, State, Rate, Enabled, completed_set, failed_set, fault_in, change_by}
use Rattle.scmi_core.specs.Pending.{accepted_sets, acceptance, advances, is_advance, pending_change, pending_sets, pending_of, sets_left}
use Rattle.scmi_core.specs.Outbox.{failed_response_for, failed_response_to, is_restart_of, outbox_after, messages_left, messages_made, made_by, restart_count, sent_count, response_to, response_for, notice_in, situation_after, state_changed}
use Rattle.scmi_core.specs.Situation.{Situation}
use Rattle.scmi_core.specs.History.{deeds, deed_after}
use Rattle.scmi_core.specs.Legal.{IsLegal}
use Rattle.scmi_core.specs.Bounds.{Ending, HasResponses, ended_sets, ending_by, endings, response_at, responses_for}
use Rattle.scmi_core.proofs.Deeds.{added_success, accepted_sets-push, advances-push, fold_with_prefix-push, messages_made-push, sets_left-ended}
use Rattle.scmi_core.proofs.Legal.{Grown, empty, grow, grown, deeds-push, deed-event, IsLegal-front, advances_le-accepted}

delayed : List Message → List Message
delayed ms = filter (λ m. m.header.kind == 2) ms

wanting : ℕ → List Ending → List Ending
wanting a es = filter (λ e. e.set.agent == a && e.set.wanted) es

take-one : (n : ℕ) (xs : List PendingSet)
    → take (suc n) xs ≡ take n xs ++ option_to_list (slice_get (drop n xs) 0)
take-one zero [] = refl
take-one zero (x ∷ xs) = refl
take-one (suc n) [] = refl
take-one (suc n) (x ∷ xs) = ap (λ zs. x ∷ zs) (take-one n xs)

-- notifications are no delayed responses
no_notice : (s : Situation) (b : Bool) (change : Option Change)
    → delayed (if b then option_map_or (notice_in s) change [] else []) ≡ []
unfolding delayed
no_notice s false change = refl
no_notice s true None = refl
no_notice s true (Some change) = by change.thing where
  none : (b : Bool) (c d v : ℕ)
      → filter (λ m. m.header.kind == 2) (if b then state_changed c d v ∷ [] else []) ≡ []
  none true c d v = refl
  none false c d v = refl

  by : (x : Thing) → filter (λ m. m.header.kind == 2)
      (notice_in s (record { thing = x; value = change.value; causer = change.causer })) ≡ []
  by (State d) =
      none (not (change.value == s.value (State d)) && s.subscribed d) change.causer d change.value
  by (Rate k) = refl
  by (Enabled k) = refl

completes : PendingSet → Ending
completes p = record { set = p; fault = None }

fails : Fault → PendingSet → Ending
fails fault p = record { set = p; fault = Some fault }

responses_of : (a : ℕ) (o : Option PendingSet) → delayed (option_map_or (response_for a) o [])
    ≡ map response_at (wanting a (option_to_list (option_map completes o)))
unfolding delayed wanting completes
responses_of a None = refl
responses_of a (Some p) = by (p.agent == a) p.wanted where
  by : (is wanted : Bool) → filter
      (λ m. m.header.kind == 2) (if is && wanted then response_to p.header p.setting ∷ [] else [])
      ≡ map response_at (if is && wanted then completes p ∷ [] else [])
  by true true = refl
  by true false = refl
  by false wanted = refl

failures_of : (a : ℕ) (fault : Fault) (o : Option PendingSet)
    → delayed (option_map_or (failed_response_for a fault) o [])
    ≡ map response_at (wanting a (option_to_list (option_map (fails fault) o)))
unfolding delayed wanting fails
failures_of a fault None = refl
failures_of a fault (Some p) = by (p.agent == a) p.wanted where
  by : (is wanted : Bool) → filter (λ m. m.header.kind == 2)
      (if is && wanted then failed_response_to p.header fault ∷ [] else [])
      ≡ map response_at (if is && wanted then fails fault p ∷ [] else [])
  by true true = refl
  by true false = refl
  by false wanted = refl

-- what a deed makes for an agent has the response to the set that it ends, and no other
module _ (board : Board) (a : ℕ) (h : List Deed) where
  abbrev situation : Situation
  situation = situation_after board a h

  quiet : (event : Event) (reply : List ℕ)
      → failed_set board h event ≡ None → completed_set board h event ≡ None → delayed
      (made_by board a h (messages_made board a h) (record { event = event; reply = reply })) ≡ []
  unfolding delayed
  quiet event reply unfailed uncompleted =
      let deed : Deed = record { event = event; reply = reply } in
      let load = λ (o : Option PendingSet). length (outbox_after board a h) + length
      (option_map_or (response_for a) o []) + length (pending_of board a (h ++ deed ∷ [])) in
      let change = change_by board h deed in
      ap (λ (failed : Option PendingSet). delayed
      (option_map_or (failed_response_for a (fault_in event)) failed []
      ++ (option_map_or (response_for a) (completed_set board h event) []
      ++ (if nat_lt (load (completed_set board h event)) 16
      then option_map_or (notice_in situation) change [] else [])))) unfailed
      ∙ ap (λ (done : Option PendingSet). delayed (option_map_or (response_for a) done []
      ++ (if nat_lt (load done) 16 then option_map_or (notice_in situation) change [] else [])))
      uncompleted
      ∙ no_notice situation (nat_lt (load None) 16) change

  made_delayed : (event : Event) (reply : List ℕ) → delayed
      (made_by board a h (messages_made board a h) (record { event = event; reply = reply }))
      ≡ map response_at (wanting a (option_to_list (ending_by board h event)))
  unfolding delayed wanting completes fails
  made_delayed (Command b f) reply = quiet (Command b f) reply refl refl
  made_delayed (CommandFailed b f fault) reply = quiet (CommandFailed b f fault) reply refl refl
  made_delayed (Sent b) reply = quiet (Sent b) reply refl refl
  made_delayed (Restarted b) reply = quiet (Restarted b) reply refl refl
  made_delayed (Promoted place) reply = quiet (Promoted place) reply refl refl
  made_delayed (Settled clock rate) reply = quiet (Settled clock rate) reply refl refl
  made_delayed (Reported effect) reply = quiet (Reported effect) reply refl refl
  made_delayed Advance reply =
      let deed : Deed = record { event = Advance; reply = reply } in
      let responses = option_map_or (response_for a) (completed_set board h Advance) [] in
      let load = length (outbox_after board a h) + length responses + length
      (pending_of board a (h ++ deed ∷ [])) in
      filter-append (λ m. m.header.kind == 2) responses (if nat_lt load 16
      then option_map_or (notice_in situation) (change_by board h deed) [] else [])
      ∙ ap (λ ys. delayed responses ++ ys)
      (no_notice situation (nat_lt load 16) (change_by board h deed))
      ∙ append-nil (delayed responses)
      ∙ responses_of a (completed_set board h Advance)
  made_delayed (AdvanceFailed fault) reply =
      let deed : Deed = record { event = AdvanceFailed fault; reply = reply } in
      let failures = option_map_or (failed_response_for a fault)
      (failed_set board h (AdvanceFailed fault)) [] in
      let load =
      length (outbox_after board a h) + 0 + length (pending_of board a (h ++ deed ∷ [])) in
      filter-append (λ m. m.header.kind == 2) failures (if nat_lt load 16 then [] else [])
      ∙ ap (λ ys. delayed failures ++ ys) (no_notice situation (nat_lt load 16) None)
      ∙ append-nil (delayed failures)
      ∙ failures_of a fault (failed_set board h (AdvanceFailed fault))

endings-push : (board : Board) (h : List Deed) (deed : Deed) → endings board (h ++ deed ∷ [])
    ≡ endings board h ++ option_to_list (ending_by board h deed.event)
endings-push board h deed = fold_with_prefix-push
    (λ before so_far x. so_far ++ option_to_list (ending_by board before x.event)) [] [] h deed

ended_sets-push : (board : Board) (h : List Deed) (deed : Deed) (o : Option PendingSet)
    → advances h ≤ length (accepted_sets board h)
    → (is_advance deed.event ≡ false → o ≡ None)
    → (is_advance deed.event ≡ true → (o ≡ slice_get (pending_sets board h) 0) × (option_and_then
    (acceptance board) (added_success board deed) ≡ None) × (pending_change deed.event ≡ None))
    → (b : Bool) → is_advance deed.event ≡ b
    → ended_sets board (h ++ deed ∷ []) ≡ ended_sets board h ++ option_to_list o
ended_sets-push board h deed o enough stays goes false is =
    let zero_more : advances h + 0 ≡ advances h = omega arith in
    ap (λ n. take n (accepted_sets board (h ++ deed ∷ [])))
    (advances-push h deed ∙ ap (λ b. advances h + (if b then 1 else 0)) is ∙ zero_more)
    ∙ ap (take (advances h)) (accepted_sets-push board h deed)
    ∙ sets_left-ended (advances h) (pending_change deed.event) (accepted_sets board h)
    (option_to_list (option_and_then (acceptance board) (added_success board deed))) enough
    ∙ sym (append-nil (ended_sets board h))
    ∙ ap (λ o. ended_sets board h ++ option_to_list o) (sym (stays is))
ended_sets-push board h deed o enough stays goes true is =
    let one_more : advances h + 1 ≡ suc (advances h) = omega arith in
    ap (λ n. take n (accepted_sets board (h ++ deed ∷ [])))
    (advances-push h deed ∙ ap (λ b. advances h + (if b then 1 else 0)) is ∙ one_more)
    ∙ ap (take (suc (advances h))) (accepted_sets-push board h deed
    ∙ ap (λ change. sets_left (advances h) change (accepted_sets board h) ++ option_to_list
    (option_and_then (acceptance board) (added_success board deed))) (goes is).2
    ∙ ap (λ o. accepted_sets board h ++ option_to_list o) (goes is).1
    ∙ append-nil (accepted_sets board h))
    ∙ take-one (advances h) (accepted_sets board h)
    ∙ ap (λ o. ended_sets board h ++ option_to_list o) (sym (goes is).0)

-- the set of an end
ended : Option Ending → Option PendingSet
ended o = option_map (λ e. e.set) o

ended_map : (f : PendingSet → Ending) → ((p : PendingSet) → (f p).set ≡ p) → (o : Option PendingSet)
    → ended (option_map f o) ≡ o
unfolding ended
ended_map f same None = refl
ended_map f same (Some p) = ap Some (same p)

sets_of : (o : Option Ending) → map (λ e. e.set) (option_to_list o) ≡ option_to_list (ended o)
unfolding ended
sets_of None = refl
sets_of (Some e) = refl

ended_sets-more : (board : Board) (h : List Deed) (e : Event)
    → advances h ≤ length (accepted_sets board h)
    → ended_sets board (h ++ deed_after board h e ∷ [])
    ≡ ended_sets board h ++ option_to_list (ended (ending_by board h e))
unfolding ended
ended_sets-more board h (Command b (Good m)) enough = ended_sets-push board h (deed_after board h
    (Command b (Good m))) None enough (λ is. refl) (λ is. absurd (cc)) false refl
ended_sets-more board h (Command b (Malformed len header)) enough =
    ended_sets-push board h (deed_after board h (Command b (Malformed len header))) None enough
    (λ is. refl) (λ is. absurd (cc)) false refl
ended_sets-more board h (CommandFailed b (Good m) fault) enough =
    ended_sets-push board h (deed_after board h (CommandFailed b (Good m) fault)) None enough
    (λ is. refl) (λ is. absurd (cc)) false refl
ended_sets-more board h (CommandFailed b (Malformed len header) fault) enough =
    ended_sets-push board h (deed_after board h (CommandFailed b (Malformed len header) fault)) None
    enough (λ is. refl) (λ is. absurd (cc)) false refl
ended_sets-more board h (Sent b) enough = ended_sets-push board h
    (deed_after board h (Sent b)) None enough (λ is. refl) (λ is. absurd (cc)) false refl
ended_sets-more board h (Restarted b) enough = ended_sets-push board h
    (deed_after board h (Restarted b)) None enough (λ is. refl) (λ is. absurd (cc)) false refl
ended_sets-more board h (Promoted place) enough = ended_sets-push board h
    (deed_after board h (Promoted place)) None enough (λ is. refl) (λ is. absurd (cc)) false refl
ended_sets-more board h (Settled clock rate) enough = ended_sets-push board h (deed_after board h
    (Settled clock rate)) None enough (λ is. refl) (λ is. absurd (cc)) false refl
ended_sets-more board h (Reported effect) enough = ended_sets-push board h
    (deed_after board h (Reported effect)) None enough (λ is. refl) (λ is. absurd (cc)) false refl
ended_sets-more board h Advance enough =
    ended_sets-push board h (deed_after board h Advance) (ended (ending_by board h Advance)) enough
    (λ is. absurd (cc))
    (λ is. (
      ended_map (λ p. record { set = p; fault = None }) (λ p. refl)
          (slice_get (pending_sets board h) 0),
      refl,
      refl,
    )) true refl
ended_sets-more board h (AdvanceFailed fault) enough =
    ended_sets-push board h (deed_after board h (AdvanceFailed fault))
    (ended (ending_by board h (AdvanceFailed fault))) enough (λ is. absurd (cc))
    (λ is. (
      ended_map (λ p. record { set = p; fault = Some fault }) (λ p. refl)
          (slice_get (pending_sets board h) 0),
      refl,
      refl,
    )) true refl

responses_for-push : (board : Board) (a : ℕ) (h : List Deed) (deed : Deed)
    → responses_for board a (h ++ deed ∷ [])
    ≡ (if is_restart_of a deed.event then delayed (take (sent_count a h) (messages_made board a h))
    else responses_for board a h)
    ++ map response_at (wanting a (option_to_list (ending_by board h deed.event)))
unfolding delayed wanting
responses_for-push board a h deed =
    fold_with_prefix-push
    (λ before so_far x.
    (if is_restart_of a x.event then filter (λ m. m.header.kind == 2)
    (take (sent_count a before) (messages_made board a before)) else so_far)
    ++ map response_at (filter (λ e. e.set.agent == a && e.set.wanted)
    (option_to_list (ending_by board before x.event))))
    [] [] h deed

restart_count-push : (a : ℕ) (h : List Deed) (deed : Deed) → restart_count a (h ++ deed ∷ [])
    ≡ restart_count a h + (if is_restart_of a deed.event then 1 else 0)
restart_count-push a h deed =
    fold-append (λ n e. n + (if is_restart_of a e.event then 1 else 0)) 0 h (deed ∷ [])

-- an agent that never restarted did not so before, nor now
none-more : (a : ℕ) (h : List Deed) (deed : Deed) → restart_count a (h ++ deed ∷ []) ≡ 0
    → (restart_count a h ≡ 0) × (is_restart_of a deed.event ≡ false)
none-more a h deed none = by (cases_Bool (is_restart_of a deed.event)) where
  by : ((is_restart_of a deed.event ≡ true) ⊎ (is_restart_of a deed.event ≡ false))
      → (restart_count a h ≡ 0) × (is_restart_of a deed.event ≡ false)
  by (inl is) =
      let more = restart_count-push a h deed
      ∙ ap (λ b. restart_count a h + (if b then 1 else 0)) is in
      absurd (omega arith)
  by (inr is) =
      let more = restart_count-push a h deed
      ∙ ap (λ b. restart_count a h + (if b then 1 else 0)) is in
      (omega arith, is)

-- the delayed responses among what is left of the messages, and those that an event makes
delayed-more : (board : Board) (a : ℕ) (h : List Deed) (deed : Deed)
    → delayed (messages_made board a (h ++ deed ∷ []))
    ≡ delayed
    (messages_left (sent_count a h) (is_restart_of a deed.event) (messages_made board a h))
    ++ map response_at (wanting a (option_to_list (ending_by board h deed.event)))
unfolding delayed wanting
delayed-more board a h deed =
    let left =
    messages_left (sent_count a h) (is_restart_of a deed.event) (messages_made board a h) in
    ap (filter (λ m. m.header.kind == 2)) (messages_made-push board a h deed)
    ∙ filter-append (λ m. m.header.kind == 2) left
    (made_by board a h (messages_made board a h) deed)
    ∙ ap (λ ys. filter (λ m. m.header.kind == 2) left ++ ys)
    (made_delayed board a h deed.event deed.reply)

responses-push : (board : Board) (h : List Deed) (e : Event)
    → advances h ≤ length (accepted_sets board h) → HasResponses board h
    → HasResponses board (h ++ deed_after board h e ∷ [])
unfolding delayed wanting
responses-push board h e enough had =
    let deed = deed_after board h e in
    let more : endings board (h ++ deed ∷ [])
    ≡ endings board h ++ option_to_list (ending_by board h e)
    = endings-push board h deed ∙ ap (λ event. endings board h
    ++ option_to_list (ending_by board h event)) (deed-event board h e) in
    record {
      each =
          ap (map (λ x. x.set)) more
          ∙ map-append (λ x. x.set) (endings board h) (option_to_list (ending_by board h e))
          ∙ ap (λ ps. ps ++ map (λ x. x.set) (option_to_list (ending_by board h e))) had.each
          ∙ ap (λ ps. ended_sets board h ++ ps) (sets_of (ending_by board h e))
          ∙ sym (ended_sets-more board h e enough);
      delayed = λ a.
          delayed-more board a h deed
          ∙ ap (λ ys. ys
          ++ map response_at (wanting a (option_to_list (ending_by board h deed.event))))
          (left a (is_restart_of a deed.event))
          ∙ sym (responses_for-push board a h deed);
      undropped = λ a none.
          let never = none-more a h deed none in
          delayed-more board a h deed
          ∙ ap (λ restarted.
          delayed (messages_left (sent_count a h) restarted (messages_made board a h)) ++ map
          response_at (wanting a (option_to_list (ending_by board h deed.event)))) never.1
          ∙ ap (λ ys. ys ++ map response_at
          (wanting a (option_to_list (ending_by board h deed.event)))) (had.undropped a never.0)
          ∙ ap (λ event. map response_at (wanting a (endings board h)) ++ map response_at
          (wanting a (option_to_list (ending_by board h event)))) (deed-event board h e)
          ∙ sym (map-append response_at (wanting a (endings board h))
          (wanting a (option_to_list (ending_by board h e))))
          ∙ ap (map response_at) (sym (filter-append (λ x. x.set.agent == a && x.set.wanted)
          (endings board h) (option_to_list (ending_by board h e))))
          ∙ ap (λ es. map response_at (wanting a es)) (sym more);
    } where
      left : (a : ℕ) (restarted : Bool)
          → filter (λ m. m.header.kind == 2)
          (messages_left (sent_count a h) restarted (messages_made board a h))
          ≡ (if restarted then filter (λ m. m.header.kind == 2)
          (take (sent_count a h) (messages_made board a h)) else responses_for board a h)
      left a true = refl
      left a false = had.delayed a

responses-of : (board : Board) {h : List Event} → Grown h → IsLegal board h
    → HasResponses board (deeds board h)
unfolding deeds fold_with_prefix
responses-of board empty legal =
    record { each = refl; delayed = λ a. refl; undropped = λ a none. refl }
responses-of board (grow {xs} g e) legal =
    let front = IsLegal-front board xs e legal in
    rw (deeds-push board xs e) (responses-push board (deeds board xs) e
    (advances_le-accepted board xs front) (responses-of board g front))

pub responses : (board : Board) (h : List Event) → IsLegal board h
    → HasResponses board (deeds board h)
responses board h legal = responses-of board (grown h) legal
