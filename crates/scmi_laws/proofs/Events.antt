-- What each event other than a command changes of an agent's situation.
use Rattle.std.proofs.Common.{◌≡◌, ◌≢◌, ℕ, ◌+◌, ◌<◌, ◌&&◌, ◌||◌, nat_lt, true, false, List, [], ◌∷◌, ◌++◌, length, map, drop, Some, None, unwrap_or, refl, sym, ap, ◌∙◌, subst, arith, if◌then◌else◌}
use Rattle.std.specs.Option.{is_some, option_or}
use Rattle.std.proofs.lemmas.List.{append_assoc, append-nil, length-map}
use Rattle.std.proofs.lemmas.Bool.{eq-eqb, ne_eqb}
use Rattle.scmi_codec.specs.declared.frame.Frame.{Frame}
use Rattle.scmi_codec.specs.declared.frame.Frame.TheVariants.{Good, Malformed}
use Rattle.scmi_codec.specs.declared.message.Message.{Message}
use Rattle.scmi_plan.specs.Board.{Board, channel_of}
use Rattle.scmi_plan.specs.declared.limits.TheConstants.{PENDING_SETS}
use Rattle.scmi_plan.specs.declared.resource.Resource.{Resource}
use Rattle.scmi_plan.specs.declared.effect.Effect.{Effect}
use Rattle.scmi_plan.specs.declared.effect.Effect.TheVariants as effect
use Rattle.scmi_core.specs.declared.event.Event.{Event}
use Rattle.scmi_codec.specs.declared.fault.Fault.{Fault}
use Rattle.scmi_core.specs.declared.event.Event.TheVariants.{Advance, AdvanceFailed, CommandFailed, Promoted, Reported, Restarted, Sent, Settled}
use Rattle.scmi_core.specs.declared.outboxes.TheConstants.{OUTBOX_ROOM}
use Rattle.scmi_core.specs.declared.pending_set.PendingSet.{PendingSet}
use Rattle.scmi_core.specs.declared.pending_set.Setting.{Setting}
use Rattle.scmi_core.specs.declared.pending_set.Setting.TheVariants as setting
use Rattle.scmi_core.specs.Agents.{answers_to}
use Rattle.scmi_core.specs.Deed.{Deed}
use Rattle.scmi_core.specs.Laws.{is_refused}
use Rattle.scmi_core.specs.Legal.{IsLegal}
use Rattle.scmi_core.specs.Outbox.{failed_response_for, made_in, notice_in, response_for}
use Rattle.scmi_core.specs.Pending.{has_set_of, is_set_by, promoted as put_first, sets_by, settled as with_rate, unwanted}
use Rattle.scmi_core.specs.Situation.{Situation}
use Rattle.scmi_core.specs.Value.{Change, change_reported, completion, set_to_change}
use Rattle.scmi_core.proofs.Following.{next}
use Rattle.scmi_core.proofs.Isolation.{answers-push, refused}
use Rattle.scmi_core.proofs.Legal.{IsLegal-front, IsLegal-last}
use Rattle.scmi_core.proofs.Promotions.{promoted-any, promoted-by, promoted-length}
use Rattle.scmi_core.proofs.Settlings.{mapped-by, settled-any}
use Rattle.scmi_core.proofs.Situations.{nothing-made}
use Rattle.scmi_laws.specs.Others.{IsUnanswered, SeesCompletion, SeesFailure, SeesPromotion, SeesReport, SeesRestart, SeesSettling, AreSeenAlike, situation_of, value_with}
use Rattle.scmi_laws.proofs.Added.{situation-more, unsuccessful}
use Rattle.scmi_laws.proofs.Reaching.{HasAtMostOne, notices, notified}

-- A SET ENDS

abbrev ended : Event → Deed
ended event = record { event = event; reply = [] }

causer-is : (a : ℕ) (set : Setting) → (set_to_change a set).causer ≡ a
causer-is a (setting.State d state) = refl
causer-is a (setting.Rate c rate) = refl

-- the first of these sets completes
module _ (board : Board) (b : ℕ) (s : Situation) (p : PendingSet) (ps : List PendingSet) where
  abbrev stood : Situation
  stood = record s { pending = p ∷ ps }

  abbrev after : Situation
  after = next board b stood (ended Advance)

  abbrev answered : List Message
  answered = s.outbox ++ response_for b p

  abbrev notices_made : List Message
  notices_made =
      let load = length s.outbox + length (response_for b p) + length (sets_by b ps) in
      if nat_lt load OUTBOX_ROOM then notice_in stood (completion p) else []

  at-most-one : HasAtMostOne p.agent stood (Some (completion p)) notices_made
  at-most-one =
      let load = length s.outbox + length (response_for b p) + length (sets_by b ps) in
      notices p.agent stood (nat_lt load OUTBOX_ROOM) (Some (completion p))
      (λ it is.
      sym (ap (λ o. (unwrap_or o it).causer) is) ∙ causer-is p.agent p.setting)

  completes : SeesCompletion b stood after
  completes = record {
    set = p;
    pending = refl;
    value = λ x. refl;
    rights = record { allowed = λ d scope. refl; subscribed = λ d. refl };
    answered = answered;
    answer = refl;
    outbox =
        notified p.agent stood after (Some (completion p)) answered notices_made (λ d. refl)
        (sym (append_assoc s.outbox (response_for b p) notices_made)) at-most-one;
  }

  -- or it fails
  fails : (fault : Fault)
      → SeesFailure b fault stood (next board b stood (ended (AdvanceFailed fault)))
  fails fault = record {
    set = p;
    pending = refl;
    value = λ x. refl;
    rights = record { allowed = λ d scope. refl; subscribed = λ d. refl };
    outbox =
        ap (λ ms. s.outbox ++ (failed_response_for b fault p ++ ms)) (nothing-made b stood ps)
        ∙ ap (λ ms. s.outbox ++ ms) (append-nil (failed_response_for b fault p));
  }

pub advance : (board : Board) (h : List Event) (b : ℕ) → IsLegal board (h ++ Advance ∷ [])
    → SeesCompletion b (situation_of board b h) (situation_of board b (h ++ Advance ∷ []))
advance board h b legal =
    subst (SeesCompletion b (situation_of board b h))
    (sym (situation-more board h Advance (IsLegal-front board h Advance legal) b))
    (by (situation_of board b h).pending (IsLegal-last board h Advance legal))
  where
    by : (pending : List PendingSet) → 0 < length pending
        → SeesCompletion b (record (situation_of board b h) { pending = pending })
        (next board b (record (situation_of board b h) { pending = pending }) (ended Advance))
    by [] waits = absurd (omega arith)
    by (p ∷ ps) waits = completes board b (situation_of board b h) p ps

pub advance_failed : (board : Board) (h : List Event) (fault : Fault) (b : ℕ)
    → IsLegal board (h ++ AdvanceFailed fault ∷ [])
    → SeesFailure b fault (situation_of board b h)
    (situation_of board b (h ++ AdvanceFailed fault ∷ []))
advance_failed board h fault b legal =
    let e = AdvanceFailed fault in
    subst (SeesFailure b fault (situation_of board b h))
    (sym (situation-more board h e (IsLegal-front board h e legal) b))
    (by (situation_of board b h).pending (IsLegal-last board h e legal))
  where
    by : (pending : List PendingSet) → 0 < length pending
        → SeesFailure b fault (record (situation_of board b h) { pending = pending })
        (next board b (record (situation_of board b h) { pending = pending })
        (ended (AdvanceFailed fault)))
    by [] waits = absurd (omega arith)
    by (p ∷ ps) waits = fails board b (situation_of board b h) p ps fault

-- A POSTING TO ANOTHER AGENT

module _ (board : Board) (a b : ℕ) (s : Situation) (differ : b ≢ a) where
  same-outbox : (next board b s (ended (Sent a))).outbox ≡ s.outbox
  same-outbox =
      (λ i.
      if ne_eqb b a differ i then drop 1 s.outbox
      else s.outbox ++ nothing-made b s (s.pending ++ []) i)
      ∙ append-nil s.outbox

  posted-same : next board b s (ended (Sent a)) ≡ s
  posted-same = λ i.
      record {
        value = s.value;
        allowed = s.allowed;
        subscribed = s.subscribed;
        pending = append-nil s.pending i;
        outbox = same-outbox i;
      }

pub sent : (board : Board) (h : List Event) (a b : ℕ) → IsLegal board h → a ≢ b
    → situation_of board b (h ++ Sent a ∷ []) ≡ situation_of board b h
sent board h a b legal differ =
    situation-more board h (Sent a) legal b
    ∙ posted-same board a b (situation_of board b h) (λ same. differ (sym same))

-- A COMMAND THAT FAILED

failed-refused : (board : Board) (h : List Event) (a : ℕ) (frame : Frame) (fault : Fault)
    → is_refused board a h (CommandFailed a frame fault) ≡ true
failed-refused board h a (Good m) fault =
    (λ i. is_some (if eq-eqb a a refl i then Some (Good m) else None) && unsuccessful fault i)
failed-refused board h a (Malformed len header) fault =
    ap (λ own. is_some (if own then Some (Malformed len header) else None) && true)
    (eq-eqb a a refl)

pub command_failed : (board : Board) (h : List Event) (a b : ℕ) (frame : Frame) (fault : Fault)
    → IsLegal board h
    → situation_of board b (h ++ CommandFailed a frame fault ∷ []) ≡ situation_of board b h
command_failed board h a b frame fault legal =
    let e = CommandFailed a frame fault in
    (refused board h a e legal (failed-refused board h a frame fault)).situations b

-- A RESTART OF ANOTHER AGENT

-- sets that are unwanted are of the same things and agents
busy-same : (a : ℕ) (r : Resource) (ps : List PendingSet)
    → has_set_of r ps ≡ has_set_of r (map (unwanted a) ps)
busy-same a r [] = refl
busy-same a r (p ∷ ps) = ap (λ more. is_set_by r p.setting || more) (busy-same a r ps)

own-same : (a b : ℕ) (ps : List PendingSet)
    → length (sets_by b ps) ≡ length (sets_by b (map (unwanted a) ps))
own-same a b [] = refl
own-same a b (p ∷ ps) = grind (arith, own-same a b ps)

module _ (board : Board) (a b : ℕ) (s : Situation) (differ : a ≢ b) where
  abbrev left : List PendingSet
  left = map (unwanted a) s.pending

  abbrev restarted_to : Situation
  restarted_to = record s { pending = left }

  seen-alike : AreSeenAlike board b s restarted_to
  seen-alike = record {
    value = λ x. refl;
    allowed = λ device scope. refl;
    busy = λ r. busy-same a r s.pending;
    room = λ i.
        let own = own-same a b s.pending i in
        nat_lt (sym (length-map s.pending (unwanted a)) i) PENDING_SETS
        && (nat_lt own (channel_of board b).share && nat_lt (length s.outbox + own) OUTBOX_ROOM);
  }

  dropped : (next board b s (ended (Restarted a))).outbox ≡ s.outbox
  dropped =
      (λ i.
      (if ne_eqb b a (λ same. differ (sym same)) i then [] else s.outbox)
      ++ nothing-made b s (left ++ []) i)
      ∙ append-nil s.outbox

  restarts : next board b s (ended (Restarted a)) ≡ restarted_to
  restarts = λ i.
      record {
        value = s.value;
        allowed = s.allowed;
        subscribed = λ d.
            unwrap_or (option_or (if ne_eqb a b differ i then Some false else None) None)
            (s.subscribed d);
        pending = append-nil left i;
        outbox = dropped i;
      }

pub restarted : (board : Board) (h : List Event) (a b : ℕ) → IsLegal board h → a ≢ b
    → SeesRestart board a b (situation_of board b h) (situation_of board b (h ++ Restarted a ∷ []))
restarted board h a b legal differ =
    let s = situation_of board b h in
    let is = situation-more board h (Restarted a) legal b ∙ restarts board a b s differ in
    record {
      moved = is;
      alike = subst (AreSeenAlike board b s) (sym is) (seen-alike board a b s differ);
    }

-- A PROMOTION

module _ (board : Board) (place b : ℕ) (s : Situation) where
  abbrev ordered : List PendingSet
  ordered = put_first place s.pending

  abbrev promoted_to : Situation
  promoted_to = record s { pending = ordered }

  promoted-alike : AreSeenAlike board b s promoted_to
  promoted-alike = record {
    value = λ x. refl;
    allowed = λ device scope. refl;
    busy = λ r. sym (promoted-any (λ p. is_set_by r p.setting) place s.pending);
    room = λ i.
        let own = sym (promoted-by b place s.pending) i in
        nat_lt (sym (promoted-length place s.pending) i) PENDING_SETS
        && (nat_lt own (channel_of board b).share && nat_lt (length s.outbox + own) OUTBOX_ROOM);
  }

  unmade : (next board b s (ended (Promoted place))).outbox ≡ s.outbox
  unmade = (λ i. s.outbox ++ nothing-made b s (ordered ++ []) i) ∙ append-nil s.outbox

  promotes : next board b s (ended (Promoted place)) ≡ promoted_to
  promotes = λ i.
      record {
        value = s.value;
        allowed = s.allowed;
        subscribed = s.subscribed;
        pending = append-nil ordered i;
        outbox = unmade i;
      }

pub promoted : (board : Board) (h : List Event) (place b : ℕ) → IsLegal board h
    → SeesPromotion board place b (situation_of board b h)
    (situation_of board b (h ++ Promoted place ∷ []))
promoted board h place b legal =
    let s = situation_of board b h in
    let is = situation-more board h (Promoted place) legal b ∙ promotes board place b s in
    record {
      moved = is;
      alike = subst (AreSeenAlike board b s) (sym is) (promoted-alike board place b s);
    }

-- A SETTLED RATE

module _ (board : Board) (clock rate b : ℕ) (s : Situation) where
  abbrev rated : List PendingSet
  rated = map (with_rate clock rate) s.pending

  abbrev settled_to : Situation
  settled_to = record s { pending = rated }

  settled-alike : AreSeenAlike board b s settled_to
  settled-alike = record {
    value = λ x. refl;
    allowed = λ device scope. refl;
    busy = λ r. sym (settled-any r clock rate s.pending);
    room = λ i.
        let own = sym (mapped-by b (with_rate clock rate) (λ p. refl) s.pending) i in
        nat_lt (sym (length-map s.pending (with_rate clock rate)) i) PENDING_SETS
        && (nat_lt own (channel_of board b).share && nat_lt (length s.outbox + own) OUTBOX_ROOM);
  }

  unsent : (next board b s (ended (Settled clock rate))).outbox ≡ s.outbox
  unsent = (λ i. s.outbox ++ nothing-made b s (rated ++ []) i) ∙ append-nil s.outbox

  settles : next board b s (ended (Settled clock rate)) ≡ settled_to
  settles = λ i.
      record {
        value = s.value;
        allowed = s.allowed;
        subscribed = s.subscribed;
        pending = append-nil rated i;
        outbox = unsent i;
      }

pub settled : (board : Board) (h : List Event) (clock rate b : ℕ) → IsLegal board h
    → SeesSettling board clock rate b (situation_of board b h)
    (situation_of board b (h ++ Settled clock rate ∷ []))
settled board h clock rate b legal =
    let s = situation_of board b h in
    let is = situation-more board h (Settled clock rate) legal b ∙ settles board clock rate b s in
    record {
      moved = is;
      alike = subst (AreSeenAlike board b s) (sym is) (settled-alike board clock rate b s);
    }

-- A REPORT OF THE HARDWARE

unowned : (effect : Effect) → (change_reported effect).causer ≡ 0
unowned (effect.State d state) = refl
unowned (effect.Rate c rate) = refl
unowned (effect.Enabled c enabled) = refl

module _ (board : Board) (b : ℕ) (s : Situation) (effect : Effect) where
  abbrev change : Change
  change = change_reported effect

  abbrev told : List Message
  told = made_in b s s.pending None (Some change)

  abbrev reported_to : Situation
  reported_to =
      record {
        value = λ x. value_with (Some change) x (s.value x);
        allowed = s.allowed;
        subscribed = s.subscribed;
        pending = s.pending;
        outbox = s.outbox ++ told;
      }

  reports : next board b s (ended (Reported effect)) ≡ reported_to
  reports = λ i.
      record {
        value = λ x. value_with (Some change) x (s.value x);
        allowed = s.allowed;
        subscribed = s.subscribed;
        pending = append-nil s.pending i;
        outbox = s.outbox ++ made_in b s (append-nil s.pending i) None (Some change);
      }

  told-once : HasAtMostOne 0 s (Some change) told
  told-once =
      let load = length s.outbox + 0 + length (sets_by b s.pending) in
      notices 0 s (nat_lt load OUTBOX_ROOM) (Some change)
      (λ it is.
      sym (ap (λ o. (unwrap_or o it).causer) is) ∙ unowned effect)

  sees-report : SeesReport b effect s reported_to
  sees-report = record {
    value = λ x. refl;
    rights = record { allowed = λ d scope. refl; subscribed = λ d. refl };
    pending = refl;
    made = refl;
    outbox =
        notified 0 s reported_to (Some change) s.outbox told (λ d. refl) refl told-once;
  }

pub reported : (board : Board) (h : List Event) (effect : Effect) (b : ℕ) → IsLegal board h
    → SeesReport b effect (situation_of board b h)
    (situation_of board b (h ++ Reported effect ∷ []))
reported board h effect b legal =
    let s = situation_of board b h in
    subst (SeesReport b effect s)
    (sym (situation-more board h (Reported effect) legal b ∙ reports board b s effect))
    (sees-report board b s effect)

pub unanswered : (board : Board) (h : List Event) (effect : Effect) (b : ℕ)
    → IsUnanswered board h (Reported effect) b
unanswered board h effect b =
    answers-push board b h (Reported effect) ∙ append-nil (answers_to board b h)
