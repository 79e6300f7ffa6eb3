-- What an agent gets in a legal history has room in its channels, and an agent that the platform
-- can't send to gets no message.
use Rattle.std.proofs.Common.{◌≡◌, ◌⊎◌, inl, inr, ℕ, zero, suc, ◌+◌, ◌≤◌, ◌==◌, ◌&&◌, nat_lt, Bool, true, false, not, List, [], ◌∷◌, ◌++◌, length, drop, map, slice_get, Option, Some, None, Result, Ok, Err, unwrap_or, refl, sym, ap, ◌∙◌, subst, arith, if◌then◌else◌}
use Rattle.std.specs.List.{All}
use Rattle.std.specs.Option.{option_and_then, option_map_or, option_or, option_to_list}
use Rattle.std.proofs.lemmas.List.{append-nil}
use Rattle.std.proofs.lemmas.List.Elements.{All-append, All-cons, All-drop, All-head, All-map, All-nil, All-take}
use Rattle.std.proofs.lemmas.Bool.{cases_Bool, eqb-true}
use Rattle.scmi_codec.specs.Header.{HeaderFields}
use Rattle.scmi_codec.specs.Payload.{begins_with_success}
use Rattle.scmi_codec.specs.declared.status.Status.{Status}
use Rattle.scmi_codec.specs.declared.message.Message.{Message}
use Rattle.scmi_codec.specs.declared.frame.Frame.{Frame}
use Rattle.scmi_codec.specs.declared.frame.Frame.TheVariants.{Good, Malformed}
use Rattle.scmi_codec.specs.declared.frame.Answer.TheVariants.{Reply, ChannelError}
use Rattle.scmi_codec.specs.declared.command.Command as codec
use Rattle.scmi_plan.specs.Board.{Board, channel_of}
use Rattle.scmi_plan.specs.Plan.{IsValid}
use Rattle.scmi_core.specs.declared.event.Event.{Event}
use Rattle.scmi_codec.specs.declared.fault.Fault.{Fault}
use Rattle.scmi_core.specs.declared.event.Event.TheVariants.{Command, Advance, Sent, CommandFailed, AdvanceFailed, Restarted, Promoted, Settled, Reported}
use Rattle.scmi_core.specs.declared.pending_set.PendingSet.{PendingSet}
use Rattle.scmi_core.specs.declared.pending_set.Setting.{Setting}
use Rattle.scmi_core.specs.declared.pending_set.Setting.TheVariants as setting
use Rattle.scmi_core.specs.Agents.{answer_for, answers_to}
use Rattle.scmi_core.specs.Channels.{IsAnswerWithin, IsOneWay, IsWithin, KeepsChannels}
use Rattle.scmi_core.specs.Commands.{request_of, reset_of}
use Rattle.scmi_core.specs.Deed.{Deed, fold_with_prefix, success_of, success_with}
use Rattle.scmi_core.specs.History.{answer_to, deed_after, deeds, made_for, outbox}
use Rattle.scmi_core.specs.Legal.{IsLegal}
use Rattle.scmi_core.specs.Outbox.{failed_response_for, failed_response_to, failed_words, is_restart_of, made_in, message_with, messages_left, messages_made, notice_in, response_for, response_to, sent_count, situation_after, state_changed}
use Rattle.scmi_core.specs.Pending.{acceptance, promoted, sets_by, settled, unwanted}
use Rattle.scmi_core.specs.ReadCommand.{command_on}
use Rattle.scmi_core.specs.Reply.{fits_channel, reply_words}
use Rattle.scmi_core.specs.Situation.{Situation}
use Rattle.scmi_core.specs.Subscriptions.{subscription, subscription_after_reset, subscription_at}
use Rattle.scmi_core.specs.Value.{Change, Enabled, Rate, State, Thing, fault_in}
use Rattle.scmi_core.proofs.Accepting.{All-option, accepted}
use Rattle.scmi_core.proofs.CommandLaws.{command_laws}
use Rattle.scmi_core.proofs.Following.{change_in, completed_in, failed_in, made_next, messages-next, next, pending_next, situation-next}
use Rattle.scmi_core.proofs.Isolation.{answers-push}
use Rattle.scmi_core.proofs.Legal.{Grown, IsLegal-front, advances_le-accepted, deeds-push, empty, grow, grown, sent_le-made}
use Rattle.scmi_core.proofs.Promotions.{promoted-all}
use Rattle.scmi_core.proofs.Room.{valid_channel, reply-within}
use Rattle.scmi_core.proofs.Situations.{nothing_if}

-- WHAT AN AGENT IS ANSWERED

answer-within : (board : Board) (a : ℕ) (frame : Frame) (h : List Event) → IsValid board
    → IsAnswerWithin board a (answer_to board a frame h)
answer-within board a (Good m) h law = by (fits_channel board a m) where
  by : (short : Bool)
      → IsAnswerWithin board a (if short then Reply (message_with m.header (reply_words board a
      (situation_after board a (deeds board h)) (command_on board m))) else ChannelError)
  by true = reply-within board a (situation_after board a (deeds board h)) (command_on board m) law
  by false = tt
answer-within board a (Malformed len header) h law = tt

one-answer : (board : Board) (a : ℕ) (h : List Event) (e : Event) → IsValid board
    → All (IsAnswerWithin board a) (answer_for board a h e)
one-answer board a h (Command c frame) law = by (a == c) refl where
  by : (own : Bool) → (a == c) ≡ own
      → All (IsAnswerWithin board a) (if own then answer_to board c frame h ∷ [] else [])
  by true own =
      All-cons (IsAnswerWithin board a) (answer_to board c frame h) []
      (subst (λ x. IsAnswerWithin board a (answer_to board x frame h)) (eqb-true a c own)
      (answer-within board a frame h law)) (All-nil (IsAnswerWithin board a))
  by false other = All-nil (IsAnswerWithin board a)
one-answer board a h (CommandFailed c (Good m) fault) law = by (a == c) where
  by : (own : Bool) → All (IsAnswerWithin board a)
      (if own then Reply (message_with m.header (failed_words fault)) ∷ [] else [])
  by true =
      let least = (valid_channel board a law).0 in
      All-cons (IsAnswerWithin board a) (Reply (message_with m.header (failed_words fault))) []
      (omega (arith, least)) (All-nil (IsAnswerWithin board a))
  by false = All-nil (IsAnswerWithin board a)
one-answer board a h (CommandFailed c (Malformed len header) fault) law = by (a == c) where
  by : (own : Bool) → All (IsAnswerWithin board a) (if own then ChannelError ∷ [] else [])
  by true = All-cons (IsAnswerWithin board a) ChannelError [] tt (All-nil (IsAnswerWithin board a))
  by false = All-nil (IsAnswerWithin board a)
one-answer board a h Advance law = All-nil (IsAnswerWithin board a)
one-answer board a h (AdvanceFailed fault) law = All-nil (IsAnswerWithin board a)
one-answer board a h (Sent c) law = All-nil (IsAnswerWithin board a)
one-answer board a h (Restarted c) law = All-nil (IsAnswerWithin board a)
one-answer board a h (Promoted place) law = All-nil (IsAnswerWithin board a)
one-answer board a h (Settled clock rate) law = All-nil (IsAnswerWithin board a)
one-answer board a h (Reported effect) law = All-nil (IsAnswerWithin board a)

answers_of : (board : Board) (a : ℕ) {h : List Event} → IsValid board → Grown h
    → All (IsAnswerWithin board a) (answers_to board a h)
unfolding answers_to fold_with_prefix
answers_of board a law empty = All-nil (IsAnswerWithin board a)
answers_of board a law (grow {xs} g e) =
    subst (All (IsAnswerWithin board a)) (sym (answers-push board a xs e))
    (All-append (IsAnswerWithin board a) (answers_to board a xs) (answer_for board a xs e)
    (answers_of board a law g) (one-answer board a xs e law))

-- WHAT IS MADE FOR IT

module _ (board : Board) (b : ℕ) (eight : 8 ≤ (channel_of board b).words) where
  abbrev Fits : Message → Type 0
  Fits = IsWithin board b

  one-if : (x : Bool) (m : Message) → Fits m → All Fits (if x then m ∷ [] else [])
  one-if true m short = All-cons Fits m [] short (All-nil Fits)
  one-if false m short = All-nil Fits

  all-if : (x : Bool) (ms : List Message) → All Fits ms → All Fits (if x then ms else [])
  all-if true ms all = all
  all-if false ms all = All-nil Fits

  response-short : (header : HeaderFields) (set : Setting) → Fits (response_to header set)
  response-short header (setting.State d state) = omega (arith, eight)
  response-short header (setting.Rate c rate) = omega (arith, eight)

  responses-short : (done : Option PendingSet) → All Fits (option_map_or (response_for b) done [])
  responses-short None = All-nil Fits
  responses-short (Some p) = one-if (p.agent == b && p.wanted) (response_to p.header p.setting)
      (response-short p.header p.setting)

  failed-short : (fault : Fault) (failed : Option PendingSet)
      → All Fits (option_map_or (failed_response_for b fault) failed [])
  failed-short fault None = All-nil Fits
  failed-short fault (Some p) =
      one-if (p.agent == b && p.wanted) (failed_response_to p.header fault) (omega (arith, eight))

  notices-short : (s : Situation) (change : Option Change)
      → All Fits (option_map_or (notice_in s) change [])
  notices-short s None = All-nil Fits
  notices-short s (Some change) = by change.thing where
    by : (x : Thing) → All Fits
        (notice_in s (record { thing = x; value = change.value; causer = change.causer }))
    by (State d) = one-if (not (change.value == s.value (State d)) && s.subscribed d)
        (state_changed change.causer d change.value) (omega (arith, eight))
    by (Rate k) = All-nil Fits
    by (Enabled k) = All-nil Fits

  made-short : (s : Situation) (deed : Deed) → All Fits (made_next board b s deed)
  made-short s deed =
      let done = completed_in s.pending deed.event in
      let change = change_in board s.pending deed in
      let responses = option_map_or (response_for b) done [] in
      let load = length s.outbox + length responses + length
      (sets_by b (pending_next board s.pending deed)) in
      All-append Fits (option_map_or (failed_response_for b (fault_in deed.event)) (failed_in
      s.pending deed.event) []) (made_in b s (pending_next board s.pending deed) done change)
      (failed-short (fault_in deed.event) (failed_in s.pending deed.event))
      (All-append Fits responses (if nat_lt load 16 then option_map_or (notice_in s) change []
      else []) (responses-short done)
      (all-if (nat_lt load 16) (option_map_or (notice_in s) change []) (notices-short s change)))

  left-short : (posted : ℕ) (restarted : Bool) (ms : List Message) → All Fits ms
      → All Fits (messages_left posted restarted ms)
  left-short posted true ms all = All-take Fits posted ms all
  left-short posted false ms all = all

  made_of : {h : List Event} → Grown h → IsLegal board h
      → All Fits (messages_made board b (deeds board h))
  unfolding deeds fold_with_prefix
  made_of empty legal = All-nil Fits
  made_of (grow {xs} g e) legal =
      let front = IsLegal-front board xs e legal in
      let ds = deeds board xs in
      let deed = deed_after board ds e in
      subst (All Fits) (sym (ap (messages_made board b) (deeds-push board xs e)
      ∙ messages-next board b ds e (advances_le-accepted board xs front)))
      (All-append Fits (messages_left (sent_count b ds) (is_restart_of b deed.event)
      (messages_made board b ds)) (made_next board b (situation_after board b ds) deed)
      (left-short (sent_count b ds) (is_restart_of b deed.event) (messages_made board b ds)
      (made_of g front)) (made-short (situation_after board b ds) deed))

-- AN AGENT THAT THE PLATFORM CAN'T SEND TO

-- what an agent that the platform can't send to never has: a request for notifications, and a
-- pending set
record IsUnsent (b : ℕ) (s : Situation) : Type 0 where
  pub subscribed : (d : ℕ) → s.subscribed d ≡ false
  pub pending : All (λ p. (p.agent == b) ≡ false) s.pending

both_ways : (b : Bool) → b ≡ true → b ≡ false → ⊥
both_ways true is not = absurd (cc)
both_ways false is not = absurd (cc)

-- so it is given no message
module _ (board : Board) (b : ℕ) (s : Situation) (quiet : IsUnsent b s) where
  first-silent : (ps : List PendingSet) → All (λ p. (p.agent == b) ≡ false) ps
      → option_map_or (response_for b) (slice_get ps 0) [] ≡ []
  first-silent [] all = refl
  first-silent (p ∷ ps) all = ap (λ own. if own && p.wanted then response_to p.header p.setting ∷ []
      else []) (All-head (λ q. (q.agent == b) ≡ false) p ps all)

  failed-silent : (fault : Fault) (ps : List PendingSet) → All (λ p. (p.agent == b) ≡ false) ps
      → option_map_or (failed_response_for b fault) (slice_get ps 0) [] ≡ []
  failed-silent fault [] all = refl
  failed-silent fault (p ∷ ps) all = ap (λ own. if own && p.wanted then failed_response_to p.header
      fault ∷ [] else []) (All-head (λ q. (q.agent == b) ≡ false) p ps all)

  no-response : (e : Event) → option_map_or (response_for b) (completed_in s.pending e) [] ≡ []
  no-response Advance = first-silent s.pending quiet.pending
  no-response (AdvanceFailed fault) = refl
  no-response (Command a frame) = refl
  no-response (CommandFailed a frame fault) = refl
  no-response (Sent a) = refl
  no-response (Restarted a) = refl
  no-response (Promoted place) = refl
  no-response (Settled clock rate) = refl
  no-response (Reported effect) = refl

  no-failure : (e : Event)
      → option_map_or (failed_response_for b (fault_in e)) (failed_in s.pending e) [] ≡ []
  no-failure (AdvanceFailed fault) = failed-silent fault s.pending quiet.pending
  no-failure Advance = refl
  no-failure (Command a frame) = refl
  no-failure (CommandFailed a frame fault) = refl
  no-failure (Sent a) = refl
  no-failure (Restarted a) = refl
  no-failure (Promoted place) = refl
  no-failure (Settled clock rate) = refl
  no-failure (Reported effect) = refl

  untold : (x : Bool) (m : Message) → (if x && false then m ∷ [] else []) ≡ []
  untold true m = refl
  untold false m = refl

  no-notice : (change : Option Change) → option_map_or (notice_in s) change [] ≡ []
  no-notice None = refl
  no-notice (Some change) = by change.thing where
    by : (x : Thing)
        → notice_in s (record { thing = x; value = change.value; causer = change.causer }) ≡ []
    by (State d) =
        ap (λ told. if not (change.value == s.value (State d)) && told
        then state_changed change.causer d change.value ∷ [] else []) (quiet.subscribed d)
        ∙ untold (not (change.value == s.value (State d)))
        (state_changed change.causer d change.value)
    by (Rate k) = refl
    by (Enabled k) = refl

  nothing-made : (deed : Deed) → made_next board b s deed ≡ []
  nothing-made deed =
      let left = pending_next board s.pending deed in
      let done = completed_in s.pending deed.event in
      let change = change_in board s.pending deed in
      ap (λ failures. failures ++ made_in b s left done change) (no-failure deed.event)
      ∙ ap (λ responses. responses
      ++ (if nat_lt (length s.outbox + length responses + length (sets_by b left)) 16
      then option_map_or (notice_in s) change [] else [])) (no-response deed.event)
      ∙ ap (λ notices. if nat_lt (length s.outbox + 0 + length (sets_by b left)) 16 then notices
      else []) (no-notice change)
      ∙ nothing_if (nat_lt (length s.outbox + 0 + length (sets_by b left)) 16)

module _ (board : Board) (b : ℕ) (one_way : IsOneWay board b) where
  -- a success leaves it without a request
  reset-off : (old : Bool) (reset : Option ℕ) (request : Option Bool) → unwrap_or request old
      ≡ false → unwrap_or (option_or (subscription_after_reset b reset) request) old ≡ false
  reset-off old None request off = off
  reset-off old (Some agent) request off = by (agent == b) where
    by : (own : Bool) → unwrap_or (option_or (if own then Some false else None) request) old ≡ false
    by true = refl
    by false = off

  off : (a : ℕ) (header : HeaderFields) (s : Situation) (r : Result codec.Command Status) (d : ℕ)
      (old : Bool) → old ≡ false
      → unwrap_or (option_and_then (subscription b d) (if begins_with_success
      (reply_words board a s r) then success_with a header r else None)) old ≡ false
  unfolding reply_words
  off a header s (Err e) d old was = by (begins_with_success (reply_words board a s (Err e))) where
    by : (ok : Bool) → unwrap_or (option_and_then (subscription b d)
        (if ok then success_with a header (Err e) else None)) old ≡ false
    by true = was
    by false = was
  off a header s (Ok c) d old was =
      by (begins_with_success (reply_words board a s (Ok c))) refl where
        asked : begins_with_success (reply_words board a s (Ok c)) ≡ true → (o : Option Bool)
            → request_of b d a c ≡ o → unwrap_or o old ≡ false
        asked ok None is = was
        asked ok (Some told) is =
            let sent = (command_laws board a).told board s c b d a told ok is in
            absurd (both_ways (channel_of board b).one_way one_way
            (subst (λ x. (channel_of board x).one_way ≡ false) (eqb-true a b sent.0) sent.1))

        by : (ok : Bool) → begins_with_success (reply_words board a s (Ok c)) ≡ ok
            → unwrap_or (option_and_then (subscription b d)
            (if ok then success_with a header (Ok c) else None)) old ≡ false
        by true ok =
            reset-off old (reset_of c) (request_of b d a c) (asked ok (request_of b d a c) refl)
        by false ok = was

  -- nor does it leave it a pending set
  others : (a : ℕ) (header : HeaderFields) (s : Situation) (r : Result codec.Command Status)
      → All (λ p. (p.agent == b) ≡ false) (option_to_list (option_and_then (acceptance board) (if
      begins_with_success (reply_words board a s r) then success_with a header r else None)))
  others a header s r = All-option (λ p. (p.agent == b) ≡ false) _ other where
    other : (p : PendingSet) → option_and_then (acceptance board)
        (if begins_with_success (reply_words board a s r) then success_with a header r else None)
        ≡ Some p → (p.agent == b) ≡ false
    other p is = by (cases_Bool (p.agent == b)) where
      by : ((p.agent == b) ≡ true) ⊎ ((p.agent == b) ≡ false) → (p.agent == b) ≡ false
      by (inl own) =
          let one = accepted board a header s p r is in
          absurd (both_ways (channel_of board b).one_way one_way (subst (λ x. (channel_of board
          x).one_way ≡ false) (sym one.own ∙ eqb-true p.agent b own) one.sent))
      by (inr another) = another

  module _ (h : List Deed) (s : Situation) (quiet : IsUnsent b s) where
    unsubscribed : (e : Event) (d : ℕ)
        → unwrap_or (subscription_at board b d (deed_after board h e)) (s.subscribed d) ≡ false
    unsubscribed (Command a (Good m)) d = by (fits_channel board a m) where
      by : (short : Bool)
          → unwrap_or (option_and_then (subscription b d)
          (success_of a m.header (command_on board m) (if short then reply_words board a
          (situation_after board a h) (command_on board m) else []))) (s.subscribed d) ≡ false
      by true = off a m.header (situation_after board a h) (command_on board m) d (s.subscribed d)
          (quiet.subscribed d)
      by false = quiet.subscribed d
    unsubscribed (Command a (Malformed len header)) d = quiet.subscribed d
    unsubscribed (CommandFailed a (Good m) fault) d = quiet.subscribed d
    unsubscribed (CommandFailed a (Malformed len header) fault) d = quiet.subscribed d
    unsubscribed Advance d = quiet.subscribed d
    unsubscribed (AdvanceFailed fault) d = quiet.subscribed d
    unsubscribed (Sent a) d = quiet.subscribed d
    unsubscribed (Reported effect) d = quiet.subscribed d
    unsubscribed (Promoted place) d = quiet.subscribed d
    unsubscribed (Settled clock rate) d = quiet.subscribed d
    unsubscribed (Restarted a) d = by (a == b) where
      by : (own : Bool)
          → unwrap_or (option_or (if own then Some false else None) None) (s.subscribed d) ≡ false
      by true = refl
      by false = quiet.subscribed d

    abbrev Others : List PendingSet → Type 0
    Others ps = All (λ p. (p.agent == b) ≡ false) ps

    none-more : Others (s.pending ++ [])
    none-more = subst (All (λ p. (p.agent == b) ≡ false)) (sym (append-nil s.pending)) quiet.pending

    not-pending : (e : Event)
        → All (λ p. (p.agent == b) ≡ false) (pending_next board s.pending (deed_after board h e))
    not-pending (Command a (Good m)) = All-append
        (λ p. (p.agent == b) ≡ false) s.pending _ quiet.pending (by (fits_channel board a m)) where
          by : (short : Bool)
              → All (λ p. (p.agent == b) ≡ false) (option_to_list (option_and_then
              (acceptance board) (success_of a m.header (command_on board m) (if short
              then reply_words board a (situation_after board a h) (command_on board m) else []))))
          by true = others a m.header (situation_after board a h) (command_on board m)
          by false = All-nil (λ p. (p.agent == b) ≡ false)
    not-pending (Command a (Malformed len header)) = none-more
    not-pending (CommandFailed a (Good m) fault) = none-more
    not-pending (CommandFailed a (Malformed len header) fault) = none-more
    not-pending (Sent a) = none-more
    not-pending (Reported effect) = none-more
    not-pending (Restarted a) =
        subst (All (λ p. (p.agent == b) ≡ false)) (sym (append-nil (map (unwanted a) s.pending)))
        (All-map (λ p. (p.agent == b) ≡ false) (unwanted a) s.pending quiet.pending)
    not-pending (Promoted place) =
        subst (All (λ p. (p.agent == b) ≡ false)) (sym (append-nil (promoted place s.pending)))
        (promoted-all (λ p. (p.agent == b) ≡ false) place s.pending quiet.pending)
    not-pending (Settled clock rate) =
        subst (All (λ p. (p.agent == b) ≡ false))
        (sym (append-nil (map (settled clock rate) s.pending)))
        (All-map (λ p. (p.agent == b) ≡ false) (settled clock rate) s.pending quiet.pending)
    not-pending Advance = All-drop (λ p. (p.agent == b) ≡ false) 1 s.pending quiet.pending
    not-pending (AdvanceFailed fault) =
        All-drop (λ p. (p.agent == b) ≡ false) 1 s.pending quiet.pending

  left-nil : (posted : ℕ) (restarted : Bool) → messages_left posted restarted [] ≡ []
  left-nil zero true = refl
  left-nil (suc n) true = refl
  left-nil posted false = refl

  record IsSilent (h : List Event) : Type 0 where
    pub quiet : IsUnsent b (situation_after board b (deeds board h))
    pub made : messages_made board b (deeds board h) ≡ []

  silent_of : {h : List Event} → Grown h → IsLegal board h → IsSilent h
  unfolding deeds fold_with_prefix
  silent_of empty legal = record {
    quiet = record { subscribed = λ d. refl; pending = All-nil (λ p. (p.agent == b) ≡ false) };
    made = refl;
  }
  silent_of (grow {xs} g e) legal =
      let front = IsLegal-front board xs e legal in
      let had = silent_of g front in
      let ds = deeds board xs in
      let deed = deed_after board ds e in
      let s = situation_after board b ds in
      let enough = advances_le-accepted board xs front in
      let stands : situation_after board b (deeds board (xs ++ e ∷ [])) ≡ next board b s deed =
      ap (situation_after board b) (deeds-push board xs e)
      ∙ situation-next board b ds e enough (sent_le-made board xs front b) in
      record {
        quiet = subst (IsUnsent b) (sym stands) (record
            { subscribed = unsubscribed ds s had.quiet e; pending = not-pending ds s had.quiet e });
        made =
            ap (messages_made board b) (deeds-push board xs e)
            ∙ messages-next board b ds e enough
            ∙ ap (λ ms. messages_left (sent_count b ds) (is_restart_of b deed.event) ms
            ++ made_next board b s deed) had.made
            ∙ ap (λ ms. ms ++ made_next board b s deed)
            (left-nil (sent_count b ds) (is_restart_of b deed.event))
            ∙ nothing-made board b s had.quiet deed;
      }

-- THE LAW

drop-nil : (n : ℕ) → ◌≡◌ {A = List Message} (drop n []) []
drop-nil zero = refl
drop-nil (suc n) = refl

pub channels : (board : Board) (h : List Event) → IsValid board → IsLegal board h
    → KeepsChannels board h
unfolding made_for outbox
channels board h law legal = record {
  answers = λ a. answers_of board a law (grown h);
  made = λ a. made_of board a (valid_channel board a law).0 (grown h) legal;
  none_made = λ a one_way. (silent_of board a one_way (grown h) legal).made;
  outbox = λ a one_way. ap (drop (sent_count a (deeds board h)))
      (silent_of board a one_way (grown h) legal).made ∙ drop-nil (sent_count a (deeds board h));
}
