-- Each change of a legal history came of a command of its causer, who might make it there, or the
-- hardware reported it.
use Rattle.std.proofs.Common.{◌≡◌, ◌≢◌, ◌⊎◌, inl, inr, ℕ, ◌==◌, ◌&&◌, Bool, true, false, List, [], ◌∷◌, ◌++◌, length, map, slice_get, Option, Some, None, Result, Ok, Err, option_map, unwrap_or, refl, sym, ap, ◌∙◌, subst, if◌then◌else◌}
use Rattle.std.specs.List.{All}
use Rattle.std.specs.Option.{option_and_then, option_or, option_to_list}
use Rattle.std.proofs.lemmas.Bool.Decides.{eqb_tells}
use Rattle.std.proofs.lemmas.List.{append_assoc, append-nil}
use Rattle.std.proofs.lemmas.List.Elements.{All-append, All-drop, All-head, All-map, All-nil, All-same, All-weaker}
use Rattle.scmi_codec.specs.Header.{HeaderFields}
use Rattle.scmi_codec.specs.Payload.{begins_with_success}
use Rattle.scmi_codec.specs.declared.status.Status.{Status}
use Rattle.scmi_codec.specs.declared.frame.Frame.TheVariants.{Good, Malformed}
use Rattle.scmi_codec.specs.declared.message.Message.{Message}
use Rattle.scmi_codec.specs.declared.command.Command as codec
use Rattle.scmi_plan.specs.Agent.{IsAgent}
use Rattle.scmi_plan.specs.Board.{Board, is_free, is_kept}
use Rattle.scmi_base.specs.Permission.{may}
use Rattle.scmi_plan.specs.declared.effect.Effect.{Effect}
use Rattle.scmi_plan.specs.declared.effect.Effect.TheVariants as effect
use Rattle.scmi_base.specs.Protocol.{resource_changed}
use Rattle.scmi_core.specs.declared.event.Event.{Event}
use Rattle.scmi_core.specs.declared.event.Event.TheVariants.{Command, Advance, Sent, CommandFailed, AdvanceFailed, Restarted, Promoted, Settled, Reported}
use Rattle.scmi_core.specs.declared.pending_set.PendingSet.{PendingSet}
use Rattle.scmi_core.specs.declared.pending_set.Setting.{Setting}
use Rattle.scmi_core.specs.declared.pending_set.Setting.TheVariants as setting
use Rattle.scmi_core.specs.Commands.{Later, later_of, now_of, setting_effect}
use Rattle.scmi_core.specs.Deed.{Success, fold_with_prefix, success_at, success_of, success_with}
use Rattle.scmi_core.specs.History.{deed_after, deeds}
use Rattle.scmi_core.specs.Laws.{HasCause, HasIntegrity, HasOrigin, IsKeptOn, IsKeptOnByAgents, IsReported, IsSettled, KeepsOn, change_asked, may_after}
use Rattle.scmi_core.specs.Legal.{CanFollow, IsLegal}
use Rattle.scmi_core.specs.Outbox.{situation_after}
use Rattle.scmi_core.specs.Pending.{acceptance, pending_sets, promoted, made_pending, setting_with, settled, unwanted}
use Rattle.scmi_core.specs.ReadCommand.{command_on}
use Rattle.scmi_core.specs.Reply.{fits_channel, reply_words}
use Rattle.scmi_core.specs.Situation.{Situation}
use Rattle.scmi_core.specs.Value.{Change, Rate, change_now, change_reported, changes, completion, given, is_off, resource_of, set_to_change, thing_of, value_of}
use Rattle.scmi_core.proofs.Accepting.{All-option, mapped, then_some}
use Rattle.scmi_core.proofs.CommandLaws.{command_laws}
use Rattle.scmi_core.proofs.Deeds.{changes-push}
use Rattle.scmi_core.proofs.Following.{change-is, change_in, pending-next, pending_next}
use Rattle.scmi_core.proofs.Promotions.{promoted-all}
use Rattle.scmi_core.proofs.Legal.{Grown, IsLegal-front, IsLegal-last, advances_le-accepted, deeds-push, empty, grow, grown}

-- A SUCCESS THAT ASKS FOR A CHANGE

-- what an effect changes is of the domain or clock that it changes
resource-is : (e : Effect) → resource_of (thing_of e) ≡ resource_changed e
resource-is (effect.State d state) = refl
resource-is (effect.Rate c rate) = refl
resource-is (effect.Enabled c enabled) = refl

-- a clock and a rate that agent a gave it
abbrev rate_given : ℕ → ℕ × ℕ → Change
rate_given a set = record { thing = Rate set.0; value = set.1; causer = a }

-- a change is agent a's, who may make it there
pub record IsOwn (board : Board) (a : ℕ) (s : Situation) (change : Change) : Type 0 where
  pub causer : change.causer ≡ a
  pub allowed : may board s.allowed (resource_of change.thing) ≡ true
  pub kept : IsKeptOn board change

module _ (board : Board) (a : ℕ) (header : HeaderFields) (s : Situation) (change : Change) where
  abbrev asks : codec.Command → Option Change
  asks command = change_asked board (record { caller = a; header = header; command = command })

  -- the effect that a success asks for, at once or for later
  asked-of : (now : Option Effect) (later : Option Later) → option_or (option_map (given a) now)
      (option_map completion (option_map (made_pending a header) later)) ≡ Some change
      → (e : Effect) × (option_or now (option_map (λ l. setting_effect l.setting) later) ≡ Some e)
      × (given a e ≡ change)
  asked-of (Some e) later is = (e, refl, ap (λ o. unwrap_or o change) is)
  asked-of None (Some l) is = (setting_effect l.setting, refl, ap (λ o. unwrap_or o change) is)
  asked-of None None is = absurd (cc)

  own : (c : codec.Command) → begins_with_success (reply_words board a s (Ok c)) ≡ true
      → asks c ≡ Some change → IsOwn board a s change
  unfolding reply_words
  own c ok is =
      let x = asked-of (now_of board c) (later_of board c) is in
      let laws = command_laws board a in
      subst (IsOwn board a s) x.2 (record {
        causer = refl;
        allowed = subst (λ r. may board s.allowed r ≡ true) (sym (resource-is x.0))
            (laws.allowed board s c x.0 ok x.1);
        kept = subst (λ r. (is_kept board r && is_off (thing_of x.0) (value_of x.0)) ≡ false)
            (sym (resource-is x.0)) (laws.kept board s c x.0 ok x.1);
      })

  pub asked-own : (r : Result codec.Command Status)
      → option_and_then (change_asked board) (if begins_with_success (reply_words board a s r)
      then success_with a header r else None) ≡ Some change → IsOwn board a s change
  asked-own (Err e) is =
      let two = then_some (begins_with_success (reply_words board a s (Err e)))
      (success_with a header (Err e)) (change_asked board) change is in
      let no = two.1 in
      absurd (cc)
  asked-own (Ok c) is =
      let two = then_some (begins_with_success (reply_words board a s (Ok c)))
      (success_with a header (Ok c)) (change_asked board) change is in
      own c two.0 two.1

-- a change that is made at once was asked for
pub now-asked : (board : Board) (o : Option Success) (change : Change) → option_and_then
    (change_now board) o ≡ Some change → option_and_then (change_asked board) o ≡ Some change
now-asked board None change is = absurd (cc)
now-asked board (Some s) change is =
    ap (λ now. option_or now (option_map completion (acceptance board s))) is

-- a success that is accepted for later changes nothing at once
module _ (board : Board) (a : ℕ) (header : HeaderFields) (p : PendingSet) where
  pub later : (c : codec.Command)
      → acceptance board (record { caller = a; header = header; command = c }) ≡ Some p
      → change_now board (record { caller = a; header = header; command = c }) ≡ None
  later c is =
      let set = mapped (made_pending a header) (later_of board c) p is in
      let effect = setting_effect set.0.setting in
      ap (option_map (given a)) ((command_laws board a).once board c effect
      (ap (option_map (λ l. setting_effect l.setting)) set.1))

pub later-asked : (board : Board) (o : Option Success) (p : PendingSet) → option_and_then
    (acceptance board) o ≡ Some p → option_and_then (change_asked board) o ≡ Some (completion p)
later-asked board None p is = absurd (cc)
later-asked board (Some s) p is =
    ap (λ now. option_or now (option_map completion (acceptance board s)))
    (later board s.caller s.header p s.command is)
    ∙ ap (option_map completion) is

-- ONE MORE EVENT

-- a command is the cause of a change, after these events
pub record IsCausedAfter (board : Board) (h before : List Event) (change : Change) : Type 0 where
  pub cause : HasCause board h change
  pub before_is : cause.before ≡ before

pub cause-kept : (board : Board) (h : List Event) (e : Event) (change : Change)
    (had : HasCause board h change) → IsCausedAfter board (h ++ e ∷ []) had.before change
cause-kept board h e change had = record {
  cause = record {
    before = had.before;
    message = had.message;
    after = had.after ++ e ∷ [];
    wanted = had.wanted;
    place = ap (λ xs. xs ++ e ∷ []) had.place
        ∙ append_assoc had.before (Command change.causer (Good had.message) ∷ had.after) (e ∷ []);
    agent = had.agent;
    asked = had.asked;
    given = by had.given;
    allowed = had.allowed;
    kept = had.kept;
  };
  before_is = refl;
}
  where
    by : (change ≡ had.wanted) ⊎ IsSettled board had.after had.wanted change
        → (change ≡ had.wanted) ⊎ IsSettled board (had.after ++ e ∷ []) had.wanted change
    by (inl same) = inl same
    by (inr was) = inr (record {
      clock = was.clock;
      rate = was.rate;
      earlier = was.earlier;
      later = was.later ++ e ∷ [];
      thing = was.thing;
      free = was.free;
      place = ap (λ xs. xs ++ e ∷ []) was.place
          ∙ append_assoc was.earlier (Settled was.clock was.rate ∷ was.later) (e ∷ []);
      gives = was.gives;
    })

-- what a pending set whose rate the hardware settles is to make came of the same command
module _ (board : Board) (h : List Event) (clock rate a : ℕ)
    (free : is_free board clock ≡ true) where
  abbrev h' : List Event
  h' = h ++ Settled clock rate ∷ []

  abbrev at_rate : Change → Change
  at_rate change = record change { value = rate }

  abbrev IsRated : List Event → ℕ → ℕ → Bool → Type 0
  IsRated before c asked is =
      IsCausedAfter board h' before (rate_given a (c, if is then rate else asked))

  settled-rate : (c asked : ℕ) → clock ≡ c → (had : HasCause board h (rate_given a (c, asked)))
      → IsCausedAfter board h' had.before (rate_given a (c, rate))
  settled-rate c asked same had = record {
    cause = record {
      before = had.before;
      message = had.message;
      after = had.after ++ Settled clock rate ∷ [];
      wanted = had.wanted;
      place = ap (λ xs. xs ++ Settled clock rate ∷ []) had.place ∙ append_assoc had.before
          (Command a (Good had.message) ∷ had.after) (Settled clock rate ∷ []);
      agent = had.agent;
      asked = had.asked;
      given = inr (record {
        clock = clock;
        rate = rate;
        earlier = had.after;
        later = [];
        thing = sym (ap (λ x. x.thing) of) ∙ ap Rate (sym same);
        free = free;
        place = refl;
        gives = of;
      });
      allowed = had.allowed;
      kept = had.kept;
    };
    before_is = refl;
  }
    where
      by : (rate_given a (c, asked) ≡ had.wanted) ⊎ IsSettled board had.after had.wanted
          (rate_given a (c, asked)) → rate_given a (c, rate) ≡ record had.wanted { value = rate }
      by (inl same) = ap at_rate same
      by (inr was) = ap at_rate was.gives

      of : rate_given a (c, rate) ≡ record had.wanted { value = rate }
      of = by had.given

  pub cause-settled : (s : Setting) (had : HasCause board h (set_to_change a s))
      → IsCausedAfter board h' had.before (set_to_change a (setting_with clock rate s))
  cause-settled (setting.State d state) had =
      cause-kept board h (Settled clock rate) (set_to_change a (setting.State d state)) had
  cause-settled (setting.Rate c asked) had = by (eqb_tells clock c) where
    by : (((clock == c) ≡ true) × (clock ≡ c)) ⊎ (((clock == c) ≡ false) × (clock ≢ c))
        → IsRated had.before c asked (clock == c)
    by (inl same) =
        subst (IsRated had.before c asked) (sym same.0) (settled-rate c asked same.1 had)
    by (inr other) = subst (IsRated had.before c asked) (sym other.0)
        (cause-kept board h (Settled clock rate) (rate_given a (c, asked)) had)

reported-kept : (board : Board) (h : List Event) (e : Event) (change : Change)
    → IsReported board h change → IsReported board (h ++ e ∷ []) change
reported-kept board h e change had = record {
  before = had.before;
  effect = had.effect;
  after = had.after ++ e ∷ [];
  place = ap (λ xs. xs ++ e ∷ []) had.place
      ∙ append_assoc had.before (Reported had.effect ∷ had.after) (e ∷ []);
  says = had.says;
  known = had.known;
}

origin-kept : (board : Board) (h : List Event) (e : Event) (change : Change)
    → HasOrigin board h change → HasOrigin board (h ++ e ∷ []) change
origin-kept board h e change (inl had) = inl (cause-kept board h e change had).cause
origin-kept board h e change (inr had) = inr (reported-kept board h e change had)

-- a command is the cause of what it asked for
pub caused : (board : Board) (h : List Event) (a : ℕ) (m : Message) (change : Change)
    → IsAgent (length board.agents) a
    → option_and_then (change_asked board) (success_at board (Command a (Good m))
    (deed_after board (deeds board h) (Command a (Good m))).reply) ≡ Some change
    → IsCausedAfter board (h ++ Command a (Good m) ∷ []) h change
caused board h a m change agent asked =
    let is = fits (fits_channel board a m) asked in
    let back = sym is.causer in
    record {
      cause = record {
        before = h;
        message = m;
        after = [];
        wanted = change;
        place = ap (λ x. h ++ Command x (Good m) ∷ []) back;
        agent = subst (IsAgent (length board.agents)) back agent;
        asked = subst (λ x. option_and_then (change_asked board) (success_at board
            (Command x (Good m)) (deed_after board (deeds board h) (Command x (Good m))).reply)
            ≡ Some change) back asked;
        given = inl refl;
        allowed = subst (λ x. may_after board h x change.thing ≡ true) back is.allowed;
        kept = is.kept;
      };
      before_is = refl;
    } where
      fits : (short : Bool)
          → option_and_then (change_asked board)
          (success_of a m.header (command_on board m) (if short then reply_words board a
          (situation_after board a (deeds board h)) (command_on board m) else [])) ≡ Some change
          → IsOwn board a (situation_after board a (deeds board h)) change
      fits true asked = asked-own board a m.header (situation_after board a (deeds board h)) change
          (command_on board m) asked
      fits false asked = absurd (cc)

-- each change so far has its cause or was reported, and each that a pending set is to make has its
-- cause
record HasCauses (board : Board) (h : List Event) : Type 0 where
  pub changed : HasIntegrity board h
  pub pending : All (λ p. HasCause board h (completion p)) (pending_sets board (deeds board h))

causes-more : (board : Board) (h : List Event) (e : Event) → IsLegal board h → HasCauses board h
    → ((change : Change) → change_in board (pending_sets board (deeds board h))
    (deed_after board (deeds board h) e) ≡ Some change → HasOrigin board (h ++ e ∷ []) change)
    → (All (λ p. HasCause board (h ++ e ∷ []) (completion p)) (pending_sets board (deeds board h))
    → All (λ p. HasCause board (h ++ e ∷ []) (completion p)) (pending_next board
    (pending_sets board (deeds board h)) (deed_after board (deeds board h) e)))
    → HasCauses board (h ++ e ∷ [])
causes-more board h e legal had new left =
    let ds = deeds board h in
    let deed = deed_after board ds e in
    let more : changes board (deeds board (h ++ e ∷ []))
    ≡ changes board ds ++ option_to_list (change_in board (pending_sets board ds) deed)
    = ap (changes board) (deeds-push board h e) ∙ changes-push board ds deed
    ∙ ap (λ change. changes board ds ++ option_to_list change) (change-is board ds deed) in
    let pend : pending_sets board (deeds board (h ++ e ∷ []))
    ≡ pending_next board (pending_sets board ds) deed
    = ap (pending_sets board) (deeds-push board h e)
    ∙ pending-next board ds e (advances_le-accepted board h legal) in
    record {
      changed = subst (All (HasOrigin board (h ++ e ∷ []))) (sym more)
          (All-append (HasOrigin board (h ++ e ∷ [])) (changes board ds)
          (option_to_list (change_in board (pending_sets board ds) deed))
          (All-weaker (HasOrigin board h) (HasOrigin board (h ++ e ∷ [])) (origin-kept board h e)
          (changes board ds) had.changed)
          (All-option (HasOrigin board (h ++ e ∷ []))
          (change_in board (pending_sets board ds) deed) new));
      pending = subst (All (λ p. HasCause board (h ++ e ∷ []) (completion p))) (sym pend) (left
          (All-weaker (λ p. HasCause board h (completion p)) (λ p. HasCause board
          (h ++ e ∷ []) (completion p)) (λ p it. (cause-kept board h e (completion p) it).cause)
          (pending_sets board ds) had.pending));
    }

-- what a completion changes its set was to make
completed-cause : (board : Board) (h : List Event) (ps : List PendingSet) (change : Change)
    → All (λ p. HasCause board h (completion p)) ps
    → option_or (option_map completion (slice_get ps 0)) None ≡ Some change
    → HasCause board h change
completed-cause board h [] change all is = absurd (cc)
completed-cause board h (p ∷ ps) change all is =
    subst (HasCause board h) (ap (λ o. unwrap_or o change) is)
    (All-head (λ q. HasCause board h (completion q)) p ps all)

module _ (board : Board) (h : List Event) (legal : IsLegal board h) (had : HasCauses board h) where
  causes-idle : (e : Event) → change_in board (pending_sets board (deeds board h))
      (deed_after board (deeds board h) e) ≡ None
      → pending_next board (pending_sets board (deeds board h)) (deed_after board (deeds board h) e)
      ≡ pending_sets board (deeds board h) ++ [] → HasCauses board (h ++ e ∷ [])
  causes-idle e none same =
      let pending = pending_sets board (deeds board h) in
      causes-more board h e legal had
      (λ change is. let no : None ≡ Some change = sym none ∙ is in absurd (cc))
      (λ all. All-same (λ p. HasCause board (h ++ e ∷ []) (completion p)) (pending_next board
      pending (deed_after board (deeds board h) e)) pending (same ∙ append-nil pending) all)

  causes : (e : Event) → CanFollow board h e → HasCauses board (h ++ e ∷ [])
  causes (Command a (Good m)) follows =
      let success = success_at board (Command a (Good m))
      (deed_after board (deeds board h) (Command a (Good m))).reply in
      let set = option_and_then (acceptance board) success in
      causes-more board h (Command a (Good m)) legal had
      (λ change is. inl
      (caused board h a m change follows (now-asked board success change is)).cause)
      (λ all.
      All-append (λ p. HasCause board (h ++ Command a (Good m) ∷ []) (completion p))
      (pending_sets board (deeds board h)) (option_to_list set) all
      (All-option (λ p. HasCause board (h ++ Command a (Good m) ∷ []) (completion p)) set
      (λ p is. (caused board h a m (completion p) follows (later-asked board success p is)).cause)))
  causes (Command a (Malformed len header)) follows =
      causes-idle (Command a (Malformed len header)) refl refl
  causes (CommandFailed a (Good m) fault) follows =
      causes-idle (CommandFailed a (Good m) fault) refl refl
  causes (CommandFailed a (Malformed len header) fault) follows =
      causes-idle (CommandFailed a (Malformed len header) fault) refl refl
  causes (Sent a) follows = causes-idle (Sent a) refl refl
  causes (Restarted a) follows =
      let pending = pending_sets board (deeds board h) in
      causes-more board h (Restarted a) legal had (λ change is. absurd (cc))
      (λ all.
      All-same (λ p. HasCause board (h ++ Restarted a ∷ []) (completion p)) (map (unwanted a)
      pending ++ []) (map (unwanted a) pending) (append-nil (map (unwanted a) pending))
      (All-map (λ p. HasCause board (h ++ Restarted a ∷ []) (completion p))
      (unwanted a) pending all))
  causes (Promoted place) follows =
      let pending = pending_sets board (deeds board h) in
      causes-more board h (Promoted place) legal had (λ change is. absurd (cc))
      (λ all.
      All-same (λ p. HasCause board (h ++ Promoted place ∷ []) (completion p)) (promoted place
      pending ++ []) (promoted place pending) (append-nil (promoted place pending))
      (promoted-all
      (λ p. HasCause board (h ++ Promoted place ∷ []) (completion p)) place pending all))
  causes (Settled clock rate) follows =
      let h' = h ++ Settled clock rate ∷ [] in
      let pending = pending_sets board (deeds board h) in
      causes-more board h (Settled clock rate) legal had (λ change is. absurd (cc))
      (λ all.
      All-same (λ p. HasCause board h' (completion p)) (map (settled clock rate) pending ++ [])
      (map (settled clock rate) pending) (append-nil (map (settled clock rate) pending))
      (All-map (λ p. HasCause board h' (completion p)) (settled clock rate) pending
      (All-weaker (λ p. HasCause board h (completion p))
      (λ p. HasCause board h' (completion (settled clock rate p))) (λ p it. (cause-settled board
      h clock rate p.agent follows.1 p.setting it).cause) pending had.pending)))
  causes (Reported effect) follows =
      let pending = pending_sets board (deeds board h) in
      causes-more board h (Reported effect) legal had
      (λ change is. inr (record {
        before = h;
        effect = effect;
        after = [];
        place = refl;
        says = sym (ap (λ o. unwrap_or o change) is);
        known = follows;
      }))
      (λ all. All-same (λ p. HasCause board (h ++ Reported effect ∷ []) (completion p))
      (pending ++ []) pending (append-nil pending) all)
  causes Advance follows =
      causes-more board h Advance legal had
      (λ change is. inl (cause-kept board h Advance change (completed-cause board h
      (pending_sets board (deeds board h)) change had.pending is)).cause)
      (λ all. All-drop (λ p. HasCause board (h ++ Advance ∷ []) (completion p)) 1
      (pending_sets board (deeds board h)) all)
  causes (AdvanceFailed fault) follows =
      causes-more board h (AdvanceFailed fault) legal had (λ change is. absurd (cc))
      (λ all. All-drop (λ p. HasCause board (h ++ AdvanceFailed fault ∷ []) (completion p)) 1
      (pending_sets board (deeds board h)) all)

causes_of : (board : Board) {h : List Event} → Grown h → IsLegal board h → HasCauses board h
unfolding deeds fold_with_prefix
causes_of board empty legal = record {
  changed = All-nil (HasOrigin board []);
  pending = All-nil (λ p. HasCause board [] (completion p));
}
causes_of board (grow {xs} g e) legal =
    let front = IsLegal-front board xs e legal in
    causes board xs front (causes_of board g front) e (IsLegal-last board xs e legal)

pub integrity : (board : Board) (h : List Event) → IsLegal board h → HasIntegrity board h
integrity board h legal = (causes_of board (grown h) legal).changed

-- what was reported is of no agent
of_no_agent : (effect : Effect) → (change_reported effect).causer ≡ 0
of_no_agent (effect.State d state) = refl
of_no_agent (effect.Rate c rate) = refl
of_no_agent (effect.Enabled c enabled) = refl

kept-by : (board : Board) (h : List Event) (change : Change) → HasOrigin board h change
    → IsKeptOnByAgents board change
kept-by board h change (inl had) = λ some. had.kept
kept-by board h change (inr had) =
    λ some. absurd (some (ap (λ c. c.causer) had.says ∙ of_no_agent had.effect))

-- no change by an agent switches off what the board keeps
pub kept_on : (board : Board) (h : List Event) → IsLegal board h → KeepsOn board h
kept_on board h legal =
    All-weaker (HasOrigin board h) (IsKeptOnByAgents board) (kept-by board h)
    (changes board (deeds board h)) (integrity board h legal)
