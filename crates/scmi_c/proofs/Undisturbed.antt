-- What becomes of a command with an effect is the same after an event that does not disturb it.
use Rattle.std.proofs.lemmas.Bool.{or_parts}
use Rattle.std.proofs.Common.{rules, tests, ◌≡◌, ℕ, ◌≤◌, ◌||◌, Bool, true, false, List, [], ◌∷◌, ◌++◌, length, drop, map, option_map, Option, Some, None, IfSome, Result, Ok, Err, IfOk, unwrap_or, refl, sym, ap, subst, ◌∙◌, if◌then◌else◌, arith}
use Rattle.std.specs.Prelude.{⊤}
use Rattle.std.specs.Option.{option_and_then, option_map_or, option_to_list}
use Rattle.std.proofs.lemmas.List.Folds.{list_any-append}
use Rattle.scmi_codec.specs.Command.{command_of}
use Rattle.scmi_codec.specs.Payload.{begins_with_success}
use Rattle.scmi_codec.specs.Reply.{bit_0}
use Rattle.scmi_codec.specs.declared.base_command.BaseCommand.TheVariants as base
use Rattle.scmi_codec.specs.declared.clock_command.ClockCommand.{ClockCommand}
use Rattle.scmi_codec.specs.declared.clock_command.ClockCommand.TheVariants as clock
use Rattle.scmi_codec.specs.declared.command.Command.{Command}
use Rattle.scmi_codec.specs.declared.command.Command.TheVariants.{Base, Power, Clock}
use Rattle.scmi_codec.specs.declared.fault.Fault.{Fault}
use Rattle.scmi_codec.specs.declared.frame.Frame.{Frame}
use Rattle.scmi_codec.specs.declared.frame.Frame.TheVariants.{Good, Malformed}
use Rattle.scmi_codec.specs.declared.message.Message.{Message}
use Rattle.scmi_codec.specs.declared.power_command.PowerCommand.{PowerCommand}
use Rattle.scmi_codec.specs.declared.power_command.PowerCommand.TheVariants as power
use Rattle.scmi_codec.specs.declared.status.Status.{Status}
use Rattle.scmi_codec.specs.declared.status.Status.TheVariants.{NotSupported}
use Rattle.scmi_plan.specs.Board.{Board}
use Rattle.scmi_plan.specs.declared.effect.Effect.{Effect}
use Rattle.scmi_plan.specs.declared.effect.Effect.TheVariants as effect
use Rattle.scmi_plan.specs.declared.resource.Resource.{Resource}
use Rattle.scmi_plan.specs.declared.resource.Resource.TheVariants as resource
use Rattle.scmi_plan.specs.declared.scope.Scope.{Scope}
use Rattle.scmi_base.specs.Permission.{may}
use Rattle.scmi_base.specs.Protocol.{resource_changed}
use Rattle.scmi_power.specs.PowerTable.{set_later}
use Rattle.scmi_power.proofs.PowerLaws.{for_sets}
use Rattle.scmi_clock.specs.ClockTable.{rate_later, set_rate}
use Rattle.scmi_clock.specs.SetFlags.{is_asynchronous, is_response_wanted}
use Rattle.scmi_clock.proofs.ClockLaws.{for_changes}
use Rattle.scmi_core.specs.declared.event.Event.{Event}
use Rattle.scmi_core.specs.declared.event.Event.TheVariants.{Advance, AdvanceFailed, Command as Called, CommandFailed, Promoted, Reported, Sent, Settled}
use Rattle.scmi_core.specs.declared.pending_set.PendingSet.{PendingSet}
use Rattle.scmi_core.specs.declared.pending_set.Setting.{Setting}
use Rattle.scmi_core.specs.declared.pending_set.Setting.TheVariants as setting
use Rattle.scmi_core.specs.Deed.{Deed, Success, success_of, success_with}
use Rattle.scmi_core.specs.Effect.{effect_after, effect_in, effect_of, effect_read}
use Rattle.scmi_core.specs.History.{deed_after, deeds}
use Rattle.scmi_core.specs.Legal.{IsLegal}
use Rattle.scmi_core.specs.Outbox.{situation_after}
use Rattle.scmi_core.specs.Pending.{acceptance, has_set_of, is_set_by, made_pending, promoted, setting_with, settled}
use Rattle.scmi_core.specs.Commands.{later_of, now_of, permission_in, rate_later_as, state_later}
use Rattle.scmi_core.specs.ReadCommand.{command_on, lacks_protocol}
use Rattle.scmi_core.specs.Reply.{fits_channel, reply_words, words_given}
use Rattle.scmi_core.specs.Situation.{Situation}
use Rattle.scmi_core.specs.Value.{change_of}
use Rattle.scmi_core.proofs.Changes.{none_later}
use Rattle.scmi_core.proofs.CommandLaws.{command_laws, unreset}
use Rattle.scmi_core.proofs.Commits.{effect-fits, effect_by, makes}
use Rattle.scmi_core.proofs.Deeds.{added_success}
use Rattle.scmi_core.proofs.Following.{next, pending_next, situation-next}
use Rattle.scmi_core.proofs.Legal.{advances_le-accepted, deeds-push, sent_le-made}
use Rattle.scmi_core.proofs.Promotions.{promoted-any}
use Rattle.scmi_c.specs.Aside.{disturbs, is_change_of, is_permission, set_of}
use Rattle.scmi_c.specs.Effect.{numbers_of}

-- the domain or clock of a pending set
abbrev pub resource_in : Setting → Resource
resource_in (setting.State d state) = resource.Domain d
resource_in (setting.Rate c rate) = resource.Clock c

-- WHAT A MESSAGE LEAVES PENDING, AND WHAT IT PERMITS

-- what the header and words of a message say of the command that it is read as
abbrev pub Says : Message → Command → Type 0
Says m (Power (power.Set flags d state)) = set_of m ≡ Some (resource.Domain d)
Says m (Clock (clock.SetRate flags c rate)) = set_of m ≡ Some (resource.Clock c)
Says m (Clock (clock.Config c attributes)) = set_of m ≡ Some (resource.Clock c)
Says m (Base (base.Permit agent device flags)) = is_permission m.header ≡ true
Says m (Base (base.PermitProtocol agent device protocol flags)) = is_permission m.header ≡ true
Says m (Base (base.ResetAgent agent flags)) = is_permission m.header ≡ true
Says m _ = ⊤

says-read : (m : Message) → IfOk (command_of m) (Says m)
says-read m = search (rules, tests)

-- a message that is read as a command has few words
pub few-words : (m : Message) → IfOk (command_of m) (λ c. length m.payload.items ≤ 4)
few-words m = search (rules, tests, arith)

-- and on a board, which may lack its protocol
on : (board : Board) (m : Message) (P : Command → Type 0) → IfOk (command_of m) P
    → IfOk (command_on board m) P
on board m P holds = by (lacks_protocol board m.header) where
  by : (missing : Bool) → IfOk {E = Status} (if missing then Err NotSupported else command_of m) P
  by true = tt
  by false = holds

module _ (board : Board) (a : ℕ) (m : Message) where
  -- a set that is left pending is of the domain or clock that the message sets
  abbrev IsOwn : Option PendingSet → Type 0
  IsOwn accepted = IfSome accepted (λ set. set_of m ≡ Some (resource_in set.setting))

  abbrev success : Command → Success
  success c = record { caller = a; header = m.header; command = c }

  accepts-power : (c : PowerCommand) → Says m (Power c)
      → IsOwn (acceptance board (success (Power c)))
  accepts-power =
      for_sets (λ c. Says m (Power c)
      → IsOwn (option_map (made_pending a m.header) (option_map state_later (set_later c))))
      (λ flags d state says. by (bit_0 flags) d state says)
      (λ c now later says. subst IsOwn (sym (ap (λ (o : Option (ℕ × ℕ)). option_map
      (made_pending a m.header) (option_map state_later o)) later)) tt)
    where
      by : (later : Bool) (d state : ℕ) → set_of m ≡ Some (resource.Domain d)
          → IsOwn (option_map (made_pending a m.header)
          (option_map state_later (if later then Some (d, state) else None)))
      by true d state says = says
      by false d state says = tt

  accepts-clock : (c : ClockCommand) → Says m (Clock c)
      → IsOwn (acceptance board (success (Clock c)))
  accepts-clock =
      for_changes board (λ c. Says m (Clock c) → IsOwn
      (option_map (made_pending a m.header) (option_map rate_later_as (rate_later board c))))
      (λ flags c rate says. by (is_asynchronous flags) c (set_rate board flags c rate)
      (is_response_wanted flags) says)
      (λ c attributes says. tt)
      (λ c now enabled later says. subst IsOwn (sym (ap (λ (o : Option (ℕ × ℕ × Bool)). option_map
      (made_pending a m.header) (option_map rate_later_as o)) later)) tt)
    where
      by : (later : Bool) (c rate : ℕ) (wanted : Bool) → set_of m ≡ Some (resource.Clock c)
          → IsOwn (option_map (made_pending a m.header)
          (option_map rate_later_as (if later then Some (c, rate, wanted) else None)))
      by true c rate wanted says = says
      by false c rate wanted says = tt

  accepts-at : (c : Command) → Says m c → IsOwn (acceptance board (success c))
  accepts-at (Base c) says = tt
  accepts-at (Power c) says = accepts-power c says
  accepts-at (Clock c) says = accepts-clock c says

  accepts-with : (done : Bool) (r : Result Command Status) → IfOk r (Says m) → IsOwn
      (option_and_then (acceptance board) (if done then success_with a m.header r else None))
  accepts-with true (Ok c) says = accepts-at c says
  accepts-with true (Err e) says = tt
  accepts-with false r says = tt

  permits-at : (c : Command) → Says m c → is_permission m.header ≡ false → (b d : ℕ) (scope : Scope)
      → permission_in board b d scope c ≡ None
  permits-at (Base (base.Permit agent device flags)) says plain b d scope =
      absurd (let no : true ≡ false = sym says ∙ plain in cc)
  permits-at (Base (base.PermitProtocol agent device protocol flags)) says plain b d scope =
      absurd (let no : true ≡ false = sym says ∙ plain in cc)
  permits-at (Base (base.ResetAgent agent flags)) says plain b d scope =
      absurd (let no : true ≡ false = sym says ∙ plain in cc)
  permits-at (Base base.Version) says plain b d scope = refl
  permits-at (Base base.Attributes) says plain b d scope = refl
  permits-at (Base (base.MessageAttributes message)) says plain b d scope = refl
  permits-at (Base base.Vendor) says plain b d scope = refl
  permits-at (Base base.SubVendor) says plain b d scope = refl
  permits-at (Base base.Implementation) says plain b d scope = refl
  permits-at (Base (base.Protocols skip)) says plain b d scope = refl
  permits-at (Base (base.Agent agent)) says plain b d scope = refl
  permits-at (Power c) says plain b d scope = refl
  permits-at (Clock c) says plain b d scope = refl

  permits-with : (done : Bool) (r : Result Command Status) → IfOk r (Says m)
      → is_permission m.header ≡ false → (b d : ℕ) (scope : Scope)
      → option_and_then (λ it. permission_in board b d scope it.command)
      (if done then success_with a m.header r else None) ≡ None
  permits-with true (Ok c) says plain b d scope = permits-at c says plain b d scope
  permits-with true (Err e) says plain b d scope = refl
  permits-with false r says plain b d scope = refl

-- A DEED THAT DISTURBS NO COMMAND WITH A CHANGE OF A DOMAIN OR CLOCK

-- it changes no permission, and a domain or clock without a pending set has none after it
pub record IsQuiet (board : Board) (r : Resource) (deed : Deed) : Type 0 where
  pub permits : (b d : ℕ) (scope : Scope) → option_and_then
      (λ it. permission_in board b d scope it.command) (added_success board deed) ≡ None
  pub leaves : (pending : List PendingSet) → has_set_of r pending ≡ false
      → has_set_of r (pending_next board pending deed) ≡ false

or_false : (b : Bool) → (b || false) ≡ b
or_false true = refl
or_false false = refl

-- what is left pending, and one more set, if it is of another domain or clock
with-more : (r : Resource) (pending more : List PendingSet) → has_set_of r more ≡ false
    → has_set_of r pending ≡ false → has_set_of r (pending ++ more) ≡ false
with-more r pending more other none =
    list_any-append (λ p. is_set_by r p.setting) pending more
    ∙ ap (λ (had : Bool). had || has_set_of r more) none ∙ other

-- without the first
without-first : (r : Resource) (pending : List PendingSet) → has_set_of r pending ≡ false
    → has_set_of r (drop 1 pending) ≡ false
without-first r [] none = refl
without-first r (set ∷ sets) none = (or_parts (is_set_by r set.setting) (has_set_of r sets) none).1

-- the situation after it is as before, as far as such a command is concerned
module _ (board : Board) (b : ℕ) (s : Situation) (r : Resource) (deed : Deed)
    (quiet : IsQuiet board r deed) where
  may-still : may board s.allowed r ≡ may board (next board b s deed).allowed r
  may-still =
      let same : (next board b s deed).allowed ≡ s.allowed = λ i. λ d scope. ap
      (λ (o : Option Bool). unwrap_or o (s.allowed d scope)) (quiet.permits b d scope) i in
      sym (ap (λ (allowed : ℕ → Scope → Bool). may board allowed r) same)

-- THE REPLY TO A SET AT ONCE

module _ (board : Board) (b : ℕ) (s u : Situation) where
  -- two situations are the same to a set of this domain or clock
  record IsSameTo (r : Resource) : Type 0 where
    pub may : may board s.allowed r ≡ may board u.allowed r
    pub free : has_set_of r s.pending ≡ false → has_set_of r u.pending ≡ false

  still : (c : Command) (e : Effect) → now_of board c ≡ Some e
      → reply_words board b s (Ok c) ≡ 0 ∷ [] → IsSameTo (resource_changed e)
      → reply_words board b s (Ok c) ≡ reply_words board b u (Ok c)
  unfolding reply_words
  still c e now ok same = (command_laws board b).still board s u c e
      (ap begins_with_success ok) now refl same.may same.free

  read-reply : (a : ℕ) (v : Situation) (r q : Result Command Status) → r ≡ q
      → reply_words board a v r ≡ 0 ∷ [] → reply_words board a v q ≡ 0 ∷ []
  read-reply a v r q same ok =
      subst (λ (x : Result Command Status). reply_words board a v x ≡ 0 ∷ []) same ok

  reply-same : (m : Message) (e : Effect)
      → effect_by board b m.header s (command_on board m) ≡ Some e → IsSameTo (resource_changed e)
      → reply_words board b s (command_on board m) ≡ reply_words board b u (command_on board m)
  reply-same m e has same =
      let set = makes board b m.header s (command_on board m) e has in
      subst (λ (r : Result Command Status). reply_words board b s r ≡ reply_words board b u r)
      (sym set.read)
      (still set.command e set.now
      (read-reply b s (command_on board m) (Ok set.command) set.read set.reply) same)

  effect-same : (f : Frame) (e : Effect) → effect_in board b f s ≡ Some e
      → IsSameTo (resource_changed e) → effect_in board b f u ≡ Some e
  effect-same (Malformed len header) e has same = absurd (let no : None ≡ Some e = has in cc)
  effect-same (Good m) e has same =
      let fit = effect-fits board b m s e has in
      ap (λ (fits : Bool). if fits then effect_read board b m u else None) fit.0
      ∙ ap (λ (words : List ℕ). option_map effect_of
      (change_of board (success_of b m.header (command_on board m) words) None))
      (sym (reply-same m e fit.1 same))
      ∙ fit.1

-- AN EVENT AFTER A HISTORY

-- the effect of a frame by the situation of its agent
effect-stood : (board : Board) (h : List Event) (b : ℕ) (f : Frame) → effect_in board b f
    (situation_after board b (deeds board h)) ≡ effect_after board h (Called b f)
effect-stood board h b (Good m) = by (fits_channel board b m) where
  by : (short : Bool)
      → (if short then effect_read board b m (situation_after board b (deeds board h)) else None)
      ≡ option_map effect_of
      (change_of board (success_of b m.header (command_on board m) (if short then reply_words
      board b (situation_after board b (deeds board h)) (command_on board m) else [])) None)
  by true = refl
  by false = refl
effect-stood board h b (Malformed len header) = refl

-- the effect is the same after one more event that is quiet
pub effect-still : (board : Board) (h : List Event) (e : Event) (b : ℕ) (f : Frame)
    (change : Effect) → IsLegal board h
    → IsQuiet board (resource_changed change) (deed_after board (deeds board h) e)
    → effect_after board h (Called b f) ≡ Some change
    → effect_after board (h ++ e ∷ []) (Called b f) ≡ Some change
effect-still board h e b f change legal quiet has =
    let ds = deeds board h in
    let s = situation_after board b ds in
    let deed = deed_after board ds e in
    let u = next board b s deed in
    let same : situation_after board b (deeds board (h ++ e ∷ [])) ≡ u =
    ap (situation_after board b) (deeds-push board h e) ∙ situation-next board b ds e
    (advances_le-accepted board h legal) (sent_le-made board h legal b) in
    sym (effect-stood board (h ++ e ∷ []) b f)
    ∙ ap (effect_in board b f) same
    ∙ effect-same board b s u f change (effect-stood board h b f ∙ has)
    (record {
      may = may-still board b s (resource_changed change) deed quiet;
      free = quiet.leaves s.pending;
    })

-- THE EVENTS THAT ARE QUIET

pub quiet-failed : (board : Board) (h : List Event) (r : Resource) (a : ℕ) (f : Frame)
    (fault : Fault) → IsQuiet board r (deed_after board (deeds board h) (CommandFailed a f fault))
quiet-failed board h r a (Good m) fault = record {
  permits = λ b d scope. refl;
  leaves = λ pending none. with-more r pending [] refl none;
}
quiet-failed board h r a (Malformed len header) fault = record {
  permits = λ b d scope. refl;
  leaves = λ pending none. with-more r pending [] refl none;
}

pub quiet-sent : (board : Board) (h : List Event) (r : Resource) (a : ℕ)
    → IsQuiet board r (deed_after board (deeds board h) (Sent a))
quiet-sent board h r a = record {
  permits = λ b d scope. refl;
  leaves = λ pending none. with-more r pending [] refl none;
}

pub quiet-reported : (board : Board) (h : List Event) (r : Resource) (e : Effect)
    → IsQuiet board r (deed_after board (deeds board h) (Reported e))
quiet-reported board h r e = record {
  permits = λ b d scope. refl;
  leaves = λ pending none. with-more r pending [] refl none;
}

pub quiet-promoted : (board : Board) (h : List Event) (r : Resource) (place : ℕ)
    → IsQuiet board r (deed_after board (deeds board h) (Promoted place))
quiet-promoted board h r place = record {
  permits = λ b d scope. refl;
  leaves = λ pending none. with-more r (promoted place pending) [] refl
      (promoted-any (λ p. is_set_by r p.setting) place pending ∙ none);
}

-- a pending set that gets another rate stays one of its clock
settled-own : (r : Resource) (clock rate : ℕ) (p : PendingSet)
    → is_set_by r (settled clock rate p).setting ≡ is_set_by r p.setting
settled-own r clock rate p = by r p.setting where
  by : (r : Resource) (s : Setting) → is_set_by r (setting_with clock rate s) ≡ is_set_by r s
  by (resource.Domain d) (setting.State e state) = refl
  by (resource.Domain d) (setting.Rate c asked) = refl
  by (resource.Clock k) (setting.State e state) = refl
  by (resource.Clock k) (setting.Rate c asked) = refl

settled-any : (r : Resource) (clock rate : ℕ) (pending : List PendingSet)
    → has_set_of r (map (settled clock rate) pending) ≡ has_set_of r pending
settled-any r clock rate [] = refl
settled-any r clock rate (p ∷ pending) =
    ap (λ (own : Bool). own || has_set_of r (map (settled clock rate) pending))
    (settled-own r clock rate p)
    ∙ ap (λ (others : Bool). is_set_by r p.setting || others) (settled-any r clock rate pending)

pub quiet-settled : (board : Board) (h : List Event) (r : Resource) (clock rate : ℕ)
    → IsQuiet board r (deed_after board (deeds board h) (Settled clock rate))
quiet-settled board h r clock rate = record {
  permits = λ b d scope. refl;
  leaves = λ pending none. with-more r (map (settled clock rate) pending) [] refl
      (settled-any r clock rate pending ∙ none);
}

pub quiet-advance : (board : Board) (h : List Event) (r : Resource)
    → IsQuiet board r (deed_after board (deeds board h) Advance)
quiet-advance board h r = record { permits = λ b d scope. refl; leaves = without-first r }

pub quiet-advance_failed : (board : Board) (h : List Event) (r : Resource) (fault : Fault)
    → IsQuiet board r (deed_after board (deeds board h) (AdvanceFailed fault))
quiet-advance_failed board h r fault =
    record { permits = λ b d scope. refl; leaves = without-first r }

-- whether a set is of the domain or clock of a change, as numbers
is-own : (change : Effect) (s : Setting)
    → is_set_by (resource_changed change) s ≡ is_change_of (numbers_of change) (resource_in s)
is-own (effect.State d state) (setting.State e state') = refl
is-own (effect.State d state) (setting.Rate c rate) = refl
is-own (effect.Rate c rate) (setting.State e state) = refl
is-own (effect.Rate c rate) (setting.Rate k rate') = refl
is-own (effect.Enabled c enabled) (setting.State e state) = refl
is-own (effect.Enabled c enabled) (setting.Rate k rate) = refl

-- a command that does not disturb
pub quiet-plain : (board : Board) (h : List Event) (a : ℕ) (m : Message) (change : Effect)
    → disturbs m (numbers_of change) ≡ false
    → IsQuiet board (resource_changed change) (deed_after board (deeds board h) (Called a (Good m)))
quiet-plain board h a m change plain =
    let words = words_given board a (situation_after board a (deeds board h)) m in
    let two = or_parts (is_permission m.header)
    (option_map_or (is_change_of (numbers_of change)) (set_of m) false) plain in
    let says = on board m (Says m) (says-read m) in
    record {
      permits = permits-with board a m (begins_with_success words) (command_on board m) says two.0;
      leaves = λ pending none.
          with-more (resource_changed change) pending (option_to_list (option_and_then
          (acceptance board) (success_of a m.header (command_on board m) words)))
          (by (option_and_then (acceptance board)
          (success_of a m.header (command_on board m) words)) (accepts-with board a m
          (begins_with_success words) (command_on board m) says) two.1) none;
    }
  where
    by : (o : Option PendingSet) → IfSome o (λ set. set_of m ≡ Some (resource_in set.setting))
        → option_map_or (is_change_of (numbers_of change)) (set_of m) false ≡ false
        → has_set_of (resource_changed change) (option_to_list o) ≡ false
    by None own off = refl
    by (Some set) own off =
        or_false (is_set_by (resource_changed change) set.setting)
        ∙ is-own change set.setting
        ∙ ap (λ (o : Option Resource). option_map_or (is_change_of (numbers_of change)) o false)
        (sym own)
        ∙ off

-- a set that is executed at once, and leaves nothing pending
module _ (board : Board) (a : ℕ) (m : Message) (words : List ℕ) where
  -- a message that is read so leaves nothing pending and permits nothing
  record IsAtOnce (r : Result Command Status) : Type 0 where
    pub permits : (b d : ℕ) (scope : Scope) → option_and_then
        (λ it. permission_in board b d scope it.command) (success_of a m.header r words) ≡ None
    pub accepts : option_and_then (acceptance board) (success_of a m.header r words) ≡ None

  made-at-once : (c : Command) (e : Effect) → now_of board c ≡ Some e → IsAtOnce (Ok c)
  made-at-once c e now = record {
    permits = λ b d scope. permits
        (begins_with_success words) b d scope;
    accepts = accepts (begins_with_success words);
  } where
    permits : (done : Bool) (b d : ℕ) (scope : Scope) → option_and_then (λ it. permission_in board b
        d scope it.command) (if done then success_with a m.header (Ok c) else None) ≡ None
    permits true b d scope = (unreset board a board c e now).1 b d scope
    permits false b d scope = refl

    accepts : (done : Bool) → option_and_then (acceptance board)
        (if done then success_with a m.header (Ok c) else None) ≡ None
    accepts true = ap (option_map (made_pending a m.header))
        (none_later (later_of board c) (now_of board c) e ((command_laws board a).once board c) now)
    accepts false = refl

  at-once : (s : Situation) (e : Effect)
      → effect_by board a m.header s (command_on board m) ≡ Some e → IsAtOnce (command_on board m)
  at-once s e has =
      let set = makes board a m.header s (command_on board m) e has in
      subst IsAtOnce (sym set.read) (made-at-once set.command e set.now)

-- a command with an effect
pub quiet-effect : (board : Board) (h : List Event) (r : Resource) (a : ℕ) (f : Frame) (e : Effect)
    → effect_after board h (Called a f) ≡ Some e
    → IsQuiet board r (deed_after board (deeds board h) (Called a f))
quiet-effect board h r a (Malformed len header) e has = absurd (let no : None ≡ Some e = has in cc)
quiet-effect board h r a (Good m) e has =
    let s = situation_after board a (deeds board h) in
    let fit = effect-fits board a m s e (effect-stood board h a (Good m) ∙ has) in
    let once = at-once board a m (words_given board a s m) s e fit.1 in
    record {
      permits = once.permits;
      leaves = λ pending none.
          with-more r pending (option_to_list (option_and_then (acceptance board)
          (success_of a m.header (command_on board m) (words_given board a s m))))
          (ap (λ (o : Option PendingSet). has_set_of r (option_to_list o)) once.accepts) none;
    }

-- a frame that is no message
pub quiet-malformed : (board : Board) (h : List Event) (r : Resource) (a len header : ℕ)
    → IsQuiet board r (deed_after board (deeds board h) (Called a (Malformed len header)))
quiet-malformed board h r a len header = record {
  permits = λ b d scope. refl;
  leaves = λ pending none. with-more r pending [] refl none;
}

-- THE MESSAGE OF A COMMAND WITH AN EFFECT

-- it is well formed, and has few words
pub record IsShort (f : Frame) : Type 0 where
  pub message : Message
  pub is : f ≡ Good message
  pub few : length message.payload.items ≤ 4

pub short : (board : Board) (h : List Event) (a : ℕ) (f : Frame) (e : Effect)
    → effect_after board h (Called a f) ≡ Some e → IsShort f
short board h a (Malformed len header) e has = absurd (let no : None ≡ Some e = has in cc)
short board h a (Good m) e has =
    let s = situation_after board a (deeds board h) in
    let fit = effect-fits board a m s e (effect-stood board h a (Good m) ∙ has) in
    let set = makes board a m.header s (command_on board m) e fit.1 in
    record {
      message = m;
      is = refl;
      few = read (command_on board m) set.command
          (on board m (λ c. length m.payload.items ≤ 4) (few-words m)) set.read;
    } where
      read : (r : Result Command Status) (c : Command) → IfOk r (λ c. length m.payload.items ≤ 4)
          → r ≡ Ok c → length m.payload.items ≤ 4
      read (Ok d) c few is = few
      read (Err e) c few is = absurd (let no : Err e ≡ Ok c = is in cc)
