-- The answer to a command that the hardware refused, and to one that it did not.
use Rattle.std.proofs.Common.{◌≡◌, ◌≢◌, ℕ, Bool, true, false, List, [], ◌∷◌, Option, Some, None, option_map, unwrap_or, refl, sym, ap, ◌∙◌, if◌then◌else◌}
use Rattle.std.proofs.lemmas.Bool.{ne_eqb}
use Rattle.scmi_codec.specs.Payload.{begins_with_success}
use Rattle.scmi_codec.specs.declared.message.Message.{Message}
use Rattle.scmi_codec.specs.declared.frame.Frame.{Frame}
use Rattle.scmi_codec.specs.declared.frame.Frame.TheVariants.{Good, Malformed}
use Rattle.scmi_codec.specs.declared.frame.Answer.{Answer}
use Rattle.scmi_codec.specs.declared.frame.Answer.TheVariants.{ChannelError, Released, Reply}
use Rattle.scmi_plan.specs.Board.{Board}
use Rattle.scmi_plan.specs.declared.effect.Effect.{Effect}
use Rattle.scmi_core.specs.declared.event.Event.{Event}
use Rattle.scmi_core.specs.declared.event.Event.TheVariants.{Command}
use Rattle.scmi_core.specs.Deed.{success_of}
use Rattle.scmi_core.specs.Effect.{effect_after, effect_in, effect_of, effect_read}
use Rattle.scmi_core.specs.History.{answer_to, deeds}
use Rattle.scmi_core.specs.Outbox.{failed_words, message_with, situation_after}
use Rattle.scmi_core.specs.ReadCommand.{command_on}
use Rattle.scmi_core.specs.Reply.{failed_answer, fits_channel, reply_words}
use Rattle.scmi_core.specs.Value.{change_of}
use Rattle.scmi_codec.specs.declared.fault.Fault.{Fault}
use Rattle.scmi_codec.specs.declared.fault.Fault.TheVariants as fault
use Rattle.scmi_core.proofs.Commits.{answer-fits, changed-by, effect-fits}
use Rattle.scmi_judge.specs.Shown.{fault_in_words, fault_shown, has_succeeded}

-- what is there
some-of : {A : Type 0} (o : Option A) → o ≢ None → (x : A) × (o ≡ Some x)
some-of None some = absurd (some refl)
some-of (Some x) some = (x, refl)

-- the effect of a message after a history is that by its agent's situation
effect-given : (board : Board) (h : List Event) (a : ℕ) (m : Message) (e : Effect)
    → effect_after board h (Command a (Good m)) ≡ Some e
    → effect_in board a (Good m) (situation_after board a (deeds board h)) ≡ Some e
effect-given board h a m e has = by (fits_channel board a m) has where
  by : (short : Bool)
      → option_map effect_of (change_of board
      (success_of a m.header (command_on board m) (if short then reply_words board a
      (situation_after board a (deeds board h)) (command_on board m) else [])) None) ≡ Some e
      → (if short then effect_read board a m (situation_after board a (deeds board h)) else None)
      ≡ Some e
  by true has = has
  by false has = has

-- SUCCESS alone, to a message that is to change the hardware
message-succeeds : (board : Board) (h : List Event) (a : ℕ) (m : Message) (e : Effect)
    → effect_after board h (Command a (Good m)) ≡ Some e
    → answer_to board a (Good m) h ≡ Reply (message_with m.header (0 ∷ []))
message-succeeds board h a m e has =
    let s = situation_after board a (deeds board h) in
    let fit = effect-fits board a m s e (effect-given board h a m e has) in
    answer-fits board a m s fit.0 ∙ ap (λ words. Reply (message_with m.header words))
    (changed-by board a m s e (effect-given board h a m e has)).reply

-- a command that is to change the hardware succeeds
change-succeeds : (board : Board) (h : List Event) (a : ℕ) (f : Frame)
    → effect_after board h (Command a f) ≢ None → has_succeeded (answer_to board a f h) ≡ true
change-succeeds board h a (Good m) some =
    let one = some-of (effect_after board h (Command a (Good m))) some in
    ap has_succeeded (message-succeeds board h a m one.0 one.1)
change-succeeds board h a (Malformed len header) some = absurd (some refl)

-- a payload of the status of a fault alone shows that fault
words-show : (x : Fault) → fault_in_words (failed_words x) ≡ Some x
words-show fault.NotSupported = refl
words-show fault.InvalidParameters = refl
words-show fault.Denied = refl
words-show fault.OutOfRange = refl
words-show fault.Busy = refl
words-show fault.GenericError = refl
words-show fault.HardwareError = refl

-- and the answer to a command whose change the hardware refused shows with which fault
pub failure-shows : (board : Board) (h : List Event) (a : ℕ) (f : Frame) (x : Answer) (y : Fault)
    → effect_after board h (Command a f) ≢ None → x ≡ failed_answer f y
    → fault_shown x ≡ Some y
failure-shows board h a (Good m) x y some is = ap fault_shown is ∙ words-show y
failure-shows board h a (Malformed len header) x y some is = absurd (some refl)

-- so it is no other
pub sole-fault : (board : Board) (h : List Event) (a : ℕ) (f : Frame) (x : Answer) (y other : Fault)
    → effect_after board h (Command a f) ≢ None → fault_shown x ≡ Some y
    → x ≡ failed_answer f other → other ≡ y
sole-fault board h a f x y other some shows is =
    ap (λ o. unwrap_or o other) (sym (failure-shows board h a f x other some is) ∙ shows)

-- a word that is 0 shows no fault
zero-shows : (word : ℕ) (y : Fault) → word ≡ 0 → fault_in_words (word ∷ []) ≢ Some y
zero-shows word y zero shows =
    absurd (let no : None ≡ Some y = ap (λ w. fault_in_words (w ∷ [])) (sym zero) ∙ shows in cc)

-- an answer that shows a fault is no success
fault-fails : (x : Answer) (y : Fault) → fault_shown x ≡ Some y → has_succeeded x ≡ false
fault-fails (Reply m) y shows = by m.payload.items shows where
  by : (words : List ℕ) → fault_in_words words ≡ Some y → begins_with_success words ≡ false
  by [] shows = refl
  by (word ∷ []) shows = ne_eqb word 0 (λ zero. zero-shows word y zero shows)
  by (word ∷ next ∷ words) shows = absurd (let no : None ≡ Some y = shows in cc)
fault-fails Released y shows = refl
fault-fails ChannelError y shows = refl

-- an answer that shows a fault is not the one to a command that changed the hardware
pub failed-not-done : (board : Board) (h : List Event) (a : ℕ) (f : Frame) (x : Answer) (y : Fault)
    → effect_after board h (Command a f) ≢ None → fault_shown x ≡ Some y
    → x ≢ answer_to board a f h
failed-not-done board h a f x y some shows is =
    let done = change-succeeds board h a f some in
    absurd (let no : false ≡ true = sym (fault-fails x y shows) ∙ ap has_succeeded is ∙ done in cc)
