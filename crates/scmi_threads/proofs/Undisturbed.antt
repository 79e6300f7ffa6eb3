-- Nothing disturbs an agent of a run: the platform closes nothing, and a command that fits the
-- shortest channel is answered by a reply.
use Rattle.std.proofs.Common.{◌≡◌, ◌∙◌, ◌<◌, ◌≤◌, ℕ, zero, suc, ◌+◌, ◌%◌, ◌==◌, nat_le, Bool, true, false, List, [], ◌∷◌, ◌++◌, length, map, Option, Some, None, inl, inr, refl, sym, ap, subst, arith, append_assoc, if◌then◌else◌}
use Rattle.std.specs.List.{All, AllZip, filter_map, cons_option}
use Rattle.std.proofs.lemmas.Bool.{leb-false}
use Rattle.std.proofs.lemmas.List.{append-nil}
use Rattle.std.proofs.lemmas.List.Elements.{All-head, All-tail, All-cons, All-nil, All-push}
use Rattle.scmi_codec.specs.declared.frame.Frame.{Frame}
use Rattle.scmi_codec.specs.declared.frame.Frame.TheVariants.{Good, Malformed}
use Rattle.scmi_codec.specs.declared.frame.Answer.{Answer}
use Rattle.scmi_codec.specs.declared.frame.Answer.TheVariants.{Reply, ChannelError}
use Rattle.scmi_codec.specs.declared.message.Message.{Message}
use Rattle.scmi_codec.specs.declared.header.TheConstants.{TOKENS}
use Rattle.scmi_link.specs.View.{CallerView, CalleeView}
use Rattle.scmi_plan.specs.Board.{Board, channel_of}
use Rattle.scmi_plan.specs.Plan.{IsValid}
use Rattle.scmi_plan.specs.declared.agent_channel.TheConstants.{LEAST_CHANNEL_WORDS}
use Rattle.scmi_core.specs.declared.event.Event.{Event}
use Rattle.scmi_codec.specs.declared.fault.Fault.{Fault}
use Rattle.scmi_core.specs.declared.event.Event.TheVariants.{Command, Advance, Sent, CommandFailed, AdvanceFailed, Restarted, Promoted, Reported, Settled}
use Rattle.scmi_core.specs.Deed.{fold_with_prefix}
use Rattle.scmi_core.specs.History.{answer_to, scmi}
use Rattle.scmi_core.specs.Agents.{frame_from, frames_of, answer_for, answers_to}
use Rattle.scmi_core.specs.Reply.{failed_answer, fits_channel}
use Rattle.scmi_core.proofs.Room.{valid_channel}
use Rattle.scmi_ends.specs.AgentView.{AgentView}
use Rattle.scmi_ends.specs.Headline.{Headline, Headlines}
use Rattle.scmi_threads.specs.Logs.{IsLogOf}
use Rattle.scmi_threads.specs.Orders.{AreAnswersTo, IsAnswerTo, IsUndisturbed}
use Rattle.scmi_threads.specs.Tokens.{command_token, first_tokens}
use Rattle.scmi_threads.specs.declared.agent_log.AgentLog.{AgentLog}
use Rattle.scmi_threads.proofs.LogLemmas.{never_told}

abbrev IsGood : Frame → Type 0
IsGood (Good m) = Unit {0}
IsGood (Malformed length header) = ⊥

abbrev HasToken : Option ℕ → Type 0
HasToken (Some token) = Unit {0}
HasToken None = ⊥

all_have_tokens : (n : ℕ) → All HasToken (first_tokens n)
all_have_tokens zero = All-nil HasToken
all_have_tokens (suc n) =
    All-push HasToken (first_tokens n) (Some (n % TOKENS)) (all_have_tokens n) tt

is_good : (f : Frame) → HasToken (command_token f) → IsGood f
is_good (Good m) h = tt
is_good (Malformed length header) h = h

all_good : (fs : List Frame) → All HasToken (map command_token fs) → All IsGood fs
all_good [] h = All-nil IsGood
all_good (f ∷ fs) h =
    All-cons IsGood f fs (is_good f (All-head HasToken (command_token f) (map command_token fs) h))
    (all_good fs (All-tail HasToken (command_token f) (map command_token fs) h))

all_first : {X : Type 0} (P : X → Type 0) (xs ys : List X) → All P (xs ++ ys) → All P xs
all_first P [] ys h = All-nil P
all_first P (x ∷ xs) ys h =
    All-cons P x xs (All-head P x (xs ++ ys) h) (all_first P xs ys (All-tail P x (xs ++ ys) h))

-- one frame more, if there is one
abbrev with_frame : Option Frame → List Frame
with_frame None = []
with_frame (Some f) = f ∷ []

more_frames : (fs : List Frame) (o : Option Frame) (rest : List Frame)
    → fs ++ cons_option o rest ≡ (fs ++ with_frame o) ++ rest
more_frames fs None rest = ap (λ xs. xs ++ rest) (sym (append-nil fs))
more_frames fs (Some f) rest = sym (append_assoc fs (f ∷ []) rest)

both_longer : (fs gs : List Frame) (rs bs : List Answer) → AllZip IsAnswerTo fs rs
    → AllZip IsAnswerTo gs bs → AllZip IsAnswerTo (fs ++ gs) (rs ++ bs)
both_longer [] gs [] bs z y = y
both_longer [] gs (a ∷ rs) bs z y = absurd z
both_longer (f ∷ fs) gs [] bs z y = absurd z
both_longer (f ∷ fs) gs (a ∷ rs) bs z y = (z.0, both_longer fs gs rs bs z.1 y)

-- the answers that were read, of frames that may be followed by others
of_first : (fs gs : List Frame) (rs bs : List Answer) → AllZip IsAnswerTo fs (rs ++ bs)
    → AreAnswersTo (fs ++ gs) rs
of_first fs gs [] bs z = tt
of_first [] gs (a ∷ rs) bs z = absurd z
of_first (f ∷ fs) gs (a ∷ rs) bs z = (z.0, of_first fs gs rs bs z.1)

too_long : (n words least : ℕ) → nat_le n words ≡ false → least ≤ words → least < n
too_long n words least over fits = omega (arith, leb-false n words over, fits)

by_length : (n words : ℕ) (fits : Bool) (m : Message) (reply : Message)
    → fits ≡ nat_le n words → n ≡ length m.payload.items → LEAST_CHANNEL_WORDS ≤ words
    → IsAnswerTo (Good m) (if fits then Reply reply else ChannelError)
by_length n words true m reply e same least = tt
by_length n words false m reply e same least =
    subst (λ k. LEAST_CHANNEL_WORDS < k) same (too_long n words LEAST_CHANNEL_WORDS (sym e) least)

module _ (board : Board) (a : ℕ) (valid : IsValid board) where
  answered : (b : ℕ) (m : Message) (before : List Event)
      → IsAnswerTo (Good m) (answer_to board b (Good m) before)
  answered b m before = by_length (length m.payload.items) (channel_of board b).words
      (fits_channel board b m) m (scmi board b m before) refl refl (valid_channel board b valid).0

  by_own : (own : Bool) (b : ℕ) (f : Frame) (before : List Event) (rest : List Frame)
      → All IsGood (cons_option (if own then Some f else None) rest)
      → AllZip IsAnswerTo (with_frame (if own then Some f else None))
      (if own then answer_to board b f before ∷ [] else []) × All IsGood rest
  by_own true b (Good m) before rest h =
      ((answered b m before, tt), All-tail IsGood (Good m) rest h)
  by_own true b (Malformed length header) before rest h =
      absurd (All-head IsGood (Malformed length header) rest h)
  by_own false b f before rest h = (tt, h)

  by_failed : (own : Bool) (f : Frame) (fault : Fault) (rest : List Frame)
      → All IsGood (cons_option (if own then Some f else None) rest) → AllZip IsAnswerTo
      (with_frame (if own then Some f else None)) (if own then failed_answer f fault ∷ [] else [])
      × All IsGood rest
  by_failed true (Good m) fault rest h = ((tt, tt), All-tail IsGood (Good m) rest h)
  by_failed true (Malformed length header) fault rest h =
      absurd (All-head IsGood (Malformed length header) rest h)
  by_failed false f fault rest h = (tt, h)

  each : (before : List Event) (e : Event) (rest : List Frame)
      → All IsGood (cons_option (frame_from a e) rest) → AllZip IsAnswerTo
      (with_frame (frame_from a e)) (answer_for board a before e) × All IsGood rest
  each before (Command b f) rest h = by_own (a == b) b f before rest h
  each before (CommandFailed b f fault) rest h = by_failed (a == b) f fault rest h
  each before Advance rest h = (tt, h)
  each before (AdvanceFailed fault) rest h = (tt, h)
  each before (Sent b) rest h = (tt, h)
  each before (Restarted b) rest h = (tt, h)
  each before (Promoted place) rest h = (tt, h)
  each before (Settled clock rate) rest h = (tt, h)
  each before (Reported effect) rest h = (tt, h)

  from : (before : List Event) (frames : List Frame) (so_far : List Answer) (h : List Event)
      → AllZip IsAnswerTo frames so_far → All IsGood (filter_map (frame_from a) h)
      → AllZip IsAnswerTo (frames ++ filter_map (frame_from a) h)
      (fold_with_prefix (λ b xs e. xs ++ answer_for board a b e) before so_far h)
  unfolding fold_with_prefix
  from before frames so_far [] z good =
      subst (λ fs. AllZip IsAnswerTo fs so_far) (sym (append-nil frames)) z
  from before frames so_far (e ∷ h) z good =
      let rest = filter_map (frame_from a) h in
      let one = each before e rest good in
      let more = frames ++ with_frame (frame_from a e) in
      subst (λ fs. AllZip IsAnswerTo fs (fold_with_prefix (λ b xs e. xs ++ answer_for board a b e)
      (before ++ e ∷ []) (so_far ++ answer_for board a before e) h))
      (sym (more_frames frames (frame_from a e) rest))
      (from (before ++ e ∷ []) more (so_far ++ answer_for board a before e) h (both_longer frames
      (with_frame (frame_from a e)) so_far (answer_for board a before e) z one.0) one.1)

  all_answered : (h : List Event) → All IsGood (frames_of a h)
      → AllZip IsAnswerTo (frames_of a h) (answers_to board a h)
  unfolding frames_of answers_to
  all_answered h good = from [] [] [] h tt good

module _ (board : Board) (valid : IsValid board) where
  undisturbed : (h : List Event) (a : ℕ) (e : AgentView) (d : CalleeView) (c : CallerView)
      (log : AgentLog) → Headline board h a e d c → d.closed ≡ false → IsLogOf e log
      → IsUndisturbed e.caller
  undisturbed h a e d c log p o is =
      let posted : All IsGood e.caller.posted =
      subst (All IsGood) is.posted (all_good log.posted.items (subst (All HasToken)
      (sym log.tokens_are) (all_have_tokens (length log.posted.items)))) in
      let executed : All IsGood (frames_of a h) =
      elim (p.commands.executed) [
        | inl same ↦ subst (All IsGood) (sym same) posted
        | inr most ↦
            all_first IsGood (frames_of a h) (most.0 ∷ []) (subst (All IsGood) most.1 posted)
      ] in
      let answers : AllZip IsAnswerTo (frames_of a h) (e.caller.read ++ p.commands.replies.0) =
      subst (AllZip IsAnswerTo (frames_of a h)) (sym p.commands.replies.1)
      (all_answered board a valid h executed) in
      record {
        told = never_told e.caller.told d.closed p.commands.agent_told o;
        answers = elim (p.commands.executed) [
          | inl same ↦ subst (λ fs. AreAnswersTo fs e.caller.read) (append-nil (frames_of a h)
              ∙ same) (of_first (frames_of a h) [] e.caller.read p.commands.replies.0 answers)
          | inr most ↦ subst (λ fs. AreAnswersTo fs e.caller.read) (sym most.1)
              (of_first (frames_of a h) (most.0 ∷ []) e.caller.read p.commands.replies.0 answers)
        ];
      }

  pub all_undisturbed : (h : List Event) (a : ℕ) (es : List AgentView) (ds : List CalleeView)
      (cs : List CallerView) (logs : List AgentLog) → Headlines board h a es ds cs → All
      (λ d. d.closed ≡ false) ds → AllZip IsLogOf es logs → All (λ e. IsUndisturbed e.caller) es
  all_undisturbed h a [] ds cs logs p o z = All-nil (λ e. IsUndisturbed e.caller)
  all_undisturbed h a (e ∷ es) [] cs logs p o z = absurd p
  all_undisturbed h a (e ∷ es) (d ∷ ds) [] logs p o z = absurd p
  all_undisturbed h a (e ∷ es) (d ∷ ds) (c ∷ cs) [] p o z = absurd z
  all_undisturbed h a (e ∷ es) (d ∷ ds) (c ∷ cs) (log ∷ logs) p o z = All-cons (λ x. IsUndisturbed
      x.caller) e es (undisturbed h a e d c log p.0 (All-head (λ x. x.closed ≡ false) d ds o) z.0)
      (all_undisturbed h (a + 1) es ds cs logs p.1 (All-tail (λ x. x.closed ≡ false) d ds o) z.1)
