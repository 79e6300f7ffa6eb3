-- What each agent did, got and was posted in a history that is behind entries.
use Rattle.std.proofs.Common.{◌≡◌, ◌≢◌, ◌⊎◌, inl, inr, ◌==◌, ℕ, suc, arith, Bool, true, false, List, [], ◌∷◌, ◌++◌, reverse, slice_get, Option, Some, None, refl, sym, ap, ◌∙◌, subst, if◌then◌else◌}
use Rattle.std.specs.List.{All, filter_map, cons_option}
use Rattle.std.specs.Option.{option_to_list}
use Rattle.std.proofs.lemmas.List.{append-nil, reverse-append}
use Rattle.std.proofs.lemmas.List.Elements.{All-cons, All-head, All-nil, All-push, filter_map-append}
use Rattle.std.proofs.lemmas.Bool.{eq-eqb, ne_eqb}
use Rattle.scmi_plan.specs.Board.{Board}
use Rattle.scmi_plan.specs.declared.report.Report.{Report}
use Rattle.scmi_plan.specs.declared.report.Report.TheVariants as reports
use Rattle.scmi_plan.specs.declared.report.Report.TheVariants.{Changed, First}
use Rattle.scmi_codec.specs.declared.message.Message.{Message}
use Rattle.scmi_codec.specs.declared.frame.Frame.{Frame}
use Rattle.scmi_codec.specs.declared.frame.Answer.{Answer}
use Rattle.scmi_core.specs.declared.event.Event.{Event}
use Rattle.scmi_core.specs.declared.event.Event.TheVariants.{Command, Advance, Sent, CommandFailed, AdvanceFailed, Restarted, Promoted, Reported, Settled}
use Rattle.scmi_core.specs.Agents.{answer_for, answers_to, frame_from, frames_of}
use Rattle.scmi_core.specs.History.{delivered_messages, outbox}
use Rattle.scmi_core.specs.Legal.{IsLegal, told}
use Rattle.scmi_core.specs.Plain.{IsNoRestart}
use Rattle.scmi_core.proofs.Deeds.{fold_with_prefix-push}
use Rattle.scmi_core.proofs.Laws.{IsQuiet, advance, advance_failed, promoted, reported, restarted, sent_to, settled, answers_empty, answers_quiet, delivered_empty, delivered_kept, delivered_other, delivered_sent, frames_empty, frames_quiet}
use Rattle.scmi_core.proofs.Legal.{IsLegal-front, IsLegal-last}
use Rattle.scmi_judge.specs.Behind.{Behind, Fits, HasAtMostOne, IsAnswered, IsAtOnce, IsEvent, IsUnseen, IsUnseenEvent, taken_by}
use Rattle.scmi_judge.specs.Moves.{Move, history, outstanding, outstanding_at, told_event}
use Rattle.scmi_judge.specs.Shown.{answer_shown, frame_shown, message_shown, told_shown}
use Rattle.scmi_judge.specs.declared.entry.Entry.{Entry}
use Rattle.scmi_judge.specs.declared.entry.Entry.TheVariants.{Answered, Asked, Delivered, GivenUp, Replied, Told}
use Rattle.scmi_judge.specs.declared.unseen.Unseen.{Unseen}
use Rattle.scmi_judge.proofs.Different.{first-of}
use Rattle.scmi_judge.proofs.Among.{legal-before, legal-front}
use Rattle.scmi_judge.proofs.Guessing.{decide, told-unsent}

-- what one more entry shows
shown-more : {X : Type 0} (shows : Entry → Option X) (entry : Entry) (entries : List Entry)
    → filter_map shows (reverse (entry ∷ entries))
    ≡ filter_map shows (reverse entries) ++ cons_option (shows entry) []
shown-more shows entry entries = ap (filter_map shows) (reverse-append (entry ∷ []) entries)
    ∙ filter_map-append shows (reverse entries) (entry ∷ [])

-- one that shows nothing, as a message that was taken shows no frame, adds none
nothing-shown : {X : Type 0} (shows : Entry → Option X) (entry : Entry) (entries : List Entry)
    → shows entry ≡ None
    → filter_map shows (reverse entries) ≡ filter_map shows (reverse (entry ∷ entries))
nothing-shown shows entry entries none =
    sym (shown-more shows entry entries
    ∙ ap (λ o. filter_map shows (reverse entries) ++ cons_option o []) none
    ∙ append-nil (filter_map shows (reverse entries)))

-- an unseen event is no command
quiet : (may : Unseen) (board : Board) (entries : List Entry) (h : List Event) (e : Event)
    → IsUnseenEvent may board entries h e → IsQuiet e
quiet may board entries h Advance is = advance
quiet may board entries h (AdvanceFailed fault) is = advance_failed fault
quiet may board entries h (Sent a) is = sent_to a
quiet may board entries h (Command a f) is = absurd is
quiet may board entries h (CommandFailed a f fault) is = absurd is
quiet may board entries h (Restarted a) is = restarted a
quiet may board entries h (Promoted place) is = absurd is
quiet may board entries h (Reported effect) is = absurd is
quiet may board entries h (Settled clock rate) is = absurd is

-- nor is what the hardware told
quiet-told : (report : Report) → IsQuiet (told report)
quiet-told (Changed effect) = reported effect
quiet-told (First place) = promoted place
quiet-told (reports.Settled clock rate) = settled clock rate

frames-more : (a : ℕ) (h : List Event) (e : Event)
    → frames_of a (h ++ e ∷ []) ≡ frames_of a h ++ cons_option (frame_from a e) []
unfolding frames_of
frames-more a h e = filter_map-append (frame_from a) h (e ∷ [])

answers-more : (board : Board) (a : ℕ) (h : List Event) (e : Event)
    → answers_to board a (h ++ e ∷ []) ≡ answers_to board a h ++ answer_for board a h e
unfolding answers_to
answers-more board a h e = fold_with_prefix-push
    (λ before so_far event. so_far ++ answer_for board a before event) [] [] h e

one-if : {X : Type 0} (c : Bool) (x : X)
    → (if c then x ∷ [] else []) ≡ cons_option (if c then Some x else None) []
one-if true x = refl
one-if false x = refl

-- the entries before the last are not of commands that are answered later if none is
rest-at-once : (entry : Entry) (entries : List Entry) → All IsAtOnce (entry ∷ entries)
    → All IsAtOnce entries
rest-at-once entry entries all k d less = all (suc k) d (omega (arith, less))

module _ (may : Unseen) (board : Board) where
  -- then no command is outstanding
  pub none-outstanding : {entries : List Entry} {h : List Move} → Behind may board entries h
      → All IsAtOnce entries → (k : ℕ) → outstanding_at k h ≡ None
  none-outstanding Behind.nothing all k = refl
  none-outstanding (Behind.unseen {entries} {moves = h} behind (Move.happens e) is) all k =
      none-outstanding behind all k
  none-outstanding (Behind.unseen {entries} {moves = h} behind (Move.executes j e x) is) all k =
      absurd (let no : None ≡ Some (outstanding is.0 is.1 None) =
      sym (none-outstanding behind all j) ∙ is.2 in cc)
  none-outstanding (Behind.unseen {entries} {moves = h} behind (Move.asks j a f) is) all k =
      absurd is
  none-outstanding (Behind.unseen {entries} {moves = h} behind (Move.frees j) is) all k = absurd is
  none-outstanding (Behind.shown {entries} {moves = h} behind (Answered b f x) after fits) all k =
      ap (outstanding_at k) fits.1
      ∙ none-outstanding behind (rest-at-once (Answered b f x) entries all) k
  none-outstanding (Behind.shown {entries} {moves = h} behind (Delivered b m) after fits) all k =
      ap (outstanding_at k) fits.1
      ∙ none-outstanding behind (rest-at-once (Delivered b m) entries all) k
  none-outstanding (Behind.shown {entries} {moves = h} behind (Asked j b f) after fits) all k =
      absurd (All-head IsAtOnce (Asked j b f) entries all)
  none-outstanding (Behind.shown {entries} {moves = h} behind (Replied j b f x) after fits) all k =
      absurd (All-head IsAtOnce (Replied j b f x) entries all)
  none-outstanding (Behind.shown {entries} {moves = h} behind (GivenUp j) after fits) all k =
      absurd (All-head IsAtOnce (GivenUp j) entries all)
  none-outstanding (Behind.shown {entries} {moves = h} behind (Told report) after fits) all k =
      ap (outstanding_at k) fits
      ∙ none-outstanding behind (rest-at-once (Told report) entries all) k

  -- so none is executed that an entry does not show
  none-executes : {entries : List Entry} {h : List Move} → Behind may board entries h
      → All IsAtOnce entries → (k : ℕ) (e : Event) (x : Answer)
      → IsUnseen may board entries h (Move.executes k e x) → ⊥
  none-executes behind all k e x is =
      absurd (let no : None ≡ Some (outstanding is.0 is.1 None) =
      sym (none-outstanding behind all k) ∙ is.2 in cc)

  -- and each move is an event
  pub events-alone : {entries : List Entry} {h : List Move} → Behind may board entries h
      → All IsAtOnce entries → All IsEvent h
  events-alone Behind.nothing all = All-nil IsEvent
  events-alone (Behind.unseen {entries} {moves = h} behind (Move.happens e) is) all =
      All-cons IsEvent (Move.happens e) h tt (events-alone behind all)
  events-alone (Behind.unseen {entries} {moves = h} behind (Move.executes j e x) is) all =
      absurd (none-executes behind all j e x is)
  events-alone (Behind.unseen {entries} {moves = h} behind (Move.asks j a f) is) all = absurd is
  events-alone (Behind.unseen {entries} {moves = h} behind (Move.frees j) is) all = absurd is
  events-alone (Behind.shown {entries} {moves = h} behind (Answered b f x) after fits) all =
      subst (All IsEvent) (sym fits.1)
      (All-cons IsEvent (Move.happens fits.0) h tt
      (events-alone behind (rest-at-once (Answered b f x) entries all)))
  events-alone (Behind.shown {entries} {moves = h} behind (Delivered b m) after fits) all =
      subst (All IsEvent) (sym fits.1)
      (events-alone behind (rest-at-once (Delivered b m) entries all))
  events-alone (Behind.shown {entries} {moves = h} behind (Asked j b f) after fits) all =
      absurd (All-head IsAtOnce (Asked j b f) entries all)
  events-alone (Behind.shown {entries} {moves = h} behind (Replied j b f x) after fits) all =
      absurd (All-head IsAtOnce (Replied j b f x) entries all)
  events-alone (Behind.shown {entries} {moves = h} behind (GivenUp j) after fits) all =
      absurd (All-head IsAtOnce (GivenUp j) entries all)
  events-alone (Behind.shown {entries} {moves = h} behind (Told report) after fits) all =
      subst (All IsEvent) (sym fits)
      (All-cons IsEvent (Move.happens (told report)) h tt
      (events-alone behind (rest-at-once (Told report) entries all)))

  -- an answered command, done or failed, adds its frame and its answer
  frames-answered : (entries : List Entry) (h after : List Move) (b : ℕ) (f : Frame) (x : Answer)
      → Fits may board entries h (Answered b f x) after → (a : ℕ)
      → frames_of a (history h) ≡ filter_map (frame_shown a) (reverse entries)
      → frames_of a (history after)
      ≡ filter_map (frame_shown a) (reverse (Answered b f x ∷ entries))
  frames-answered entries h after b f x fits a before = by fits.2 where
    more : (e : Event) → frame_from a e ≡ frame_shown a (Answered b f x) → fits.0 ≡ e
        → frames_of a (history after)
        ≡ filter_map (frame_shown a) (reverse (Answered b f x ∷ entries))
    more e same is =
        ap (λ ms. frames_of a (history ms)) (fits.1 ∙ ap (λ y. Move.happens y ∷ h) is)
        ∙ frames-more a (history h) e ∙ ap (λ o. frames_of a (history h) ++ cons_option o []) same
        ∙ ap (λ fs. fs ++ cons_option (frame_shown a (Answered b f x)) []) before
        ∙ sym (shown-more (frame_shown a) (Answered b f x) entries)

    by : IsAnswered board (history h) b f fits.0 x
        → frames_of a (history after)
        ≡ filter_map (frame_shown a) (reverse (Answered b f x ∷ entries))
    by (inl done) = more (Command b f) refl done.0
    by (inr failed) = more (CommandFailed b f failed.0) refl failed.1

  answers-answered : (entries : List Entry) (h after : List Move) (b : ℕ) (f : Frame) (x : Answer)
      → Fits may board entries h (Answered b f x) after → (a : ℕ)
      → answers_to board a (history h) ≡ filter_map (answer_shown a) (reverse entries)
      → answers_to board a (history after)
      ≡ filter_map (answer_shown a) (reverse (Answered b f x ∷ entries))
  answers-answered entries h after b f x fits a before = by fits.2 where
    more : (e : Event) → answer_for board a (history h) e
        ≡ cons_option (answer_shown a (Answered b f x)) [] → fits.0 ≡ e
        → answers_to board a (history after)
        ≡ filter_map (answer_shown a) (reverse (Answered b f x ∷ entries))
    more e same is =
        ap (λ ms. answers_to board a (history ms)) (fits.1 ∙ ap (λ y. Move.happens y ∷ h) is)
        ∙ answers-more board a (history h) e ∙ ap (λ xs. answers_to board a (history h) ++ xs) same
        ∙ ap (λ xs. xs ++ cons_option (answer_shown a (Answered b f x)) []) before
        ∙ sym (shown-more (answer_shown a) (Answered b f x) entries)

    by : IsAnswered board (history h) b f fits.0 x
        → answers_to board a (history after)
        ≡ filter_map (answer_shown a) (reverse (Answered b f x ∷ entries))
    by (inl done) = more (Command b f)
        (ap (λ y. if a == b then y ∷ [] else []) (sym done.1) ∙ one-if (a == b) x) done.0
    by (inr failed) = more (CommandFailed b f failed.0)
        (ap (λ y. if a == b then y ∷ [] else []) (sym failed.2) ∙ one-if (a == b) x) failed.1

  pub frames-shown : {entries : List Entry} {h : List Move} → Behind may board entries h
      → All IsAtOnce entries → (a : ℕ)
      → frames_of a (history h) ≡ filter_map (frame_shown a) (reverse entries)
  frames-shown Behind.nothing all a = frames_empty a
  frames-shown (Behind.unseen {entries} {moves = h} behind (Move.happens e) is) all a =
      frames_quiet a (history h) e (quiet may board entries (history h) e is)
      ∙ frames-shown behind all a
  frames-shown (Behind.unseen {entries} {moves = h} behind (Move.executes j e x) is) all a =
      absurd (none-executes behind all j e x is)
  frames-shown (Behind.unseen {entries} {moves = h} behind (Move.asks j b f) is) all a = absurd is
  frames-shown (Behind.unseen {entries} {moves = h} behind (Move.frees j) is) all a = absurd is
  frames-shown (Behind.shown {entries} {moves = h} behind (Answered b f x) after fits) all a =
      frames-answered entries h after b f x fits a
      (frames-shown behind (rest-at-once (Answered b f x) entries all) a)
  frames-shown (Behind.shown {entries} {moves = h} behind (Delivered b m) after fits) all a =
      ap (λ ms. frames_of a (history ms)) fits.1
      ∙ frames-shown behind (rest-at-once (Delivered b m) entries all) a
      ∙ nothing-shown (frame_shown a) (Delivered b m) entries refl
  frames-shown (Behind.shown {entries} {moves = h} behind (Asked j b f) after fits) all a =
      absurd (All-head IsAtOnce (Asked j b f) entries all)
  frames-shown (Behind.shown {entries} {moves = h} behind (Replied j b f x) after fits) all a =
      absurd (All-head IsAtOnce (Replied j b f x) entries all)
  frames-shown (Behind.shown {entries} {moves = h} behind (GivenUp j) after fits) all a =
      absurd (All-head IsAtOnce (GivenUp j) entries all)
  frames-shown (Behind.shown {entries} {moves = h} behind (Told report) after fits) all a =
      ap (λ ms. frames_of a (history ms)) fits
      ∙ frames_quiet a (history h) (told report) (quiet-told report)
      ∙ frames-shown behind (rest-at-once (Told report) entries all) a
      ∙ nothing-shown (frame_shown a) (Told report) entries refl

  pub answers-shown : {entries : List Entry} {h : List Move} → Behind may board entries h
      → All IsAtOnce entries → (a : ℕ)
      → answers_to board a (history h) ≡ filter_map (answer_shown a) (reverse entries)
  answers-shown Behind.nothing all a = answers_empty board a
  answers-shown (Behind.unseen {entries} {moves = h} behind (Move.happens e) is) all a =
      answers_quiet board a (history h) e (quiet may board entries (history h) e is)
      ∙ answers-shown behind all a
  answers-shown (Behind.unseen {entries} {moves = h} behind (Move.executes j e x) is) all a =
      absurd (none-executes behind all j e x is)
  answers-shown (Behind.unseen {entries} {moves = h} behind (Move.asks j b f) is) all a = absurd is
  answers-shown (Behind.unseen {entries} {moves = h} behind (Move.frees j) is) all a = absurd is
  answers-shown (Behind.shown {entries} {moves = h} behind (Answered b f x) after fits) all a =
      answers-answered entries h after b f x fits a
      (answers-shown behind (rest-at-once (Answered b f x) entries all) a)
  answers-shown (Behind.shown {entries} {moves = h} behind (Delivered b m) after fits) all a =
      ap (λ ms. answers_to board a (history ms)) fits.1
      ∙ answers-shown behind (rest-at-once (Delivered b m) entries all) a
      ∙ nothing-shown (answer_shown a) (Delivered b m) entries refl
  answers-shown (Behind.shown {entries} {moves = h} behind (Asked j b f) after fits) all a =
      absurd (All-head IsAtOnce (Asked j b f) entries all)
  answers-shown (Behind.shown {entries} {moves = h} behind (Replied j b f x) after fits) all a =
      absurd (All-head IsAtOnce (Replied j b f x) entries all)
  answers-shown (Behind.shown {entries} {moves = h} behind (GivenUp j) after fits) all a =
      absurd (All-head IsAtOnce (GivenUp j) entries all)
  answers-shown (Behind.shown {entries} {moves = h} behind (Told report) after fits) all a =
      ap (λ ms. answers_to board a (history ms)) fits
      ∙ answers_quiet board a (history h) (told report) (quiet-told report)
      ∙ answers-shown behind (rest-at-once (Told report) entries all) a
      ∙ nothing-shown (answer_shown a) (Told report) entries refl

  -- what is not posted to an agent, and no message that it takes, changes nothing
  same-posted : (entries : List Entry) (h k : List Move) (entry : Entry) (a : ℕ)
      → delivered_messages board a (history k) ≡ delivered_messages board a (history h)
      → message_shown a entry ≡ None
      → HasAtMostOne board entries (history h) a
      → HasAtMostOne board (entry ∷ entries) (history k) a
  same-posted entries h k entry a kept none one = (
    one.0,
    kept ∙ one.1 ∙ ap (λ ms. ms ++ option_to_list one.0) (sym (ap
        (λ o. taken_by a entries ++ option_to_list o) none ∙ append-nil (taken_by a entries))),
  )

  posted-more : (entries : List Entry) (h : List Event) (e : Event) → IsLegal board (h ++ e ∷ [])
      → IsUnseenEvent may board entries h e → (a : ℕ) → HasAtMostOne board entries h a
      → HasAtMostOne board entries (h ++ e ∷ []) a
  posted-more entries h Advance legal is a one =
      (one.0, delivered_kept board a h Advance (IsLegal-front board h Advance legal) refl ∙ one.1)
  posted-more entries h (AdvanceFailed fault) legal is a one = (
    one.0,
    delivered_kept board a h
        (AdvanceFailed fault) (IsLegal-front board h (AdvanceFailed fault) legal) refl ∙ one.1,
  )
  posted-more entries h (Sent b) legal empty a one = by (decide a b) where
    first : (m : Message) × (slice_get (outbox board b h) 0 ≡ Some m)
    first = first-of (outbox board b h) (IsLegal-last board h (Sent b) legal).2

    by : (a ≡ b) ⊎ (a ≢ b) → HasAtMostOne board entries (h ++ Sent b ∷ []) a
    by (inl own) =
        subst (HasAtMostOne board entries (h ++ Sent b ∷ [])) (sym own) (
          Some first.0,
          delivered_sent board b h first.0 first.1
              ∙ ap (λ ms. ms ++ first.0 ∷ []) empty,
        )
    by (inr other) =
        (one.0, delivered_other board a b h (IsLegal-front board h (Sent b) legal) other ∙ one.1)
  posted-more entries h (Command b f) legal is a one = absurd is
  posted-more entries h (CommandFailed b f fault) legal is a one = absurd is
  posted-more entries h (Restarted b) legal is a one = (
    one.0,
    delivered_kept board a h (Restarted b) (IsLegal-front board h (Restarted b) legal) refl ∙ one.1,
  )
  posted-more entries h (Promoted place) legal is a one = absurd is
  posted-more entries h (Reported effect) legal is a one = absurd is
  posted-more entries h (Settled clock rate) legal is a one = absurd is

  -- a command that is executed posts nothing
  delivered-answered : (h : List Event) (b : ℕ) (f : Frame) (e : Event) (x : Answer)
      → IsLegal board h → IsAnswered board h b f e x → (a : ℕ)
      → delivered_messages board a (h ++ e ∷ []) ≡ delivered_messages board a h
  delivered-answered h b f e x legal (inl done) a =
      ap (λ y. delivered_messages board a (h ++ y ∷ [])) done.0
      ∙ delivered_kept board a h (Command b f) legal refl
  delivered-answered h b f e x legal (inr failed) a =
      ap (λ y. delivered_messages board a (h ++ y ∷ [])) failed.1
      ∙ delivered_kept board a h (CommandFailed b f failed.0) legal refl

  posted-answered : (entries : List Entry) (h after : List Move) (b : ℕ) (f : Frame) (x : Answer)
      → Fits may board entries h (Answered b f x) after → IsLegal board (history h) → (a : ℕ)
      → HasAtMostOne board entries (history h) a
      → HasAtMostOne board (Answered b f x ∷ entries) (history after) a
  posted-answered entries h after b f x fits legal a one =
      same-posted entries h after (Answered b f x) a
      (ap (λ ms. delivered_messages board a (history ms)) fits.1
      ∙ delivered-answered (history h) b f fits.0 x legal fits.2 a) refl one

  posted-taken : (entries : List Entry) (h after : List Move) (b : ℕ) (m : Message)
      → Fits may board entries h (Delivered b m) after → (a : ℕ)
      → HasAtMostOne board entries (history h) a
      → HasAtMostOne board (Delivered b m ∷ entries) (history after) a
  posted-taken entries h after b m fits a one = by (decide a b) where
    nothing : after ≡ h
    nothing = fits.1

    by : (a ≡ b) ⊎ (a ≢ b) → HasAtMostOne board (Delivered b m ∷ entries) (history after) a
    by (inl own) =
        subst (HasAtMostOne board (Delivered b m ∷ entries) (history after)) (sym own) (
          None,
          ap (λ ms. delivered_messages board b (history ms)) nothing ∙ fits.2
              ∙ sym (append-nil (taken_by b entries
              ++ option_to_list (if b == b then Some m else None)) ∙ ap (λ c. taken_by b entries
              ++ option_to_list (if c then Some m else None)) (eq-eqb b b refl)),
        )
    by (inr other) =
        same-posted entries h after (Delivered b m) a
        (ap (λ ms. delivered_messages board a (history ms)) nothing)
        (ap (λ c. if c then Some m else None) (ne_eqb a b other)) one

  pub messages-shown : {entries : List Entry} {h : List Move} → Behind may board entries h
      → IsLegal board (history h) → (a : ℕ) → HasAtMostOne board entries (history h) a
  messages-shown Behind.nothing legal a = (None, delivered_empty board a)
  messages-shown (Behind.unseen {entries} {moves = h} behind (Move.happens e) is) legal a =
      posted-more entries (history h) e legal is a
      (messages-shown behind (legal-before board h (Move.happens e) legal) a)
  messages-shown (Behind.unseen {entries} {moves = h} behind (Move.executes k e x) is) legal a =
      let before = legal-before board h (Move.executes k e x) legal in
      let one = messages-shown behind before a in
      (one.0, delivered-answered (history h) is.0 is.1 e x before is.3 a ∙ one.1)
  messages-shown (Behind.unseen {entries} {moves = h} behind (Move.asks k b f) is) legal a =
      absurd is
  messages-shown (Behind.unseen {entries} {moves = h} behind (Move.frees k) is) legal a = absurd is
  messages-shown (Behind.shown {entries} {moves = h} behind (Answered b f x) after fits) legal a =
      let before = legal-front may board entries h after (Answered b f x) fits legal in
      posted-answered entries h after b f x fits before a (messages-shown behind before a)
  messages-shown (Behind.shown {entries} {moves = h} behind (Delivered b m) after fits) legal a =
      posted-taken entries h after b m fits a
      (messages-shown behind (legal-front may board entries h after (Delivered b m) fits legal) a)
  messages-shown (Behind.shown {entries} {moves = h} behind (Asked k b f) after fits) legal a =
      same-posted entries h after (Asked k b f) a
      (ap (λ ms. delivered_messages board a (history ms)) fits.1) refl
      (messages-shown behind (legal-front may board entries h after (Asked k b f) fits legal) a)
  messages-shown (Behind.shown {entries} {moves = h} behind (Replied k b f x) after fits) legal a =
      same-posted entries h after (Replied k b f x) a
      (ap (λ ms. delivered_messages board a (history ms)) fits.0) refl
      (messages-shown behind (legal-front may board entries h after (Replied k b f x) fits legal) a)
  messages-shown (Behind.shown {entries} {moves = h} behind (GivenUp k) after fits) legal a =
      same-posted entries h after (GivenUp k) a
      (ap (λ ms. delivered_messages board a (history ms)) fits) refl
      (messages-shown behind (legal-front may board entries h after (GivenUp k) fits legal) a)
  messages-shown (Behind.shown {entries} {moves = h} behind (Told report) after fits) legal a =
      let before = legal-front may board entries h after (Told report) fits legal in
      same-posted entries h after (Told report) a
      (ap (λ ms. delivered_messages board a (history ms)) fits
      ∙ delivered_kept board a (history h) (told report) before (told-unsent report a)) refl
      (messages-shown behind before a)

-- no agent restarts in it if none may
no-restart : (may : Unseen) (board : Board) (entries : List Entry) (h : List Event) (e : Event)
    → may.restarts ≡ false → IsUnseenEvent may board entries h e → IsNoRestart e
no-restart may board entries h Advance never is = tt
no-restart may board entries h (AdvanceFailed fault) never is = tt
no-restart may board entries h (Sent a) never is = tt
no-restart may board entries h (Command a f) never is = absurd is
no-restart may board entries h (CommandFailed a f fault) never is = absurd is
no-restart may board entries h (Restarted a) never is =
    absurd (let same : false ≡ true = sym never ∙ is in cc)
no-restart may board entries h (Promoted place) never is = absurd is
no-restart may board entries h (Reported effect) never is = absurd is
no-restart may board entries h (Settled clock rate) never is = absurd is

no-restart-told : (report : Report) → IsNoRestart (told report)
no-restart-told (Changed effect) = tt
no-restart-told (First place) = tt
no-restart-told (reports.Settled clock rate) = tt

no-restart-answered : (board : Board) (h : List Event) (b : ℕ) (f : Frame) (e : Event) (x : Answer)
    → IsAnswered board h b f e x → IsNoRestart e
no-restart-answered board h b f e x (inl done) = subst IsNoRestart (sym done.0) tt
no-restart-answered board h b f e x (inr failed) = subst IsNoRestart (sym failed.1) tt

pub no-restarts : (may : Unseen) (board : Board) → may.restarts ≡ false
    → {entries : List Entry} {h : List Move} → Behind may board entries h
    → All IsNoRestart (history h)
no-restarts may board never Behind.nothing = All-nil IsNoRestart
no-restarts may board never (Behind.unseen {entries} {moves = h} behind (Move.happens e) is) =
    All-push IsNoRestart (history h) e (no-restarts may board never behind)
    (no-restart may board entries (history h) e never is)
no-restarts may board never (Behind.unseen {entries} {moves = h} behind (Move.executes k e x) is) =
    All-push IsNoRestart (history h) e (no-restarts may board never behind)
    (no-restart-answered board (history h) is.0 is.1 e x is.3)
no-restarts may board never (Behind.unseen {entries} {moves = h} behind (Move.asks k b f) is) =
    absurd is
no-restarts may board never (Behind.unseen {entries} {moves = h} behind (Move.frees k) is) =
    absurd is
no-restarts may board never
    (Behind.shown {entries} {moves = h} behind (Answered b f x) after fits) =
    subst (λ ms. All IsNoRestart (history ms)) (sym fits.1)
    (All-push IsNoRestart (history h) fits.0 (no-restarts may board never behind)
    (no-restart-answered board (history h) b f fits.0 x fits.2))
no-restarts may board never (Behind.shown {entries} {moves = h} behind (Delivered b m) after fits) =
    subst (λ ms. All IsNoRestart (history ms)) (sym fits.1) (no-restarts may board never behind)
no-restarts may board never (Behind.shown {entries} {moves = h} behind (Asked k b f) after fits) =
    subst (λ ms. All IsNoRestart (history ms)) (sym fits.1) (no-restarts may board never behind)
no-restarts may board never
    (Behind.shown {entries} {moves = h} behind (Replied k b f x) after fits) =
    subst (λ ms. All IsNoRestart (history ms)) (sym fits.0) (no-restarts may board never behind)
no-restarts may board never (Behind.shown {entries} {moves = h} behind (GivenUp k) after fits) =
    subst (λ ms. All IsNoRestart (history ms)) (sym fits) (no-restarts may board never behind)
no-restarts may board never (Behind.shown {entries} {moves = h} behind (Told report) after fits) =
    subst (λ ms. All IsNoRestart (history ms)) (sym fits)
    (All-push IsNoRestart (history h) (told report) (no-restarts may board never behind)
    (no-restart-told report))

-- the hardware told nothing by an unseen event, and nothing by a command
told-more : (h : List Event) (e : Event) → filter_map told_event (h ++ e ∷ [])
    ≡ filter_map told_event h ++ cons_option (told_event e) []
told-more h e = filter_map-append told_event h (e ∷ [])

none-more : (h : List Event) (e : Event) → told_event e ≡ None
    → filter_map told_event (h ++ e ∷ []) ≡ filter_map told_event h
none-more h e none =
    told-more h e ∙ ap (λ o. filter_map told_event h ++ cons_option o []) none
    ∙ append-nil (filter_map told_event h)

untold : (may : Unseen) (board : Board) (entries : List Entry) (h : List Event) (e : Event)
    → IsUnseenEvent may board entries h e → told_event e ≡ None
untold may board entries h Advance is = refl
untold may board entries h (AdvanceFailed fault) is = refl
untold may board entries h (Sent a) is = refl
untold may board entries h (Command a f) is = absurd is
untold may board entries h (CommandFailed a f fault) is = absurd is
untold may board entries h (Restarted a) is = refl
untold may board entries h (Promoted place) is = absurd is
untold may board entries h (Reported effect) is = absurd is
untold may board entries h (Settled clock rate) is = absurd is

untold-answered : (board : Board) (h : List Event) (b : ℕ) (f : Frame) (e : Event) (x : Answer)
    → IsAnswered board h b f e x → told_event e ≡ None
untold-answered board h b f e x (inl done) = ap told_event done.0
untold-answered board h b f e x (inr failed) = ap told_event failed.1

told-itself : (report : Report) → told_event (told report) ≡ Some report
told-itself (Changed effect) = refl
told-itself (First place) = refl
told-itself (reports.Settled clock rate) = refl

pub told-shown : (may : Unseen) (board : Board) {entries : List Entry} {h : List Move}
    → Behind may board entries h
    → filter_map told_event (history h) ≡ filter_map told_shown (reverse entries)
told-shown may board Behind.nothing = refl
told-shown may board (Behind.unseen {entries} {moves = h} behind (Move.happens e) is) =
    none-more (history h) e (untold may board entries (history h) e is)
    ∙ told-shown may board behind
told-shown may board (Behind.unseen {entries} {moves = h} behind (Move.executes k e x) is) =
    none-more (history h) e (untold-answered board (history h) is.0 is.1 e x is.3)
    ∙ told-shown may board behind
told-shown may board (Behind.unseen {entries} {moves = h} behind (Move.asks k b f) is) = absurd is
told-shown may board (Behind.unseen {entries} {moves = h} behind (Move.frees k) is) = absurd is
told-shown may board (Behind.shown {entries} {moves = h} behind (Answered b f x) after fits) =
    ap (λ ms. filter_map told_event (history ms)) fits.1
    ∙ none-more (history h) fits.0 (untold-answered board (history h) b f fits.0 x fits.2)
    ∙ told-shown may board behind ∙ nothing-shown told_shown (Answered b f x) entries refl
told-shown may board (Behind.shown {entries} {moves = h} behind (Delivered b m) after fits) =
    ap (λ ms. filter_map told_event (history ms)) fits.1
    ∙ told-shown may board behind ∙ nothing-shown told_shown (Delivered b m) entries refl
told-shown may board (Behind.shown {entries} {moves = h} behind (Asked k b f) after fits) =
    ap (λ ms. filter_map told_event (history ms)) fits.1
    ∙ told-shown may board behind ∙ nothing-shown told_shown (Asked k b f) entries refl
told-shown may board (Behind.shown {entries} {moves = h} behind (Replied k b f x) after fits) =
    ap (λ ms. filter_map told_event (history ms)) fits.0
    ∙ told-shown may board behind ∙ nothing-shown told_shown (Replied k b f x) entries refl
told-shown may board (Behind.shown {entries} {moves = h} behind (GivenUp k) after fits) =
    ap (λ ms. filter_map told_event (history ms)) fits
    ∙ told-shown may board behind ∙ nothing-shown told_shown (GivenUp k) entries refl
told-shown may board (Behind.shown {entries} {moves = h} behind (Told report) after fits) =
    ap (λ ms. filter_map told_event (history ms)) fits
    ∙ told-more (history h) (told report)
    ∙ ap (λ o. filter_map told_event (history h) ++ cons_option o []) (told-itself report)
    ∙ ap (λ rs. rs ++ report ∷ []) (told-shown may board behind)
    ∙ sym (shown-more told_shown (Told report) entries)
