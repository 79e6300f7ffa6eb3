-- What an event, or an entry, leaves of a platform that may be behind a record.
use Rattle.std.proofs.Common.{◌≡◌, ◌≢◌, ◌⊎◌, inl, inr, ◌==◌, ℕ, zero, suc, ◌+◌, ◌-◌, ◌<◌, ◌≤◌, Bool, true, false, List, [], ◌∷◌, ◌++◌, length, slice_get, get_or, Option, Some, None, refl, sym, ap, ◌∙◌, subst, arith, if◌then◌else◌}
use Rattle.std.specs.Prelude.{set}
use Rattle.std.specs.Option.{option_to_list}
use Rattle.std.proofs.lemmas.List.{append-nil, ext_get_or, get_or-set_same, get_or-set_other}
use Rattle.std.proofs.lemmas.Bool.{eq-eqb, eqb-false, eqb-true, ne_eqb}
use Rattle.scmi_plan.specs.Agent.{IsAgent}
use Rattle.scmi_plan.specs.Board.{Board}
use Rattle.scmi_plan.specs.declared.report.Report.{Report}
use Rattle.scmi_plan.specs.declared.report.Report.TheVariants.{Changed, First, Settled}
use Rattle.scmi_codec.specs.declared.message.Message.{Message}
use Rattle.scmi_codec.specs.declared.frame.Frame.{Frame}
use Rattle.scmi_codec.specs.declared.frame.Answer.{Answer}
use Rattle.scmi_core.specs.declared.event.Event.{Event}
use Rattle.scmi_core.specs.declared.event.Event.TheVariants.{Command, Sent, CommandFailed}
use Rattle.scmi_core.specs.Effect.{effect_after}
use Rattle.scmi_codec.specs.declared.fault.Fault.{Fault}
use Rattle.scmi_core.specs.History.{answer_to, delivered_messages, outbox}
use Rattle.scmi_core.specs.Legal.{IsLegal, told}
use Rattle.scmi_core.specs.Outbox.{is_sent_by}
use Rattle.scmi_core.specs.Reply.{failed_answer}
use Rattle.scmi_core.specs.Standing.{MovesOn, Standing, StandsAfter}
use Rattle.scmi_core.proofs.Laws.{delivered_empty, delivered_kept, delivered_other, delivered_sent}
use Rattle.scmi_core.proofs.Legal.{IsLegal-last}
use Rattle.scmi_judge.specs.Behind.{Behind, Fits, IsAnswered, MayFail, IsUnseenEvent, taken_by}
use Rattle.scmi_judge.specs.Guess.{CanShow, Gives, GivesNot, GoesOn, IsGuess, posted_to}
use Rattle.scmi_judge.specs.Moves.{Move, history, outstanding_at}
use Rattle.scmi_judge.specs.Shown.{message_shown}
use Rattle.scmi_judge.specs.Unseen.{IsOf}
use Rattle.scmi_judge.specs.declared.entry.Entry.{Entry}
use Rattle.scmi_judge.specs.declared.guess.Guess.{Guess}
use Rattle.scmi_judge.specs.declared.outstanding.Outstanding.{Outstanding}
use Rattle.scmi_judge.specs.declared.unseen.Step.{Step}
use Rattle.scmi_judge.specs.declared.unseen.Step.TheVariants.{Post}
use Rattle.scmi_judge.specs.declared.unseen.Unseen.{Unseen}
use Rattle.scmi_judge.specs.declared.entry.Entry.TheVariants.{Answered, Delivered, Told}

-- a guess's history is legal
pub guess-legal : (may : Unseen) (board : Board) (g : Guess) (entries : List Entry)
    (moves : List Move) → IsGuess may board g entries moves → IsLegal board (history moves)
guess-legal may board g entries moves guess =
    subst (λ b. IsLegal b (history moves)) guess.of_board guess.stands.legal

-- and so is that of what it moves on to
pub moved-legal : (board : Board) (p new : Standing) (e : Event) (h : List Event) → p.board ≡ board
    → new.board ≡ p.board → MovesOn p e new → StandsAfter p h → IsLegal board (h ++ e ∷ [])
moved-legal board p new e h is same moves stands =
    subst (λ b. IsLegal b (h ++ e ∷ [])) (same ∙ is) (moves h stands).legal

-- a step of one event moves a guess on by that
pub goes-by-event : (may : Unseen) (g new : Guess) (step : Step) (e : Event)
    → ((move : Move) → IsOf step move → move ≡ Move.happens e)
    → ((board : Board) (entries : List Entry) (moves : List Move)
    → IsGuess may board g entries moves → IsGuess may board new entries (Move.happens e ∷ moves))
    → GoesOn may g step new
goes-by-event may g new step e only goes =
    record {
      some = λ board entries moves guess. (Move.happens e, goes board entries moves guess);
      each =
          λ board entries moves move is guess can. subst
          (λ m. IsGuess may board new entries (m ∷ moves)) (sym (only move is))
          (goes board entries moves guess);
    }

-- an event that posts nothing moves a guess on: the end of a set, or a restart
pub goes-unsent : (may : Unseen) (g new : Guess) (step : Step) (e : Event)
    → ((move : Move) → IsOf step move → move ≡ Move.happens e)
    → ((a : ℕ) → is_sent_by a e ≡ false)
    → ((h : List Event) (entries : List Entry) → StandsAfter g.platform h
    → IsUnseenEvent may g.platform.board entries h e) → MovesOn g.platform e new.platform
    → new.platform.board ≡ g.platform.board → new.posted ≡ g.posted
    → new.outstanding ≡ g.outstanding → GoesOn may g step new
goes-unsent may g new step e only unsent unseen goes same posted commands =
    goes-by-event may g new step e only by where
      by : (board : Board) (entries : List Entry) (moves : List Move)
          → IsGuess may board g entries moves
          → IsGuess may board new entries (Move.happens e ∷ moves)
      by board entries moves guess =
          record {
            of_board = same ∙ guess.of_board;
            behind =
                Behind.unseen guess.behind (Move.happens e)
                (subst (λ b. IsUnseenEvent may b entries (history moves) e) guess.of_board
                (unseen (history moves) entries guess.stands));
            stands = goes (history moves) guess.stands;
            channels = λ a agent.
                delivered_kept board a (history moves) e
                (guess-legal may board g entries moves guess)
                (unsent a) ∙ guess.channels a agent
                ∙ ap (λ ps. taken_by a entries ++ option_to_list (get_or ps (a - 1) None))
                (sym posted);
            commands = λ k. ap (λ cs. get_or cs k None) commands ∙ guess.commands k;
            places = ap length commands ∙ guess.places;
          }

-- what is in a channel
channel-of : (taken given : List Message) (posted : Option Message)
    → given ≡ taken ++ option_to_list posted → posted ≡ None → given ≡ taken
channel-of taken given posted is none = is ∙ ap (λ p. taken ++ option_to_list p) none
    ∙ append-nil taken

-- two agents have two places
other-place : (a b : ℕ) → 1 ≤ a → 1 ≤ b → b ≢ a → b - 1 ≢ a - 1
other-place a b some more differ same = differ (omega (arith, some, more, same))

pub decide : (b a : ℕ) → (b ≡ a) ⊎ (b ≢ a)
decide b a = by (b == a) refl where
  by : (is : Bool) → (b == a) ≡ is → (b ≡ a) ⊎ (b ≢ a)
  by true is = inl (eqb-true b a is)
  by false is = inr (eqb-false b a is)

-- a posting moves a guess on
pub goes-by-posting : (may : Unseen) (g new : Guess) (a : ℕ) (m : Message)
    → IsAgent (length g.platform.board.agents) a → a - 1 < length g.posted → posted_to g a ≡ None
    → ((h : List Event) → StandsAfter g.platform h
    → slice_get (outbox g.platform.board a h) 0 ≡ Some m)
    → MovesOn g.platform (Sent a) new.platform → new.platform.board ≡ g.platform.board
    → new.posted ≡ set g.posted (a - 1) (Some m)
    → new.outstanding ≡ g.outstanding → GoesOn may g (Post a) new
goes-by-posting may g new a m agent within empty first goes same posted commands =
    goes-by-event may g new (Post a) (Sent a) (λ move is. is) moved where
      moved : (board : Board) (entries : List Entry) (moves : List Move)
          → IsGuess may board g entries moves
          → IsGuess may board new entries (Move.happens (Sent a) ∷ moves)
      moved board entries moves guess =
          let here : IsAgent (length board.agents) a =
          subst (λ b. IsAgent (length b.agents) a) guess.of_board agent in
          let none =
          channel-of (taken_by a entries) (delivered_messages board a h) (posted_to g a)
          (guess.channels a here) empty in
          let front : slice_get (outbox board a h) 0 ≡ Some m =
          subst (λ b. slice_get (outbox b a h) 0 ≡ Some m) guess.of_board (first h guess.stands) in
          record {
            of_board = same ∙ guess.of_board;
            behind = Behind.unseen guess.behind (Move.happens (Sent a)) none;
            stands = goes h guess.stands;
            channels = λ b is. at none front b is (decide b a);
            commands = λ k. ap (λ cs. get_or cs k None) commands ∙ guess.commands k;
            places = ap length commands ∙ guess.places;
          } where
            h : List Event
            h = history moves

            at : delivered_messages board a h ≡ taken_by a entries
                → slice_get (outbox board a h) 0 ≡ Some m → (b : ℕ)
                → IsAgent (length board.agents) b
                → (b ≡ a) ⊎ (b ≢ a)
                → delivered_messages board b (h ++ Sent a ∷ []) ≡ taken_by b entries
                ++ option_to_list (posted_to new b)
            at none front b is (inl own) =
                subst (λ x. delivered_messages board x (h ++ Sent a ∷ []) ≡ taken_by x entries
                ++ option_to_list (posted_to new x)) (sym own)
                (delivered_sent board a h m front ∙ ap (λ ms. ms ++ m ∷ []) none
                ∙ ap (λ p. taken_by a entries ++ option_to_list p)
                (sym (ap (λ ps. get_or ps (a - 1) None) posted
                ∙ get_or-set_same g.posted (a - 1) (Some m) None within)))
            at none front b is (inr other) =
                delivered_other board b a h (guess-legal may board g entries moves guess) other
                ∙ guess.channels b is
                ∙ ap (λ p. taken_by b entries ++ option_to_list p)
                (sym (ap (λ ps. get_or ps (b - 1) None) posted
                ∙ get_or-set_other g.posted (a - 1) (b - 1) (Some m) None
                (other-place a b agent.0 is.0 other)))

-- an agent that takes what was posted to it
module _ (may : Unseen) (g new : Guess) (a : ℕ) (m : Message)
    (agent : IsAgent (length g.platform.board.agents) a) (within : a - 1 < length g.posted)
    (full : posted_to g a ≡ Some m)
    (same : new.platform ≡ g.platform) (posted : new.posted ≡ set g.posted (a - 1) None)
    (commands : new.outstanding ≡ g.outstanding) where
  taken-at : (board : Board) (entries : List Entry) (moves : List Move)
      → IsGuess may board g entries moves → (b : ℕ) → IsAgent (length board.agents) b
      → (b ≡ a) ⊎ (b ≢ a)
      → delivered_messages board b (history moves)
      ≡ (taken_by b entries ++ option_to_list (if b == a then Some m else None))
      ++ option_to_list (posted_to new b)
  taken-at board entries moves guess b is (inl own) =
      subst (λ x. delivered_messages board x (history moves)
      ≡ (taken_by x entries ++ option_to_list (if x == a then Some m else None))
      ++ option_to_list (posted_to new x)) (sym own)
      (guess.channels a (subst (λ b. IsAgent (length b.agents) a) guess.of_board agent)
      ∙ ap (λ p. taken_by a entries ++ option_to_list p) full
      ∙ sym (ap (λ p. (taken_by a entries ++ option_to_list (if a == a then Some m else None))
      ++ option_to_list p)
      (ap (λ ps. get_or ps (a - 1) None) posted ∙ get_or-set_same g.posted (a - 1) None None within)
      ∙ append-nil (taken_by a entries ++ option_to_list (if a == a then Some m else None))
      ∙ ap (λ c. taken_by a entries ++ option_to_list (if c then Some m else None))
      (eq-eqb a a refl)))
  taken-at board entries moves guess b is (inr other) =
      guess.channels b is
      ∙ ap (λ p. taken_by b entries ++ option_to_list p)
      (sym (ap (λ ps. get_or ps (b - 1) None) posted ∙ get_or-set_other g.posted (a - 1)
      (b - 1) None None (other-place a b agent.0 is.0 other)))
      ∙ ap (λ ms. ms ++ option_to_list (posted_to new b))
      (sym (ap (λ c. taken_by b entries ++ option_to_list (if c then Some m else None))
      (ne_eqb b a other) ∙ append-nil (taken_by b entries)))

  taken-each : (board : Board) (entries : List Entry) (moves after : List Move)
      → IsGuess may board g entries moves → CanShow may board entries moves (Delivered a m) after
      → IsGuess may board new (Delivered a m ∷ entries) after
  taken-each board entries moves after guess can =
      let nothing : after ≡ moves = can.fits.1 in
      record {
        of_board = ap (λ (p : Standing). p.board) same ∙ guess.of_board;
        behind = Behind.shown guess.behind (Delivered a m) after can.fits;
        stands =
            subst (λ p. StandsAfter p (history after)) (sym same)
            (subst (λ k. StandsAfter g.platform (history k)) (sym nothing) guess.stands);
        channels =
            λ b is. ap (λ k. delivered_messages board b (history k)) nothing
            ∙ taken-at board entries moves guess b is (decide b a);
        commands =
            λ k. ap (λ cs. get_or cs k None) commands ∙ guess.commands k
            ∙ ap (outstanding_at k) (sym nothing);
        places = ap length commands ∙ guess.places;
      }

  pub gives-message : Gives may g (Delivered a m) new
  gives-message =
      record {
        some = λ board entries moves guess. (
          moves,
          record {
            fits = (
              subst (λ b. IsAgent (length b.agents) a) guess.of_board agent,
              refl,
              guess.channels a (subst (λ b. IsAgent (length b.agents) a) guess.of_board agent)
                  ∙ ap (λ p. taken_by a entries ++ option_to_list p) full,
            );
            legal = guess-legal may board g entries moves guess;
          },
        );
        each = taken-each;
      }

-- a platform after an event that an entry shows, such as a command with its answer, executed or
-- refused by the hardware
module _ (may : Unseen) (g new : Guess) (entry : Entry) (e : Event) where
  shown-each : ((b : ℕ) → message_shown b entry ≡ None) → ((b : ℕ) → is_sent_by b e ≡ false)
      → MovesOn g.platform e new.platform → new.platform.board ≡ g.platform.board
      → new.posted ≡ g.posted → new.outstanding ≡ g.outstanding
      → (board : Board) (entries : List Entry) (moves after : List Move)
      → after ≡ Move.happens e ∷ moves → IsGuess may board g entries moves
      → Fits may board entries moves entry after → IsGuess may board new (entry ∷ entries) after
  shown-each silent unsent goes same posted commands board entries moves after are guess fits =
      record {
        of_board = same ∙ guess.of_board;
        behind = Behind.shown guess.behind entry after fits;
        stands =
            subst (λ ms. StandsAfter new.platform (history ms)) (sym are)
            (goes (history moves) guess.stands);
        channels = λ b is.
            ap (λ ms. delivered_messages board b (history ms)) are
            ∙ delivered_kept board b (history moves) e (guess-legal may board g entries moves guess)
            (unsent b) ∙ guess.channels b is
            ∙ ap (λ ps. taken_by b entries ++ option_to_list (get_or ps (b - 1) None)) (sym posted)
            ∙ ap (λ ms. ms ++ option_to_list (posted_to new b))
            (sym (ap (λ o. taken_by b entries ++ option_to_list o) (silent b)
            ∙ append-nil (taken_by b entries)));
        commands =
            λ k. ap (λ cs. get_or cs k None) commands ∙ guess.commands k
            ∙ ap (outstanding_at k) (sym are);
        places = ap length commands ∙ guess.places;
      }

-- which event it was: the answer shows it
pub gives-done : (may : Unseen) (g new : Guess) (a : ℕ) (f : Frame) (x : Answer)
    → MovesOn g.platform (Command a f) new.platform → new.platform.board ≡ g.platform.board
    → new.posted ≡ g.posted
    → new.outstanding ≡ g.outstanding
    → ((h : List Event) → StandsAfter g.platform h → x ≡ answer_to g.platform.board a f h)
    → ((h : List Event) → StandsAfter g.platform h
    → effect_after g.platform.board h (Command a f) ≢ None
    → (fault : Fault) → MayFail may (CommandFailed a f fault) → x ≢ failed_answer f fault)
    → Gives may g (Answered a f x) new
gives-done may g new a f x goes same posted commands due only =
    record {
      some = λ board entries moves guess. (
        Move.happens (Command a f) ∷ moves,
        record {
          fits = (
            Command a f,
            refl,
            inl (
              refl,
              subst (λ b. x ≡ answer_to b a f (history moves)) guess.of_board
                  (due (history moves) guess.stands),
            ),
            tt,
          );
          legal =
              moved-legal board g.platform new.platform (Command a f)
              (history moves) guess.of_board same goes guess.stands;
        },
      );
      each =
          λ board entries moves after guess can.
          by board entries moves after guess can.legal can.fits can.fits.2;
    } where
      by : (board : Board) (entries : List Entry) (moves after : List Move)
          → IsGuess may board g entries moves → IsLegal board (history after)
          → (fits : Fits may board entries moves (Answered a f x) after)
          → IsAnswered board (history moves) a f fits.0 x
          → IsGuess may board new (Answered a f x ∷ entries) after
      by board entries moves after guess legal fits (inl done) =
          shown-each may g new (Answered a f x) (Command a f)
          (λ b. refl) (λ b. refl) goes same posted commands board entries moves after
          (fits.1 ∙ ap (λ e. Move.happens e ∷ moves) done.0) guess fits
      by board entries moves after guess legal fits (inr failed) =
          let are = fits.1 ∙ ap (λ e. Move.happens e ∷ moves) failed.1 in
          absurd (only (history moves) guess.stands
          (subst (λ b. effect_after b (history moves) (Command a f) ≢ None) (sym guess.of_board)
          (IsLegal-last board (history moves) (CommandFailed a f failed.0)
          (subst (λ ms. IsLegal board (history ms)) are legal)).1) failed.0
          (subst (MayFail may) failed.1 fits.3) failed.2)

pub gives-failed : (may : Unseen) (g new : Guess) (a : ℕ) (f : Frame) (x : Answer) (fault : Fault)
    → MovesOn g.platform (CommandFailed a f fault) new.platform
    → new.platform.board ≡ g.platform.board
    → new.posted ≡ g.posted → new.outstanding ≡ g.outstanding
    → MayFail may (CommandFailed a f fault) → x ≡ failed_answer f fault
    → ((h : List Event) → StandsAfter g.platform h → x ≢ answer_to g.platform.board a f h)
    → ((h : List Event) → StandsAfter g.platform h → (other : Fault) → x ≡ failed_answer f other
    → other ≡ fault)
    → Gives may g (Answered a f x) new
gives-failed may g new a f x fault goes same posted commands allowed due only sole =
    record {
      some = λ board entries moves guess. (
        Move.happens (CommandFailed a f fault) ∷ moves,
        record {
          fits = (CommandFailed a f fault, refl, inr (fault, refl, due), allowed);
          legal =
              moved-legal board g.platform new.platform (CommandFailed a f fault)
              (history moves) guess.of_board same goes guess.stands;
        },
      );
      each =
          λ board entries moves after guess can.
          by board entries moves after guess can.fits can.fits.2;
    } where
      by : (board : Board) (entries : List Entry) (moves after : List Move)
          → IsGuess may board g entries moves
          → (fits : Fits may board entries moves (Answered a f x) after)
          → IsAnswered board (history moves) a f fits.0 x
          → IsGuess may board new (Answered a f x ∷ entries) after
      by board entries moves after guess fits (inr failed) =
          shown-each may g new (Answered a f x) (CommandFailed a f fault)
          (λ b. refl) (λ b. refl) goes same posted commands board entries moves after
          (fits.1 ∙ ap (λ e. Move.happens e ∷ moves) failed.1
          ∙ ap (λ y. Move.happens (CommandFailed a f y) ∷ moves)
          (sole (history moves) guess.stands failed.0 failed.2)) guess fits
      by board entries moves after guess fits (inl done) =
          absurd (only (history moves) guess.stands
          (subst (λ b. x ≡ answer_to b a f (history moves)) (sym guess.of_board) done.1))

pub other-answer : (may : Unseen) (g : Guess) (a : ℕ) (f : Frame) (x : Answer)
    → ((h : List Event) → StandsAfter g.platform h → x ≢ answer_to g.platform.board a f h)
    → ((h : List Event) → StandsAfter g.platform h
    → effect_after g.platform.board h (Command a f) ≢ None
    → (fault : Fault) → MayFail may (CommandFailed a f fault) → x ≢ failed_answer f fault)
    → GivesNot may g (Answered a f x)
other-answer may g a f x undone unfailed board entries moves after guess can =
    by can.fits can.fits.2 where
      by : (fits : Fits may board entries moves (Answered a f x) after)
          → IsAnswered board (history moves) a f fits.0 x → ⊥
      by fits (inl done) =
          undone (history moves) guess.stands
          (subst (λ b. x ≡ answer_to b a f (history moves)) (sym guess.of_board) done.1)
      by fits (inr failed) =
          unfailed (history moves) guess.stands
          (subst (λ b. effect_after b (history moves) (Command a f) ≢ None) (sym guess.of_board)
          (IsLegal-last board (history moves) (CommandFailed a f failed.0)
          (subst (λ ms. IsLegal board (history ms))
          (fits.1 ∙ ap (λ e. Move.happens e ∷ moves) failed.1) can.legal)).1) failed.0
          (subst (MayFail may) failed.1 fits.3) failed.2

-- what the hardware tells posts nothing
pub told-unsent : (report : Report) (b : ℕ) → is_sent_by b (told report) ≡ false
told-unsent (Changed effect) b = refl
told-unsent (First place) b = refl
told-unsent (Settled clock rate) b = refl

-- a platform that takes what the hardware told
pub gives-told : (may : Unseen) (g new : Guess) (report : Report)
    → MovesOn g.platform (told report) new.platform → new.platform.board ≡ g.platform.board
    → new.posted ≡ g.posted → new.outstanding ≡ g.outstanding → Gives may g (Told report) new
gives-told may g new report goes same posted commands =
    record {
      some = λ board entries moves guess. (
        Move.happens (told report) ∷ moves,
        record {
          fits = refl;
          legal =
              moved-legal board g.platform new.platform (told report)
              (history moves) guess.of_board same goes guess.stands;
        },
      );
      each = λ board entries moves after guess can.
          shown-each may g new (Told report) (told report)
          (λ b. refl) (told-unsent report) goes same posted commands board entries moves after
          can.fits guess can.fits;
    }

-- at the start nothing was posted, and no command is outstanding
eight_none : (X : Type 0) → List (Option X)
eight_none X = None ∷ None ∷ None ∷ None ∷ None ∷ None ∷ None ∷ None ∷ []

none-at : (X : Type 0) (i : ℕ) → get_or (eight_none X) i None ≡ None
unfolding eight_none
none-at X zero = refl
none-at X (suc zero) = refl
none-at X (suc (suc zero)) = refl
none-at X (suc (suc (suc zero))) = refl
none-at X (suc (suc (suc (suc zero)))) = refl
none-at X (suc (suc (suc (suc (suc zero))))) = refl
none-at X (suc (suc (suc (suc (suc (suc zero)))))) = refl
none-at X (suc (suc (suc (suc (suc (suc (suc zero))))))) = refl
none-at X (suc (suc (suc (suc (suc (suc (suc (suc i)))))))) = refl

pub guess-start : (may : Unseen) (board : Board) (g : Guess)
    → g.platform.board ≡ board → StandsAfter g.platform []
    → g.posted ≡ None ∷ None ∷ None ∷ None ∷ None ∷ None ∷ None ∷ None ∷ []
    → g.outstanding ≡ None ∷ None ∷ None ∷ None ∷ None ∷ None ∷ None ∷ None ∷ []
    → IsGuess may board g [] []
unfolding eight_none
guess-start may board g same stands none free =
    record {
      of_board = same;
      behind = Behind.nothing;
      stands = stands;
      channels =
          λ a agent. delivered_empty board a
          ∙ ap option_to_list (sym
          (ap (λ ps. get_or ps (a - 1) None) none ∙ none-at Message (a - 1)));
      commands = λ k. ap (λ cs. get_or cs k None) free ∙ none-at Outstanding k;
      places = ap length free;
    }

-- eight items are the same as eight others if they are at each place
pub eight-same : {X : Type 0} (xs ys : List (Option X)) (n : ℕ) → length xs ≡ 8
    → length ys ≡ 8 → 8 ≤ n
    → ((k : ℕ) → k < n → get_or xs k None ≡ get_or ys k None) → xs ≡ ys
eight-same xs ys n first second all same =
    ext_get_or None xs ys (first ∙ sym second) (λ k less. same k (omega (arith, less, first, all)))
