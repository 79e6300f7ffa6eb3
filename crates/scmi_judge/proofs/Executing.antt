-- What is behind a guess with commands that are answered later.
use Rattle.std.proofs.Common.{◌≡◌, ◌≢◌, ◌⊎◌, inl, inr, ◌==◌, ℕ, ◌-◌, ◌<◌, Bool, true, false, List, [], ◌∷◌, ◌++◌, length, get_or, unwrap_or, option_map, Option, Some, None, refl, sym, ap, ◌∙◌, subst, if◌then◌else◌}
use Rattle.std.specs.Prelude.{set}
use Rattle.std.specs.Option.{option_to_list}
use Rattle.std.proofs.lemmas.List.{append-nil, get_or-set_same, get_or-set_other, length-set}
use Rattle.std.proofs.lemmas.Bool.{eq-eqb, ne_eqb}
use Rattle.scmi_plan.specs.Agent.{IsAgent}
use Rattle.scmi_plan.specs.Board.{Board}
use Rattle.scmi_codec.specs.declared.frame.Frame.{Frame}
use Rattle.scmi_codec.specs.declared.frame.Answer.{Answer}
use Rattle.scmi_core.specs.declared.event.Event.{Event}
use Rattle.scmi_core.specs.declared.event.Event.TheVariants.{Command, CommandFailed}
use Rattle.scmi_core.specs.History.{answer_to, delivered_messages}
use Rattle.scmi_core.specs.Outbox.{is_sent_by}
use Rattle.scmi_core.specs.Reply.{failed_answer}
use Rattle.scmi_core.specs.Standing.{MovesOn, Standing, StandsAfter}
use Rattle.scmi_core.proofs.Laws.{delivered_kept}
use Rattle.scmi_codec.specs.declared.fault.Fault.{Fault}
use Rattle.scmi_codec.specs.declared.fault.Fault.TheVariants.{HardwareError}
use Rattle.scmi_judge.specs.Behind.{Behind, FailsPlainly, Fits, IsAnswered, IsUnseen, taken_by}
use Rattle.scmi_judge.specs.Guess.{CanCome, CannotCome, Gives, GoesOn, IsGuess, command_at, posted_to}
use Rattle.scmi_judge.specs.Moves.{Move, executed, history, outstanding, outstanding_at}
use Rattle.scmi_judge.specs.Shown.{message_shown}
use Rattle.scmi_judge.specs.Unseen.{IsOf}
use Rattle.scmi_judge.specs.declared.entry.Entry.{Entry}
use Rattle.scmi_judge.specs.declared.entry.Entry.TheVariants.{Asked, Replied, GivenUp}
use Rattle.scmi_judge.specs.declared.guess.Guess.{Guess}
use Rattle.scmi_judge.specs.declared.outstanding.Outstanding.{Outstanding}
use Rattle.scmi_judge.specs.declared.outstanding.TheConstants.{OUTSTANDING}
use Rattle.scmi_judge.specs.declared.unseen.Step.{Step}
use Rattle.scmi_judge.specs.declared.unseen.Step.TheVariants.{Execute, Fail}
use Rattle.scmi_judge.specs.declared.unseen.Unseen.{Unseen}
use Rattle.scmi_judge.proofs.Guessing.{decide, guess-legal}

-- what is at each place once one was set
pub set-at : (g new : Guess) (k : ℕ) (o : Option Outstanding)
    → new.outstanding ≡ set g.outstanding k o → k < length g.outstanding → (j : ℕ)
    → command_at new j ≡ (if j == k then o else command_at g j)
set-at g new k o are within j = by (decide j k) where
  by : (j ≡ k) ⊎ (j ≢ k) → command_at new j ≡ (if j == k then o else command_at g j)
  by (inl own) =
      ap (λ cs. get_or cs j None) are ∙ ap (λ n. get_or (set g.outstanding k o) n None) own
      ∙ get_or-set_same g.outstanding k o None within
      ∙ ap (λ c. if c then o else command_at g j) (sym (eq-eqb j k own))
  by (inr other) =
      ap (λ cs. get_or cs j None) are ∙ get_or-set_other g.outstanding k j o None other
      ∙ ap (λ c. if c then o else command_at g j) (sym (ne_eqb j k other))

-- where nothing is, nothing is set
pub unset : (g : Guess) (k : ℕ) → command_at g k ≡ None → (j : ℕ)
    → command_at g j ≡ (if j == k then None else command_at g j)
unset g k none j = by (decide j k) where
  by : (j ≡ k) ⊎ (j ≢ k) → command_at g j ≡ (if j == k then None else command_at g j)
  by (inl own) =
      ap (command_at g) own ∙ none
      ∙ ap (λ c. if c then None else command_at g j) (sym (eq-eqb j k own))
  by (inr other) = ap (λ c. if c then None else command_at g j) (sym (ne_eqb j k other))

-- the same with the command that is outstanding there
at-place : (c : Bool) (o : Option Outstanding) (x y : Option Outstanding) → x ≡ y
    → (if c then o else x) ≡ (if c then o else y)
at-place c o x y same = ap (λ z. if c then o else z) same

some-inj : {X : Type 0} (a b : X) → Some a ≡ Some b → a ≡ b
some-inj a b is = ap (λ o. unwrap_or o a) is

-- a command that waits is the one that is outstanding there
waiting-is : (a b : ℕ) (f e : Frame) → Some (outstanding a f None) ≡ Some (outstanding b e None)
    → (a ≡ b) × (f ≡ e)
waiting-is a b f e is =
    let same = some-inj (outstanding a f None) (outstanding b e None) is in
    (ap (λ (o : Outstanding). o.agent) same, ap (λ (o : Outstanding). o.frame) same)

-- what an agent was posted stays, and what it is seen to take
module _ (may : Unseen) (g new : Guess) (board : Board) (entries : List Entry) (moves : List Move)
    (guess : IsGuess may board g entries moves) (posted : new.posted ≡ g.posted) where
  channels-kept : (e : Event) → ((b : ℕ) → is_sent_by b e ≡ false) → (b : ℕ)
      → IsAgent (length board.agents) b
      → delivered_messages board b (history moves ++ e ∷ []) ≡ taken_by b entries
      ++ option_to_list (posted_to new b)
  channels-kept e unsent b agent =
      delivered_kept board b (history moves) e (guess-legal may board g entries moves guess)
      (unsent b) ∙ guess.channels b agent
      ∙ ap (λ ps. taken_by b entries ++ option_to_list (get_or ps (b - 1) None)) (sym posted)

-- a command that waits is executed, by an event and with an answer
module _ (may : Unseen) (g new : Guess) (k a : ℕ) (f : Frame) (x : Answer) (e : Event)
    (has : command_at g k ≡ Some (outstanding a f None)) (within : k < length g.outstanding)
    (commands : new.outstanding ≡ set g.outstanding k (Some (outstanding a f (Some x))))
    (goes : MovesOn g.platform e new.platform) (same : new.platform.board ≡ g.platform.board)
    (posted : new.posted ≡ g.posted)
    (unsent : (b : ℕ) → is_sent_by b e ≡ false)
    (answered : (h : List Event) → StandsAfter g.platform h
    → IsAnswered g.platform.board h a f e x) (plain : FailsPlainly e) where
  executed-at : (board : Board) (entries : List Entry) (moves : List Move)
      → IsGuess may board g entries moves
      → IsGuess may board new entries (Move.executes k e x ∷ moves)
  executed-at board entries moves guess =
      let there : outstanding_at k moves ≡ Some (outstanding a f None) =
      sym (guess.commands k) ∙ has in
      record {
        of_board = same ∙ guess.of_board;
        behind = Behind.unseen guess.behind (Move.executes k e x) (
          a,
          f,
          there,
          subst (λ b. IsAnswered b (history moves) a f e x) guess.of_board
              (answered (history moves) guess.stands),
          plain,
        );
        stands = goes (history moves) guess.stands;
        channels = channels-kept may g new board entries moves guess posted e unsent;
        commands =
            λ j. set-at g new k (Some (outstanding a f (Some x))) commands within j
            ∙ by there j (decide j k);
        places =
            ap length commands ∙ length-set g.outstanding k (Some (outstanding a f (Some x)))
            ∙ guess.places;
      } where
        by : outstanding_at k moves ≡ Some (outstanding a f None) → (j : ℕ) → (j ≡ k) ⊎ (j ≢ k)
            → (if j == k then Some (outstanding a f (Some x)) else command_at g j)
            ≡ (if j == k then option_map (executed x) (outstanding_at j moves)
            else outstanding_at j moves)
        by there j (inl own) =
            ap (λ c. if c then Some (outstanding a f (Some x)) else command_at g j) (eq-eqb j k own)
            ∙ sym (ap (option_map (executed x)) (ap (λ n. outstanding_at n moves) own ∙ there))
            ∙ sym (ap (λ c. if c then option_map (executed x) (outstanding_at j moves)
            else outstanding_at j moves) (eq-eqb j k own))
        by there j (inr other) =
            ap (λ c. if c then Some (outstanding a f (Some x)) else command_at g j)
            (ne_eqb j k other)
            ∙ guess.commands j
            ∙ sym (ap (λ c. if c then option_map (executed x) (outstanding_at j moves)
            else outstanding_at j moves) (ne_eqb j k other))

  pub goes-executed : (step : Step)
      → ((board : Board) (entries : List Entry) (moves : List Move) (move : Move) → IsOf step move
      → IsGuess may board g entries moves → CanCome may board entries moves move
      → move ≡ Move.executes k e x)
      → GoesOn may g step new
  goes-executed step only =
      record {
        some =
            λ board entries moves guess. (
              Move.executes k e x,
              executed-at board entries moves guess,
            );
        each = λ board entries moves move is guess can.
            subst (λ m. IsGuess may board new entries (m ∷ moves))
            (sym (only board entries moves move is guess can))
            (executed-at board entries moves guess);
      }

-- the agent and the frame of a command, done or failed
abbrev command-agent : ℕ → Event → ℕ
command-agent d (Command a f) = a
command-agent d (CommandFailed a f fault) = a
command-agent d _ = d

abbrev command-frame : Frame → Event → Frame
command-frame d (Command a f) = f
command-frame d (CommandFailed a f fault) = f
command-frame d _ = d

abbrev command-fault : Fault → Event → Fault
command-fault d (CommandFailed a f fault) = fault
command-fault d _ = d

abbrev is-done : Event → Bool
is-done (Command a f) = true
is-done _ = false

agent-is : (a b : ℕ) (f e : Frame) → Command a f ≡ Command b e → a ≡ b
agent-is a b f e is = ap (command-agent a) is

frame-is : (a b : ℕ) (f e : Frame) → Command a f ≡ Command b e → f ≡ e
frame-is a b f e is = ap (command-frame f) is

failed-agent-is : (a b : ℕ) (f e : Frame) (x y : Fault) → CommandFailed a f x ≡ CommandFailed b e y
    → a ≡ b
failed-agent-is a b f e x y is = ap (command-agent a) is

failed-frame-is : (a b : ℕ) (f e : Frame) (x y : Fault) → CommandFailed a f x ≡ CommandFailed b e y
    → f ≡ e
failed-frame-is a b f e x y is = ap (command-frame f) is

failed-fault-is : (a b : ℕ) (f e : Frame) (x y : Fault) → CommandFailed a f x ≡ CommandFailed b e y
    → x ≡ y
failed-fault-is a b f e x y is = ap (command-fault x) is

not-failed : (a b : ℕ) (f e : Frame) (y : Fault) → Command a f ≡ CommandFailed b e y → ⊥
not-failed a b f e y is = absurd (let no : true ≡ false = ap is-done is in cc)

-- a command that waits, and a move of a step that executes it
module _ (may : Unseen) (g : Guess) (k a : ℕ) (f : Frame)
    (has : command_at g k ≡ Some (outstanding a f None))
    (board : Board) (entries : List Entry) (moves : List Move)
    (guess : IsGuess may board g entries moves) where
  waits-for : (b : ℕ) (e : Frame) → outstanding_at k moves ≡ Some (outstanding b e None)
      → (a ≡ b) × (f ≡ e)
  waits-for b e there = waiting-is a b f e (sym has ∙ guess.commands k ∙ there)

  done-is : (b : ℕ) (e : Frame) (x : Answer)
      → IsUnseen may board entries moves (Move.executes k (Command b e) x)
      → (b ≡ a) × (e ≡ f) × (x ≡ answer_to board a f (history moves))
  done-is b e x (c, d, there, inl done, plain) =
      let own = waits-for c d there in (
        agent-is b c e d done.0 ∙ sym own.0,
        frame-is b c e d done.0 ∙ sym own.1,
        done.1 ∙ ap (λ n. answer_to board n d (history moves)) (sym own.0)
            ∙ ap (λ m. answer_to board a m (history moves)) (sym own.1),
      )
  done-is b e x (c, d, there, inr failed, plain) =
      absurd (not-failed b c e d failed.0 failed.1)

  failed-is : (b : ℕ) (e : Frame) (x : Answer)
      → IsUnseen may board entries moves (Move.executes k (CommandFailed b e HardwareError) x)
      → (b ≡ a) × (e ≡ f) × (x ≡ failed_answer f HardwareError)
  failed-is b e x (c, d, there, inr failed, plain) =
      let own = waits-for c d there in (
        failed-agent-is b c e d HardwareError failed.0 failed.1 ∙ sym own.0,
        failed-frame-is b c e d HardwareError failed.0 failed.1 ∙ sym own.1,
        failed.2
            ∙ ap (failed_answer d) (sym (failed-fault-is b c e d HardwareError failed.0 failed.1))
            ∙ ap (λ m. failed_answer m HardwareError) (sym own.1),
      )
  failed-is b e x (c, d, there, inl done, plain) =
      absurd (not-failed c b d e HardwareError (sym done.0))

pub goes-done : (may : Unseen) (g new : Guess) (k a : ℕ) (f : Frame) (x : Answer)
    → command_at g k ≡ Some (outstanding a f None) → k < length g.outstanding
    → new.outstanding ≡ set g.outstanding k (Some (outstanding a f (Some x)))
    → MovesOn g.platform (Command a f) new.platform
    → new.platform.board ≡ g.platform.board → new.posted ≡ g.posted
    → ((h : List Event) → StandsAfter g.platform h → x ≡ answer_to g.platform.board a f h)
    → GoesOn may g (Execute k) new
goes-done may g new k a f x has within commands goes same posted due =
    goes-executed may g new k a f x (Command a f) has within commands goes same posted (λ b. refl)
    (λ h stands. inl (refl, due h stands)) tt (Execute k)
    (λ board entries moves move is guess can.
    let own = subst (CanCome may board entries moves) is.3 can in
    let all = done-is may g k a f has board entries moves guess is.0 is.1 is.2 own.unseen in
    let given : answer_to board a f (history moves) ≡ x =
    sym (subst (λ b. x ≡ answer_to b a f (history moves)) guess.of_board
    (due (history moves) guess.stands)) in
    is.3 ∙ ap (λ n. Move.executes k (Command n is.1) is.2) all.0
    ∙ ap (λ m. Move.executes k (Command a m) is.2) all.1
    ∙ ap (Move.executes k (Command a f)) (all.2 ∙ given))

pub goes-failed : (may : Unseen) (g new : Guess) (k a : ℕ) (f : Frame) (x : Answer)
    → command_at g k ≡ Some (outstanding a f None) → k < length g.outstanding
    → new.outstanding ≡ set g.outstanding k (Some (outstanding a f (Some x)))
    → MovesOn g.platform (CommandFailed a f HardwareError) new.platform
    → new.platform.board ≡ g.platform.board → new.posted ≡ g.posted
    → x ≡ failed_answer f HardwareError
    → GoesOn may g (Fail k) new
goes-failed may g new k a f x has within commands goes same posted due =
    goes-executed may g new k a f x (CommandFailed a f HardwareError) has within commands goes same
    posted (λ b. refl) (λ h stands. inr (HardwareError, refl, due)) refl (Fail k)
    (λ board entries moves move is guess can.
    let own = subst (CanCome may board entries moves) is.3 can in
    let all = failed-is may g k a f has board entries moves guess is.0 is.1 is.2 own.unseen in
    is.3 ∙ ap (λ n. Move.executes k (CommandFailed n is.1 HardwareError) is.2) all.0
    ∙ ap (λ m. Move.executes k (CommandFailed a m HardwareError) is.2) all.1
    ∙ ap (Move.executes k (CommandFailed a f HardwareError)) (all.2 ∙ sym due))

-- nothing is executed at a place at which no command waits
pub none-executed : (may : Unseen) (g : Guess) (k : ℕ)
    → ((a : ℕ) (f : Frame) → command_at g k ≢ Some (outstanding a f None))
    → CannotCome may g (Execute k)
none-executed may g k none board entries moves move is guess can =
    let own = subst (CanCome may board entries moves) is.3 can in
    none own.unseen.0 own.unseen.1 (guess.commands k ∙ own.unseen.2)

pub none-failed : (may : Unseen) (g : Guess) (k : ℕ)
    → ((a : ℕ) (f : Frame) → command_at g k ≢ Some (outstanding a f None))
    → CannotCome may g (Fail k)
none-failed may g k none board entries moves move is guess can =
    let own = subst (CanCome may board entries moves) is.3 can in
    none own.unseen.0 own.unseen.1 (guess.commands k ∙ own.unseen.2)

-- an entry of which no agent takes a message, with a move that is no event
module _ (may : Unseen) (g new : Guess) (entry : Entry) (same : new.platform ≡ g.platform)
    (posted : new.posted ≡ g.posted) (long : length new.outstanding ≡ length g.outstanding)
    (silent : (a : ℕ) → message_shown a entry ≡ None) where
  still : (board : Board) (entries : List Entry) (moves : List Move) (move : Move)
      → history (move ∷ moves) ≡ history moves → IsGuess may board g entries moves
      → Fits may board entries moves entry (move ∷ moves)
      → ((k : ℕ) → command_at new k ≡ outstanding_at k (move ∷ moves))
      → IsGuess may board new (entry ∷ entries) (move ∷ moves)
  still board entries moves move quiet guess fits commands =
      record {
        of_board = ap (λ (p : Standing). p.board) same ∙ guess.of_board;
        behind = Behind.shown guess.behind entry (move ∷ moves) fits;
        stands =
            subst (λ p. StandsAfter p (history (move ∷ moves))) (sym same)
            (subst (StandsAfter g.platform) (sym quiet) guess.stands);
        channels = λ b is.
            ap (delivered_messages board b) quiet ∙ guess.channels b is
            ∙ ap (λ ps. taken_by b entries ++ option_to_list (get_or ps (b - 1) None)) (sym posted)
            ∙ ap (λ ms. ms ++ option_to_list (posted_to new b))
            (sym (ap (λ o. taken_by b entries ++ option_to_list o) (silent b)
            ∙ append-nil (taken_by b entries)));
        commands = commands;
        places = long ∙ guess.places;
      }

-- a command is asked
pub gives-asked : (may : Unseen) (g new : Guess) (k a : ℕ) (f : Frame)
    → IsAgent (length g.platform.board.agents) a → k < OUTSTANDING → k < length g.outstanding
    → command_at g k ≡ None
    → new.platform ≡ g.platform → new.posted ≡ g.posted
    → new.outstanding ≡ set g.outstanding k (Some (outstanding a f None))
    → Gives may g (Asked k a f) new
gives-asked may g new k a f agent few within free same posted commands =
    record {
      some = λ board entries moves guess. (
        Move.asks k a f ∷ moves,
        record {
          fits = (
            subst (λ b. IsAgent (length b.agents) a) guess.of_board agent,
            refl,
            few,
            sym (guess.commands k) ∙ free,
          );
          legal = guess-legal may board g entries moves guess;
        },
      );
      each = λ board entries moves after guess can.
          subst (IsGuess may board new (Asked k a f ∷ entries)) (sym can.fits.1)
          (still may g new (Asked k a f) same posted
          (ap length commands ∙ length-set g.outstanding k (Some (outstanding a f None)))
          (λ b. refl) board entries moves (Move.asks k a f) refl guess
          (can.fits.0, refl, can.fits.2, can.fits.3)
          (λ j. set-at g new k (Some (outstanding a f None)) commands within j
          ∙ at-place (j == k) (Some (outstanding a f None)) _ _ (guess.commands j)));
    }

-- the answer to a command that was executed
pub gives-replied : (may : Unseen) (g new : Guess) (k a : ℕ) (f : Frame) (x : Answer)
    → k < length g.outstanding → command_at g k ≡ Some (outstanding a f (Some x))
    → new.platform ≡ g.platform → new.posted ≡ g.posted → new.outstanding ≡ set g.outstanding k None
    → Gives may g (Replied k a f x) new
gives-replied may g new k a f x within has same posted commands =
    record {
      some = λ board entries moves guess. (
        Move.frees k ∷ moves,
        record {
          fits = (refl, sym (guess.commands k) ∙ has);
          legal = guess-legal may board g entries moves guess;
        },
      );
      each = λ board entries moves after guess can.
          subst (IsGuess may board new (Replied k a f x ∷ entries)) (sym can.fits.0)
          (still may g new (Replied k a f x) same posted
          (ap length commands ∙ length-set g.outstanding k None) (λ b. refl) board entries moves
          (Move.frees k) refl guess
          (refl, can.fits.1)
          (λ j. set-at g new k None commands within j
          ∙ at-place (j == k) None _ _ (guess.commands j)));
    }

-- no answer comes
pub gives-up : (may : Unseen) (g new : Guess) (k : ℕ) → new.platform ≡ g.platform
    → new.posted ≡ g.posted → length new.outstanding ≡ length g.outstanding
    → ((j : ℕ) → command_at new j ≡ (if j == k then None else command_at g j))
    → Gives may g (GivenUp k) new
gives-up may g new k same posted long commands =
    record {
      some = λ board entries moves guess. (
        Move.frees k ∷ moves,
        record { fits = refl; legal = guess-legal may board g entries moves guess },
      );
      each = λ board entries moves after guess can.
          subst (IsGuess may board new (GivenUp k ∷ entries)) (sym can.fits)
          (still may g new (GivenUp k) same posted long (λ b. refl) board entries moves
          (Move.frees k) refl guess refl
          (λ j. commands j ∙ at-place (j == k) None _ _ (guess.commands j)));
    }
