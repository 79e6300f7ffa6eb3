-- What a line adds to what lines show, behind entries and notes that were told before.
use Rattle.std.proofs.Common.{◌≡◌, ℕ, ◌++◌, Bool, true, false, if◌then◌else◌, List, [], ◌∷◌, Option, Some, None, refl, ap, ◌∙◌, append_assoc}
use Rattle.std.specs.Prelude.{◌&&◌, nat_le, position}
use Rattle.std.specs.Option.{option_map}
use Rattle.scmi_board.specs.Items.{◌>>=◌}
use Rattle.scmi_board.specs.Lines.{Line}
use Rattle.scmi_codec.specs.Command.{protocol_header}
use Rattle.scmi_codec.specs.declared.frame.Answer.{Answer}
use Rattle.scmi_codec.specs.declared.frame.Answer.TheVariants.{Reply}
use Rattle.scmi_codec.specs.declared.frame.Frame.{Frame}
use Rattle.scmi_codec.specs.declared.frame.Frame.TheVariants.{Good}
use Rattle.scmi_codec.specs.declared.message.Message.{Message}
use Rattle.scmi_plan.specs.declared.limits.TheConstants.{AGENTS}
use Rattle.scmi_judge.specs.declared.entry.Entry.{Entry}
use Rattle.scmi_judge.specs.declared.entry.Entry.TheVariants.{Answered, Asked, Delivered, GivenUp, Replied, Told}
use Rattle.scmi_text.specs.declared.step.Call.{Call}
use Rattle.scmi_check.specs.Asking.{AskingView, is_free, is_to_ask, place_of_line, with_all_asked, with_all_given_up, with_asked, with_free, with_given_up, with_one, with_place, without_answer}
use Rattle.scmi_check.specs.LeftOut.{LeftView, is_judged, with_left, with_no_answer, with_no_answers, with_note, with_notes, with_skipped, frame_protocol}
use Rattle.scmi_check.specs.RecordText.{Shows, command_taken, entry_protocol, finished, given_up, all_given_up, is_by, is_early, answered_at, asking_of, none_early, onto, ready, taken_with, token_free, token_taken, with_answer, with_answered, with_asking, with_called, with_entry, with_entry_of, with_judged, with_line, with_lost, with_posted, with_response, with_shown, with_trace, with_traced, with_unmatched}
use Rattle.scmi_check.specs.Shown.{shown_at}
use Rattle.scmi_check.specs.declared.note.Lost.{Lost as LostEvents}
use Rattle.scmi_check.specs.declared.note.Note.{Note}
use Rattle.scmi_check.specs.declared.note.NoteKind.TheVariants.{Lost, Unmatched}
use Rattle.scmi_check.specs.declared.record.Placed.{Placed}
use Rattle.scmi_check.specs.declared.shown.Shown.{Shown}
use Rattle.scmi_check.specs.declared.shown.Shown.TheVariants as seen
use Rattle.scmi_check.specs.declared.shown.Shown.TheVariants.{Called, Posted, PostedBeside, Got, Responded, Took, Missed, Skipped}
use Rattle.scmi_check.specs.declared.waiting.Waiting.{Waiting}

module _ (placed : List Placed) (notes : List Note) where
  abbrev later : LeftView → LeftView
  later left = with_notes left (notes ++ left.notes)

  abbrev at : Shows → Shows
  at shows = onto placed notes shows

  note-onto : (left : LeftView) (note : Note)
      → with_note (later left) note ≡ later (with_note left note)
  note-onto left note = ap (λ (ns : List Note). with_notes left ns)
      (append_assoc notes left.notes (note ∷ []))

  left-onto : (judged : List ℕ) (left : LeftView) (protocol : Option ℕ) (note : Note)
      → with_left judged (later left) protocol note ≡ later (with_left judged left protocol note)
  left-onto judged left None note = note-onto left note
  left-onto judged left (Some protocol) note = by (is_judged judged protocol) where
    by : (b : Bool) → (if b then with_note (later left) note else with_skipped
        (later left) protocol) ≡ later (if b then with_note left note else with_skipped left
        protocol)
    by true = note-onto left note
    by false = refl

  no-answers-onto : (judged : List ℕ) (left : LeftView) (commands : List Waiting)
      → with_no_answers judged (later left) commands ≡ later (with_no_answers judged left commands)
  no-answers-onto judged left [] = refl
  no-answers-onto judged left (command ∷ commands) =
      ap (λ (l : LeftView). with_no_answers judged l commands)
      (left-onto judged left (frame_protocol command.frame) _)
      ∙ no-answers-onto judged (with_no_answer judged left command) commands

  -- the same of all that lines show
  abbrev with-left-out : Shows → LeftView → Shows
  with-left-out shows left = record shows { entries = placed ++ shows.entries; left = left }

  -- the same of the entries alone
  abbrev behind : AskingView → AskingView
  behind asking = record { entries = placed ++ asking.entries; asked = asking.asked }

  one-onto : (asking : AskingView) (line : ℕ) (entry : Entry)
      → with_one (behind asking) line entry ≡ behind (with_one asking line entry)
  one-onto asking line entry =
      ap (λ (es : List Placed). record { entries = es; asked = asking.asked })
      (append_assoc placed asking.entries (record { line = line; entry = entry } ∷ []))

  place-onto : (asking : AskingView) (command : Waiting) (place : Option ℕ)
      → with_place (behind asking) command place ≡ behind (with_place asking command place)
  place-onto asking command None = refl
  place-onto asking command (Some k) = ap (λ (es : List Placed).
      record { entries = es; asked = (with_place asking command (Some k)).asked })
      (append_assoc placed asking.entries
      (record { line = command.line; entry = Asked k command.agent command.frame } ∷ []))

  asked-onto : (judged : List ℕ) (asking : AskingView) (command : Waiting)
      → with_asked judged (behind asking) command ≡ behind (with_asked judged asking command)
  unfolding with_asked
  asked-onto judged asking command = by (is_to_ask judged asking command) where
    by : (b : Bool) → (if b then with_place (behind asking) command (position is_free asking.asked)
        else behind asking)
        ≡ behind (if b then with_place asking command (position is_free asking.asked) else asking)
    by true = place-onto asking command (position is_free asking.asked)
    by false = refl

  all-asked-onto : (judged : List ℕ) (asking : AskingView) (commands : List Waiting)
      → with_all_asked judged (behind asking) commands
      ≡ behind (with_all_asked judged asking commands)
  all-asked-onto judged asking [] = refl
  all-asked-onto judged asking (command ∷ commands) =
      ap (λ (a : AskingView). with_all_asked judged a commands) (asked-onto judged asking command)
      ∙ all-asked-onto judged (with_asked judged asking command) commands

  without-onto : (asking : AskingView) (line : ℕ) (place : Option ℕ)
      → without_answer (behind asking) line place ≡ behind (without_answer asking line place)
  without-onto asking line None = refl
  without-onto asking line (Some k) =
      ap (λ (a : AskingView). with_free a k) (one-onto asking line (GivenUp k))

  given-up-onto : (asking : AskingView) (command : Waiting)
      → with_given_up (behind asking) command ≡ behind (with_given_up asking command)
  unfolding with_given_up
  given-up-onto asking command =
      without-onto asking command.line (place_of_line asking command.line)

  all-given-up-onto : (asking : AskingView) (commands : List Waiting)
      → with_all_given_up (behind asking) commands ≡ behind (with_all_given_up asking commands)
  all-given-up-onto asking [] = refl
  all-given-up-onto asking (command ∷ commands) =
      ap (λ (a : AskingView). with_all_given_up a commands) (given-up-onto asking command)
      ∙ all-given-up-onto (with_given_up asking command) commands

  ready-onto : (shows : Shows) → ready (at shows) ≡ behind (ready shows)
  ready-onto shows =
      ap (λ (a : AskingView). with_all_asked shows.judged a shows.traced)
      (all-asked-onto shows.judged (asking_of shows) shows.waiting)
      ∙ all-asked-onto shows.judged
      (with_all_asked shows.judged (asking_of shows) shows.waiting) shows.traced

  judged-onto : (shows : Shows) (line : ℕ) (entry : Entry)
      → with_judged (at shows) line entry ≡ at (with_judged shows line entry)
  judged-onto shows line entry =
      ap (λ (a : AskingView). with_asking (at shows) a)
      (ap (λ (a : AskingView). with_one a line entry) (ready-onto shows)
      ∙ one-onto (ready shows) line entry)

  entry-of-onto : (protocol : Option ℕ) (shows : Shows) (line : ℕ) (entry : Entry)
      → with_entry_of protocol (at shows) line entry ≡ at (with_entry_of protocol shows line entry)
  entry-of-onto None shows line entry = judged-onto shows line entry
  entry-of-onto (Some protocol) shows line entry = by (is_judged shows.judged protocol) where
    by : (b : Bool) → (if b then with_judged (at shows) line entry else record
        (at shows) { left = with_skipped (at shows).left protocol })
        ≡ at (if b then with_judged shows line entry else record shows
        { left = with_skipped shows.left protocol })
    by true = judged-onto shows line entry
    by false = refl

  entry-onto : (shows : Shows) (line : ℕ) (entry : Entry)
      → with_entry (at shows) line entry ≡ at (with_entry shows line entry)
  entry-onto shows line entry = entry-of-onto (entry_protocol entry) shows line entry

  answered-at-onto : (place : Option ℕ) (shows : Shows) (line : ℕ) (command : Waiting)
      (answer : Answer)
      → answered_at place (at shows) line command answer
      ≡ at (answered_at place shows line command answer)
  answered-at-onto None shows line command answer =
      entry-onto shows line (Answered command.agent command.frame answer)
  answered-at-onto (Some k) shows line command answer =
      ap (λ (s : Shows). with_asking s (with_free (asking_of s) k))
      (entry-onto shows line (Replied k command.agent command.frame answer))

  answered-onto : (shows : Shows) (line : ℕ) (command : Waiting) (answer : Answer)
      → with_answered (at shows) line command answer ≡ at (with_answered shows line command answer)
  answered-onto shows line command answer =
      answered-at-onto (place_of_line (asking_of shows) command.line) shows line command answer

  unmatched-onto : (shows : Shows) (line protocol : ℕ)
      → with_unmatched (at shows) line protocol ≡ at (with_unmatched shows line protocol)
  unmatched-onto shows line protocol = ap (with-left-out shows)
      (left-onto shows.judged shows.left (Some protocol) (record { line = line; kind = Unmatched }))

  posted-onto : (shows : Shows) (line a : ℕ) (frame : Frame)
      → with_posted (at shows) line a frame ≡ option_map at (with_posted shows line a frame)
  unfolding with_posted
  posted-onto shows line a frame = by (position (is_by a) shows.waiting) where
    by : (place : Option ℕ) → elim place [
      | None ↦ Some
          (record (at shows) {
            waiting = shows.waiting ++ record
                { line = line; agent = a; frame = frame } ∷ [];
          })
      | Some p ↦ None
    ]
        ≡ option_map at (elim place [
          | None ↦ Some
              (record shows {
                waiting = shows.waiting ++ record
                    { line = line; agent = a; frame = frame } ∷ [];
              })
          | Some p ↦ None
        ])
    by None = refl
    by (Some p) = refl

  abbrev taken-at : Option (ℕ × Shows) → Option (ℕ × Shows)
  taken-at taken = option_map (λ (t : ℕ × Shows). (t.0, at t.1)) taken

  token-onto : (shows : Shows) (a : ℕ) → token_taken (at shows) a ≡ taken-at (token_taken shows a)
  unfolding token_taken
  token-onto shows a = by (nat_le 1 a && nat_le a AGENTS) _ _ where
    by : (b : Bool) (token : ℕ) (tokens : List ℕ)
        → (if b then Some (token, record (at shows) { tokens = tokens }) else None) ≡ taken-at
        (if b then Some (token, record shows { tokens = tokens }) else None)
    by true token tokens = refl
    by false token tokens = refl

  called-onto : (shows : Shows) (line a : ℕ) (call : Call)
      → with_called (at shows) line a call ≡ option_map at (with_called shows line a call)
  unfolding with_called
  called-onto shows line a call = ap (λ (t : Option (ℕ × Shows)). t >>= post) (token-onto shows a)
      ∙ by (token_taken shows a) where
        post : ℕ × Shows → Option Shows
        post token = with_posted token.1 line a (Good
            (record {
              header = protocol_header call.protocol token.0 call.message;
              payload = call.payload;
            }))

        by : (taken : Option (ℕ × Shows))
            → (taken-at taken >>= post) ≡ option_map at (taken >>= post)
        by None = refl
        by (Some token) = posted-onto token.1 line a
            (Good (record {
              header = protocol_header call.protocol token.0 call.message;
              payload = call.payload;
            }))

  answer-onto : (shows : Shows) (line a : ℕ) (answer : Answer)
      → with_answer (at shows) line a answer ≡ option_map at (with_answer shows line a answer)
  unfolding with_answer
  answer-onto shows line a answer = by (command_taken shows.waiting a) where
    by : (taken : Option (Waiting × List Waiting))
        → (taken
        >>= λ t. Some (with_answered (record (at shows) { waiting = t.1 }) line t.0 answer))
        ≡ option_map at
        (taken >>= λ t. Some (with_answered (record shows { waiting = t.1 }) line t.0 answer))
    by None = refl
    by (Some t) =
        ap (λ (s : Shows). Some s) (answered-onto (record shows { waiting = t.1 }) line t.0 answer)

  given-onto : (shows : Shows) (command : Waiting)
      → given_up (at shows) command ≡ at (given_up shows command)
  given-onto shows command =
      let asked = with_asking shows (with_asked shows.judged (asking_of shows) command) in
      ap (λ (a : AskingView). with_asking (at shows) (with_given_up
      (ready (with_asking (at shows) a)) command))
      (asked-onto shows.judged (asking_of shows) command)
      ∙ ap (λ (a : AskingView). with_asking (at shows) (with_given_up a command))
      (ready-onto asked)
      ∙ ap (λ (a : AskingView). with_asking (at shows) a) (given-up-onto (ready asked) command)

  free-onto : (shows : Shows) (a token : ℕ) → token_free (at shows) a token ≡ at
      (token_free shows a token)
  free-onto shows a token = by (taken_with shows.traced a token) where
    by : (taken : Option (Waiting × List Waiting))
        → elim taken [
          | None ↦ at shows
          | Some t ↦ given_up (record (at shows) {
            traced = t.1;
            left = with_no_answer shows.judged (later shows.left) t.0;
          }) t.0
        ]
        ≡ at (elim taken [
          | None ↦ shows
          | Some t ↦ given_up (record shows {
            traced = t.1;
            left = with_no_answer shows.judged shows.left t.0;
          }) t.0
        ])
    by None = refl
    by (Some t) =
        ap (λ (l : LeftView). given_up (with-left-out (record shows { traced = t.1 }) l) t.0)
        (left-onto shows.judged shows.left (frame_protocol t.0.frame) _)
        ∙ given-onto (record shows {
          traced = t.1;
          left = with_no_answer shows.judged shows.left t.0;
        }) t.0

  traced-onto : (shows : Shows) (line a : ℕ) (message : Message)
      → with_traced (at shows) line a message ≡ at (with_traced shows line a message)
  traced-onto shows line a message =
      ap from (free-onto shows a message.header.token)
      ∙ by (is_early (token_free shows a message.header.token).early a message.header.token)
      (token_free shows a message.header.token) where
        from : Shows → Shows
        from free = if is_early free.early a message.header.token then with_unmatched
            (none_early free) line message.header.protocol else with_trace (none_early free) line a
            (Good message)

        by : (b : Bool) (free : Shows) → (if b then with_unmatched
            (none_early (at free)) line message.header.protocol else with_trace
            (none_early (at free)) line a (Good message))
            ≡ at (if b then with_unmatched (none_early free) line message.header.protocol else
            with_trace (none_early free) line a (Good message))
        by true free = unmatched-onto (none_early free) line message.header.protocol
        by false free = refl

  response-onto : (shows : Shows) (line a : ℕ) (message : Message)
      → with_response (at shows) line a message ≡ at (with_response shows line a message)
  response-onto shows line a message = by (taken_with shows.traced a message.header.token) where
    by : (taken : Option (Waiting × List Waiting)) → elim taken [
      | None ↦ with_unmatched (record (at shows)
          { early = Some (record { agent = a; token = message.header.token }) }) line
          message.header.protocol
      | Some t ↦ with_answered (record (at shows) { traced = t.1 }) line t.0 (Reply message)
    ] ≡ at (elim taken [
      | None ↦ with_unmatched (record shows {
        early =
            Some (record { agent = a; token = message.header.token });
      }) line message.header.protocol
      | Some t ↦ with_answered (record shows { traced = t.1 }) line t.0 (Reply message)
    ])
    by None = unmatched-onto (record shows {
      early =
          Some (record { agent = a; token = message.header.token });
    }) line message.header.protocol
    by (Some t) = answered-onto (record shows { traced = t.1 }) line t.0 (Reply message)

  all-given-onto : (shows : Shows) → all_given_up (at shows) ≡ at (all_given_up shows)
  all-given-onto shows =
      ap (λ (a : AskingView). record (with_asking (at shows)
      (with_all_given_up a shows.traced)) { traced = [] }) (ready-onto shows)
      ∙ ap (λ (a : AskingView). record (with_asking (at shows) a) { traced = [] })
      (all-given-up-onto (ready shows) shows.traced)

  lost-onto : (shows : Shows) (line : ℕ) (lost : LostEvents)
      → with_lost (at shows) line lost ≡ at (with_lost shows line lost)
  lost-onto shows line lost =
      ap (λ (s : Shows). record s {
        left = with_note (with_no_answers shows.judged (later shows.left) shows.traced)
            (record { line = line; kind = Lost lost });
        early = None;
      }) (all-given-onto shows)
      ∙ ap (λ (l : LeftView). record (at (all_given_up shows)) { left = l; early = None })
      (ap (λ (l : LeftView). with_note l (record { line = line; kind = Lost lost }))
      (no-answers-onto shows.judged shows.left shows.traced)
      ∙ note-onto (with_no_answers shows.judged shows.left shows.traced)
      (record { line = line; kind = Lost lost }))

  shown-onto : (shows : Shows) (line : ℕ) (shown : Shown)
      → with_shown (at shows) line shown ≡ option_map at (with_shown shows line shown)
  unfolding with_shown
  shown-onto shows line (Called a call) = called-onto shows line a call
  shown-onto shows line (Posted a frame) = posted-onto shows line a frame
  shown-onto shows line (PostedBeside a message) =
      ap (λ (s : Shows). Some s) (traced-onto shows line a message)
  shown-onto shows line (Got a answer) = answer-onto shows line a answer
  shown-onto shows line (Responded a message) =
      ap (λ (s : Shows). Some s) (response-onto shows line a message)
  shown-onto shows line (Took a message) = ap (λ (s : Shows). Some s)
      (entry-onto shows line (Delivered a message))
  shown-onto shows line (seen.Told report) = ap (λ (s : Shows). Some s)
      (entry-onto shows line (Told report))
  shown-onto shows line (Missed lost) = ap (λ (s : Shows). Some s) (lost-onto shows line lost)
  shown-onto shows line Skipped = refl

  -- a line adds the same
  pub line-onto : (agents : ℕ) (shows : Shows) (line : Line)
      → with_line agents (onto placed notes shows) line ≡ option_map (onto placed notes)
      (with_line agents shows line)
  unfolding with_line
  line-onto agents shows line = by (shown_at agents line.text) where
    by : (shown : Option Shown) → (shown >>= λ s. with_shown (at shows) line.number s) ≡ option_map
        at (shown >>= λ s. with_shown shows line.number s)
    by None = refl
    by (Some shown) = shown-onto shows line.number shown

  -- and so does the end
  pub finished-onto : (shows : Shows) → finished
      (onto placed notes shows) ≡ record {
        entries = placed ++ shows.entries;
        left = with_notes (finished shows).left (notes ++ (finished shows).left.notes);
      }
  finished-onto shows =
      ap (λ (l : LeftView). record { entries = placed ++ shows.entries; left = l })
      (ap (λ (l : LeftView). with_no_answers shows.judged l shows.traced)
      (no-answers-onto shows.judged shows.left shows.waiting)
      ∙ no-answers-onto shows.judged (with_no_answers shows.judged shows.left shows.waiting)
      shows.traced)
