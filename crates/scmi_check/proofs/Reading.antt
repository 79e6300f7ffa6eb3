-- A record that is read a line at a time.
use Rattle.std.proofs.Common.{◌≡◌, ◌∙◌, ℕ, ◌<◌, Bool, true, false, List, [], ◌∷◌, ◌++◌, length, Option, None, Some, Result, Ok, Err, IfSome, IfOk, IfErr, IsErrOf, OnOk, refl, sym, ap, subst, append_assoc, arith}
use Rattle.std.specs.List.{position_or_len}
use Rattle.std.specs.Option.{IsSomeAnd}
use Rattle.std.proofs.lemmas.List as list
use Rattle.scmi_board.specs.Lines.{Line, last_behind, lines_behind, lines_left, lines_of, number_behind, whole}
use Rattle.scmi_io.specs.Lines.{after_line, first_line, has_line_feed, is_line_feed}
use Rattle.scmi_io.specs.declared.input.TheConstants.{INPUT_BYTES}
use Rattle.scmi_io.specs.declared.input_error.InputError.{InputError}
use Rattle.scmi_io.specs.declared.input_error.InputError.TheVariants as input
use Rattle.scmi_plan.specs.Board.{Board}
use Rattle.scmi_judge.specs.declared.unseen.Unseen.{Unseen}
use Rattle.scmi_check.specs.Check.{GivesFound, IsEndWithout, IsFaultOfRecord, IsFoundOf, IsRecordText}
use Rattle.scmi_check.specs.CheckError.{line_error}
use Rattle.scmi_check.specs.Listener.{Grows}
use Rattle.scmi_check.specs.RecordText.{AreMeant, Shows, all_finished, finished, nothing_shown}
use Rattle.scmi_check.specs.UnderWay.{AddsLines, IsStopBy, IsUnderWay, if_counts}
use Rattle.scmi_check.specs.declared.check_error.CheckError.{CheckError}
use Rattle.scmi_check.specs.declared.check_error.CheckError.TheVariants as error
use Rattle.scmi_check.specs.declared.checked.Checked.{Checked}
use Rattle.scmi_check.specs.declared.judged.Judged.{Judged}
use Rattle.scmi_check.specs.declared.note.Note.{Note}
use Rattle.scmi_check.specs.declared.under_way.Check.{Check}
use Rattle.scmi_check.proofs.Growing.{append-none, grows-more}
use Rattle.scmi_check.proofs.ReadLines.{cut-line, last-more, lines-last, lines-on, with-feed}
use Rattle.scmi_check.proofs.Telling.{adds-more, adds-none, wrong-line}

-- of the lines of a text these are behind others, of which the first count
abbrev pub IsLeft : (first : List Line) (texts : List (List ℕ)) (number : ℕ) (text rest : List ℕ)
    → Type 0
IsLeft first texts number text rest = (lines_left (whole text) ≡ first ++ lines_behind number
    (lines_of rest)) × (lines_of text ≡ texts ++ lines_of rest) × (number ≡ last_behind 0 texts)

-- the lines of a record up to the one of this number were read
pub record IsReadTo (Means : List ℕ → List ℕ → Type 0) (protocols : List ℕ) (may : Unseen)
    (board : Board) (known left : Option (List ℕ)) (number : ℕ) (c : Check)
    (before after : Option (List Judged)) (noted now : Option (List Note)) : Type 0 where
  pub first : List Line
  pub texts : List (List ℕ)
  pub adds : AddsLines Means may board (nothing_shown protocols) []
      [] first c before after noted now
  pub lines : IfSome known (λ text. IsSomeAnd left (IsLeft first texts number text))

no-lines : 0 ≡ last_behind 0 []
unfolding last_behind
no-lines = refl

-- none was read
pub read-none : (Means : List ℕ → List ℕ → Type 0) (protocols : List ℕ) (may : Unseen)
    (board : Board) (known left : Option (List ℕ)) (c : Check) (given : Option (List Judged))
    (noted : Option (List Note)) → left ≡ known
    → IsUnderWay may board (nothing_shown protocols) [] [] c
    → IsReadTo Means protocols may board known left 0 c given given noted noted
read-none Means protocols may board known left c given noted is way =
    record {
      first = [];
      texts = [];
      adds = adds-none Means may board (nothing_shown protocols) [] [] c given noted way;
      lines = by known left is;
    } where
      by : (known left : Option (List ℕ)) → left ≡ known
          → IfSome known (λ text. IsSomeAnd left (IsLeft [] [] 0 text))
      by None left is = tt
      by (Some text) left is = subst (λ o. IsSomeAnd o (IsLeft [] [] 0 text)) (sym is)
          (refl, refl, no-lines)

-- one line more, which a line feed ends
module _ (Means : List ℕ → List ℕ → Type 0) (protocols : List ℕ) (may : Unseen)
    (board : Board) (known left : Option (List ℕ)) (number : ℕ) (c : Check)
    (before after : Option (List Judged)) (noted now : Option (List Note))
    (read : IsReadTo Means protocols may board known left number c before after noted now)
    (text : List ℕ) (ended : Bool) (is : IfSome left (λ input. text ≡ first_line input))
    (ends : IfSome left (λ input. ended ≡ has_line_feed input))
    (next_number : ℕ) (numbered : next_number ≡ number_behind number) where
  abbrev line : Line
  line = record { number = next_number; text = text }

  same : (input : List ℕ) → text ≡ first_line input
      → if_counts (record { number = number_behind number; text = first_line input }) ≡ if_counts
      line
  same input one = ap (λ n. if_counts (record { number = n; text = first_line input }))
      (sym numbered) ∙ ap (λ t. if_counts (record { number = next_number; text = t })) (sym one)

  -- the lines that are left are this one and others
  pub split : (input : List ℕ) → text ≡ first_line input → ended ≡ has_line_feed input
      → (behind : List Line) × (lines_behind number (lines_of input) ≡ if_counts line ++ behind)
  split input one end = by (has_line_feed input) refl where
    by : (b : Bool) → has_line_feed input ≡ b → (behind : List Line)
        × (lines_behind number (lines_of input) ≡ if_counts line ++ behind)
    by true feed = (
      lines_behind (number_behind number)
          (lines_of (after_line input)),
      lines-on number input feed
          ∙ ap (λ ls. ls ++ lines_behind (number_behind number) (lines_of (after_line input)))
          (same input one),
    )
    by false none = (
      [],
      lines-last number input none ∙ same input one
          ∙ sym (append-none (if_counts line)),
    )

  pub read-on : (rest : Option (List ℕ)) (mid : Check) (later : Option (List Judged))
      (late : Option (List Note)) → IfSome left (λ input. rest ≡ Some (after_line input))
      → ended ≡ true
      → ((next : Shows) (js : List Judged) (ns : List Note) → IsUnderWay may board next js ns c
      → AddsLines Means may board next js ns (if_counts line) mid after later now late)
      → IsReadTo Means protocols may board known rest next_number mid before later noted late
  read-on rest mid later late moved on adds =
      record {
        first = read.first ++ if_counts line;
        texts = read.texts ++ text ∷ [];
        adds = adds-more Means may board (nothing_shown protocols) [] [] read.first
            (if_counts line) c mid before after later noted now late read.adds adds;
        lines = by known left read.lines is ends moved;
      } where
        by : (known left : Option (List ℕ)) → IfSome known
            (λ t. IsSomeAnd left (IsLeft read.first read.texts number t))
            → IfSome left (λ input. text ≡ first_line input)
            → IfSome left (λ input. ended ≡ has_line_feed input)
            → IfSome left (λ input. rest ≡ Some (after_line input))
            → IfSome known (λ t. IsSomeAnd rest
            (IsLeft (read.first ++ if_counts line) (read.texts ++ text ∷ []) next_number t))
        by None left lines one end moved = tt
        by (Some t) None lines one end moved = absurd lines
        by (Some t) (Some input) lines one end moved =
            subst (λ o. IsSomeAnd o (IsLeft (read.first ++ if_counts line)
            (read.texts ++ text ∷ []) next_number t)) (sym moved) (
              lines.0 ∙ ap (λ ls. read.first ++ ls)
                  (lines-on number input (sym end ∙ on)
                  ∙ ap (λ ls. ls ++ lines_behind (number_behind number)
                  (lines_of (after_line input))) (same input one)
                  ∙ ap (λ n. if_counts line ++ lines_behind n (lines_of (after_line input)))
                  (sym numbered)) ∙ sym (append_assoc read.first (if_counts line)
                  (lines_behind next_number (lines_of (after_line input)))),
              lines.1 ∙ ap (λ ls. read.texts ++ ls)
                  (cut-line input (with-feed input (sym end ∙ on))
                  ∙ ap (λ l. l ∷ lines_of (after_line input)) (sym one))
                  ∙ sym (append_assoc read.texts (text ∷ []) (lines_of (after_line input))),
              numbered ∙ ap number_behind lines.2 ∙ sym (last-more 0 read.texts text),
            )

  -- the last line
  all-read : ended ≡ false → IfSome known (λ t. lines_left (whole t) ≡ read.first ++ if_counts line)
  all-read off = by known left read.lines is ends where
    by : (known left : Option (List ℕ)) → IfSome known
        (λ t. IsSomeAnd left (IsLeft read.first read.texts number t))
        → IfSome left (λ input. text ≡ first_line input)
        → IfSome left (λ input. ended ≡ has_line_feed input)
        → IfSome known (λ t. lines_left (whole t) ≡ read.first ++ if_counts line)
    by None left lines one end = tt
    by (Some t) None lines one end = absurd lines
    by (Some t) (Some input) lines one end = lines.0
        ∙ ap (λ ls. read.first ++ ls) (lines-last number input (sym end ∙ off) ∙ same input one)

  module _ (mid : Check) (later : Option (List Judged)) (late : Option (List Note))
      (off : ended ≡ false)
      (adds : (next : Shows) (js : List Judged) (ns : List Note)
      → IsUnderWay may board next js ns c
      → AddsLines Means may board next js ns (if_counts line) mid after later now late)
    where
      all : AddsLines Means may board (nothing_shown protocols) [] []
          (read.first ++ if_counts line) mid before later noted late
      all = adds-more Means may board (nothing_shown protocols) [] [] read.first
          (if_counts line) c mid before after later noted now late read.adds adds

      encodes : IfSome known (λ t. IsRecordText Means protocols board t (finished all.next))
      encodes = by known (all-read off) where
        by : (known : Option (List ℕ)) → IfSome known
            (λ t. lines_left (whole t) ≡ read.first ++ if_counts line)
            → IfSome known (λ t. IsRecordText Means protocols board t (finished all.next))
        by None lines = tt
        by (Some t) lines = (
          all.givens,
          subst (λ ls. AreMeant Means ls all.givens)
              (sym lines) all.meant,
          ap all_finished all.makes,
        )

      all-found : (checked : Checked) (last : Option (List Judged)) (end : Option (List Note))
          → ((shows : Shows) (js : List Judged) (ns : List Note)
          → IsUnderWay may board shows js ns mid
          → (remarks : List Note) × IsFoundOf may board (finished shows) js
          (ns ++ remarks) checked × Grows late end remarks)
          → last ≡ later → GivesFound Means protocols may board known before last noted end
          checked
      all-found checked last end finds same =
          let found = finds all.next ([] ++ all.is_told.more)
          ([] ++ all.is_told.remarks) all.is_told.way in
          record {
            read = finished all.next;
            judged = all.is_told.more;
            notes = all.is_told.remarks ++ found.0;
            of_record = encodes;
            found = found.1;
            given = subst (λ o. Grows before o all.is_told.more) (sym same) all.is_told.given;
            told = grows-more noted late end all.is_told.remarks found.0 all.is_told.told found.2;
          }

      nothing-found : (e : CheckError) → ((shows : Shows) (js : List Judged) (ns : List Note)
          → IsUnderWay may board shows js ns mid → IsEndWithout (finished shows) e)
          → IfSome known (λ t. IsFaultOfRecord Means protocols board t e)
      nothing-found e without = by e known (without all.next ([] ++ all.is_told.more)
          ([] ++ all.is_told.remarks) all.is_told.way) encodes where
            by : (e : CheckError) (known : Option (List ℕ)) → IsEndWithout (finished all.next) e
                → IfSome known (λ t. IsRecordText Means protocols board t (finished all.next))
                → IfSome known (λ t. IsFaultOfRecord Means protocols board t e)
            by e None none text = tt
            by error.Empty (Some t) none text = (finished all.next, text, none)
            by error.Memory (Some t) none text = tt
            by error.Write (Some t) none text = tt
            by error.Read (Some t) none text = tt
            by error.Size (Some t) none text = absurd none
            by (error.Board n) (Some t) none text = absurd none
            by (error.Plan n) (Some t) none text = absurd none
            by (error.Record n) (Some t) none text = absurd none
            by (error.Long n) (Some t) none text = absurd none

      pub ends-found : (r : Result Checked CheckError) (last : Option (List Judged))
          (end : Option (List Note))
          → ((shows : Shows) (js : List Judged) (ns : List Note)
          → IsUnderWay may board shows js ns mid
          → IfOk r (λ checked. (remarks : List Note)
          × IsFoundOf may board (finished shows) js (ns ++ remarks) checked
          × Grows late end remarks))
          → OnOk r (last ≡ later) → IfOk r (GivesFound Means protocols may board known before last
          noted end)
      ends-found (Ok checked) last end finds same = all-found checked last end finds same
      ends-found (Err e) last end finds same = tt

      pub ends-without : (r : Result Checked CheckError)
          → ((shows : Shows) (js : List Judged) (ns : List Note)
          → IsUnderWay may board shows js ns mid → IfErr r (IsEndWithout (finished shows)))
          → IfErr r (λ e. IfSome known (λ t. IsFaultOfRecord Means protocols board t e))
      ends-without (Ok checked) without = tt
      ends-without (Err e) without = nothing-found e without

  -- a line that can't be there
  pub line-fails : (e : CheckError) → ((next : Shows) (js : List Judged) (ns : List Note)
      → IsUnderWay may board next js ns c → IsStopBy Means board next line e)
      → IfSome known (λ t. IsFaultOfRecord Means protocols board t e)
  line-fails e stops = by e known left read.lines is ends stops where
    at_all : (e : CheckError) → ((next : Shows) (js : List Judged) (ns : List Note)
        → IsUnderWay may board next js ns c → IsStopBy Means board next line e)
        → IsStopBy Means board read.adds.next line e
    at_all e stops = stops read.adds.next ([] ++ read.adds.is_told.more)
        ([] ++ read.adds.is_told.remarks) read.adds.is_told.way

    by : (e : CheckError) (known left : Option (List ℕ))
        → IfSome known (λ t. IsSomeAnd left (IsLeft read.first read.texts number t))
        → IfSome left (λ input. text ≡ first_line input)
        → IfSome left (λ input. ended ≡ has_line_feed input)
        → ((next : Shows) (js : List Judged) (ns : List Note)
        → IsUnderWay may board next js ns c → IsStopBy Means board next line e)
        → IfSome known (λ t. IsFaultOfRecord Means protocols board t e)
    by e None left lines one end stops = tt
    by e (Some t) None lines one end stops = absurd lines
    by (error.Record n) (Some t) (Some input) lines one end stops =
        let parts = split input one end in
        let wrong = wrong-line Means may board (nothing_shown protocols) []
        [] read.first c before after noted now line n read.adds stops in (
          read.first ++ if_counts line,
          parts.0,
          wrong.0,
          lines.0 ∙ ap (λ ls. read.first ++ ls) parts.1
              ∙ sym (append_assoc read.first (if_counts line) parts.0),
          wrong.1,
          ap all_finished wrong.2,
        )
    by error.Memory (Some t) (Some input) lines one end stops = tt
    by error.Write (Some t) (Some input) lines one end stops = tt
    by error.Read (Some t) (Some input) lines one end stops = tt
    by error.Size (Some t) (Some input) lines one end stops = absurd (at_all error.Size stops)
    by (error.Board n) (Some t) (Some input) lines one end stops =
        absurd (at_all (error.Board n) stops)
    by (error.Plan n) (Some t) (Some input) lines one end stops =
        absurd (at_all (error.Plan n) stops)
    by (error.Long n) (Some t) (Some input) lines one end stops =
        absurd (at_all (error.Long n) stops)
    by error.Empty (Some t) (Some input) lines one end stops = absurd (at_all error.Empty stops)

-- a line that is not read
pub read-fails : (Means : List ℕ → List ℕ → Type 0) (protocols : List ℕ) (board : Board)
    (known left : Option (List ℕ)) (first : List Line) (texts : List (List ℕ)) (number at : ℕ)
    (e : InputError)
    → IfSome known (λ t. IsSomeAnd left (IsLeft first texts number t)) → at ≡ number_behind number
    → (IsErrOf {T = Bool} {E = InputError} (Err e) input.Size
    → IfSome left (λ i. INPUT_BYTES < length (first_line i)))
    → IfSome known (λ t. IsFaultOfRecord Means protocols board t (line_error e at))
read-fails Means protocols board None left first texts number at e lines numbered long = tt
read-fails Means protocols board (Some t) None first texts number at e lines numbered long =
    absurd lines
read-fails Means protocols board (Some t) (Some i) first texts number at input.Size lines numbered
    long =
    let more = long refl in
    let taken = list.length-take (position_or_len is_line_feed i) i in
    record {
      first = texts;
      line = first_line i;
      behind = lines_of (after_line i);
      lines_are = lines.1 ∙ ap (λ ls. texts ++ ls) (cut-line i (omega (arith, more, taken)));
      number_is = numbered ∙ ap number_behind lines.2 ∙ sym (last-more 0 texts (first_line i));
      long = more;
    }
read-fails Means protocols board (Some t) (Some i) first texts number at input.Read lines numbered
    long = tt
read-fails Means protocols board (Some t) (Some i) first texts number at input.Memory lines numbered
    long = tt
