-- A check under way, line by line.
use Rattle.std.proofs.Common.{◌≡◌, ◌∙◌, ℕ, Bool, true, false, if◌then◌else◌, List, [], ◌∷◌, ◌++◌, length, Option, None, Some, Result, Ok, Err, refl, sym, ap, subst, append_assoc}
use Rattle.std.specs.Option.{option_map}
use Rattle.scmi_board.specs.LineError.{FailsUnless, script_refusal}
use Rattle.scmi_board.specs.Lines.{Line, is_significant}
use Rattle.scmi_board.specs.declared.line_error.LineError.{LineError}
use Rattle.scmi_board.specs.declared.line_error.LineError.TheVariants.{Form, Memory}
use Rattle.scmi_plan.specs.Board.{Board}
use Rattle.scmi_judge.specs.declared.unseen.Unseen.{Unseen}
use Rattle.scmi_text.specs.TextLines.{after_each_line}
use Rattle.scmi_check.specs.CheckError.{error_of_text}
use Rattle.scmi_check.specs.LeftOut.{with_notes}
use Rattle.scmi_check.specs.Listener.{Grows}
use Rattle.scmi_check.specs.Progress.{AreBeingJudged, FindsMore}
use Rattle.scmi_check.specs.RecordText.{AreMeant, Shows, onto, shows_of, told, with_line}
use Rattle.scmi_check.specs.UnderWay.{AddsLine, AddsLines, IsStop, IsStopBy, IsTold, IsUnderWay, if_counts}
use Rattle.scmi_check.specs.declared.check_error.CheckError.{CheckError}
use Rattle.scmi_check.specs.declared.check_error.CheckError.TheVariants as error
use Rattle.scmi_check.specs.declared.judged.Judged.{Judged}
use Rattle.scmi_check.specs.declared.note.Note.{Note}
use Rattle.scmi_check.specs.declared.record.Placed.{Placed}
use Rattle.scmi_check.specs.declared.progress.Progress.{Progress}
use Rattle.scmi_check.specs.declared.under_way.Check.{Check}
use Rattle.scmi_check.proofs.Growing.{append-none, grows-more, grows-none}
use Rattle.scmi_check.proofs.Onto.{line-onto}

-- no entry more is judged
pub finds-none : (may : Unseen) (board : Board) (placed : List Placed) (judged : List Judged)
    (p : Progress) (given : Option (List Judged)) → AreBeingJudged may board placed judged p
    → FindsMore may board (placed ++ []) judged p given given
finds-none may board placed judged p given being =
    record {
      more = [];
      are = subst (λ ps. AreBeingJudged may board ps (judged ++ []) p)
          (sym (append-none placed)) (subst (λ js. AreBeingJudged may board placed js p)
          (sym (append-none judged)) being);
      given = grows-none given;
    }

-- some entries, and one more
pub finds-more : (may : Unseen) (board : Board) (before placed : List Placed) (one : Placed)
    (judged : List Judged) (mid new : Progress) (first second third : Option (List Judged))
    → FindsMore may board (before ++ placed) judged mid first second
    → ((so_far : List Judged) → AreBeingJudged may board (before ++ placed) so_far mid
    → FindsMore may board ((before ++ placed) ++ one ∷ []) so_far new second third)
    → FindsMore may board (before ++ (placed ++ one ∷ [])) judged new first third
finds-more may board before placed one judged mid new first second third found next =
    let later = next (judged ++ found.more) found.are in
    record {
      more = found.more ++ later.more;
      are = subst (λ ps. AreBeingJudged may board ps (judged ++ (found.more ++ later.more)) new)
          (append_assoc before placed (one ∷ []))
          (subst (λ js. AreBeingJudged may board ((before ++ placed) ++ one ∷ []) js new)
          (append_assoc judged found.more later.more) later.are);
      given = grows-more first second third found.more later.more found.given later.given;
    }

-- what lines show once its entries and notes are told
onto-told : (placed : List Placed) (notes : List Note) (shows : Shows)
    → onto placed notes shows ≡ onto (placed ++ shows.entries) (notes ++ shows.left.notes)
    (told shows)
onto-told placed notes shows =
    ap (λ (ps : List Placed). record shows {
      entries = ps;
      left = with_notes shows.left (notes ++ shows.left.notes);
    })
    (sym (append-none (placed ++ shows.entries)))
    ∙ ap (λ (ns : List Note). record shows {
      entries = (placed ++ shows.entries) ++ [];
      left = with_notes shows.left ns;
    }) (sym (append-none (notes ++ shows.left.notes)))

-- entries and notes are told
pub told-way : (may : Unseen) (board : Board) (placed : List Placed) (judged : List Judged)
    (notes : List Note) (shows : Shows) (new : Check) (before after : Option (List Judged))
    (noted now : Option (List Note))
    → new.agents ≡ length board.agents → shows_of new.so_far ≡ told shows
    → FindsMore may board (placed ++ shows.entries) judged new.progress before after
    → Grows noted now shows.left.notes
    → IsTold may board (onto placed notes shows) judged notes new before after noted now
told-way may board placed judged notes shows new before after noted now agents is finds grows =
    record {
      more = finds.more;
      remarks = shows.left.notes;
      way = record {
        placed = placed ++ shows.entries;
        agents_are = agents;
        all_is = onto-told placed notes shows
            ∙ ap (onto (placed ++ shows.entries) (notes ++ shows.left.notes)) (sym is);
        none_left = ap (λ (s : Shows). s.entries) is;
        none_noted = ap (λ (s : Shows). s.left.notes) is;
        judging = finds.are;
      };
      given = finds.given;
      told = grows;
    }

-- a line that can be there
module _ (may : Unseen) (board : Board) (all : Shows) (judged : List Judged)
    (notes : List Note) (old : Check) (way : IsUnderWay may board all judged notes old)
    (line : Line) where
  same-line : (made : Option Shows) → with_line old.agents (shows_of old.so_far) line ≡ made
      → with_line (length board.agents) all line ≡ option_map (onto way.placed notes) made
  same-line made is =
      ap (λ (s : Shows). with_line (length board.agents) s line) way.all_is
      ∙ line-onto way.placed notes (length board.agents) (shows_of old.so_far) line
      ∙ ap (option_map (onto way.placed notes))
      (ap (λ n. with_line n (shows_of old.so_far) line) (sym way.agents_are) ∙ is)

  pub adds-line : (mid : Shows) (new : Check) (before after : Option (List Judged))
      (noted now : Option (List Note)) → with_line old.agents (shows_of old.so_far) line ≡ Some mid
      → IsTold may board (onto way.placed notes mid) judged notes new before after noted now
      → AddsLine may board all judged notes line new before after noted now
  adds-line mid new before after noted now is tells =
      record { next = onto way.placed notes mid; makes = same-line (Some mid) is; is_told = tells }

  -- a line that can't be there
  pub stops-line : with_line old.agents (shows_of old.so_far) line ≡ None
      → with_line (length board.agents) all line ≡ None
  stops-line is = same-line None is

  -- for this reason it is not read
  pub fails-line : (fault : LineError) (e : CheckError)
      → FailsUnless fault (with_line old.agents (shows_of old.so_far) line)
      → e ≡ error_of_text (script_refusal fault line.number)
      → IsStop (with_line (length board.agents) all line) line.number e
  fails-line Form e fails is = subst (IsStop (with_line (length board.agents) all line) line.number)
      (sym is) (stops-line fails, refl)
  fails-line Memory e fails is = subst (IsStop
      (with_line (length board.agents) all line) line.number) (sym is) tt

-- lines that make something one after the other
module _ {A : Type 0} (with_one : A → Line → Option A) where
  each-none : (value : A) → after_each_line with_one value [] ≡ Ok value
  unfolding after_each_line
  each-none value = refl

  abbrev from : ℕ → List Line → Option A → Result A ℕ
  from number lines next = elim next [
    | None ↦ Err number
    | Some made ↦ after_each_line with_one made
        lines
  ]

  each-first : (value : A) (line : Line) (lines : List Line)
      → after_each_line with_one value (line ∷ lines) ≡ from line.number lines (with_one value line)
  unfolding after_each_line
  each-first value line lines = refl

  pub each-one : (value next : A) (line : Line) → with_one value line ≡ Some next
      → after_each_line with_one value (line ∷ []) ≡ Ok next
  each-one value next line is = each-first value line [] ∙ ap (from line.number []) is
      ∙ each-none next

  pub each-stop : (value : A) (line : Line) → with_one value line ≡ None
      → after_each_line with_one value (line ∷ []) ≡ Err line.number
  each-stop value line is = each-first value line [] ∙ ap (from line.number []) is

  same-value : (a b : A) → ◌≡◌ {A = Result A ℕ} (Ok a) (Ok b) → a ≡ b
  same-value a b same = cc

  pub each-append : (value next : A) (first last : List Line)
      → after_each_line with_one value first ≡ Ok next
      → after_each_line with_one value (first ++ last) ≡ after_each_line with_one next last
  each-append value next [] last is = ap (λ (v : A). after_each_line with_one v last)
      (same-value value next (sym (each-none value) ∙ is))
  each-append value next (line ∷ first) last is = each-first value line (first ++ last)
      ∙ by (λ made other. each-append made next first last other) (with_one value line)
      (sym (each-first value line first) ∙ is) where
        by : ((made : A) → after_each_line with_one made first ≡ Ok next
            → after_each_line with_one made (first ++ last) ≡ after_each_line with_one next last)
            → (made : Option A) → from line.number first made ≡ Ok next
            → from line.number (first ++ last) made ≡ after_each_line with_one next last
        by again None other = absurd cc
        by again (Some made) other = again made other

meant-append : (Means : List ℕ → List ℕ → Type 0) (first last firsts thens : List Line)
    → AreMeant Means first firsts → AreMeant Means last thens
    → AreMeant Means (first ++ last) (firsts ++ thens)
meant-append Means [] last [] thens is more = more
meant-append Means [] last (given ∷ firsts) thens is more = absurd is
meant-append Means (line ∷ first) last [] thens is more = absurd is
meant-append Means (line ∷ first) last (given ∷ firsts) thens is more =
    (is.0, is.1, meant-append Means first last firsts thens is.2 more)

pub counts-line : (line : Line) → is_significant line.text ≡ true → if_counts line ≡ line ∷ []
counts-line line is = ap (λ (b : Bool). if b then line ∷ [] else []) is

skips-line : (line : Line) → is_significant line.text ≡ false → if_counts line ≡ []
skips-line line is = ap (λ (b : Bool). if b then line ∷ [] else []) is

-- no line
pub adds-none : (Means : List ℕ → List ℕ → Type 0) (may : Unseen) (board : Board)
    (all : Shows) (judged : List Judged) (notes : List Note) (c : Check)
    (given : Option (List Judged)) (noted : Option (List Note))
    → IsUnderWay may board all judged notes c
    → AddsLines Means may board all judged notes [] c given given noted noted
adds-none Means may board all judged notes c given noted way =
    record {
      givens = [];
      meant = tt;
      next = all;
      makes = each-none (with_line (length board.agents)) all;
      is_told = record {
        more = [];
        remarks = [];
        way = subst (λ js. IsUnderWay may board all js (notes ++ []) c)
            (sym (append-none judged)) (subst (λ ns. IsUnderWay may board all judged ns c)
            (sym (append-none notes)) way);
        given = grows-none given;
        told = grows-none noted;
      };
    }

-- a line that is skipped
pub adds-nothing : (Means : List ℕ → List ℕ → Type 0) (may : Unseen) (board : Board)
    (all : Shows) (judged : List Judged) (notes : List Note) (line : Line) (c : Check)
    (given : Option (List Judged)) (noted : Option (List Note))
    → is_significant line.text ≡ false → IsUnderWay may board all judged notes c
    → AddsLines Means may board all judged notes (if_counts line) c given given noted noted
adds-nothing Means may board all judged notes line c given noted skips way =
    subst (λ ls. AddsLines Means may board all judged notes ls c given given noted noted)
    (sym (skips-line line skips)) (adds-none Means may board all judged notes c given noted
    way)

-- a line that counts
pub adds-given : (Means : List ℕ → List ℕ → Type 0) (may : Unseen) (board : Board)
    (all : Shows) (judged : List Judged) (notes : List Note) (line : Line) (given : List ℕ)
    (c : Check) (before after : Option (List Judged)) (noted now : Option (List Note))
    → is_significant line.text ≡ true → Means line.text given
    → AddsLine may board all judged notes
    (record { number = line.number; text = given }) c before after noted now
    → AddsLines Means may board all judged notes (if_counts line) c before after noted now
adds-given Means may board all judged notes line given c before after noted now counts means
    adds =
    let read : Line = record { number = line.number; text = given } in
    subst (λ ls. AddsLines Means may board all judged notes ls c before after noted now)
    (sym (counts-line line counts))
    (record {
      givens = read ∷ [];
      meant = (refl, means, tt);
      next = adds.next;
      makes = each-one (with_line (length board.agents)) all adds.next read adds.makes;
      is_told = adds.is_told;
    })

-- a line that counts, and can't be there
pub stops-given : (Means : List ℕ → List ℕ → Type 0) (board : Board) (all : Shows) (line : Line)
    (given : List ℕ) (e : CheckError) → is_significant line.text ≡ true → Means line.text given
    → IsStop (with_line (length board.agents) all (record { number = line.number; text = given }))
    line.number e → IsStopBy Means board all line e
stops-given Means board all line given (error.Record number) counts means stop =
    (given, means, counts, stop.0, stop.1)
stops-given Means board all line given error.Memory counts means stop = tt
stops-given Means board all line given error.Write counts means stop = tt
stops-given Means board all line given error.Size counts means stop = absurd stop
stops-given Means board all line given error.Read counts means stop = absurd stop
stops-given Means board all line given (error.Board number) counts means stop = absurd stop
stops-given Means board all line given (error.Plan rule) counts means stop = absurd stop
stops-given Means board all line given (error.Long number) counts means stop = absurd stop
stops-given Means board all line given error.Empty counts means stop = absurd stop

-- lines, and last others
pub adds-more : (Means : List ℕ → List ℕ → Type 0) (may : Unseen) (board : Board)
    (all : Shows) (judged : List Judged) (notes : List Note) (first last : List Line)
    (mid new : Check) (j0 j1 j2 : Option (List Judged)) (n0 n1 n2 : Option (List Note))
    → AddsLines Means may board all judged notes first mid j0 j1 n0 n1
    → ((next : Shows) (js : List Judged) (ns : List Note) → IsUnderWay may board next js ns mid
    → AddsLines Means may board next js ns last new j1 j2 n1 n2)
    → AddsLines Means may board all judged notes (first ++ last) new j0 j2 n0 n2
adds-more Means may board all judged notes first last mid new j0 j1 j2 n0 n1 n2 one other =
    let two = other one.next (judged ++ one.is_told.more)
    (notes ++ one.is_told.remarks) one.is_told.way in
    record {
      givens = one.givens ++ two.givens;
      meant = meant-append Means first last one.givens two.givens one.meant two.meant;
      next = two.next;
      makes = each-append (with_line (length board.agents)) all one.next one.givens two.givens
          one.makes ∙ two.makes;
      is_told = record {
        more = one.is_told.more ++ two.is_told.more;
        remarks = one.is_told.remarks ++ two.is_told.remarks;
        way = subst (λ js. IsUnderWay may board two.next js
            (notes ++ (one.is_told.remarks ++ two.is_told.remarks)) new)
            (append_assoc judged one.is_told.more two.is_told.more)
            (subst (λ ns. IsUnderWay may board two.next
            ((judged ++ one.is_told.more) ++ two.is_told.more) ns new)
            (append_assoc notes one.is_told.remarks two.is_told.remarks) two.is_told.way);
        given = grows-more j0 j1 j2 one.is_told.more two.is_told.more one.is_told.given
            two.is_told.given;
        told = grows-more n0 n1 n2 one.is_told.remarks two.is_told.remarks one.is_told.told
            two.is_told.told;
      };
    }

-- the first of these lines are read up to one that can't be there
pub wrong-line : (Means : List ℕ → List ℕ → Type 0) (may : Unseen) (board : Board)
    (all : Shows) (judged : List Judged) (notes : List Note) (first : List Line) (mid : Check)
    (j0 j1 : Option (List Judged)) (n0 n1 : Option (List Note)) (line : Line) (number : ℕ)
    → AddsLines Means may board all judged notes first mid j0 j1 n0 n1
    → ((next : Shows) (js : List Judged) (ns : List Note) → IsUnderWay may board next js ns mid
    → IsStopBy Means board next line (error.Record number))
    → (givens : List Line) × AreMeant Means (first ++ if_counts line) givens
    × (after_each_line (with_line (length board.agents)) all givens ≡ Err number)
wrong-line Means may board all judged notes first mid j0 j1 n0 n1 line number adds stops =
    let stop = stops adds.next (judged ++ adds.is_told.more)
    (notes ++ adds.is_told.remarks) adds.is_told.way in
    let read : Line = record { number = line.number; text = stop.0 } in (
      adds.givens ++ read ∷ [],
      meant-append Means first (if_counts line) adds.givens (read ∷ []) adds.meant
          (subst (λ ls. AreMeant Means ls (read ∷ [])) (sym (counts-line line stop.2))
          (refl, stop.1, tt)),
      each-append (with_line (length board.agents)) all adds.next adds.givens (read ∷ []) adds.makes
          ∙ each-stop (with_line (length board.agents)) adds.next read stop.3
          ∙ ap (λ n. Err n) (sym stop.4),
    )
