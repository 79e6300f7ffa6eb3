-- What is found of a record before a line with a fault.
use Rattle.std.proofs.Common.{◌≡◌, ◌∙◌, ℕ, Bool, List, [], ◌++◌, Option, None, Some, IfSome, sym, ap, subst}
use Rattle.std.specs.Option.{IsSomeAnd}
use Rattle.scmi_board.specs.Lines.{Line, first_number_in, lines_behind, lines_left, lines_of, number_behind, whole}
use Rattle.scmi_io.specs.Lines.{first_line, has_line_feed}
use Rattle.scmi_io.specs.declared.input_error.InputError.{InputError}
use Rattle.scmi_io.specs.declared.input_error.InputError.TheVariants as input
use Rattle.scmi_plan.specs.Board.{Board}
use Rattle.scmi_judge.specs.declared.unseen.Unseen.{Unseen}
use Rattle.scmi_check.specs.Check.{GivesBefore, IsAtLine, IsBefore, IsEndWithout, IsOfBoard}
use Rattle.scmi_check.specs.CheckError.{IsRefused, line_error}
use Rattle.scmi_check.specs.Judged.{AreJudged}
use Rattle.scmi_check.specs.Listener.{Grows}
use Rattle.scmi_check.specs.RecordText.{RecordView, Shows, nothing_shown}
use Rattle.scmi_check.specs.UnderWay.{AddsLines, IsStopBy, if_counts}
use Rattle.scmi_check.specs.declared.check_error.CheckError.{CheckError}
use Rattle.scmi_check.specs.declared.check_error.CheckError.TheVariants as error
use Rattle.scmi_check.specs.declared.judged.Judged.{Judged}
use Rattle.scmi_check.specs.declared.note.Note.{Note}
use Rattle.scmi_check.specs.declared.under_way.Check.{Check}
use Rattle.scmi_check.proofs.Ending.{entries-are, notes-are}
use Rattle.scmi_check.proofs.Reading.{IsLeft, IsReadTo, split}
use Rattle.scmi_check.proofs.Telling.{counts-line}

-- errors that are neither of a board nor at a line
pub refused-elsewhere : (e : CheckError) → IsRefused e → ¬ (IsAtLine e)
refused-elsewhere error.Memory refused at = at
refused-elsewhere error.Write refused at = at
refused-elsewhere error.Size refused at = at
refused-elsewhere error.Read refused at = at
refused-elsewhere (error.Board n) refused at = at
refused-elsewhere (error.Plan n) refused at = at
refused-elsewhere (error.Record n) refused at = refused
refused-elsewhere (error.Long n) refused at = refused
refused-elsewhere error.Empty refused at = at

pub input-alone : (e : InputError) (number : ℕ) → ¬ (IsOfBoard (line_error e number))
input-alone input.Size number of = of
input-alone input.Read number of = of
input-alone input.Memory number of = of

pub stop-alone : (Means : List ℕ → List ℕ → Type 0) (board : Board) (all : Shows) (line : Line)
    (e : CheckError) → IsStopBy Means board all line e → ¬ (IsOfBoard e)
stop-alone Means board all line error.Memory stop of = of
stop-alone Means board all line error.Write stop of = of
stop-alone Means board all line error.Size stop of = stop
stop-alone Means board all line error.Read stop of = of
stop-alone Means board all line (error.Board n) stop of = stop
stop-alone Means board all line (error.Plan n) stop of = stop
stop-alone Means board all line (error.Record n) stop of = of
stop-alone Means board all line (error.Long n) stop of = of
stop-alone Means board all line error.Empty stop of = of

pub end-alone : (read : RecordView) (e : CheckError) → IsEndWithout read e → ¬ (IsOfBoard e)
end-alone read error.Memory end of = of
end-alone read error.Write end of = of
end-alone read error.Size end of = end
end-alone read error.Read end of = of
end-alone read (error.Board n) end of = end
end-alone read (error.Plan n) end of = end
end-alone read (error.Record n) end of = of
end-alone read (error.Long n) end of = of
end-alone read error.Empty end of = of

pub end-elsewhere : (read : RecordView) (e : CheckError) → IsEndWithout read e → ¬ (IsAtLine e)
end-elsewhere read error.Memory end at = at
end-elsewhere read error.Write end at = at
end-elsewhere read error.Size end at = at
end-elsewhere read error.Read end at = at
end-elsewhere read (error.Board n) end at = at
end-elsewhere read (error.Plan n) end at = at
end-elsewhere read (error.Record n) end at = end
end-elsewhere read (error.Long n) end at = end
end-elsewhere read error.Empty end at = at

-- the lines of a text begin with these, and go on with those at a fault
abbrev pub AreFirst : (text : List ℕ) (first : List Line) → CheckError → Type 0
AreFirst text first e =
    (behind : List Line) × (lines_left (whole text) ≡ first ++ behind) × IsBefore e behind

-- what the lines show that were read is found, and given to the listener
pub found-before : (Means : List ℕ → List ℕ → Type 0) (protocols : List ℕ) (may : Unseen)
    (board : Board) (known : Option (List ℕ)) (first : List Line) (c : Check)
    (before after : Option (List Judged)) (noted now : Option (List Note)) (e : CheckError)
    → AddsLines Means may board (nothing_shown protocols) [] [] first c before after noted now
    → IfSome known (λ t. AreFirst t first e)
    → IfSome known (λ t. GivesBefore Means protocols may board e t before after noted now)
found-before Means protocols may board None first c before after noted now e adds lines = tt
found-before Means protocols may board (Some t) first c before after noted now e adds lines =
    let more = adds.is_told.more in
    let remarks = adds.is_told.remarks in
    let way = adds.is_told.way in
    record {
      first = first;
      behind = lines.0;
      givens = adds.givens;
      shows = adds.next;
      judged = more;
      lines_are = lines.1;
      at = lines.2;
      meant = adds.meant;
      shows_is = adds.makes;
      are = subst (λ es. AreJudged may board es more)
          (sym (entries-are may board adds.next ([] ++ more) ([] ++ remarks) c way))
          way.judging.are;
      given = adds.is_told.given;
      told = subst (λ ns. Grows noted now ns)
          (sym (notes-are may board adds.next ([] ++ more) ([] ++ remarks) c way))
          adds.is_told.told;
    }

module _ (Means : List ℕ → List ℕ → Type 0) (protocols : List ℕ) (may : Unseen)
    (board : Board) (known left : Option (List ℕ)) (number : ℕ) (c : Check)
    (before after : Option (List Judged)) (noted now : Option (List Note))
    (read : IsReadTo Means protocols may board known left number c before after noted now) where
  -- before a line that is too long
  pub before-long : (e : InputError) (at : ℕ) → IsAtLine (line_error e at)
      → IfSome known (λ t. GivesBefore Means protocols may board (line_error e at) t before
      after noted now)
  before-long input.Size at here =
      found-before Means protocols may board known read.first c before after noted now
      (error.Long at) read.adds (by known left read.lines) where
        by : (known left : Option (List ℕ))
            → IfSome known (λ t. IsSomeAnd left (IsLeft read.first read.texts number t))
            → IfSome known (λ t. AreFirst t read.first (error.Long at))
        by None left lines = tt
        by (Some t) None lines = absurd lines
        by (Some t) (Some input) lines = (lines_behind number (lines_of input), lines.0, tt)
  before-long input.Read at here = absurd here
  before-long input.Memory at here = absurd here

  -- before a line that can't be there
  module _ (text : List ℕ) (ended : Bool) (is : IfSome left (λ input. text ≡ first_line input))
      (ends : IfSome left (λ input. ended ≡ has_line_feed input)) (next_number : ℕ)
      (numbered : next_number ≡ number_behind number) where
    abbrev line : Line
    line = record { number = next_number; text = text }

    pub before-line : (e : CheckError) → IsStopBy Means board read.adds.next line e → IsAtLine e
        → IfSome known (λ t. GivesBefore Means protocols may board e t before after noted now)
    before-line e stop at =
        found-before Means protocols may board known read.first c before after noted now e
        read.adds (by e known left read.lines is ends stop at) where
          by : (e : CheckError) (known left : Option (List ℕ))
              → IfSome known (λ t. IsSomeAnd left (IsLeft read.first read.texts number t))
              → IfSome left (λ input. text ≡ first_line input)
              → IfSome left (λ input. ended ≡ has_line_feed input)
              → IsStopBy Means board read.adds.next line e → IsAtLine e
              → IfSome known (λ t. AreFirst t read.first e)
          by e None left lines one end stop at = tt
          by e (Some t) None lines one end stop at = absurd lines
          by (error.Record n) (Some t) (Some input) lines one end stop at =
              let both = split Means protocols may board known left number c before after noted
              now read text ended is ends next_number numbered input one end in (
                if_counts line ++ both.0,
                lines.0 ∙ ap (λ ls. read.first ++ ls) both.1,
                ap (λ ls. first_number_in (ls ++ both.0)) (counts-line line stop.2)
                    ∙ ap (λ n. Some n) (sym stop.4),
              )
          by (error.Long n) (Some t) (Some input) lines one end stop at = absurd stop
          by error.Memory (Some t) (Some input) lines one end stop at = absurd at
          by error.Write (Some t) (Some input) lines one end stop at = absurd at
          by error.Size (Some t) (Some input) lines one end stop at = absurd at
          by error.Read (Some t) (Some input) lines one end stop at = absurd at
          by (error.Board n) (Some t) (Some input) lines one end stop at = absurd at
          by (error.Plan n) (Some t) (Some input) lines one end stop at = absurd at
          by error.Empty (Some t) (Some input) lines one end stop at = absurd at
