-- A check of a record, from the bytes that are read to the status.
use Rattle.std.specs.Prelude.{◌≡◌, ◌⊎◌, ℕ, ◌+◌, ◌<◌, ◌++◌, [], ◌∷◌, ⊤, true, false, List, length, Option, IfSome, Some, Ok, Err}
use Rattle.std.specs.Io.KnownBytes.{Appends}
use Rattle.std.specs.List.{All, list_any}
use Rattle.scmi_board.specs.BoardLines.{Described}
use Rattle.scmi_board.specs.Lines.{Line, first_number_in, last_behind, lines_left, lines_of, whole}
use Rattle.scmi_board.specs.ValidBoard.{IsBoardFault, IsBoardText, said_in, with_its_lines}
use Rattle.scmi_board.specs.declared.board_error.BoardError.TheVariants as board
use Rattle.scmi_io.specs.FaultLine.{fault_line}
use Rattle.scmi_io.specs.declared.input.TheConstants.{INPUT_BYTES}
use Rattle.scmi_plan.specs.Board.{Board}
use Rattle.scmi_plan.specs.PlanError.{number}
use Rattle.scmi_plan.specs.declared.plan_error.PlanError.{PlanError}
use Rattle.scmi_judge.specs.Guesses.{AreMany}
use Rattle.scmi_judge.specs.declared.unseen.Unseen.{Unseen}
use Rattle.scmi_text.specs.TextLines.{after_each_line}
use Rattle.scmi_check.specs.CheckError.{fault_status, fault_text}
use Rattle.scmi_check.specs.Checked.{status_by}
use Rattle.scmi_check.specs.Judged.{AreJudged, DoesFit, behind, does_differ, line_at, shows_platform}
use Rattle.scmi_check.specs.Listener.{Grows}
use Rattle.scmi_check.specs.RecordText.{AreMeant, RecordView, Shows, nothing_shown, record_of, with_line}
use Rattle.scmi_check.specs.declared.check_error.CheckError.{CheckError}
use Rattle.scmi_check.specs.declared.check_error.CheckError.TheVariants.{Size, Read, Board as BoardLine, Plan as PlanRule, Record, Long, Empty, Memory, Write}
use Rattle.scmi_check.specs.declared.checked.Checked.{Checked}
use Rattle.scmi_check.specs.declared.checked.TheConstants.{DIFFERS, UNSURE}
use Rattle.scmi_check.specs.declared.check.TheConstants.{PLACES}
use Rattle.scmi_check.specs.declared.judged.Judged.{Judged}
use Rattle.scmi_check.specs.declared.note.Note.{Note}
use Rattle.scmi_check.specs.declared.options.CheckOptions.{CheckOptions}

-- a text is a board that keeps every rule, and lines `channel` that give its agents these channels
pub record IsPlanText (text : List ℕ) (board : Board) : Type 0 where
  pub said : Described
  pub of_text : IsBoardText text said
  pub board_is : board ≡ with_its_lines said

-- a text encodes a record of a platform of a board, if these protocols are judged, with what may be
-- read in the places of its lines
abbrev pub IsRecordText : (List ℕ → List ℕ → Type 0) → List ℕ → Board → List ℕ → RecordView → Type 0
IsRecordText Means judged board text read =
    (givens : List Line) × AreMeant Means (lines_left (whole text)) givens
    × (record_of judged (length board.agents) givens ≡ Ok read)

-- this is found of a record of a platform of a board. At least one answer or message is to be
-- judged: of the entries that are judged, however many are taken from the first on, none differs if
-- and only if they have a legal history. If not all are judged, and none of these differs, then
-- there are more platforms than are kept, no two the same, each of which may be behind these
pub record IsFoundOf (may : Unseen) (board : Board) (read : RecordView) (judged : List Judged)
    (notes : List Note) (checked : Checked) : Type 0 where
  pub some : list_any shows_platform read.entries ≡ true
  pub are : AreJudged may board read.entries judged
  pub many : length judged < length read.entries → All DoesFit judged
      → AreMany may board (behind judged) (2 + PLACES)
  pub left_is : read.left
      ≡ record { notes = notes; skipped = checked.skipped; protocols = checked.protocols.items }
  pub unsure_is : checked.unsure ≡ line_at read.entries (length judged)
  pub differs_is : checked.differs ≡ list_any does_differ judged

-- nothing is found of a record without an answer and a message, or memory or the output is refused
abbrev pub IsEndWithout : RecordView → CheckError → Type 0
IsEndWithout read Empty = list_any shows_platform read.entries ≡ false
IsEndWithout read Memory = ⊤
IsEndWithout read Write = ⊤
IsEndWithout read _ = ⊥

-- this is found of a record; if the texts are known, they encode that board and that record
pub record IsCheckedRecord (Means : List ℕ → List ℕ → Type 0) (options : CheckOptions)
    (board_known record_known : Option (List ℕ)) (judged : List Judged) (notes : List Note)
    (checked : Checked) : Type 0 where
  pub board : Board
  pub read : RecordView
  pub of_board : IfSome board_known (λ text. IsPlanText text board)
  pub of_record : IfSome record_known (λ text. IsRecordText Means options.protocols.now board text
      read)
  pub found : IsFoundOf options.unseen board read judged notes checked

-- the same, and the listener was given these verdicts and notes
pub record GivesCheckedRecord (Means : List ℕ → List ℕ → Type 0) (options : CheckOptions)
    (board_known record_known : Option (List ℕ)) (before after : Option (List Judged))
    (noted now : Option (List Note)) (checked : Checked) : Type 0 where
  pub judged : List Judged
  pub notes : List Note
  pub is_checked : IsCheckedRecord Means options board_known record_known judged notes checked
  pub given : Grows before after judged
  pub told : Grows noted now notes

-- the same of a record of a platform of this board
pub record GivesFound (Means : List ℕ → List ℕ → Type 0) (protocols : List ℕ) (may : Unseen)
    (board : Board) (known : Option (List ℕ)) (before after : Option (List Judged))
    (noted now : Option (List Note)) (checked : Checked) : Type 0 where
  pub read : RecordView
  pub judged : List Judged
  pub notes : List Note
  pub of_record : IfSome known (λ text. IsRecordText Means protocols board text read)
  pub found : IsFoundOf may board read judged notes checked
  pub given : Grows before after judged
  pub told : Grows noted now notes

-- a record was checked, and this is the status of what was found
pub record IsChecked (Means : List ℕ → List ℕ → Type 0) (options : CheckOptions)
    (board_known record_known : Option (List ℕ)) (status : ℕ) : Type 0 where
  pub judged : List Judged
  pub notes : List Note
  pub checked : Checked
  pub record_is : IsCheckedRecord Means options board_known record_known judged notes checked
  pub status_is : status ≡ status_by checked.differs checked.unsure

-- a status is that of a record that was checked
abbrev pub HasVerdict : ℕ → Type 0
HasVerdict status = (status ≡ 0) ⊎ (status ≡ DIFFERS) ⊎ (status ≡ UNSURE)

-- a fault of a board's text: its length, its first line that is not one of a board or follows it,
-- or the first rule that the board breaks. A failed read, or out of memory, shows nothing of it
abbrev pub IsFaultOfBoard : List ℕ → CheckError → Type 0
IsFaultOfBoard text Size = INPUT_BYTES < length text
IsFaultOfBoard text (BoardLine line) = said_in text ≡ Err line
IsFaultOfBoard text (PlanRule rule) = (broken : PlanError) × IsBoardFault text (board.Rule broken)
    × (rule ≡ number broken)
IsFaultOfBoard text Read = ⊤
IsFaultOfBoard text Memory = ⊤
IsFaultOfBoard text _ = ⊥

-- a text encodes a record of which nothing is judged
abbrev pub IsNothingJudged : (List ℕ → List ℕ → Type 0) → List ℕ → Board → List ℕ → Type 0
IsNothingJudged Means judged board text = (read : RecordView)
    × IsRecordText Means judged board text read
    × (list_any shows_platform read.entries ≡ false)

-- the first lines of a text encode a record up to the last of them, which can't be there
abbrev pub IsWrongAt : (List ℕ → List ℕ → Type 0) → List ℕ → Board → List ℕ → ℕ → Type 0
IsWrongAt Means judged board text line =
    (first behind givens : List Line) × (lines_left (whole text) ≡ first ++ behind)
    × AreMeant Means first givens × (record_of judged (length board.agents) givens ≡ Err line)

-- the line of a text with this number is longer than a line may be
pub record IsTooLong (text : List ℕ) (number : ℕ) : Type 0 where
  pub first : List (List ℕ)
  pub line : List ℕ
  pub behind : List (List ℕ)
  pub lines_are : lines_of text ≡ first ++ line ∷ behind
  pub number_is : number ≡ last_behind 0 (first ++ line ∷ [])
  pub long : INPUT_BYTES < length line

-- a fault at a line of a record
abbrev pub IsAtLine : CheckError → Type 0
IsAtLine (Record line) = ⊤
IsAtLine (Long line) = ⊤
IsAtLine _ = ⊥

-- these lines begin with the one of a fault; one that is too long need not be among them, since it
-- may be one that is skipped
abbrev pub IsBefore : CheckError → List Line → Type 0
IsBefore (Record line) lines = first_number_in lines ≡ Some line
IsBefore _ lines = ⊤

-- this is found of the lines of a text before one with a fault, and given to the listener
pub record GivesBefore (Means : List ℕ → List ℕ → Type 0) (protocols : List ℕ) (may : Unseen)
    (board : Board) (fault : CheckError) (text : List ℕ) (before after : Option (List Judged))
    (noted now : Option (List Note)) : Type 0 where
  pub first : List Line
  pub behind : List Line
  pub givens : List Line
  pub shows : Shows
  pub judged : List Judged
  pub lines_are : lines_left (whole text) ≡ first ++ behind
  pub at : IsBefore fault behind
  pub meant : AreMeant Means first givens
  pub shows_is : after_each_line (with_line (length board.agents)) (nothing_shown protocols) givens
      ≡ Ok shows
  pub are : AreJudged may board shows.entries judged
  pub given : Grows before after judged
  pub told : Grows noted now shows.left.notes

-- the same, if the texts are known
pub record GivesBeforeFault (Means : List ℕ → List ℕ → Type 0) (options : CheckOptions)
    (board_known record_known : Option (List ℕ)) (fault : CheckError)
    (before after : Option (List Judged)) (noted now : Option (List Note)) : Type 0 where
  pub board : Board
  pub of_board : IfSome board_known (λ text. IsPlanText text board)
  pub found : IfSome record_known (λ text. GivesBefore Means options.protocols.now options.unseen
      board fault text before after noted now)

-- a fault of a record's text, if the platform is of this board and these protocols are judged: its
-- first line that is not one of it, or one that is too long, or that nothing is judged
abbrev pub IsFaultOfRecord : (List ℕ → List ℕ → Type 0) → List ℕ → Board → List ℕ → CheckError
    → Type 0
IsFaultOfRecord Means judged board text (Record line) = IsWrongAt Means judged board text line
IsFaultOfRecord Means judged board text Empty = IsNothingJudged Means judged board text
IsFaultOfRecord Means judged board text (Long line) = IsTooLong text line
IsFaultOfRecord Means judged board text Read = ⊤
IsFaultOfRecord Means judged board text Memory = ⊤
IsFaultOfRecord Means judged board text Write = ⊤
IsFaultOfRecord Means judged board text _ = ⊥

-- a fault of the board's text, or else of the record's
abbrev pub IsFaultOf : (List ℕ → List ℕ → Type 0) → CheckOptions → Option (List ℕ) → Option (List ℕ)
    → CheckError → Type 0
IsFaultOf Means options board_known record_known fault =
    IfSome board_known (λ text. IsFaultOfBoard text fault)
    ⊎ ((board : Board) × IfSome board_known (λ text. IsPlanText text board)
    × IfSome record_known (λ text. IsFaultOfRecord Means options.protocols.now board text
    fault))

-- a fault that only a board's text has
abbrev pub IsOfBoard : CheckError → Type 0
IsOfBoard Size = ⊤
IsOfBoard (BoardLine line) = ⊤
IsOfBoard (PlanRule rule) = ⊤
IsOfBoard _ = ⊥

-- a check ends with this status and the line of a fault, which has that status and is one of the
-- texts, if they are known. Nothing is written before it if it is the board's
pub record EndsWithFault (Means : List ℕ → List ℕ → Type 0) (options : CheckOptions)
    (board_known record_known : Option (List ℕ)) (status : ℕ)
    (old new : Option (List ℕ)) : Type 0 where
  pub fault : CheckError
  pub status_is : status ≡ fault_status fault
  pub of_texts : IsFaultOf Means options board_known record_known fault
  pub before : Option (List ℕ)
  pub alone : IsOfBoard fault → before ≡ old
  pub text : Appends before new (fault_line (fault_text fault))
