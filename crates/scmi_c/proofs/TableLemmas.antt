-- Tables of a board, row by row.
use Rattle.std.proofs.Common.{◌≡◌, ◌≢◌, ◌<◌, ◌≤◌, ◌⊎◌, inl, inr, ◌+◌, ℕ, zero, suc, nat_le, nat_lt, true, false, Bool, Some, List, [], ◌∷◌, ◌++◌, length, take, drop, get_or, slice_index, refl, sym, ap, subst, ◌∙◌, append_assoc, append-nil, arith, ◌&&◌}
use Rattle.std.specs.List.{All, list_all, list_any, position_or_len}
use Rattle.std.specs.Str.{IsUtf8}
use Rattle.std.proofs.Math.Seq.{take-suc}
use Rattle.std.proofs.lemmas.Bool.{and_parts, ltb-true}
use Rattle.std.proofs.lemmas.Bool.Decides.{leb_tells}
use Rattle.std.proofs.lemmas.List.{get_or_default, length-take-le}
use Rattle.std.proofs.lemmas.List.Elements.{All-map, All-take}
use Rattle.std.proofs.lemmas.List.Sums.{AllPass-from_list_all, fold-append}
use Rattle.std.proofs.lemmas.Str.{IsUtf8-from_ascii}
use Rattle.scmi_plan.specs.Board.{Board, IsNameOf}
use Rattle.scmi_plan.specs.BoardRows.{HasNames}
use Rattle.scmi_plan.specs.PlanError.{first_fault, has_valid_counts}
use Rattle.scmi_plan.specs.declared.plan_error.PlanError.{PlanError}
use Rattle.scmi_plan.specs.declared.plan_error.PlanError.TheVariants as error
use Rattle.scmi_plan.proofs.FaultLemmas.{All-of_map, name_fault}
use Rattle.scmi_board.specs.declared.board_line.BoardLine.{BoardLine}
use Rattle.scmi_board.specs.declared.board_line.BoardLine.TheVariants as said
use Rattle.scmi_board.specs.BoardLines.{with_board_line, with_lines}
use Rattle.scmi_c.specs.Tables.{HasRowsOf, BoardTables, board_in, clock_in, domain_in, is_agent_row, is_clock_row, is_domain_row, is_heading, is_named, is_said_row, is_well_formed, is_zero, lines_from, name_in}

-- each byte of a list of ASCII, and what follows it
below : (bytes : List ℕ) (i : ℕ) → All (λ byte. nat_lt byte 128 ≡ true) bytes
    → slice_index bytes i < 128
below [] zero all = omega arith
below [] (suc i) all = omega arith
below (byte ∷ bytes) zero all = ltb-true byte 128 (all 0 0 (omega arith))
below (byte ∷ bytes) (suc i) all = below bytes i (λ k d small. all (suc k) d (omega (arith, small)))

-- the beginning of a name is a text
pub name_utf8 : (name : List ℕ) (n : ℕ) → is_named name ≡ true → IsUtf8 (take n name)
name_utf8 name n is =
    let both = (and_parts (list_any is_zero name && list_all (λ byte. nat_lt byte 128) name)
    (list_all is_zero (drop (position_or_len is_zero name) name)) is).0 in
    let low : list_all (λ byte. nat_lt byte 128) name ≡ true =
    (and_parts (list_any is_zero name) (list_all (λ byte. nat_lt byte 128) name) both).1 in
    IsUtf8-from_ascii (take n name) (λ i. below (take n name) i (All-take (λ byte. nat_lt byte 128
    ≡ true) n name (AllPass-from_list_all (λ byte. nat_lt byte 128) name low)))

-- what holds for the rows of well-formed tables
parts : (a b c d : Bool) → a && b && c && d ≡ true
    → (a ≡ true) × (b ≡ true) × (c ≡ true) × (d ≡ true)
parts a b c d is =
    let p = and_parts (a && b && c) d is in
    let q = and_parts (a && b) c p.0 in
    let r = and_parts a b q.0 in
    (r.0, r.1, q.1, p.1)

all_parts : (t : BoardTables) → is_well_formed t ≡ true → (is_heading t.heading ≡ true) × (list_all
    (is_agent_row (length t.devices)) t.agents ≡ true) × (list_all is_domain_row t.domains ≡ true)
    × (list_all (is_clock_row (length t.rates)) t.clocks ≡ true)
all_parts t is =
    parts (is_heading t.heading) (list_all (is_agent_row (length t.devices)) t.agents)
    (list_all is_domain_row t.domains) (list_all (is_clock_row (length t.rates)) t.clocks) is

pub heading_formed : (t : BoardTables) → is_well_formed t ≡ true → is_heading t.heading ≡ true
heading_formed t is = (all_parts t is).0

agents_formed : (t : BoardTables) → is_well_formed t ≡ true
    → All (λ row. is_agent_row (length t.devices) row ≡ true) t.agents
agents_formed t is =
    AllPass-from_list_all (is_agent_row (length t.devices)) t.agents (all_parts t is).1

pub domains_formed : (t : BoardTables) → is_well_formed t ≡ true
    → All (λ row. is_domain_row row ≡ true) t.domains
domains_formed t is = AllPass-from_list_all is_domain_row t.domains (all_parts t is).2

pub clocks_formed : (t : BoardTables) → is_well_formed t ≡ true
    → All (λ row. is_clock_row (length t.rates) row ≡ true) t.clocks
clocks_formed t is =
    AllPass-from_list_all (is_clock_row (length t.rates)) t.clocks (all_parts t is).3

pub agents_named : (t : BoardTables) → is_well_formed t ≡ true
    → All (λ row. is_named row.name ≡ true) t.agents
agents_named t is = λ k d small.
    (and_parts (is_named (get_or t.agents k d).name)
    (is_said_row (length t.devices) (get_or t.agents k d)) (agents_formed t is k d small)).0

-- whether the board of tables may have the name of a row
abbrev IsNamedIn : BoardTables → List ℕ → Type 0
IsNamedIn t name = IsNameOf (board_in t) (name_in name)

-- the names of tables whose names are valid, and not, are those of their board
pub rows_named : (t : BoardTables) → IsNamedIn t t.heading.vendor → IsNamedIn t t.heading.sub_vendor
    → All (λ row. IsNamedIn t row.name) t.agents
    → All (λ row. IsNamedIn t row.name) t.domains → All (λ row. IsNamedIn t row.name) t.clocks
    → HasNames (board_in t)
rows_named t vendor sub_vendor agents domains clocks = record {
  vendor = vendor;
  sub_vendor = sub_vendor;
  agents = All-map (λ agent. IsNameOf (board_in t) agent) (λ row. name_in row.name) t.agents agents;
  domains = All-map (λ domain. IsNameOf (board_in t) domain.name) domain_in t.domains domains;
  clocks = All-map (λ clock. IsNameOf (board_in t) clock.name) (clock_in t.rates) t.clocks clocks;
}

pub agents_unnamed : (t : BoardTables) → ¬ (All (λ row. IsNamedIn t row.name) t.agents)
    → ¬ (HasNames (board_in t))
agents_unnamed t h = λ names. h (All-of_map (λ agent. IsNameOf (board_in t) agent)
    (λ row. name_in row.name) t.agents names.agents)

pub domains_unnamed : (t : BoardTables) → ¬ (All (λ row. IsNamedIn t row.name) t.domains)
    → ¬ (HasNames (board_in t))
domains_unnamed t h = λ names. h
    (All-of_map (λ domain. IsNameOf (board_in t) domain.name) domain_in t.domains names.domains)

pub clocks_unnamed : (t : BoardTables) → ¬ (All (λ row. IsNamedIn t row.name) t.clocks)
    → ¬ (HasNames (board_in t))
clocks_unnamed t h = λ names. h (All-of_map (λ clock. IsNameOf (board_in t) clock.name)
    (clock_in t.rates) t.clocks names.clocks)

-- an error that a name gave is the first rule that the board breaks
pub row_fault : (t : BoardTables) (e : PlanError) → has_valid_counts (board_in t) ≡ true
    → (e ≢ error.Memory → (e ≡ error.Name) × (¬ (HasNames (board_in t)))) → e ≢ error.Memory
    → first_fault (board_in t) ≡ Some e
row_fault t e counts is other =
    let name = is other in
    name_fault (board_in t) counts name.1 ∙ ap Some (sym name.0)

-- what holds for the first rows, and for the next
pub all_next : {Row : Type 0} (P : Row → Type 0) (rows : List Row) (i : ℕ) (d : Row)
    → i < length rows → ((k : ℕ) (d : Row) → k < i → P (get_or rows k d)) → P (get_or rows i d)
    → (k : ℕ) (d : Row) → k < i + 1 → P (get_or rows k d)
all_next P rows i d small before here k d' below = pick (leb_tells (suc k) i) where
  pick : ((nat_le (suc k) i ≡ true) × (suc k ≤ i)) ⊎ ((nat_le (suc k) i ≡ false) × (i < suc k))
      → P (get_or rows k d')
  pick (inl t) = before k d' (omega (arith, t.1))
  pick (inr t) =
      let same : i ≡ k = omega (arith, below, t.1) in
      subst (λ (n : ℕ). P (get_or rows n d')) same (subst P (get_or_default rows i d d' small) here)

-- what the rows of agents say is so of agents beside the devices of the tables
pub agents_said : (t : BoardTables) → is_well_formed t ≡ true
    → All (λ row. is_said_row (length t.devices) row ≡ true) t.agents
agents_said t is = λ k d small.
    (and_parts (is_named (get_or t.agents k d).name)
    (is_said_row (length t.devices) (get_or t.agents k d)) (agents_formed t is k d small)).1

-- one more row adds its lines
pub lines_push : {Row : Type 0} (lines : ℕ → Row → List BoardLine) (number : ℕ)
    (rows : List Row) (row : Row)
    → lines_from lines number (rows ++ row ∷ [])
    ≡ lines_from lines number rows ++ lines (number + length rows) row
lines_push lines number [] row =
    let same : number ≡ number + 0 = omega arith in
    append-nil (lines number row) ∙ ap (λ (n : ℕ). lines n row) same
lines_push lines number (first ∷ rows) row =
    let same : suc number + length rows ≡ number + suc (length rows) = omega arith in
    let own = lines number first in
    let behind = lines_from lines (suc number) rows in
    ap (λ more. own ++ more)
    (lines_push lines (suc number) rows row ∙ ap (λ (n : ℕ). behind ++ lines n row) same)
    ∙ sym (append_assoc own behind (lines (number + suc (length rows)) row))

-- a board with the lines of one more row
pub row_said : {Row : Type 0} (lines : ℕ → Row → List BoardLine) (first : ℕ) (start old new : Board)
    (rows : List Row) (i number : ℕ) (d : Row)
    → i < length rows → number ≡ first + i
    → old ≡ with_lines start (lines_from lines first (take i rows))
    → new ≡ with_lines old (lines number (get_or rows i d))
    → new ≡ with_lines start (lines_from lines first (take (i + 1) rows))
row_said lines first start old new rows i number d small same was is =
    let row = get_or rows i d in
    let so_far = take i rows in
    let next : i + 1 ≡ suc i = omega arith in
    let more : take (i + 1) rows ≡ so_far ++ row ∷ [] = ap (λ (n : ℕ). take n rows) next
    ∙ take-suc rows i d small in
    let count : length so_far ≡ i = length-take-le i rows (omega (arith, small)) in
    let place : first + length so_far ≡ number = omega (arith, count, same) in
    let all : lines_from lines first (take (i + 1) rows)
    ≡ lines_from lines first so_far ++ lines number row =
    ap (lines_from lines first) more ∙ lines_push lines first so_far row
    ∙ ap (λ (n : ℕ). lines_from lines first so_far ++ lines n row) place in
    is
    ∙ ap (λ (b : Board). with_lines b (lines number row)) was
    ∙ sym (fold-append with_board_line start (lines_from lines first so_far) (lines number row))
    ∙ ap (with_lines start) (sym all)

rows_alike : (a b c : Board) → HasRowsOf a b → HasRowsOf b c → HasRowsOf a c
rows_alike a b c ab bc =
    record {
      agents = bc.agents ∙ ab.agents;
      domains = bc.domains ∙ ab.domains;
      clocks = bc.clocks ∙ ab.clocks;
      devices = bc.devices ∙ ab.devices;
    }

rows_of_line : (board : Board) (line : BoardLine) → HasRowsOf board (with_board_line board line)
rows_of_line board (said.Channel line) =
    record { agents = refl; domains = refl; clocks = refl; devices = refl }
rows_of_line board (said.Keep kept) =
    record { agents = refl; domains = refl; clocks = refl; devices = refl }
rows_of_line board (said.Deny line) =
    record { agents = refl; domains = refl; clocks = refl; devices = refl }
rows_of_line board (said.Absent absent) =
    record { agents = refl; domains = refl; clocks = refl; devices = refl }
rows_of_line board (said.Free free) =
    record { agents = refl; domains = refl; clocks = refl; devices = refl }
rows_of_line board (said.Protocols ids) =
    record { agents = refl; domains = refl; clocks = refl; devices = refl }

-- lines add no row
pub rows_of_lines : (board : Board) (lines : List BoardLine)
    → HasRowsOf board (with_lines board lines)
rows_of_lines board [] = record { agents = refl; domains = refl; clocks = refl; devices = refl }
rows_of_lines board (line ∷ lines) =
    let next = with_board_line board line in
    rows_alike board next (with_lines next lines) (rows_of_line board line)
    (rows_of_lines next lines)

pub rows_said : (old new : Board) (lines : List BoardLine) → new ≡ with_lines old lines
    → HasRowsOf old new
rows_said old new lines is = subst (HasRowsOf old) (sym is) (rows_of_lines old lines)

-- lines behind others
pub both_said : (board : Board) (first second : List BoardLine)
    → with_lines (with_lines board first) second ≡ with_lines board (first ++ second)
both_said board first second = sym (fold-append with_board_line board first second)
