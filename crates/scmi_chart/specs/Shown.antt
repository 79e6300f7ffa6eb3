-- What a chart shows of a run.
use Rattle.std.specs.Prelude.{ℕ, ◌+◌, ◌||◌, Bool, false, List, [], ◌∷◌, ◌++◌, replicate, set, get_or, Option, is_some}
use Rattle.scmi_plan.specs.Board.{Board}
use Rattle.scmi_link.specs.declared.collected.Collected.{Collected}
use Rattle.scmi_text.specs.declared.step.Step.{Step}
use Rattle.scmi_text.specs.declared.step_line.StepLine.{StepLine}
use Rattle.scmi_chart.specs.declared.chart.Lifeline.{Lifeline}
use Rattle.scmi_chart.specs.declared.laters.TheConstants.{LANES}
use Rattle.scmi_chart.specs.Signs.{Sign, lane, signs_of, exchange_signs, collected_signs}
use Rattle.scmi_chart.specs.Service.{line_agent, if_got, served_by, is_served, served_so_far, sets_later, laters_after, is_later}

-- no agent has posted a command that takes effect later
abbrev pub none_later : List Bool
none_later = replicate LANES false

-- what is shown of a run of these steps on a board, which came to these lines, one for each: of
-- each agent it is known whether its last command takes effect later
abbrev pub run_signs : List Bool → List Step → List StepLine → List Sign
run_signs laters (s ∷ steps) (l ∷ lines) =
    signs_of (is_some (served_by s l) || is_served (lane (line_agent l)) steps lines)
    (is_later laters s l) s l
    ++ run_signs (laters_after laters s l) steps lines
run_signs laters _ _ = []

-- what a chart shows so far: what its marks show, and of each lifeline whether the last command of
-- its agent takes effect later; the board
pub record Shown : Type 0 where
  pub signs : List Sign
  pub laters : List Bool
  pub board : Board

-- nothing of a run that has not begun
abbrev pub nothing_shown : Board → Shown
nothing_shown board = record { signs = []; laters = none_later; board = board }

-- these marks more
abbrev pub adds : List Sign → Shown → Shown
adds signs shown = record shown { signs = shown.signs ++ signs }

-- commands of the agent that was served are executed ones, and these marks more
abbrev pub serves : Option ℕ → List Sign → Shown → Shown
serves by signs shown = record shown { signs = served_so_far by shown.signs ++ signs }

-- the last command of the agent with this lifeline takes effect later, or at once
abbrev pub with_later : ℕ → Bool → Shown → Shown
with_later a later shown = record shown { laters = set shown.laters a later }

-- a command that was posted, served and collected in one step, and what is shown of it between its
-- execution and its answer
abbrev pub exchanged : Step → ℕ → Collected → List Sign → Shown → Shown
exchanged s a c between shown =
    with_later a (sets_later s) (serves (if_got a c)
    (exchange_signs (is_some (if_got a c)) s a c ++ between
    ++ collected_signs a (get_or (set shown.laters a (sets_later s)) a false) c) shown)

-- what a step adds that came to this line: its own marks, and that commands of the agent that was
-- served in it are executed ones
abbrev pub shown_after : Step → StepLine → Shown → Shown
shown_after s l shown =
    record {
      signs =
          served_so_far (served_by s l) shown.signs
          ++ signs_of (is_some (served_by s l)) (is_later shown.laters s l) s l;
      laters = laters_after shown.laters s l;
      board = shown.board;
    }

-- a lifeline: the number of its agent, and its name
pub record Head : Type 0 where
  pub agent : ℕ
  pub name : List ℕ

-- what is written at the head of a lifeline
abbrev pub head_of : Lifeline → Head
head_of lifeline = record { agent = lifeline.agent; name = lifeline.name.items }

-- one lifeline for each name, in order, with the numbers from this one on
abbrev pub heads_from : ℕ → List (List ℕ) → List Head
heads_from agent [] = []
heads_from agent (name ∷ names) =
    record { agent = lane agent; name = name } ∷ heads_from (agent + 1) names
