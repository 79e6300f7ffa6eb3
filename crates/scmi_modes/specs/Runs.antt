-- What the runs of agents in threads write.
use Rattle.std.specs.Prelude.{◌≡◌, ℕ, ◌+◌, Bool, true, false, List, [], ◌∷◌, ◌++◌, length, Option, None, IfSome, Ok, vec_len}
use Rattle.std.specs.List.{All}
use Rattle.std.specs.Io.KnownBytes.{Appends}
use Rattle.scmi_plan.specs.Board.{Board}
use Rattle.scmi_core.specs.Legal.{IsLegal}
use Rattle.scmi_link.specs.Scripts.{AreScriptsOf, orders_of}
use Rattle.scmi_link.specs.declared.script.Script.{Script}
use Rattle.scmi_ends.specs.Each.{AllFrom}
use Rattle.scmi_threads.specs.Logs.{LogHeadline}
use Rattle.scmi_core.specs.Plain.{IsPlain}
use Rattle.scmi_threads.specs.ScriptLogs.{IsScriptLog}
use Rattle.scmi_threads.specs.declared.agent_log.AgentLog.{AgentLog}
use Rattle.scmi_threads.specs.declared.outcome.Outcome.{Outcome}
use Rattle.scmi_text.specs.ScriptLine.{lines_text}
use Rattle.scmi_text.specs.ScriptText.{scripts_of}
use Rattle.scmi_modes.specs.Input.{scripts_of_input}
use Rattle.scmi_modes.specs.declared.kind.Kind.{Kind}
use Rattle.scmi_modes.specs.declared.kind.Kind.TheVariants.{Rings, Words}

-- whether a channel of this kind may have no place for a post
abbrev pub may_be_full : Kind → Bool
may_be_full Rings = true
may_be_full Words = false

-- the lines of agents, numbered from n, one agent after another
abbrev pub logs_text : ℕ → List AgentLog → List ℕ
logs_text n [] = []
logs_text n (log ∷ logs) = lines_text n log.lines.items ++ logs_text (n + 1) logs

module _ (full : Bool) (board : Board) (scripts : List Script) where
  -- what is written is the text of what a run of these scripts left: its logs follow the scripts,
  -- and agree with one legal history of the board, of plain events alone
  pub record IsTextOfOutcome (outcome : Outcome) (old new : Option (List ℕ)) : Type 0 where
    pub of_agents : AreScriptsOf (length board.agents) scripts
    pub legal : IsLegal board outcome.trace.events
    pub plain : All IsPlain outcome.trace.events
    pub count : vec_len outcome.logs ≡ length board.agents
    pub follow : AllFrom (λ a log. IsScriptLog full (orders_of scripts a) log) 1 outcome.logs.items
    pub headline : AllFrom
        (λ a log. LogHeadline board outcome.trace.events a log) 1 outcome.logs.items
    pub text : Appends old new (logs_text 1 outcome.logs.items)

  -- what is written is the text of a run of these scripts to their ends
  pub record IsTextOfEndedRun (old new : Option (List ℕ)) : Type 0 where
    pub outcome : Outcome
    pub not_stopped : All (λ log. log.stopped ≡ None) outcome.logs.items
    pub told : IsTextOfOutcome outcome old new

  -- what is written is the text of a run of these scripts that may have been stopped: each log
  -- follows its script as far as it came
  pub record IsTextOfAnyRun (old new : Option (List ℕ)) : Type 0 where
    pub outcome : Outcome
    pub told : IsTextOfOutcome outcome old new

-- an input, if it is known, encodes this board and these scripts
abbrev pub AreScriptsOfInput : Option (List ℕ) → Board → List Script → Type 0
AreScriptsOfInput known board scripts =
    IfSome known (λ input. scripts_of_input input ≡ Ok (board, scripts_of scripts))

-- what is written is the text of a run, to their ends, of the scripts that the input encodes, on
-- its board
abbrev pub IsTextOfRun : Bool → Option (List ℕ) → Option (List ℕ) → Option (List ℕ) → Type 0
IsTextOfRun full known old new = (board : Board) × (scripts : List Script)
    × AreScriptsOfInput known board scripts × IsTextOfEndedRun full board scripts old new

-- the same of a run that may have been stopped
abbrev pub IsTextOfStoppedRun : Bool → Option (List ℕ) → Option (List ℕ) → Option (List ℕ) → Type 0
IsTextOfStoppedRun full known old new = (board : Board) × (scripts : List Script)
    × AreScriptsOfInput known board scripts × IsTextOfAnyRun full board scripts old new
