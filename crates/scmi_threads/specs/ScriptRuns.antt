-- The run of an agent's script before and after its script.
use Rattle.std.specs.Prelude.{◌≡◌, ℕ, Bool, List}
use Rattle.scmi_link.specs.View.{new_caller, new_callee}
use Rattle.scmi_link.specs.Scripts.{orders_of}
use Rattle.scmi_link.specs.declared.script.Script.{Script}
use Rattle.scmi_ends.specs.AgentView.{AgentView, IsOfLink}
use Rattle.scmi_threads.specs.Logs.{IsEmptyLog}
use Rattle.scmi_threads.specs.Orders.{IsUndisturbed}
use Rattle.scmi_threads.specs.ScriptLogs.{IsGatedLog}
use Rattle.scmi_threads.specs.declared.script_run.ScriptRun.{ScriptRun}

-- what an agent's script leaves as it was: whose endpoints it has, and what it was to do; a
-- disturbed agent stays so
pub record HasRun {C Caller Callee Rest : Type 0} {g : _}
    (old new : ScriptRun C Caller Callee Rest g) : Type 0 where
  pub a2p : new.end.a2p_identity ≡ old.end.a2p_identity
  pub p2a : new.end.p2a_identity ≡ old.end.p2a_identity
  pub script : new.script ≡ old.script
  pub id : new.end.id ≡ old.end.id
  pub undisturbed : IsUndisturbed new.end.caller → IsUndisturbed old.end.caller

-- a script was run, and the gate asked before each of its lines: the log of an agent that had done
-- nothing follows it, if nothing has disturbed the agent
pub record HasPlayed {C Caller Callee Rest : Type 0} {g : _} (full : Bool) (asked : ℕ → ℕ → Type 0)
    (old new : ScriptRun C Caller Callee Rest g) : Type 0 where
  pub ran : HasRun old new
  pub log : IsEmptyLog old.log → old.end.caller ≡ new_caller → IsUndisturbed new.end.caller
      → IsGatedLog full (asked old.end.id) old.script.now new.log

-- the run of an agent that has done nothing, with its own orders
pub record IsStarted {C Caller Callee Rest : Type 0} {g : _} (scripts : List Script) (agent : ℕ)
    (script_run : ScriptRun C Caller Callee Rest g) : Type 0 where
  pub orders : script_run.script.now ≡ orders_of scripts agent
  pub id : script_run.end.id ≡ agent
  pub log : IsEmptyLog script_run.log
  pub caller : script_run.end.caller ≡ new_caller

-- an agent that has done nothing, with the endpoints of the channels with these names
pub record IsNewOnLink (a2p_identity p2a_identity : List ℕ) (agent : AgentView) : Type 0 where
  pub fits : IsOfLink a2p_identity p2a_identity agent
  pub caller : agent.caller ≡ new_caller
  pub callee : agent.callee ≡ new_callee
  pub token : agent.token ≡ 0
