-- What ran twice has run.
use Rattle.std.proofs.Common.{◌∙◌}
use Rattle.scmi_threads.specs.declared.script_run.ScriptRun.{ScriptRun}
use Rattle.scmi_threads.specs.ScriptRuns.{HasRun}

module _ {C Caller Callee Rest : Type 0} {g : _} where
  pub has_run : (a b c : ScriptRun C Caller Callee Rest g) → HasRun a b → HasRun b c → HasRun a c
  has_run a b c r s = record {
    a2p = s.a2p ∙ r.a2p;
    p2a = s.p2a ∙ r.p2a;
    script = s.script
        ∙ r.script;
    id = s.id ∙ r.id;
    undisturbed = λ u. r.undisturbed (s.undisturbed u);
  }
