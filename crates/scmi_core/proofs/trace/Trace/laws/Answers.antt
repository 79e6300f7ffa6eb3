use Rattle.scmi_core.proofs.trace.Trace.laws.Goals as goal

pub returns : goal.returns
returns c =
    let laws = c.every_legal_history.ensures in
    record {
      bounds = λ board legal. laws.bounds board _ legal;
      responses = λ board legal. laws.responses board _ legal;
      isolation = λ board legal. laws.isolation board _ legal;
      integrity = λ board legal. laws.integrity board _ legal;
      permissions = λ board legal. laws.permissions board _ legal;
      kept = λ board legal. laws.kept board _ legal;
      channels = λ board law legal. laws.channels board _ law legal;
    }
