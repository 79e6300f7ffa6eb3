use Rattle.std.proofs.Common.{◌≡◌, ◌∙◌, List, length, map, arith, sym, ap, subst}
use Rattle.std.proofs.lemmas.List.{length-map}
use Rattle.std.proofs.lemmas.Slice.Zip.{AllZip-long}
use Rattle.scmi_threads.specs.Logs.{IsLogOf}
use Rattle.scmi_threads.specs.ScriptRuns.{HasPlayed}
use Rattle.std.specs.List.{All}
use Rattle.std.proofs.lemmas.List.Elements.{All-weaker}
use Rattle.scmi_plan.specs.Plan.{IsValid}
use Rattle.scmi_link.specs.Scripts.{orders_of}
use Rattle.scmi_ends.specs.Each.{AllFrom}
use Rattle.scmi_ends.specs.Links.{identities_of_a2p, identities_of_p2a}
use Rattle.scmi_threads.specs.Orders.{IsUndisturbed}
use Rattle.scmi_core.specs.Plain.{IsNoReport, IsNoRestart, IsPlain}
use Rattle.scmi_threads.specs.Rounds.{IsOfRounds}
use Rattle.scmi_threads.specs.ScriptLogs.{IsGatedLog, IsScriptLog}
use Rattle.scmi_threads.specs.declared.agent_log.AgentLog.{AgentLog}
use Rattle.scmi_threads.proofs.AfterCloseLemmas.{all_end_at_close}
use Rattle.scmi_threads.proofs.Started.{all_follow, all_gated}
use Rattle.scmi_threads.proofs.Moves.{zip_maps}
use Rattle.scmi_threads.proofs.PlainLemmas.{all_of_run, unreported, unrestarted}
use Rattle.scmi_threads.proofs.RoundLemmas.{made_of_run}
use Rattle.scmi_threads.proofs.threads.run_agents_on.Goals as goal
use Rattle.scmi_threads.proofs.threads.run_agents_on.Goals.{After-conclude, After-end_runs-ends}

a2p_identities : (g : _) (c : After-end_runs-ends g) → map (λ agent. agent.a2p_identity)
    c.end_runs-ends.result.0.items ≡ identities_of_a2p g.C.Channel.identity c.in-Ok.links.items
a2p_identities g c = c.end_runs-ends.ensures.a2p ∙ zip_maps (HasPlayed g.C.Channel.FULL
    (g.G.Gate.asked c.args.gate.now)) (λ script_run. script_run.end.a2p_identity)
    (λ a b r. r.ran.a2p) c.in-Ok-start_runs.script_runs.items c.run_beside-controller.result.1.items
    c.run_beside-controller.ensures.ran ∙ c.in-Ok-start_runs.ensures.a2p
    ∙ ap (identities_of_a2p g.C.Channel.identity) c.deref.ensures.value

p2a_identities : (g : _) (c : After-end_runs-ends g) → map (λ agent. agent.p2a_identity)
    c.end_runs-ends.result.0.items ≡ identities_of_p2a g.C.Channel.identity c.in-Ok.links.items
p2a_identities g c = c.end_runs-ends.ensures.p2a ∙ zip_maps (HasPlayed g.C.Channel.FULL
    (g.G.Gate.asked c.args.gate.now)) (λ script_run. script_run.end.p2a_identity)
    (λ a b r. r.ran.p2a) c.in-Ok-start_runs.script_runs.items c.run_beside-controller.result.1.items
    c.run_beside-controller.ensures.ran ∙ c.in-Ok-start_runs.ensures.p2a
    ∙ ap (identities_of_p2a g.C.Channel.identity) c.deref.ensures.value

pub start_runs-requires-clause-ends : goal.start_runs-requires-clause-ends
start_runs-requires-clause-ends g c κs within = rw c.deref.ensures.value c.in-Ok.ensures.ends

pub run_beside-controller-requires-clause-links : goal.run_beside-controller-requires-clause-links
run_beside-controller-requires-clause-links g c κs within =
    rw c.deref-2.ensures.value c.in-Ok.ensures.links

pub end_runs-ends-requires-clause-ends : goal.end_runs-ends-requires-clause-ends
end_runs-ends-requires-clause-ends g c κs within =
    omega (
      arith,
      AllZip-long (HasPlayed g.C.Channel.FULL (g.G.Gate.asked c.args.gate.now))
          c.in-Ok-start_runs.script_runs.items c.run_beside-controller.result.1.items
          c.run_beside-controller.ensures.ran,
      c.in-Ok-start_runs.script_runs.ok.0,
      c.run_beside-controller.result.1.ok.0,
      c.in-Ok-with_capacity.ensures.exact,
      c.agents-agents.ensures.count,
      ap length (c.in-Ok-start_runs.ensures.a2p
          ∙ ap (identities_of_a2p g.C.Channel.identity) c.deref.ensures.value),
      length-map c.in-Ok-start_runs.script_runs.items (λ script_run. script_run.end.a2p_identity),
      length-map c.in-Ok.links.items (λ link. g.C.Channel.identity link.a2p),
      c.in-Ok.links.ok.0,
      c.in-Ok.ensures.count.0,
      ap (λ board. length board.agents) c.new-core.ensures.board,
    )

pub end_runs-ends-requires-clause-logs : goal.end_runs-ends-requires-clause-logs
end_runs-ends-requires-clause-logs g c κs within =
    omega (
      arith,
      AllZip-long (HasPlayed g.C.Channel.FULL (g.G.Gate.asked c.args.gate.now))
          c.in-Ok-start_runs.script_runs.items c.run_beside-controller.result.1.items
          c.run_beside-controller.ensures.ran,
      c.in-Ok-start_runs.script_runs.ok.0,
      c.run_beside-controller.result.1.ok.0,
      c.in-Ok-with_capacity-2.ensures.exact,
      c.agents-agents.ensures.count,
      ap length (c.in-Ok-start_runs.ensures.a2p
          ∙ ap (identities_of_a2p g.C.Channel.identity) c.deref.ensures.value),
      length-map c.in-Ok-start_runs.script_runs.items (λ script_run. script_run.end.a2p_identity),
      length-map c.in-Ok.links.items (λ link. g.C.Channel.identity link.a2p),
      c.in-Ok.links.ok.0,
      c.in-Ok.ensures.count.0,
      ap (λ board. length board.agents) c.new-core.ensures.board,
    )

pub conclude-requires-clause-valid : goal.conclude-requires-clause-valid
conclude-requires-clause-valid g c κs within =
    subst IsValid (sym (c.run_beside-controller.ensures.goes_on.board ∙ c.in-Ok.ensures.controller.0
    ∙ c.new-core.ensures.board)) c.agents-agents.ensures.valid

pub conclude-requires-clause-links : goal.conclude-requires-clause-links
conclude-requires-clause-links g c κs within =
    rw (← c.deref-2.ensures.value) c.run_beside-controller.ensures.goes_on.has_links

pub conclude-requires-clause-ends : goal.conclude-requires-clause-ends
conclude-requires-clause-ends g c κs within =
    let at = (goal.at.conclude-requires-clause-ends g c).After-end_runs-ends in
    (a2p_identities g at, p2a_identities g at)

pub returns-clause-count : goal.returns-clause-count
returns-clause-count g c =
    let names = a2p_identities g (goal.at.returns-clause-count g c).After-end_runs-ends in
    ap (λ logs. logs.len) c.conclude.ensures.logs
    ∙ omega (
      arith,
      c.end_runs-ends.result.1.ok.0,
      AllZip-long IsLogOf
          c.end_runs-ends.result.0.items c.end_runs-ends.result.1.items
          c.end_runs-ends.ensures.logs,
      length-map c.end_runs-ends.result.0.items (λ agent. agent.a2p_identity),
      ap length names,
      length-map c.in-Ok.links.items (λ link. g.C.Channel.identity link.a2p),
      c.in-Ok.links.ok.0,
      c.in-Ok.ensures.count.0,
    )
    ∙ ap (λ board. length board.agents) c.new-core.ensures.board

pub returns-clause-headline : goal.returns-clause-headline
returns-clause-headline g c = rw (← c.new-core.ensures.board) (rw (← c.in-Ok.ensures.controller.0)
    (rw (← c.run_beside-controller.ensures.goes_on.board) c.conclude.ensures.headline))

gated_logs : (g : _) (c : After-conclude g)
    → AllFrom (λ a log. IsGatedLog g.C.Channel.FULL (g.G.Gate.asked c.args.gate.now a)
    (orders_of c.args.scripts.now a) log) 1 c.conclude.result.logs.items
gated_logs g c =
    let gated = λ (logs : List AgentLog). AllFrom (λ a log. IsGatedLog g.C.Channel.FULL
    (g.G.Gate.asked c.args.gate.now a) (orders_of c.args.scripts.now a) log) 1 logs in
    subst (λ logs. gated logs.items) (sym c.conclude.ensures.logs)
    (subst gated (sym c.end_runs-ends.ensures.same.1)
    (all_follow g.C.Channel.FULL (g.G.Gate.asked c.args.gate.now) c.args.scripts.now
    1 c.in-Ok-start_runs.script_runs.items c.run_beside-controller.result.1.items
    c.in-Ok-start_runs.ensures.started c.run_beside-controller.ensures.ran
    (subst (All (λ agent. IsUndisturbed agent.caller)) c.end_runs-ends.ensures.same.0
    c.conclude.ensures.undisturbed)))

pub returns-clause-gate : goal.returns-clause-gate
returns-clause-gate g c = gated_logs g (goal.at.returns-clause-gate g c).After-conclude

pub returns-clause-scripts : goal.returns-clause-scripts
returns-clause-scripts g c = all_gated _ _ (λ a log gated. gated.script) 1 _
    (gated_logs g (goal.at.returns-clause-scripts g c).After-conclude)

pub returns-clause-closed : goal.returns-clause-closed
returns-clause-closed g c = all_end_at_close g.C.Channel.FULL
    (orders_of c.args.scripts.now) _ _ 1 _ (all_gated _ _ (λ a log gated. gated.script) 1 _
    (gated_logs g (goal.at.returns-clause-closed g c).After-conclude)) c.conclude.ensures.headline

pub returns-clause-made : goal.returns-clause-made
returns-clause-made g c = made_of_run c.args.plan
    c.in-Ok.controller.board c.run_beside-controller.result.0.0.board c.in-Ok.controller.history
    c.run_beside-controller.result.0.0.history c.conclude.result.trace.events
    (g.H.Hardware.asked c.args.hardware) (g.H.Hardware.asked c.run_beside-controller.result.0.2)
    (c.in-Ok.ensures.controller.0 ∙ c.new-core.ensures.board) c.in-Ok.ensures.controller.1
    c.run_beside-controller.ensures.goes_on.board c.conclude.ensures.history
    c.run_beside-controller.ensures.goes_on.made

of_rounds : (g : _) (c : After-conclude g) → All IsOfRounds c.conclude.result.trace.events
of_rounds g c =
    all_of_run IsOfRounds c.in-Ok.controller.history c.run_beside-controller.result.0.0.history
    c.conclude.result.trace.events c.in-Ok.ensures.controller.1 c.conclude.ensures.history
    c.run_beside-controller.ensures.goes_on.of_rounds

pub returns-clause-no_restart : goal.returns-clause-no_restart
returns-clause-no_restart g c =
    All-weaker IsOfRounds IsNoRestart unrestarted c.conclude.result.trace.events
    (of_rounds g (goal.at.returns-clause-no_restart g c).After-conclude)

pub returns-clause-no_report : goal.returns-clause-no_report
returns-clause-no_report g c =
    All-weaker IsOfRounds IsNoReport unreported c.conclude.result.trace.events
    (of_rounds g (goal.at.returns-clause-no_report g c).After-conclude)

pub returns-clause-plain : goal.returns-clause-plain
returns-clause-plain g c = λ never.
    all_of_run IsPlain c.in-Ok.controller.history c.run_beside-controller.result.0.0.history
    c.conclude.result.trace.events c.in-Ok.ensures.controller.1 c.conclude.ensures.history
    (c.run_beside-controller.ensures.goes_on.plain never)
