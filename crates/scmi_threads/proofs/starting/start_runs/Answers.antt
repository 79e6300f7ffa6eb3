use Rattle.std.proofs.lemmas.List.{length-append}
use Rattle.scmi_link.specs.Scripts.{orders_of}
use Rattle.scmi_ends.specs.Each.{AllFrom}
use Rattle.scmi_threads.proofs.Started.{first_new, all_push}
use Rattle.std.proofs.Common.{◌≡◌, ◌+◌, ◌∷◌, [], length, arith, map, ap, sym, ◌∙◌, subst}
use Rattle.scmi_threads.specs.ScriptRuns.{IsNewOnLink, IsStarted}
use Rattle.scmi_threads.proofs.Ready.{all_ready, run_step, some_left, started, all_started}
use Rattle.scmi_threads.proofs.starting.start_runs.Goals as goal

pub links-init : goal.links-init
links-init g c = record {
  started =
      subst (AllFrom (IsStarted c.args.scripts.now) 1) (sym c.new-script_runs.ensures.items) tt;
  count = ap length c.new-script_runs.ensures.items;
  ids = c.requires.fresh;
  a2p = ap (map (λ s. s.end.a2p_identity)) c.new-script_runs.ensures.items;
  p2a = ap (map (λ s. s.end.p2a_identity)) c.new-script_runs.ensures.items;
  left = all_ready (λ k. g.C.Channel.identity k.a2p) (λ k. g.C.Channel.identity k.p2a) 1
      c.args.links.now c.args.ends.items c.requires.ends.0 c.requires.ends.1 c.requires.fresh;
}

pub remove-end-requires : goal.remove-end-requires
remove-end-requires g c = omega (
  arith,
  some_left (λ k e. IsNewOnLink (g.C.Channel.identity k.a2p)
      (g.C.Channel.identity k.p2a) e) c.args.links.now c.links.i c.links.ends.items
      c.links-test.true
      c.links.invariant.left,
  c.links.ends.ok.0,
)

pub new-script_run-requires-clause-ready : goal.new-script_run-requires-clause-ready
new-script_run-requires-clause-ready g c κs within = (subst
    (λ k. IsNewOnLink (g.C.Channel.identity k.a2p) (g.C.Channel.identity k.p2a) c.remove-end.result)
    (sym c.index-links-i.is) (run_step (λ k e. IsNewOnLink (g.C.Channel.identity k.a2p)
    (g.C.Channel.identity k.p2a) e) c.args.links.now c.links.i c.index-links-i.result
    c.links.ends.items c.remove-end.new.self.items c.remove-end.result c.links-test.true
    c.links.invariant.left c.remove-end.ensures.value c.remove-end.ensures.items).0)

pub links-preserved : goal.links-preserved
links-preserved g c =
    let some =
    some_left (λ k e. IsNewOnLink (g.C.Channel.identity k.a2p) (g.C.Channel.identity k.p2a) e)
    c.args.links.now c.links.i c.links.ends.items c.links-test.true c.links.invariant.left in
    let first =
    first_new (c.links.i + 1) c.links.ends.items c.remove-end.new.self.items c.remove-end.result
    c.links.invariant.ids some c.remove-end.ensures.value c.remove-end.ensures.items in
    let many : 1 + length c.links.script_runs.items ≡ c.links.i + 1 =
    omega (arith, c.links.invariant.count) in
    let both = run_step (λ k e. IsNewOnLink (g.C.Channel.identity k.a2p)
    (g.C.Channel.identity k.p2a) e) c.args.links.now c.links.i c.index-links-i.result
    c.links.ends.items c.remove-end.new.self.items c.remove-end.result c.links-test.true
    c.links.invariant.left c.remove-end.ensures.value c.remove-end.ensures.items in
    record {
      a2p = started
          (λ s. s.end.a2p_identity) (λ k. g.C.Channel.identity k.a2p) c.links.script_runs.items
          c.push.new.self.items c.args.links.now c.links.i c.new-script_run.result
          c.index-links-i.result c.links-test.true c.links.invariant.a2p c.in_ok-push.ensures.items
          (ap (λ e. e.a2p_identity) c.new-script_run.ensures.end ∙ both.0.fits.of_a2p);
      p2a = started
          (λ s. s.end.p2a_identity) (λ k. g.C.Channel.identity k.p2a) c.links.script_runs.items
          c.push.new.self.items c.args.links.now c.links.i c.new-script_run.result
          c.index-links-i.result c.links-test.true c.links.invariant.p2a c.in_ok-push.ensures.items
          (ap (λ e. e.p2a_identity) c.new-script_run.ensures.end ∙ both.0.fits.of_p2a);
      started = subst (AllFrom (IsStarted c.args.scripts.now) 1) (sym c.in_ok-push.ensures.items)
          (all_push (IsStarted c.args.scripts.now) 1 c.links.script_runs.items
          c.new-script_run.result c.links.invariant.started (record {
            orders = ap (λ s. s.now) c.new-script_run.ensures.script ∙ c.script_of-script.ensures
                ∙ ap (orders_of c.args.scripts.now) (c.id.ensures ∙ first.0 ∙ sym many);
            id = ap (λ e. e.id) c.new-script_run.ensures.end ∙ first.0 ∙ sym many;
            log = c.new-script_run.ensures.log;
            caller = ap (λ e. e.caller) c.new-script_run.ensures.end ∙ both.0.caller;
          }));
      count = ap length c.in_ok-push.ensures.items ∙ length-append c.links.script_runs.items
          (c.new-script_run.result ∷ []) ∙ ap (λ n. n + 1) c.links.invariant.count;
      ids = first.1;
      left = both.1;
    }

pub returns-clause-a2p : goal.returns-clause-a2p
returns-clause-a2p g c = all_started (λ s. s.end.a2p_identity)
    (λ k. g.C.Channel.identity k.a2p) c.links.script_runs.items c.args.links.now c.links.i
    (omega (arith, c.links-test.false)) c.links.invariant.a2p

pub returns-clause-p2a : goal.returns-clause-p2a
returns-clause-p2a g c = all_started (λ s. s.end.p2a_identity)
    (λ k. g.C.Channel.identity k.p2a) c.links.script_runs.items c.args.links.now c.links.i
    (omega (arith, c.links-test.false)) c.links.invariant.p2a
