use Rattle.std.proofs.Common.{arith, refl, rules}
use Rattle.scmi_threads.specs.Logs.{IsLogOf}
use Rattle.scmi_threads.proofs.Moves.{moved, all_moved, zip_push}
use Rattle.scmi_threads.proofs.Started.{moved_items, all_items}
use Rattle.scmi_threads.proofs.starting.end_runs.Goals as goal

pub script_runs-preserved : goal.script_runs-preserved
script_runs-preserved g c =
    let kept = c.script_runs.invariant in
    let script_run = c.remove-end.result in
    let logged : IsLogOf script_run.end script_run.log = record {
      posted = script_run.posted_is;
      read = script_run.read_is;
      p2a = script_run.p2a_is;
      closing = script_run.closing_is;
      reply_looks = script_run.replies_looked;
      message_looks = script_run.messages_looked;
    } in
    record {
      a2p = moved (λ e. e.a2p_identity)
          (λ s. s.end.a2p_identity) c.script_runs.ends.items c.push_reserved.new.self.items
          c.script_runs.script_runs.items c.remove-end.new.self.items script_run.end script_run
          _ kept.a2p (omega (arith, c.remove-end.ensures.len, c.script_runs.script_runs.ok.0))
          c.remove-end.ensures.value c.remove-end.ensures.items c.push_reserved.ensures.items refl;
      p2a = moved (λ e. e.p2a_identity)
          (λ s. s.end.p2a_identity) c.script_runs.ends.items c.push_reserved.new.self.items
          c.script_runs.script_runs.items c.remove-end.new.self.items script_run.end script_run
          _ kept.p2a (omega (arith, c.remove-end.ensures.len, c.script_runs.script_runs.ok.0))
          c.remove-end.ensures.value c.remove-end.ensures.items c.push_reserved.ensures.items refl;
      same_ends = moved_items (λ s. s.end) c.script_runs.ends.items c.push_reserved.new.self.items
          c.script_runs.script_runs.items c.remove-end.new.self.items script_run.end script_run
          _ kept.same_ends (omega (arith, c.remove-end.ensures.len, c.script_runs.script_runs.ok.0))
          c.remove-end.ensures.value c.remove-end.ensures.items c.push_reserved.ensures.items refl;
      same_logs = moved_items (λ s. s.log) c.script_runs.logs.items
          c.push_reserved-in-script_runs.new.self.items c.script_runs.script_runs.items
          c.remove-end.new.self.items script_run.log script_run _ kept.same_logs (omega (
            arith,
            c.remove-end.ensures.len,
            c.script_runs.script_runs.ok.0,
          )) c.remove-end.ensures.value
          c.remove-end.ensures.items c.push_reserved-in-script_runs.ensures.items refl;
      both = zip_push IsLogOf c.script_runs.ends.items c.push_reserved.new.self.items
          c.script_runs.logs.items c.push_reserved-in-script_runs.new.self.items
          script_run.end script_run.log kept.both logged c.push_reserved.ensures.items
          c.push_reserved-in-script_runs.ensures.items;
      ends = omega (
        arith,
        kept.ends,
        c.remove-end.ensures.len,
        c.push_reserved.ensures.len,
        c.push_reserved.ensures.capacity,
      );
      logs = omega (
        arith,
        kept.logs,
        c.remove-end.ensures.len,
        c.push_reserved-in-script_runs.ensures.len,
        c.push_reserved-in-script_runs.ensures.capacity,
      );
    }

pub returns-clause-a2p : goal.returns-clause-a2p
returns-clause-a2p g c =
    all_moved (λ e. e.a2p_identity) (λ s. s.end.a2p_identity) c.script_runs.ends.items
    c.script_runs.script_runs.items _ c.script_runs.invariant.a2p (search rules)

pub returns-clause-p2a : goal.returns-clause-p2a
returns-clause-p2a g c =
    all_moved (λ e. e.p2a_identity) (λ s. s.end.p2a_identity) c.script_runs.ends.items
    c.script_runs.script_runs.items _ c.script_runs.invariant.p2a (search rules)

pub returns-clause-same : goal.returns-clause-same
returns-clause-same g c = (
  all_items (λ s. s.end) c.script_runs.ends.items
      c.script_runs.script_runs.items _ c.script_runs.invariant.same_ends (search rules),
  all_items (λ s. s.log) c.script_runs.logs.items c.script_runs.script_runs.items _
      c.script_runs.invariant.same_logs (search rules),
)
