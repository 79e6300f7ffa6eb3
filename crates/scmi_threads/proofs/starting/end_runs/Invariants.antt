use Rattle.std.proofs.Common.{◌≡◌, ◌+◌, ◌≤◌, ◌++◌, map, vec_len, vec_capacity}
use Rattle.std.specs.List.{AllZip}
use Rattle.scmi_threads.specs.Logs.{IsLogOf}
use Rattle.scmi_threads.proofs.starting.end_runs.Given as goal

abbrev pub invariant-script_runs : goal.invariant-script_runs
invariant-script_runs g l = record {
  a2p : map (λ e. e.a2p_identity) l.ends.items ++ map (λ s. s.end.a2p_identity) l.script_runs.items
      ≡ map (λ s. s.end.a2p_identity) l.fn.script_runs.items;
  p2a : map (λ e. e.p2a_identity) l.ends.items ++ map (λ s. s.end.p2a_identity) l.script_runs.items
      ≡ map (λ s. s.end.p2a_identity) l.fn.script_runs.items;
  same_ends : l.ends.items ++ map (λ s. s.end) l.script_runs.items
      ≡ map (λ s. s.end) l.fn.script_runs.items;
  same_logs : l.logs.items ++ map (λ s. s.log) l.script_runs.items
      ≡ map (λ s. s.log) l.fn.script_runs.items;
  both : AllZip IsLogOf l.ends.items l.logs.items;
  ends : vec_len l.ends + vec_len l.script_runs ≤ vec_capacity l.ends;
  logs : vec_len l.logs + vec_len l.script_runs ≤ vec_capacity l.logs;
}

abbrev pub decreases-script_runs : goal.decreases-script_runs
decreases-script_runs g l = vec_len l.script_runs
