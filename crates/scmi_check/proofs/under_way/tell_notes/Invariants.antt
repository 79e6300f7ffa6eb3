use Rattle.std.proofs.Common.{◌≡◌, take}
use Rattle.scmi_check.specs.Listener.{Grows}
use Rattle.scmi_check.proofs.under_way.tell_notes.Given as goal

abbrev pub invariant-each : goal.invariant-each
invariant-each g l =
    record {
      noted : Grows (g.L.Listener.noted l.initial.listener) (g.L.Listener.noted l.listener)
          (take l.note-index l.notes);
      judged : g.L.Listener.judged l.listener ≡ g.L.Listener.judged l.initial.listener;
    }
