use Rattle.std.proofs.Common.{◌≡◌, List, refl, ap, subst}
use Rattle.scmi_check.specs.LeftOut.{left_view}
use Rattle.scmi_check.specs.Listener.{Grows}
use Rattle.scmi_check.specs.RecordText.{RecordView, finished, record_view, shows_of}
use Rattle.scmi_check.specs.declared.checked.Checked.{Checked}
use Rattle.scmi_check.specs.declared.note.Note.{Note}
use Rattle.scmi_check.proofs.Ending.{all-found, same-ok}
use Rattle.scmi_check.proofs.under_way.Check.finish.Goals as goal

pub returns-clause-found : goal.returns-clause-found
returns-clause-found g c = λ r b all judged notes way.
    let read = c.in-Ok.record in
    let progress = c.args.self.progress in
    let checked : Checked = record {
      differs = progress.differs;
      unsure = progress.unsure;
      skipped = read.left.skipped;
      protocols = read.left.protocols;
    } in
    let is : finished (shows_of c.args.self.so_far) ≡ record_view read =
    same-ok (finished (shows_of c.args.self.so_far))
    (record_view read) c.in-Ok.ensures.record in (
      read.left.notes.items,
      all-found r b all judged notes c.args.self way (left_view read.left) checked
          (ap (λ (v : RecordView). v.left) is) refl refl refl refl c.if-progress.false,
      subst (λ (ns : List Note). Grows (g.L.Listener.noted c.args.listener.now)
          (g.L.Listener.noted c.tell_notes.new.listener) ns) c.deref.ensures.value
          c.in_ok-tell_notes.ensures.noted,
    )
