use Rattle.std.proofs.Common.{◌++◌, List, sym, subst}
use Rattle.scmi_check.specs.Listener.{Grows}
use Rattle.scmi_check.specs.Progress.{FindsMore}
use Rattle.scmi_check.specs.RecordText.{shows_of}
use Rattle.scmi_check.specs.declared.note.Note.{Note}
use Rattle.scmi_check.specs.declared.record.Placed.{Placed}
use Rattle.scmi_check.specs.declared.under_way.Check.{Check}
use Rattle.scmi_check.proofs.Telling.{told-way}
use Rattle.scmi_check.proofs.under_way.Check.tell.Goals as goal

pub returns-clause-told : goal.returns-clause-told
returns-clause-told g c = λ r b placed judged notes agents being.
    let old = c.args.self.now in
    let shows = shows_of old.so_far in
    let given = g.L.Listener.judged in
    let noted = g.L.Listener.noted in
    let first = c.args.listener.now in
    let mid = c.judge_all.new.listener in
    let last = c.tell_notes.new.listener in
    let new : Check = record {
      so_far = c.forget.new.self;
      agents = old.agents;
      progress = c.judge_all.new.self;
    } in
    let finds = subst (λ after. FindsMore r b (placed ++ shows.entries) judged c.judge_all.new.self
    (given first) after) (sym c.in_ok-tell_notes.ensures.judged)
    (subst (λ (es : List Placed). FindsMore r b (placed ++ es) judged c.judge_all.new.self
    (given first) (given mid)) c.entries.ensures
    (c.in_ok-judge_all.ensures.judged r b placed judged being)) in
    let grows = subst (λ before. Grows before (noted last) shows.left.notes)
    c.in_ok-judge_all.ensures.noted
    (subst (λ (ns : List Note). Grows (noted mid) (noted last) ns) c.notes.ensures
    c.in_ok-tell_notes.ensures.noted) in
    told-way r b placed judged notes shows new (given first) (given last) (noted first)
    (noted last) agents c.forget.ensures finds grows
