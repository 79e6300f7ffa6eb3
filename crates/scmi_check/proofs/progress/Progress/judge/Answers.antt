use Rattle.std.proofs.Common.{◌∷◌, ◌++◌, [], refl, sym, subst}
use Rattle.scmi_check.specs.Progress.{AreBeingJudged}
use Rattle.scmi_check.specs.declared.progress.Progress.{Progress}
use Rattle.scmi_check.proofs.Growing.{append-none, grows-none}
use Rattle.scmi_check.proofs.Progressing.{passed-over}
use Rattle.scmi_check.proofs.progress.Progress.judge.Goals as goal

pub returns-in-Some-clause-judged : goal.returns-in-Some-clause-judged
returns-in-Some-clause-judged g c = λ r b before judged being.
    let old = c.args.self.now in
    let one = c.args.one.now in
    let new : Progress = record {
      judge = old.judge;
      lines = old.lines;
      is_empty = c.is_still_empty-self.result;
      differs = old.differs;
      unsure = old.unsure;
    } in
    record {
      more = [];
      are = subst (λ js. AreBeingJudged r b (before ++ one ∷ []) js new) (sym (append-none judged))
          (passed-over r b before judged one old new being c.in-Some._line c.in-Some.is refl refl
          refl c.is_still_empty-self.ensures);
      given = grows-none (g.L.Listener.judged c.args.listener.now);
    }

pub returns-in-None-clause-judged : goal.returns-in-None-clause-judged
returns-in-None-clause-judged g c = λ r b before judged being. c.judge_next.ensures.judged r b
    before judged c.args.self.now.is_empty c.is_still_empty-self.ensures being
