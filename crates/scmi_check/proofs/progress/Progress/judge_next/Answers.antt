use Rattle.std.proofs.Common.{◌≡◌, ◌+◌, ◌∙◌, ◌∷◌, ◌++◌, ◌||◌, [], Bool, None, Ok, Some, IfSome, length, refl, sym, ap, subst, rules, arith}
use Rattle.std.specs.List.{list_any}
use Rattle.std.proofs.lemmas.Grind.{common_steps}
use Rattle.scmi_judge.specs.Behind.{HasLegalHistory}
use Rattle.scmi_judge.specs.Judging.{Knows}
use Rattle.scmi_judge.specs.declared.entry.Entry.{Entry}
use Rattle.scmi_check.specs.Finding.{Fits, finding_of, judged_as}
use Rattle.scmi_check.specs.Judged.{does_differ}
use Rattle.scmi_check.specs.Listener.{Grows}
use Rattle.scmi_check.specs.Progress.{AreBeingJudged, at_entry}
use Rattle.scmi_check.specs.declared.progress.Progress.{Progress}
use Rattle.scmi_check.proofs.Growing.{append-none, grows-none, on-ok}
use Rattle.scmi_check.proofs.Progressing.{now-judged, now-unsure}
use Rattle.scmi_check.proofs.progress.Progress.judge_next.Goals as goal

pub returns-in_default-clause-judged : goal.returns-in_default-clause-judged
returns-in_default-clause-judged g c = λ r b before judged empty is being.
    let old = c.args.self.now in
    let one = c.args.one.now in
    let new : Progress = record {
      judge = c.judge_one.new.judge;
      lines = old.lines;
      is_empty = old.is_empty;
      differs = old.differs;
      unsure = Some one.line;
    } in
    let none : c.in_ok-verdict.field-0 ≡ None =
    first_of (search rules, grind (arith, common_steps)) in
    record {
      more = [];
      are = subst (λ js. AreBeingJudged r b (before ++ one ∷ []) js new) (sym (append-none judged))
          (now-unsure r b before judged one (at_entry old empty) new being c.requires.sure
          (λ entries knows. c.in_ok-verdict.ensures.many entries knows (ap Ok none))
          c.judge_one.ensures.board c.judge_one.ensures.unseen refl refl is);
      given = grows-none (g.L.Listener.judged c.args.listener.now);
    }

pub returns-clause-judged : goal.returns-clause-judged
returns-clause-judged g c = λ r b before judged empty is being.
    let old = c.args.self.now in
    let one = c.args.one.now in
    let v = c.in-Some.verdict in
    let new : Progress = record {
      judge = c.judge_one.new.judge;
      lines = c.note-unless.new.self;
      is_empty = old.is_empty;
      differs = c.either-any.result;
      unsure = old.unsure;
    } in
    let fits = λ (entries : _) (knows : Knows old.judge entries).
    subst (λ o. IfSome o (λ w. Fits (finding_of one.entry w)
    → Knows c.judge_one.new.judge (judged_as one.entry w ∷ entries))) c.in-Some.is
    (c.in_ok-verdict.ensures.fits entries knows) in
    let legal = λ (entries : _) (knows : Knows old.judge entries).
    subst (λ o. IfSome o (λ w. Fits (finding_of one.entry w)
    → HasLegalHistory old.judge.unseen old.judge.board (judged_as one.entry w ∷ entries)))
    c.in-Some.is (c.in_ok-verdict.ensures.legal entries knows) in
    let differs = λ (entries : _) (knows : Knows old.judge entries).
    subst (λ o. IfSome o (λ w. ¬ (Fits (finding_of one.entry w))
    → ¬ (HasLegalHistory old.judge.unseen old.judge.board (one.entry ∷ entries)))) c.in-Some.is
    (c.in_ok-verdict.ensures.differs entries knows) in
    let places = subst (λ o. IfSome o (λ w. length c.judge_one.new.judge.guesses + length
    c.judge_one.new.judge.spare ≡ length old.judge.guesses + length old.judge.spare))
    c.in-Some.is c.in_ok-verdict.ensures.places in
    let any : c.either-any.result ≡ list_any does_differ judged || does_differ
    (record { line = one.line; entry = one.entry; verdict = v }) =
    c.either-any.ensures ∙ ap (λ (x : Bool). x || c.differs-differs.result) being.differs_is
    ∙ ap (λ (x : Bool). list_any does_differ judged || x)
    (c.differs-differs.ensures ∙ ap (λ (e : Entry). does_differ
    (record { line = one.line; entry = e; verdict = v })) c.copy.ensures) in
    on-ok c.found.result c.found.ensures.judged (λ given. record {
      more = record { line = one.line; entry = one.entry; verdict = v } ∷ [];
      are = now-judged r b before judged one (at_entry old empty) new being c.requires.sure v fits
          legal differs places c.judge_one.ensures.board c.judge_one.ensures.unseen c.requires.sure
          any is;
      given = subst (λ (e : Entry). Grows (g.L.Listener.judged c.args.listener.now)
          (g.L.Listener.judged c.found.new.self)
          (record { line = one.line; entry = e; verdict = v } ∷ [])) c.copy.ensures given;
    })
