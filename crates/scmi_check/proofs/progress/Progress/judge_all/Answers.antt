use Rattle.std.proofs.Common.{◌≡◌, ◌+◌, ◌<◌, ◌∙◌, ◌∷◌, ◌++◌, [], ℕ, suc, List, length, take, get_or, refl, sym, ap, subst, rules, arith}
use Rattle.std.proofs.Math.Seq.{take-length, take-suc}
use Rattle.scmi_check.specs.Progress.{FindsMore}
use Rattle.scmi_check.specs.declared.record.Placed.{Placed}
use Rattle.scmi_check.proofs.Telling.{finds-more, finds-none}
use Rattle.scmi_check.proofs.progress.Progress.judge_all.Goals as goal

-- one entry more of those from the first on
take-next : (xs : List Placed) (i j : ℕ) (x : Placed) → j ≡ i + 1 → i < length xs
    → x ≡ get_or xs i x → take j xs ≡ take i xs ++ x ∷ []
take-next xs i j x next less is =
    let step : j ≡ suc i = omega (arith, next) in
    ap (λ (k : ℕ). take k xs) step ∙ take-suc xs i x less
    ∙ ap (λ (y : Placed). take i xs ++ y ∷ []) (sym is)

pub each-init : goal.each-init
each-init g c = record {
  judged = λ r b before judged being. finds-none r b before judged
      c.args.self.now (g.L.Listener.judged c.args.listener.now) being;
  noted = refl;
}

pub each-preserved : goal.each-preserved
each-preserved g c =
    let entries = c.args.entries.now in
    let one = c.one-item.result in
    let less : c.each.one-index < length entries = first_of (search rules, omega arith) in
    record {
      judged = λ r b before judged being.
          subst (λ (ps : List Placed). FindsMore r b (before ++ ps) judged c.judge.new.self
          (g.L.Listener.judged c.args.listener.now) (g.L.Listener.judged c.judge.new.listener))
          (sym (take-next entries c.each.one-index _ one (omega arith) less c.one-item.is))
          (finds-more r b before (take c.each.one-index entries) one judged c.each.self
          c.judge.new.self (g.L.Listener.judged c.args.listener.now)
          (g.L.Listener.judged c.each.listener) (g.L.Listener.judged c.judge.new.listener)
          (c.each.invariant.judged r b before judged being)
          (λ so_far now. c.in_ok-judge.ensures.judged r b
          (before ++ take c.each.one-index entries) so_far now));
      noted = c.in_ok-judge.ensures.noted ∙ c.each.invariant.noted;
    }

pub returns-clause-judged : goal.returns-clause-judged
returns-clause-judged g c = λ r b before judged being.
    let entries = c.args.entries.now in
    let at : c.each.one-index ≡ length entries =
    omega (arith, c.each.auto.one-index-end, c.each-test.false) in
    subst (λ (ps : List Placed). FindsMore r b (before ++ ps) judged c.each.self
    (g.L.Listener.judged c.args.listener.now) (g.L.Listener.judged c.each.listener))
    (ap (λ (k : ℕ). take k entries) at ∙ take-length entries)
    (c.each.invariant.judged r b before judged being)
