use Rattle.std.proofs.Common.{◌≡◌, ◌++◌, length, sym, ap, ◌∙◌, subst}
use Rattle.std.proofs.lemmas.Result.{on_ok_weaker}
use Rattle.scmi_plan.specs.Agent.{IsAgent}
use Rattle.scmi_ends.specs.ControllerView.{caller_of}
use Rattle.scmi_laws.specs.Round.{AddsFairly, EndsFirst, HasPostedAll, IsOrderly}
use Rattle.scmi_laws.proofs.RoundCalls.{fair-bound, fair-served, round-pending}
use Rattle.scmi_laws.proofs.rounds.run_round.Goals as goal
use Rattle.scmi_laws.proofs.rounds.run_round.Goals.{After-flush_each}

-- a round that is cut off while it serves
pub returns-in_err-serve_each-clause-fair : goal.returns-in_err-serve_each-clause-fair
returns-in_err-serve_each-clause-fair g c =
    fair-served (length c.args.platform.now.board.agents) c.args.platform.now.history
    c.serve_each.new.platform.history c.serve_each.ensures.commands

pub returns-in_err-serve_each-clause-grows : goal.returns-in_err-serve_each-clause-grows
returns-in_err-serve_each-clause-grows g c =
    fair-bound (length c.args.platform.now.board.agents) c.args.platform.now.history
    c.serve_each.new.platform.history (returns-in_err-serve_each-clause-fair g c)

-- or before it ends a set
pub returns-in_err-advance_on-clause-fair : goal.returns-in_err-advance_on-clause-fair
returns-in_err-advance_on-clause-fair g c =
    let n = length c.args.platform.now.board.agents in
    let old = c.args.platform.now.history in
    subst (λ v. AddsFairly n old v.history) (sym c.in_err-advance_on.ensures.err)
    (fair-served n old c.serve_each.new.platform.history c.serve_each.ensures.commands)

pub returns-in_err-advance_on-clause-grows : goal.returns-in_err-advance_on-clause-grows
returns-in_err-advance_on-clause-grows g c =
    fair-bound (length c.args.platform.now.board.agents) c.args.platform.now.history
    c.advance_on.new.self.history (returns-in_err-advance_on-clause-fair g c)

module _ (g : _) (c : After-flush_each g) where
  pending : EndsFirst c.args.platform.now.board c.args.platform.now.history
      c.flush_each.new.platform.history
  pending =
      round-pending c.args.platform.now c.serve_each.new.platform c.advance_on.new.self
      c.flush_each.new.platform c.in_ok-advance_on.field-0
      (g.H.Hardware.asked c.serve_each.new.hardware) (g.H.Hardware.asked c.advance_on.new.hardware)
      c.serve_each.ensures.board c.advance_on.ensures.board c.flush_each.ensures.board
      c.serve_each.ensures.commands c.in_ok-advance_on.ensures.happens
      c.in_ok-advance_on.ensures.same c.in_ok-advance_on.ensures.pending.1
      c.advance_on.ensures.agrees c.flush_each.ensures.postings c.flush_each.ensures.agrees

  callers : c.advance_on.new.self.callers ≡ c.args.platform.now.callers
  callers = ap (λ v. v.callers) c.advance_on.ensures.rest ∙ c.serve_each.ensures.callers

  board : c.advance_on.new.self.board ≡ c.args.platform.now.board
  board = c.advance_on.ensures.board ∙ c.serve_each.ensures.board

pub returns-clause-fair : goal.returns-clause-fair
returns-clause-fair g c = (pending g (goal.at.returns-clause-fair g c).After-flush_each).round

pub returns-clause-grows : goal.returns-clause-grows
returns-clause-grows g c =
    let at = (goal.at.returns-clause-grows g c).After-flush_each in
    fair-bound (length c.args.platform.now.board.agents) c.args.platform.now.history
    c.flush_each.new.platform.history (pending g at).round

pub returns-clause-pending : goal.returns-clause-pending
returns-clause-pending g c =
    on_ok_weaker c.flush_each.result
    (λ posted. pending g (goal.at.returns-clause-pending g c).After-flush_each)
    c.flush_each.ensures.posted

pub returns-clause-made : goal.returns-clause-made
returns-clause-made g c = λ before made.
    subst (λ it. g.H.Hardware.asked c.advance_on.new.hardware (before ++ it))
    (sym c.flush_each.ensures.made)
    (c.advance_on.ensures.made before (c.serve_each.ensures.made before made))

pub returns-clause-posted : goal.returns-clause-posted
returns-clause-posted g c =
    let at = (goal.at.returns-clause-posted g c).After-flush_each in
    let q = c.advance_on.new.self in
    let new = c.flush_each.new.platform in
    let full = g.C.Channel.FULL in
    on_ok_weaker c.flush_each.result
    (λ posted a agent is.
    subst (λ b. HasPostedAll full b a new.history (caller_of new a)) (board g at)
    (posted a (subst (λ b. IsAgent (length b.agents) a) (sym (board g at)) agent)
    (subst (λ callers. IsOrderly (caller_of (record q { callers = callers }) a))
    (sym (callers g at)) is)))
    c.flush_each.ensures.posted
