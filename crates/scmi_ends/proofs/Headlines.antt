-- The headline, from what the platform keeps and from what the gathering shows.
use Rattle.std.proofs.Common.{◌≡◌, ℕ, ◌+◌, ◌⊎◌, inl, inr, List, [], ◌∷◌, ◌++◌, ◌∙◌, sym, ap, map, arith}
use Rattle.std.proofs.lemmas.List.{append_assoc, map-append}
use Rattle.scmi_codec.specs.declared.frame.Frame.{Frame}
use Rattle.scmi_codec.specs.declared.frame.Frame.TheVariants.{Good}
use Rattle.scmi_link.specs.View.{CallerView, CalleeView}
use Rattle.scmi_link.specs.Gathered.{IsAllButLast}
use Rattle.scmi_plan.specs.Board.{Board}
use Rattle.scmi_core.specs.History.{delivered_messages, outbox, made_for}
use Rattle.scmi_core.proofs.Laws.{made_is}
use Rattle.scmi_core.specs.declared.event.Event.{Event}
use Rattle.scmi_ends.specs.Each.{AllFrom}
use Rattle.scmi_ends.specs.AgentView.{AgentView}
use Rattle.scmi_ends.specs.Agreement.{IsServed, IsDelivered}
use Rattle.scmi_ends.specs.Headline.{CommandsAgree, IsAllMade, MessagesAgree, Headlines, AreGathered, AllGathered}

-- the frames posted are those taken, at most one more, and then the outbox makes up all that was
-- made
rest_made : (board : Board) (h : List Event) (a : ℕ) (taken posted : List Frame) → posted
    ≡ map Good (delivered_messages board a h) → (taken ≡ posted) ⊎ IsAllButLast taken posted
    → IsAllMade board h a taken
rest_made board h a taken posted p g =
    let all : map Good (delivered_messages board a h) ++ map Good (outbox board a h)
    ≡ map Good (made_for board a h) = sym (map-append Good (delivered_messages board a h)
    (outbox board a h)) ∙ ap (map Good) (made_is board a h) in
    elim g [
      | inl e ↦ ([], omega arith, ap (λ fs. fs ++ map Good (outbox board a h)) (e ∙ p) ∙ all)
      | inr w ↦ (
        w.0 ∷ [],
        omega arith,
        sym (append_assoc taken (w.0 ∷ []) (map Good (outbox board a h)))
            ∙ ap (λ fs. fs ++ map Good (outbox board a h)) (sym w.1 ∙ p) ∙ all,
      )
    ]

commands_agree : (board : Board) (h : List Event) (a : ℕ) (caller : CallerView)
    (callee : CalleeView) → IsServed board h a callee → AreGathered caller callee
    → CommandsAgree board h a caller callee
commands_agree board h a caller callee s g = record {
  executed = elim g.0.taken [
    | inl t ↦ inl (sym s.taken ∙ t)
    | inr w ↦ inr
        (w.0, w.1 ∙ ap (λ fs. fs ++ w.0 ∷ []) s.taken)
  ];
  replies = (g.0.read.0, g.0.read.1 ∙ s.answered);
  left = λ l. let r = g.1.left l in
      ((r.0.0, r.0.1 ∙ ap (λ fs. fs ++ r.0.0 ∷ []) s.taken), r.1 ∙ s.answered);
  idle = λ l m. let r = g.1.idle l m in (sym s.taken ∙ r.0, r.1 ∙ s.answered);
  agent_told = g.1.caller_told;
  platform_told = g.1.callee_told;
}

messages_agree : (board : Board) (h : List Event) (a : ℕ) (caller : CallerView)
    (callee : CalleeView) → IsDelivered board h a caller → AreGathered caller callee
    → MessagesAgree board h a caller callee
messages_agree board h a caller callee p g = record {
  taken = elim g.0.taken [ inl t ↦ inl (t ∙ p) | inr w ↦ inr (w.0, sym p ∙ w.1) ];
  made = rest_made board h a callee.taken caller.posted p g.0.taken;
  left = λ l. let r = g.1.left l in (r.0.0, sym p ∙ r.0.1);
  idle = λ l m. (g.1.idle l m).0 ∙ p;
  agent_told = g.1.callee_told;
  platform_told = g.1.caller_told;
}

pub headlines : (board : Board) (h : List Event) (n : ℕ) (agents : List AgentView)
    (callees : List CalleeView) (callers : List CallerView)
    → AllFrom (IsServed board h) n callees → AllFrom (IsDelivered board h) n callers
    → AllGathered agents callees callers → Headlines board h n agents callees callers
headlines board h n [] callees callers s p g = tt
headlines board h n (agent ∷ agents) [] callers s p g = absurd g
headlines board h n (agent ∷ agents) (callee ∷ callees) [] s p g = absurd g
headlines board h n (agent ∷ agents) (callee ∷ callees) (caller ∷ callers) s p g = (
  record {
    commands = commands_agree board h n agent.caller callee s.0 g.0;
    messages = messages_agree board h n caller agent.callee p.0 g.1;
  },
  headlines board h (n + 1) agents callees callers s.1 p.1 g.2,
)
