-- The platform's ends stay open through a round.
use Rattle.std.proofs.Common.{◌≡◌, ℕ, zero, suc, ◌-◌, Bool, false, List, [], ◌∷◌, get_or, refl, sym, ap, ◌∙◌, subst}
use Rattle.std.specs.List.{All}
use Rattle.std.proofs.lemmas.List.Elements.{All-head, All-tail, All-set}
use Rattle.scmi_link.specs.View.{CalleeView, new_callee}
use Rattle.scmi_link.specs.declared.served.Served.{Served}
use Rattle.scmi_link.specs.declared.served.Served.TheVariants as served
use Rattle.scmi_link.specs.declared.flushed.Flushed.{Flushed}
use Rattle.scmi_ends.specs.ControllerView.{ControllerView, callee_of}
use Rattle.scmi_ends.specs.ServeOn.{ServesOn, ServesOneOn}
use Rattle.scmi_ends.specs.Flush.{Flushes}
use Rattle.scmi_core.specs.Asked.{Asked}
use Rattle.scmi_plan.specs.Board.{Board}
use Rattle.scmi_core.specs.declared.event.Event.{Event}
use Rattle.scmi_threads.specs.Rounds.{IsOpenToAll}

abbrev is_open : CalleeView → Type 0
is_open callee = callee.closed ≡ false

one_open : (ds : List CalleeView) (i : ℕ) → All is_open ds → is_open (get_or ds i new_callee)
one_open [] i h = refl
one_open (d ∷ ds) zero h = All-head is_open d ds h
one_open (d ∷ ds) (suc i) h = one_open ds i (All-tail is_open d ds h)

stays_open : (board : Board) (a : ℕ) (h h' : List Event) (b b' : List Asked → Type 0)
    (v w : CalleeView) (r : Served) → ServesOneOn board a h b v r h' b' w → is_open v → is_open w
stays_open board a h h' b b' v w served.Nothing s o = ap (λ u. u.closed) s.2.same ∙ o
stays_open board a h h' b b' v w served.Done s o = ap (λ u. u.closed) s.end ∙ o

pub serves_on_open : (a : ℕ) (c : ControllerView) (b : List Asked → Type 0) (r : Served)
    (c' : ControllerView) (b' : List Asked → Type 0) → ServesOn a c b r c' b' → IsOpenToAll c
    → IsOpenToAll c'
serves_on_open a c b r c' b' s o = subst (λ ds. All is_open ds) (sym (ap (λ u. u.callees) s.same))
    (All-set is_open c.callees (a - 1) s.callee (stays_open c.board a c.history c'.history b b'
    (callee_of c a) s.callee r s.step (one_open c.callees (a - 1) o)) o)

pub flushes_open : (full : Bool) (a : ℕ) (c c' : ControllerView) (r : Flushed)
    → Flushes full a c r c' → IsOpenToAll c → IsOpenToAll c'
flushes_open full a c c' r s o = subst (λ ds. All is_open ds) (sym (ap (λ u. u.callees) s.same)) o
