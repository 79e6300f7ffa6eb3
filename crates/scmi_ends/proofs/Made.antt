-- What `connect` makes keeps the empty history.
use Rattle.std.proofs.Common.{◌≡◌, ℕ, zero, suc, ◌+◌, List, [], ◌∷◌, length, map, replicate, Option, None, sym, ap, refl, ◌∙◌}
use Rattle.std.specs.Prelude.{is_some, false}
use Rattle.std.proofs.lemmas.List.{length-replicate}
use Rattle.scmi_codec.specs.declared.frame.Frame.TheVariants.{Good}
use Rattle.scmi_link.specs.View.{CalleeView, new_caller, new_callee}
use Rattle.scmi_plan.specs.Board.{Board}
use Rattle.scmi_core.proofs.Laws.{frames_empty, answers_empty, delivered_empty, empty_is_legal}
use Rattle.scmi_ends.specs.Each.{AllFrom}
use Rattle.scmi_core.specs.declared.event.Event.{Event}
use Rattle.scmi_ends.specs.Agreement.{ExecutesNoneAfter, IsServed, IsDelivered, EndsAgree}

-- new endpoints of A2P
served_new : (board : Board) (n k : ℕ) → AllFrom (IsServed board []) n (replicate k new_callee)
served_new board n zero = tt
served_new board n (suc k) = (
  record {
    taken = sym (frames_empty n);
    answered = sym (answers_empty board n);
  },
  served_new board (n + 1) k,
)

-- new endpoints of P2A
delivers_new : (board : Board) (n k : ℕ) → AllFrom (IsDelivered board []) n (replicate k new_caller)
delivers_new board n zero = tt
delivers_new board n (suc k) =
    (ap (map Good) (sym (delivered_empty board n)), delivers_new board (n + 1) k)

-- none is closed
places_new : (k : ℕ) → map (λ (v : CalleeView). v.closed) (replicate k new_callee)
    ≡ map is_some (replicate {A = Option ℕ} k None)
places_new zero = refl
places_new (suc k) = ap (λ bs. false ∷ bs) (places_new k)

none_after_new : (h : List Event) (n k : ℕ) → AllFrom (ExecutesNoneAfter h) n (replicate k None)
none_after_new h n zero = tt
none_after_new h n (suc k) = (tt, none_after_new h (n + 1) k)

-- the whole of them
pub agrees_new : (board : Board) (k : ℕ) → k ≡ length board.agents
    → EndsAgree board [] (replicate k new_callee) (replicate k new_caller) (replicate k None)
agrees_new board k e = record {
  legal = empty_is_legal board;
  callees_count = length-replicate k new_callee ∙ e;
  callers_count = length-replicate k new_caller ∙ e;
  closed_at_count = length-replicate k None ∙ e;
  served = served_new board 1 k;
  delivers = delivers_new board 1 k;
  shut = record { places = places_new k; none_after = none_after_new [] 1 k };
}
