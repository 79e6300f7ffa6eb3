-- What a call on the endpoints at one place is of the whole controller.
use Rattle.std.proofs.Common.{◌≡◌, ℕ, ◌-◌, ◌<◌, List, length, map, get_or, set, ◌∙◌, sym, ap, refl, Bool, true, Result}
use Rattle.std.proofs.lemmas.List.{get_or-map, get_or_read}
use Rattle.std.proofs.lemmas.Bool.{false≢true}
use Rattle.std.specs.Prelude.{slice_get, Option, Some, None, is_some, [], ◌∷◌}
use Rattle.std.specs.Option.{option_or}
use Rattle.scmi_link.specs.View.{CallerView, CalleeView, new_caller, new_callee}
use Rattle.scmi_link.specs.declared.closing.Closing.{Closing}
use Rattle.scmi_link.specs.declared.close_error.CloseError.{CloseError}
use Rattle.scmi_plan.specs.Board.{Board}
use Rattle.scmi_core.specs.declared.event.Event.{Event}
use Rattle.scmi_link.specs.declared.served.Served.{Served}
use Rattle.scmi_link.specs.declared.flushed.Flushed.{Flushed}
use Rattle.scmi_link.specs.declared.shut_error.ShutError.{ShutError}
use Rattle.scmi_ends.specs.AgentView.{AgentView, IsOfLink}
use Rattle.scmi_ends.specs.ControllerView.{ControllerView}
use Rattle.scmi_core.specs.Asked.{Asked}
use Rattle.scmi_ends.specs.Serve.{ServesOne, Serves}
use Rattle.scmi_ends.specs.ServeOn.{ServesOneOn, ServesOn}
use Rattle.scmi_ends.specs.Flush.{CollectsAndFlushes, Flushes}
use Rattle.scmi_ends.specs.Shut.{CollectsAndShuts, Shuts}
use Rattle.scmi_ends.proofs.Lists.{map_at_set, name_at}

-- what the item at a place shows
pub view_at : {D V : Type 0} (f : D → V) (ds : List D) (i : ℕ) (x : D) (v : V) → i < length ds
    → x ≡ get_or ds i x → get_or (map f ds) i v ≡ f x
view_at f ds i x v lt is = get_or-map f ds i x v lt ∙ ap f (sym is)

-- the item at a place, whatever the value for one beyond the last
pub item_at : {D : Type 0} (ds : List D) (i : ℕ) (x d : D) → i < length ds → x ≡ get_or ds i x
    → get_or ds i d ≡ x
item_at ds i x d lt is = sym (get_or_read ds i x lt is d)

-- the platform's side, field by field
abbrev pub whole : Board → List Event → ℕ → List CalleeView → List CallerView → List (Option ℕ)
    → List (List ℕ) → List (List ℕ) → ControllerView
whole board h room ds cs ps an pn = record {
  board = board;
  history = h;
  room = room;
  callees = ds;
  callers = cs;
  closed_at = ps;
  a2p_identities = an;
  p2a_identities = pn;
}

module _ {D : Type 0} (f : D → CalleeView) (ds : List D) (a : ℕ) (x d : D)
    (board board' : Board) (h h' : List Event) (cs : List CallerView) (ps : List (Option ℕ))
    (an an' pn : List (List ℕ)) (m m' : ℕ)
    (lt : a - 1 < length ds) (is : x ≡ get_or ds (a - 1) x) (eb : board' ≡ board)
    (ea : an' ≡ an) where
  pub serves : (r : Served) → ServesOne board a h (f x) r h' (f d) → Serves a (whole board h m
      (map f ds) cs ps an pn) r (whole board' h' m' (map f (set ds (a - 1) d)) cs ps an' pn)
  serves r s = rw (eb, ea, map_at_set f ds (a - 1) d)
      (record { callee = f d; step = rw (view_at f ds (a - 1) x new_callee lt is) s; same = refl })

  pub serves_on : (asked asked' : List Asked → Type 0) (r : Served) → ServesOneOn board a h asked
      (f x) r h' asked' (f d) → ServesOn a (whole board h m (map f ds) cs ps an pn) asked r
      (whole board' h' m' (map f (set ds (a - 1) d)) cs ps an' pn) asked'
  serves_on asked asked' r s = rw (eb, ea, map_at_set f ds (a - 1) d)
      (record { callee = f d; step = rw (view_at f ds (a - 1) x new_callee lt is) s; same = refl })

module _ {D : Type 0} (f : D → CallerView) (ds : List D) (a : ℕ) (x d : D)
    (board board' : Board) (h h' : List Event) (vs : List CalleeView) (ps : List (Option ℕ))
    (an pn pn' : List (List ℕ)) (m m' : ℕ)
    (lt : a - 1 < length ds) (is : x ≡ get_or ds (a - 1) x) (eb : board' ≡ board)
    (ep : pn' ≡ pn) where
  pub flushes : (full : Bool) (r : Flushed) → CollectsAndFlushes full board a h (f x) r h' (f d)
      → Flushes full a (whole board h m vs (map f ds) ps an pn) r
      (whole board' h' m' vs (map f (set ds (a - 1) d)) ps an pn')
  flushes full r s = rw (eb, ep, map_at_set f ds (a - 1) d)
      (record { caller = f d; step = rw (view_at f ds (a - 1) x new_caller lt is) s; same = refl })

module _ {D E : Type 0} (f : D → CallerView) (k : E → CalleeView)
    (ds : List D) (es : List E) (a : ℕ) (x d : D) (y e : E) (board : Board) (h : List Event)
    (an an' pn pn' : List (List ℕ)) (m : ℕ)
    (lt : a - 1 < length ds) (is : x ≡ get_or ds (a - 1) x)
    (ep : pn' ≡ pn) (lt' : a - 1 < length es) (is' : y ≡ get_or es (a - 1) y) (ea : an' ≡ an)
    (closed : k e ≡ record (k y) { closed = true })
    (ps : List (Option ℕ)) (p p' : Option ℕ) (lt'' : a - 1 < length ps)
    (is'' : p ≡ get_or ps (a - 1) p) (noted : p' ≡ option_or p (Some (length h))) where
  pub shuts : (shows : CallerView → Result Closing CloseError → Type 0)
      (r : Result (Unit {0}) ShutError) → CollectsAndShuts shows (f x) r (f d)
      → Shuts shows a (whole board h m (map k es) (map f ds) ps an pn) r (whole board h m
      (map k (set es (a - 1) e)) (map f (set ds (a - 1) d)) (set ps (a - 1) p') an' pn')
  shuts shows r s =
      rw (ep, ea, map_at_set f ds (a - 1) d, map_at_set k es (a - 1) e, closed, noted) (record {
        caller = f d;
        step = rw (view_at f ds (a - 1) x new_caller lt is) s;
        same = rw
            (view_at k es (a - 1) y new_callee lt' is', item_at ps (a - 1) p None lt'' is'') refl;
      })

-- a list without a first item is empty
pub nothing_first : {X : Type 0} (xs : List X) → None ≡ slice_get xs 0 → xs ≡ []
nothing_first [] h = refl
nothing_first (x ∷ xs) h = absurd (false≢true (ap is_some h))

-- an agent's end goes with the link at its place
pub of_link_at : {L : Type 0} (f k : L → List ℕ) (agents : List AgentView) (links : List L) (i : ℕ)
    (agent : AgentView) (link : L)
    → map (λ e. e.a2p_identity) agents ≡ map f links
    → map (λ e. e.p2a_identity) agents ≡ map k links → i < length agents
    → agent ≡ get_or agents i agent → link ≡ get_or links i link → IsOfLink (f link) (k link) agent
of_link_at f k agents links i agent link a p lt is own = record {
  of_a2p = name_at (λ e. e.a2p_identity) f agents links i agent link a lt is ∙ sym (ap f own);
  of_p2a = name_at (λ e. e.p2a_identity) k agents links i agent link p lt is ∙ sym (ap k own);
}
