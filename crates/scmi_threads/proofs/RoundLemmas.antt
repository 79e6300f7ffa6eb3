-- A round, call by call.
use Rattle.std.proofs.Common.{◌≡◌, ℕ, Bool, false, List, [], ◌∷◌, ◌++◌, refl, sym, ap, subst, ◌∙◌}
use Rattle.std.specs.Prelude.{IsTrue}
use Rattle.scmi_core.specs.Driven.{HappensOn, HasMade, IsEnd}
use Rattle.scmi_core.specs.Asked.{Asked}
use Rattle.scmi_core.specs.declared.event.Event.{Event}
use Rattle.scmi_core.specs.declared.event.Event.TheVariants.{Advance, Sent}
use Rattle.scmi_link.specs.declared.flushed.Flushed.{Flushed}
use Rattle.scmi_link.specs.declared.flushed.Flushed.TheVariants as flushed
use Rattle.scmi_link.specs.declared.served.Served.{Served}
use Rattle.scmi_ends.proofs.PlainCalls.{flushed_all, flushed_asks, served_plain}
use Rattle.scmi_ends.specs.ControllerView.{ControllerView}
use Rattle.scmi_ends.specs.Flush.{Flushes, FlushesOne}
use Rattle.scmi_ends.specs.Links.{HasLinks}
use Rattle.scmi_ends.specs.Serve.{Serves}
use Rattle.scmi_ends.specs.ServeOn.{ServesOn}
use Rattle.scmi_ends.specs.declared.link.Link.{Link}
use Rattle.scmi_link.specs.View.{CallerView}
use Rattle.scmi_plan.specs.Board.{Board}
use Rattle.scmi_core.specs.Plain.{IsPlain}
use Rattle.scmi_threads.specs.Rounds.{GoesOn, IsOfRounds}
use Rattle.scmi_threads.proofs.Opened.{flushes_open, serves_on_open}
use Rattle.scmi_threads.proofs.PlainLemmas.{advanced_of_rounds, advanced_plain, served_of_rounds}

-- what an outbox is flushed of changes nothing of the hardware
flushed_made : (full : Bool) (board : Board) (a : ℕ) (h h' : List Event) (v w : CallerView)
    (r : Flushed) (asked : List Asked → Type 0) (before : List Asked) → FlushesOne full board a h v
    r h' w → HasMade before board h asked → HasMade before board h' asked
flushed_made full board a h h' v w r asked before s made =
    subst (λ asks. asked (before ++ asks)) (sym (flushed_asks full board a h h' v w r s)) made

module _ {C Caller Callee Rest : Type 0} (refuses : Bool) (identity : C → List ℕ) (links : List
    (Link C Caller Callee Rest)) (old c c' : ControllerView) (asked b : List Asked → Type 0) where
  pub and_served : (b' : List Asked → Type 0) (a : ℕ) (r : Served)
      → GoesOn refuses identity links old asked c b → HasLinks identity links c'
      → c'.board ≡ c.board → ServesOn a c b r c' b' → (refuses ≡ false → Serves a c r c')
      → ((before : List Asked) → HasMade before c.board c.history b
      → HasMade before c'.board c'.history b') → GoesOn refuses identity links old asked c' b'
  and_served b' a r so_far is same serves obeyed makes = record {
    has_links = is;
    board = same ∙ so_far.board;
    open_ends = serves_on_open a c b r c' b' serves so_far.open_ends;
    made = λ before made. makes before (so_far.made before made);
    of_rounds = λ none. served_of_rounds a c b r c' b' serves (so_far.of_rounds none);
    plain = λ never none. served_plain a c r c' (obeyed never) (so_far.plain never none);
  }

  pub and_advanced : (b' : List Asked → Type 0) (did : Bool) → GoesOn
      refuses identity links old asked c b → c' ≡ record c { history = c'.history; room = c'.room }
      → (IsTrue did → HappensOn c.board IsEnd c.history b c'.history b')
      → (refuses ≡ false → IsTrue did → c'.history ≡ c.history ++ Advance ∷ [])
      → (¬ (IsTrue did) → c' ≡ c)
      → ((before : List Asked) → HasMade before c.board c.history b
      → HasMade before c'.board c'.history b') → GoesOn refuses identity links old asked c' b'
  and_advanced b' did so_far same happens obeyed still makes =
      let moved : GoesOn refuses identity links old asked
      (record c { history = c'.history; room = c'.room }) b' = record {
        has_links = record { of_a2p = so_far.has_links.of_a2p; of_p2a = so_far.has_links.of_p2a };
        board = so_far.board;
        open_ends = so_far.open_ends;
        made = λ before made. subst (λ v. HasMade before v.board v.history b') same
            (makes before (so_far.made before made));
        of_rounds = λ none. advanced_of_rounds did c.board c.history c'.history b b' happens
            (λ not. ap (λ v. v.history) (still not)) (so_far.of_rounds none);
        plain = λ never none. advanced_plain did c.history c'.history (obeyed never)
            (λ not. ap (λ v. v.history) (still not)) (so_far.plain never none);
      } in
      subst (λ v. GoesOn refuses identity links old asked v b') (sym same) moved

  pub and_flushed : (full : Bool) (a : ℕ) (r : Flushed)
      → GoesOn refuses identity links old asked c b → HasLinks identity links c'
      → c'.board ≡ c.board → Flushes full a c r c' → GoesOn refuses identity links old asked c' b
  and_flushed full a r so_far is same flushes = record {
    has_links = is;
    board = same ∙ so_far.board;
    open_ends = flushes_open full a c c' r flushes so_far.open_ends;
    made = λ before made. subst (λ k. HasMade before k c'.history b) (sym same)
        (flushed_made full c.board a c.history c'.history flushes.step.collected flushes.caller r b
        before flushes.step.step (so_far.made before made));
    of_rounds = λ none. flushed_all IsOfRounds full a c r c' tt flushes (so_far.of_rounds none);
    plain = λ never none. flushed_all IsPlain full a c r c' tt flushes (so_far.plain never none);
  }

-- one round after others
module _ {C Caller Callee Rest : Type 0} (refuses : Bool)
    (identity : C → List ℕ) (links : List (Link C Caller Callee Rest)) (old c c' : ControllerView)
    (asked b b' : List Asked → Type 0) where
  pub and_on : GoesOn refuses identity links old asked c b → GoesOn refuses identity links c b c' b'
      → GoesOn refuses identity links old asked c' b'
  and_on so_far more = record {
    has_links = more.has_links;
    board = more.board ∙ so_far.board;
    open_ends = more.open_ends;
    made = λ before made. more.made before (so_far.made before made);
    of_rounds = λ none. more.of_rounds (so_far.of_rounds none);
    plain = λ never none. more.plain never (so_far.plain never none);
  }

-- the rounds of a whole run, of which the history at the end has another name
pub made_of_run : (plan b b' : Board) (h h' k : List Event) (asked asked' : List Asked → Type 0)
    → b ≡ plan → h ≡ [] → b' ≡ b → k ≡ h'
    → ((before : List Asked) → HasMade before b h asked → HasMade before b' h' asked')
    → (before : List Asked) → HasMade before plan [] asked → HasMade before plan k asked'
made_of_run plan b b' h h' k asked asked' began none same is makes before made =
    subst (λ events. HasMade before plan events asked') (sym is)
    (subst (λ board. HasMade before board h' asked') (same ∙ began)
    (makes before
    (subst (λ board. HasMade before board h asked) (sym began)
    (subst (λ events. HasMade before plan events asked) (sym none) made))))
