-- Each change of a legal history came of a command or a report of its own.
use Rattle.std.proofs.Common.{◌≡◌, inl, inr, ℕ, ◌<◌, ◌≤◌, true, List, [], ◌∷◌, ◌++◌, length, map, drop, slice_get, Option, Some, None, option_map, unwrap_or, refl, sym, ap, ◌∙◌, subst, arith}
use Rattle.std.specs.List.{AllZip}
use Rattle.std.specs.Option.{option_and_then, option_or, option_to_list}
use Rattle.std.proofs.lemmas.List.{append_assoc, append-nil, length-append}
use Rattle.scmi_codec.specs.declared.frame.Frame.TheVariants.{Good, Malformed}
use Rattle.scmi_codec.specs.declared.message.Message.{Message}
use Rattle.scmi_plan.specs.Agent.{IsAgent}
use Rattle.scmi_plan.specs.Board.{Board, is_free}
use Rattle.scmi_plan.specs.declared.effect.Effect.{Effect}
use Rattle.scmi_core.specs.declared.event.Event.{Event}
use Rattle.scmi_core.specs.declared.event.Event.TheVariants.{Command, Advance, Sent, CommandFailed, AdvanceFailed, Restarted, Promoted, Settled, Reported}
use Rattle.scmi_core.specs.declared.pending_set.PendingSet.{PendingSet}
use Rattle.scmi_core.specs.Deed.{Deed, Success, fold_with_prefix, success_at}
use Rattle.scmi_core.specs.History.{deed_after, deeds}
use Rattle.scmi_core.specs.Laws.{change_asked}
use Rattle.scmi_core.specs.Legal.{CanFollow, IsLegal}
use Rattle.scmi_core.specs.Pending.{acceptance, pending_sets, promoted, settled, unwanted}
use Rattle.scmi_core.specs.Value.{Change, change_now, change_reported, changes, completion}
use Rattle.scmi_core.proofs.Causes.{IsCausedAfter, cause-kept, cause-settled, caused, later, later-asked, now-asked}
use Rattle.scmi_core.proofs.Following.{change_in, pending_next}
use Rattle.scmi_core.proofs.Legal.{Grown, IsLegal-front, IsLegal-last, empty, grow, grown}
use Rattle.scmi_laws.specs.Causes.{CameOf, CameOfCommand, HasOwnCauses}
use Rattle.scmi_laws.proofs.Added.{changed-more, pending-more}
use Rattle.scmi_laws.proofs.Apart.{AllBelow, Apart, all-pairs, apart-front, apart-insert, apart-promoted, apart-push, apart-remove, below-more, each-insert, each-promoted, each-push, each-remove, zip-append, zip-promoted, zip-weaker}

-- A SUCCESS CHANGES AT ONCE OR IS ACCEPTED FOR LATER, NEVER BOTH

later-not_now : (board : Board) (o : Option Success) (p : PendingSet)
    → option_and_then (acceptance board) o ≡ Some p → option_and_then (change_now board) o ≡ None
later-not_now board None p is = refl
later-not_now board (Some s) p is = later board s.caller s.header p s.command is

-- THE EVENT AT A PLACE

-- a cause after as many events as the place says
at-place : (board : Board) {h before : List Event} (n : ℕ) (change : Change)
    → IsCausedAfter board h before change → length before ≡ n → CameOfCommand board h n change
at-place board n change is place =
    record { cause = is.cause; place_is = ap length is.before_is ∙ place }

-- one event more leaves a change the command or the report that it came of
command-kept : (board : Board) (h : List Event) (e : Event) (n : ℕ) (change : Change)
    → CameOfCommand board h n change → CameOfCommand board (h ++ e ∷ []) n change
command-kept board h e n change had =
    at-place board n change (cause-kept board h e change had.cause) had.place_is

came-kept : (board : Board) (h : List Event) (e : Event) (n : ℕ) (change : Change)
    → CameOf board h n change → CameOf board (h ++ e ∷ []) n change
came-kept board h e n change (inr had) =
    let was = had.report in
    inr (record {
      report = record {
        before = was.before;
        effect = was.effect;
        after = was.after ++ e ∷ [];
        place =
            ap (λ xs. xs ++ e ∷ []) was.place
            ∙ append_assoc was.before (Reported was.effect ∷ was.after) (e ∷ []);
        says = was.says;
        known = was.known;
      };
      place_is = had.place_is;
    })
came-kept board h e n change (inl had) = inl (command-kept board h e n change had)

-- a report is that of its change
said : (board : Board) (h : List Event) (effect : Effect) (change : Change)
    → CanFollow board h (Reported effect) → Some (change_reported effect) ≡ Some change
    → CameOf board (h ++ Reported effect ∷ []) (length h) change
said board h effect change follows is =
    inr (record {
      report = record {
        before = h;
        effect = effect;
        after = [];
        place = refl;
        says = sym (ap (λ o. unwrap_or o change) is);
        known = follows;
      };
      place_is = refl;
    })

-- the last command is that of what it asked for
came : (board : Board) (h : List Event) (a : ℕ) (m : Message) (change : Change)
    → IsAgent (length board.agents) a
    → option_and_then (change_asked board)
    (success_at board (Command a (Good m))
    (deed_after board (deeds board h) (Command a (Good m))).reply)
    ≡ Some change
    → CameOfCommand board (h ++ Command a (Good m) ∷ []) (length h) change
came board h a m change agent asked =
    at-place board (length h) change (caused board h a m change agent asked) refl

-- PLACES FOR ALL CHANGES AND ALL PENDING SETS

-- these changes, and those that these sets are to make, came of events at different places, and the
-- latter of commands
record HasPlaces (board : Board) (h : List Event)
    (cs : List Change) (ps : List PendingSet) : Type 0 where
  pub places : List ℕ
  pub waiting : List ℕ
  pub changed : AllZip (CameOf board h) places cs
  pub pending : AllZip (λ n p. CameOfCommand board h n (completion p)) waiting ps
  pub apart : Apart (places ++ waiting)
  pub below : AllBelow (length h) (places ++ waiting)

-- the first pending set ends
module _ (board : Board) (h : List Event) (cs : List Change) where
  completed : (p : PendingSet) (ps : List PendingSet) → HasPlaces board h cs (p ∷ ps)
      → HasPlaces board h (cs ++ completion p ∷ []) ps
  completed p ps had = by had.waiting had.pending had.apart had.below
    where
      by : (waiting : List ℕ)
          → AllZip (λ n p. CameOfCommand board h n (completion p)) waiting (p ∷ ps)
          → Apart (had.places ++ waiting) → AllBelow (length h) (had.places ++ waiting)
          → HasPlaces board h (cs ++ completion p ∷ []) ps
      by [] pending apart below = absurd pending
      by (n ∷ ns) pending apart below =
          let same = sym (append_assoc had.places (n ∷ []) ns) in
          record {
            places = had.places ++ n ∷ [];
            waiting = ns;
            changed =
                zip-append (CameOf board h) had.places (n ∷ []) cs (completion p ∷ []) had.changed
                (inl pending.0, tt);
            pending = pending.1;
            apart = subst Apart same apart;
            below = subst (AllBelow (length h)) same below;
          }

  first : (ps : List PendingSet) → HasPlaces board h cs ps
      → HasPlaces board h
      (cs ++ option_to_list (option_or (option_map completion (slice_get ps 0)) None)) (drop 1 ps)
  first [] had = subst (λ it. HasPlaces board h it []) (sym (append-nil cs)) had
  first (p ∷ ps) had = completed p ps had

  failed : (ps : List PendingSet) → HasPlaces board h cs ps
      → HasPlaces board h cs (drop 1 ps)
  failed [] had = had
  failed (p ∷ ps) had = by had.waiting had.pending had.apart had.below
    where
      by : (waiting : List ℕ)
          → AllZip (λ n p. CameOfCommand board h n (completion p)) waiting (p ∷ ps)
          → Apart (had.places ++ waiting) → AllBelow (length h) (had.places ++ waiting)
          → HasPlaces board h cs ps
      by [] pending apart below = absurd pending
      by (n ∷ ns) pending apart below = record {
        places = had.places;
        waiting = ns;
        changed = had.changed;
        pending = pending.1;
        apart = apart-remove had.places ns n apart;
        below = each-remove (λ k. k < length h) had.places ns n below;
      }

  -- an agent that restarts keeps its sets
  restarted : (a : ℕ) (ps : List PendingSet) → HasPlaces board h cs ps
      → HasPlaces board h cs (map (unwanted a) ps)
  restarted a ps had = record {
    places = had.places;
    waiting = had.waiting;
    changed = had.changed;
    pending = by had.waiting ps had.pending;
    apart = had.apart;
    below = had.below;
  }
    where
      by : (ns : List ℕ) (ps : List PendingSet)
          → AllZip (λ n p. CameOfCommand board h n (completion p)) ns ps
          → AllZip (λ n p. CameOfCommand board h n (completion p)) ns (map (unwanted a) ps)
      by [] [] all = tt
      by [] (p ∷ ps) all = absurd all
      by (n ∷ ns) [] all = absurd all
      by (n ∷ ns) (p ∷ ps) all = (all.0, by ns ps all.1)

  -- a set that is promoted takes its event along
  went_first : (place : ℕ) (ps : List PendingSet) → HasPlaces board h cs ps
      → HasPlaces board h cs (promoted place ps)
  went_first place ps had = record {
    places = had.places;
    waiting = promoted place had.waiting;
    changed = had.changed;
    pending =
        zip-promoted
        (λ n p. CameOfCommand board h n (completion p)) place had.waiting ps had.pending;
    apart = apart-promoted place had.places had.waiting had.apart;
    below = each-promoted (λ k. k < length h) place had.places had.waiting had.below;
  }

-- one event more
module _ (board : Board) (h : List Event) (e : Event) (cs : List Change) (ps : List PendingSet)
    (had : HasPlaces board h cs ps) where
  abbrev h' : List Event
  h' = h ++ e ∷ []

  longer : length h < length h'
  longer = omega (arith, length-append h (e ∷ []))

  changed-kept : AllZip (CameOf board h') had.places cs
  changed-kept =
      zip-weaker (CameOf board h) (CameOf board h') (came-kept board h e) had.places cs had.changed

  pending-kept : AllZip (λ n p. CameOfCommand board h' n (completion p)) had.waiting ps
  pending-kept =
      zip-weaker (λ n p. CameOfCommand board h n (completion p))
      (λ n p. CameOfCommand board h' n (completion p))
      (λ n p. command-kept board h e n (completion p)) had.waiting ps had.pending

  below-kept : AllBelow (length h') (had.places ++ had.waiting)
  below-kept =
      let more : length h ≤ length h' = omega (arith, longer) in
      below-more (length h) (length h') more (had.places ++ had.waiting) had.below

  kept : HasPlaces board h' cs ps
  kept = record {
    places = had.places;
    waiting = had.waiting;
    changed = changed-kept;
    pending = pending-kept;
    apart = had.apart;
    below = below-kept;
  }

  -- it changes something at once
  changed-now : (c : Change) → CameOf board h' (length h) c → HasPlaces board h' (cs ++ c ∷ []) ps
  changed-now c is =
      let n = length h in
      let same = sym (append_assoc had.places (n ∷ []) had.waiting) in
      record {
        places = had.places ++ n ∷ [];
        waiting = had.waiting;
        changed =
            zip-append (CameOf board h') had.places (n ∷ []) cs (c ∷ []) changed-kept (is, tt);
        pending = pending-kept;
        apart = subst Apart same (apart-insert had.places had.waiting n had.apart had.below);
        below =
            subst (AllBelow (length h')) same
            (each-insert (λ k. k < length h') had.places had.waiting n below-kept longer);
      }

  -- it leaves a set pending
  accepted : (p : PendingSet) → CameOfCommand board h' (length h) (completion p)
      → HasPlaces board h' cs (ps ++ p ∷ [])
  accepted p is =
      let n = length h in
      let same = append_assoc had.places had.waiting (n ∷ []) in
      record {
        places = had.places;
        waiting = had.waiting ++ n ∷ [];
        changed = changed-kept;
        pending =
            zip-append (λ n p. CameOfCommand board h' n (completion p)) had.waiting
            (n ∷ []) ps (p ∷ [])
            pending-kept (is, tt);
        apart = subst Apart same (apart-push (had.places ++ had.waiting) n had.apart had.below);
        below =
            subst (AllBelow (length h')) same
            (each-push (λ k. k < length h') (had.places ++ had.waiting) n below-kept longer);
      }

  -- one or the other, or neither
  one-more : (change : Option Change) (set : Option PendingSet)
      → ((p : PendingSet) → set ≡ Some p → change ≡ None)
      → ((c : Change) → change ≡ Some c → CameOf board h' (length h) c)
      → ((p : PendingSet) → set ≡ Some p → CameOfCommand board h' (length h) (completion p))
      → HasPlaces board h' (cs ++ option_to_list change) (ps ++ option_to_list set)
  one-more None None one now later =
      subst (λ it. HasPlaces board h' it (ps ++ [])) (sym (append-nil cs))
      (subst (λ it. HasPlaces board h' cs it) (sym (append-nil ps)) kept)
  one-more (Some c) None one now later =
      subst (λ it. HasPlaces board h' (cs ++ c ∷ []) it) (sym (append-nil ps))
      (changed-now c (now c refl))
  one-more None (Some p) one now later =
      subst (λ it. HasPlaces board h' it (ps ++ p ∷ [])) (sym (append-nil cs))
      (accepted p (later p refl))
  one-more (Some c) (Some p) one now later = let no = one p refl in absurd (cc)

-- a set that is settled keeps its event
got_rate : (board : Board) (h : List Event) (cs : List Change) (clock rate : ℕ)
    → is_free board clock ≡ true → (ps : List PendingSet) → HasPlaces board h cs ps
    → HasPlaces board (h ++ Settled clock rate ∷ []) cs (map (settled clock rate) ps)
got_rate board h cs clock rate free ps had =
    let e = Settled clock rate in
    record {
      places = had.places;
      waiting = had.waiting;
      changed = changed-kept board h e cs ps had;
      pending = by had.waiting ps had.pending;
      apart = had.apart;
      below = below-kept board h e cs ps had;
    }
  where
    by : (ns : List ℕ) (ps : List PendingSet)
        → AllZip (λ n p. CameOfCommand board h n (completion p)) ns ps
        → AllZip (λ n p. CameOfCommand board (h ++ Settled clock rate ∷ []) n (completion p)) ns
        (map (settled clock rate) ps)
    by [] [] all = tt
    by [] (p ∷ ps) all = absurd all
    by (n ∷ ns) [] all = absurd all
    by (n ∷ ns) (p ∷ ps) all = (
      at-place board n (completion (settled clock rate p))
          (cause-settled board h clock rate p.agent free p.setting all.0.cause) all.0.place_is,
      by ns ps all.1,
    )

-- OF EVERY LEGAL HISTORY

abbrev IsPlaced : Board → List Event → Type 0
IsPlaced board h =
    HasPlaces board h (changes board (deeds board h)) (pending_sets board (deeds board h))

module _ (board : Board) (h : List Event) (legal : IsLegal board h) (had : IsPlaced board h) where
  abbrev ds : List Deed
  ds = deeds board h

  abbrev ps : List PendingSet
  ps = pending_sets board ds

  abbrev cs : List Change
  cs = changes board ds

  onward : (e : Event)
      → HasPlaces board (h ++ e ∷ [])
      (cs ++ option_to_list (change_in board ps (deed_after board ds e)))
      (pending_next board ps (deed_after board ds e))
      → IsPlaced board (h ++ e ∷ [])
  onward e moved =
      let h' = h ++ e ∷ [] in
      let deed = deed_after board ds e in
      subst (λ it. HasPlaces board h' it (pending_sets board (deeds board h')))
      (sym (changed-more board h e legal))
      (subst (λ it. HasPlaces board h' (cs ++ option_to_list (change_in board ps deed)) it)
      (sym (pending-more board h e legal)) moved)

  idle : (e : Event) → HasPlaces board (h ++ e ∷ []) (cs ++ []) (ps ++ [])
  idle e =
      one-more board h e cs ps had None None (λ p is. refl) (λ c is. absurd (cc))
      (λ p is. absurd (cc))

  placed : (e : Event) → CanFollow board h e → IsPlaced board (h ++ e ∷ [])
  placed (Command a (Good m)) follows =
      let e = Command a (Good m) in
      let success = success_at board e (deed_after board ds e).reply in
      onward e
      (one-more board h e cs ps had (option_and_then (change_now board) success)
      (option_and_then (acceptance board) success)
      (λ p is. later-not_now board success p is)
      (λ c is. inl (came board h a m c follows (now-asked board success c is)))
      (λ p is. came board h a m (completion p) follows (later-asked board success p is)))
  placed (Command a (Malformed len header)) follows =
      onward (Command a (Malformed len header)) (idle (Command a (Malformed len header)))
  placed (CommandFailed a (Good m) fault) follows =
      onward (CommandFailed a (Good m) fault) (idle (CommandFailed a (Good m) fault))
  placed (CommandFailed a (Malformed len header) fault) follows =
      let e = CommandFailed a (Malformed len header) fault in
      onward e (idle e)
  placed (Sent a) follows = onward (Sent a) (idle (Sent a))
  placed (Restarted a) follows =
      let h' = h ++ Restarted a ∷ [] in
      let left = map (unwanted a) ps in
      onward (Restarted a)
      (subst (λ it. HasPlaces board h' it (left ++ [])) (sym (append-nil cs))
      (subst (λ it. HasPlaces board h' cs it) (sym (append-nil left))
      (restarted board h' cs a ps (kept board h (Restarted a) cs ps had))))
  placed (Promoted place) follows =
      let h' = h ++ Promoted place ∷ [] in
      let left = promoted place ps in
      onward (Promoted place)
      (subst (λ it. HasPlaces board h' it (left ++ [])) (sym (append-nil cs))
      (subst (λ it. HasPlaces board h' cs it) (sym (append-nil left))
      (went_first board h' cs place ps (kept board h (Promoted place) cs ps had))))
  placed (Settled clock rate) follows =
      let h' = h ++ Settled clock rate ∷ [] in
      let left = map (settled clock rate) ps in
      onward (Settled clock rate)
      (subst (λ it. HasPlaces board h' it (left ++ [])) (sym (append-nil cs))
      (subst (λ it. HasPlaces board h' cs it) (sym (append-nil left))
      (got_rate board h cs clock rate follows.1 ps had)))
  placed (Reported effect) follows =
      let e = Reported effect in
      onward e
      (one-more board h e cs ps had (Some (change_reported effect)) None (λ p is. absurd (cc))
      (λ c is. said board h effect c follows is) (λ p is. absurd (cc)))
  placed Advance follows =
      onward Advance (first board (h ++ Advance ∷ []) cs ps (kept board h Advance cs ps had))
  placed (AdvanceFailed fault) follows =
      let h' = h ++ AdvanceFailed fault ∷ [] in
      onward (AdvanceFailed fault)
      (subst (λ it. HasPlaces board h' it (drop 1 ps)) (sym (append-nil cs))
      (failed board h' cs ps (kept board h (AdvanceFailed fault) cs ps had)))

places : (board : Board) {h : List Event} → Grown h → IsLegal board h → IsPlaced board h
unfolding deeds fold_with_prefix
places board empty legal =
    record { places = []; waiting = []; changed = tt; pending = tt; apart = tt; below = tt }
places board (grow {xs} g e) legal =
    let front = IsLegal-front board xs e legal in
    placed board xs front (places board g front) e (IsLegal-last board xs e legal)

pub own_causes : (board : Board) (h : List Event) → IsLegal board h → HasOwnCauses board h
own_causes board h legal =
    let had = places board (grown h) legal in
    record {
      places = had.places;
      causes = had.changed;
      differ = all-pairs had.places (apart-front had.places had.waiting had.apart);
    }
