-- The controller's endpoints go on keeping what ties them to the history.
use Rattle.std.proofs.Common.{◌≡◌, ◌≢◌, inl, inr, ℕ, zero, suc, ◌+◌, ◌<◌, List, [], ◌∷◌, ◌++◌, length, map, get_or, set, arith, ◌∙◌, sym, ap, subst, refl, true, false, ◌||◌, Bool, Option, Some, None, Result, Ok, Err, OnErr, OnOk, IfOk}
use Rattle.std.specs.Prelude.{is_some}
use Rattle.std.specs.Option.{option_or}
use Rattle.std.proofs.lemmas.List.{length-append, length-map, length-set, map-append, set-get_or, take-append-le, take_all}
use Rattle.std.proofs.lemmas.Bool.{false≢true}
use Rattle.scmi_codec.specs.declared.frame.Frame.{Frame}
use Rattle.scmi_codec.specs.declared.frame.Frame.TheVariants.{Good}
use Rattle.scmi_codec.specs.declared.frame.Answer.{Answer}
use Rattle.scmi_link.specs.View.{CallerView, CalleeView, Owes, callee_knows_close, one_more}
use Rattle.scmi_link.specs.Calls.{Collects}
use Rattle.scmi_link.specs.declared.collected.Collected.{Collected}
use Rattle.scmi_link.specs.declared.collected.Collected.TheVariants as collected
use Rattle.scmi_core.specs.declared.event.Event.{Event}
use Rattle.scmi_core.specs.declared.event.Event.TheVariants.{Command, Advance, Sent, CommandFailed, AdvanceFailed, Restarted, Promoted, Reported, Settled}
use Rattle.scmi_codec.specs.declared.fault.Fault.{Fault}
use Rattle.scmi_core.specs.declared.core_error.CoreError.{CoreError}
use Rattle.scmi_core.specs.Platform.{Platform}
use Rattle.scmi_plan.specs.Board.{Board}
use Rattle.scmi_plan.specs.declared.effect.Effect.{Effect}
use Rattle.scmi_plan.specs.declared.report.Report.{Report}
use Rattle.scmi_plan.specs.declared.report.Report.TheVariants as report
use Rattle.scmi_core.specs.Agents.{answers_to, frames_of}
use Rattle.scmi_core.specs.History.{answer_of_event, answer_to, delivered_messages}
use Rattle.scmi_core.specs.Outbox.{is_sent_by}
use Rattle.scmi_core.specs.Reply.{failed_answer}
use Rattle.scmi_core.specs.Legal.{IsLegal, told}
use Rattle.scmi_core.specs.Asked.{Asked}
use Rattle.scmi_core.specs.Driven.{HappensOn, HasMade, IsCommandOf, IsEnd, asks}
use Rattle.scmi_core.proofs.EffectsMade.{made-on}
use Rattle.scmi_core.proofs.Laws.{frames_failed_own, frames_failed_other, answers_failed_own, answers_failed_other, advance_failed, frames_own, frames_other, answers_own, answers_other, IsQuiet, advance, promoted, reported, restarted, settled, sent_to, frames_quiet, answers_quiet, delivered_kept, delivered_sent, delivered_other, as_many}
use Rattle.scmi_link.specs.declared.served.Served.{Served}
use Rattle.scmi_link.specs.declared.served.Served.TheVariants as served
use Rattle.scmi_link.specs.declared.flushed.Flushed.{Flushed}
use Rattle.scmi_link.specs.declared.flushed.Flushed.TheVariants as flushed
use Rattle.scmi_link.specs.declared.shut_error.ShutError.{ShutError}
use Rattle.scmi_link.specs.declared.shut_error.ShutError.TheVariants as shut
use Rattle.scmi_ends.specs.Each.{AllFrom}
use Rattle.scmi_ends.specs.Agreement.{ExecutesNoneAfter, StayShut, IsServed, IsDelivered, EndsAgree}
use Rattle.scmi_ends.specs.Serve.{ServesOne}
use Rattle.scmi_ends.specs.ServeOn.{ServesOneOn}
use Rattle.scmi_ends.specs.Flush.{FlushesOne, CollectsAndFlushes}
use Rattle.scmi_link.specs.declared.closing.Closing.{Closing}
use Rattle.scmi_link.specs.declared.close_error.CloseError.{CloseError}
use Rattle.scmi_ends.specs.Shut.{ShutsOne, CollectsAndShuts}
use Rattle.scmi_ends.proofs.Lists.{at_place, map_at_set, map_same}
use Rattle.scmi_ends.proofs.Places.{view_at}
use Rattle.scmi_ends.proofs.Turns.{from_at, from_all, from_set}

-- a place that is given another item changes no count
count_set : {D N : Type 0} (f : D → N) (ds : List D) (i : ℕ) (d : D)
    → length (map f (set ds i d)) ≡ length (map f ds)
count_set f ds i d = length-map (set ds i d) f ∙ length-set ds i d ∙ sym (length-map ds f)

-- an event that is no command leaves commands and answers
served_quiet : (board : Board) (h : List Event) (e : Event) → IsQuiet e → (b : ℕ) (v : CalleeView)
    → IsServed board h b v → IsServed board (h ++ e ∷ []) b v
served_quiet board h e q b v s = record {
  taken = s.taken ∙ sym (frames_quiet b h e q);
  answered = s.answered ∙ sym (answers_quiet board b h e q);
}

-- SHUT

-- an event that is no command of an agent executes none of it
none_more : (h : List Event) (e : Event) (a : ℕ) (place : Option ℕ) → frames_of a (h ++ e ∷ [])
    ≡ frames_of a h → ExecutesNoneAfter h a place → ExecutesNoneAfter (h ++ e ∷ []) a place
none_more h e a None same s = tt
none_more h e a (Some n) same s = (
  omega (arith, s.0, length-append h (e ∷ [])),
  same ∙ s.1
      ∙ sym (ap (frames_of a) (take-append-le n h (e ∷ []) s.0)),
)

-- nor does one that is no command
shut_quiet : (h : List Event) (e : Event) → IsQuiet e → (vs : List CalleeView)
    (ps : List (Option ℕ)) → StayShut h vs ps → StayShut (h ++ e ∷ []) vs ps
shut_quiet h e q vs ps s = record {
  places = s.places;
  none_after = from_all (ExecutesNoneAfter h) (ExecutesNoneAfter (h ++ e ∷ []))
      (λ b p t. none_more h e b p (frames_quiet b h e q) t) 1 ps s.none_after;
}

-- what is noted of a close holds at once
noted : (h : List Event) (n i a : ℕ) (ps : List (Option ℕ))
    → a ≡ n + i → AllFrom (ExecutesNoneAfter h) n ps
    → ExecutesNoneAfter h a (option_or (get_or ps i None) (Some (length h)))
noted h n i a [] e s = (omega arith, sym (ap (frames_of a) (take_all (length h) h (omega arith))))
noted h n zero a (None ∷ ps) e s =
    (omega arith, sym (ap (frames_of a) (take_all (length h) h (omega arith))))
noted h n zero a (Some k ∷ ps) e s = let n-is : n ≡ a = omega arith in rw n-is at s.0
noted h n (suc i) a (p ∷ ps) e s = noted h (n + 1) i a ps (omega arith) s.1

is_noted : (p : Option ℕ) (n : ℕ) → is_some (option_or p (Some n)) ≡ true
is_noted None n = refl
is_noted (Some k) n = refl

-- no place is noted of an end that is open
is_open : (p : Option ℕ) → is_some p ≡ false → p ≡ None
is_open None e = refl
is_open (Some k) e = absurd (false≢true (sym e))

-- an end that has not closed may have taken a frame
open_before : (v : CalleeView) → callee_knows_close v ≡ false → v.closed ≡ false
open_before v e = neither v.closed v.told e where
  neither : (c t : Bool) → (c || t) ≡ false → c ≡ false
  neither false t e = refl
  neither true t e = absurd (false≢true (sym e))

-- SERVE

module _ {D : Type 0} (f : D → CalleeView) (board : Board) (a i : ℕ) (ds : List D)
    (cs : List CallerView) (ps : List (Option ℕ)) (x d : D) (h : List Event) (e : a ≡ 1 + i)
    (lt : i < length ds) (is : x ≡ get_or ds i x) (kept : EndsAgree board h (map f ds) cs ps) where
  -- the endpoints that have closed, as one goes on
  same_places : (f d).closed ≡ (f x).closed
      → map (λ v. v.closed) (map f (set ds i d)) ≡ map is_some ps
  same_places c =
      let below : i < length (map f ds) = omega (arith, lt, length-map ds f) in
      ap (map (λ v. v.closed)) (map_at_set f ds i d) ∙ map_same (λ v. v.closed) (map f ds) i (f x)
      (f d) below (sym (view_at f ds i x (f x) lt is)) c ∙ kept.shut.places

  -- no place is noted of an end that is open
  no_place : (f x).closed ≡ false → get_or ps i None ≡ None
  no_place c =
      let below : i < length (map f ds) = omega (arith, lt, length-map ds f) in
      is_open (get_or ps i None) (sym (at_place (λ v. v.closed) is_some (map f ds) ps i (f x) None
      kept.shut.places below) ∙ ap (λ v. v.closed) (view_at f ds i x (f x) lt is) ∙ c)

  -- the end goes on or closes, under the same history
  agrees_end : (ps' : List (Option ℕ))
      → length ps' ≡ length ps → StayShut h (map f (set ds i d)) ps' → (f d).taken ≡ (f x).taken
      → (f d).answered ≡ (f x).answered → EndsAgree board h (map f (set ds i d)) cs ps'
  agrees_end ps' l shut t r =
      let mine = from_at (IsServed board h) f 1 i a ds x lt e is kept.served in
      record {
        legal = kept.legal;
        callees_count = count_set f ds i d ∙ kept.callees_count;
        callers_count = kept.callers_count;
        closed_at_count = l ∙ kept.closed_at_count;
        served = rw (map_at_set f ds i d)
            (from_set (IsServed board h) (IsServed board h) a (λ b v ne s. s) 1 i (map f ds) (f d) e
            (record { taken = t ∙ mine.taken; answered = r ∙ mine.answered }) kept.served);
        delivers = kept.delivers;
        shut = shut;
      }

  -- the end goes on
  agrees_callee : (f d).closed ≡ (f x).closed → (f d).taken ≡ (f x).taken
      → (f d).answered ≡ (f x).answered → EndsAgree board h (map f (set ds i d)) cs ps
  agrees_callee c =
      agrees_end ps refl (record { places = same_places c; none_after = kept.shut.none_after })

  -- the end closes, and the first close is noted
  pub agrees_close : f d ≡ record (f x) { closed = true } → EndsAgree board h
      (map f (set ds i d)) cs (set ps i (option_or (get_or ps i None) (Some (length h))))
  agrees_close c =
      let place = option_or (get_or ps i None) (Some (length h)) in
      let noted_as : map is_some (set ps i place) ≡ set (map is_some ps) i true = map_at_set is_some
      ps i place ∙ ap (set (map is_some ps) i) (is_noted (get_or ps i None) (length h)) in
      agrees_end (set ps i place) (length-set ps i place) (record {
        places = ap (map (λ v. v.closed)) (map_at_set f ds i d) ∙ map_at_set (λ v. v.closed)
            (map f ds) i (f d) ∙ ap (set (map (λ v. v.closed) (map f ds)) i) (ap (λ v. v.closed) c)
            ∙ ap (λ bs. set bs i true) kept.shut.places ∙ sym noted_as;
        none_after = from_set (ExecutesNoneAfter h) (ExecutesNoneAfter h) a (λ b p ne s. s) 1 i ps
            place e (noted h 1 i a ps e kept.shut.none_after) kept.shut.none_after;
      }) (ap (λ v. v.taken) c) (ap (λ v. v.answered) c)

  -- an event is a frame of the agent, with this answer
  agrees_frame : (event : Event) (frame : Frame) (answer : Answer) → IsLegal board (h ++ event ∷ [])
      → callee_knows_close (f x) ≡ false
      → f d ≡ record (f x) {
        taken = (f x).taken ++ frame ∷ [];
        answered = (f x).answered ++ answer ∷ [];
        takes = one_more (f x).takes;
      }
      → frames_of a (h ++ event ∷ []) ≡ frames_of a h ++ frame ∷ []
      → answers_to board a (h ++ event ∷ []) ≡ answers_to board a h ++ answer ∷ []
      → ((b : ℕ) → b ≢ a → frames_of b (h ++ event ∷ []) ≡ frames_of b h)
      → ((b : ℕ) → b ≢ a → answers_to board b (h ++ event ∷ []) ≡ answers_to board b h)
      → ((b : ℕ) → is_sent_by b event ≡ false)
      → EndsAgree board (h ++ event ∷ []) (map f (set ds i d)) cs ps
  agrees_frame event frame answer legal unclosed end own_frames own_answers other_frames
      other_answers unsent =
      let mine = from_at (IsServed board h) f 1 i a ds x lt e is kept.served in
      let none = no_place (open_before (f x) unclosed) in
      record {
        legal = legal;
        callees_count = count_set f ds i d ∙ kept.callees_count;
        callers_count = kept.callers_count;
        closed_at_count = kept.closed_at_count;
        shut = record {
          places = same_places (ap (λ w. w.closed) end);
          none_after = subst (AllFrom (ExecutesNoneAfter (h ++ event ∷ [])) 1)
              (ap (set ps i) (sym none) ∙ set-get_or ps i None)
              (from_set (ExecutesNoneAfter h) (ExecutesNoneAfter (h ++ event ∷ [])) a
              (λ b p ne t. none_more h event b p (other_frames b ne) t) 1 i ps None e tt
              kept.shut.none_after);
        };
        served = rw (map_at_set f ds i d)
            (from_set (IsServed board h) (IsServed board (h ++ event ∷ [])) a
            (λ b v ne t. record {
              taken = t.taken ∙ sym (other_frames b ne);
              answered = t.answered ∙ sym (other_answers b ne);
            }) 1 i (map f ds) (f d) e
            (record {
              taken = ap (λ w. w.taken) end ∙ ap (λ fs. fs ++ frame ∷ []) mine.taken
                  ∙ sym own_frames;
              answered = ap (λ w. w.answered) end ∙ ap (λ xs. xs ++ answer ∷ []) mine.answered
                  ∙ sym own_answers;
            }) kept.served);
        delivers = from_all (IsDelivered board h) (IsDelivered board (h ++ event ∷ [])) (λ b v t. t
            ∙ ap (map Good) (sym (delivered_kept board b h event kept.legal (unsent b)))) 1 cs
            kept.delivers;
      }

  -- a command of the agent
  agrees_command : (frame : Frame) → IsLegal board (h ++ Command a frame ∷ [])
      → callee_knows_close (f x) ≡ false
      → f d ≡ record (f x) {
        taken = (f x).taken ++ frame ∷ [];
        answered = (f x).answered
            ++ answer_to board a frame h ∷ [];
        takes = one_more (f x).takes;
      }
      → EndsAgree board (h ++ Command a frame ∷ []) (map f (set ds i d)) cs ps
  agrees_command frame legal unclosed end =
      agrees_frame (Command a frame) frame (answer_to board a frame h) legal unclosed end
      (frames_own a h frame) (answers_own board a h frame)
      (λ b ne. frames_other b a h frame ne) (λ b ne. answers_other board b a h frame ne) (λ b. refl)

  -- one that failed
  agrees_failed : (frame : Frame) (fault : Fault)
      → IsLegal board (h ++ CommandFailed a frame fault ∷ []) → callee_knows_close (f x) ≡ false
      → f d ≡ record (f x) {
        taken = (f x).taken ++ frame ∷ [];
        answered = (f x).answered
            ++ failed_answer frame fault ∷ [];
        takes = one_more (f x).takes;
      }
      → EndsAgree board (h ++ CommandFailed a frame fault ∷ []) (map f (set ds i d)) cs ps
  agrees_failed frame fault legal unclosed end =
      agrees_frame (CommandFailed a frame fault) frame (failed_answer frame fault) legal unclosed
      end (frames_failed_own a h frame fault) (answers_failed_own board a h frame fault)
      (λ b ne. frames_failed_other b a h frame fault ne)
      (λ b ne. answers_failed_other board b a h frame fault ne) (λ b. refl)

  -- an agent is served
  pub agrees_serve : (h' : List Event) (r : Served) → IsLegal board h'
      → ServesOne board a h (f x) r h' (f d) → EndsAgree board h' (map f (set ds i d)) cs ps
  agrees_serve h' served.Nothing legal s =
      subst (λ k. EndsAgree board k (map f (set ds i d)) cs ps) (sym s.0) (agrees_callee (ap
      (λ w. w.closed) s.1.same) (ap (λ w. w.taken) s.1.same) (ap (λ w. w.answered) s.1.same))
  agrees_serve h' served.Done legal s =
      subst (λ k. EndsAgree board k (map f (set ds i d)) cs ps) (sym s.event)
      (agrees_command s.frame (subst (λ k. IsLegal board k) s.event legal) s.unclosed s.end)

  -- and beside the hardware
  pub agrees_serve_on : (h' : List Event) (asked asked' : List Asked → Type 0) (r : Served)
      → IsLegal board h' → ServesOneOn board a h asked (f x) r h' asked' (f d)
      → EndsAgree board h' (map f (set ds i d)) cs ps
  agrees_serve_on h' asked asked' served.Nothing legal s =
      subst (λ k. EndsAgree board k (map f (set ds i d)) cs ps) (sym s.0) (agrees_callee (ap
      (λ w. w.closed) s.2.same) (ap (λ w. w.taken) s.2.same) (ap (λ w. w.answered) s.2.same))
  agrees_serve_on h' asked asked' served.Done legal s =
      subst (λ k. EndsAgree board k (map f (set ds i d)) cs ps) (sym s.executes.happens.history)
      (by s.executes.happens.event s.executes.happens.is_one s.executes.answer
      (subst (λ k. IsLegal board k) s.executes.happens.history legal)) where
        with_answer : (y : Answer) → Some y ≡ Some s.answer
            → f d ≡ record (f x) {
              taken = (f x).taken ++ s.frame ∷ [];
              answered = (f x).answered ++ y ∷ [];
              takes = one_more (f x).takes;
            }
        with_answer y same =
            let is : y ≡ s.answer = cc in
            s.end ∙ ap (λ z. record (f x) {
              taken = (f x).taken ++ s.frame ∷ [];
              answered = (f x).answered ++ z ∷ [];
              takes = one_more (f x).takes;
            }) (sym is)

        by : (event : Event) → IsCommandOf a s.frame event
            → answer_of_event board h event ≡ Some s.answer → IsLegal board (h ++ event ∷ [])
            → EndsAgree board (h ++ event ∷ []) (map f (set ds i d)) cs ps
        by event (inl is) answered l =
            subst (λ v. EndsAgree board (h ++ v ∷ []) (map f (set ds i d)) cs ps) (sym is)
            (agrees_command s.frame (subst (λ v. IsLegal board (h ++ v ∷ [])) is l) s.unclosed
            (with_answer (answer_to board a s.frame h)
            (subst (λ v. answer_of_event board h v ≡ Some s.answer) is answered)))
        by event (inr (fault, is)) answered l =
            subst (λ v. EndsAgree board (h ++ v ∷ []) (map f (set ds i d)) cs ps) (sym is)
            (agrees_failed s.frame fault (subst (λ v. IsLegal board (h ++ v ∷ [])) is l) s.unclosed
            (with_answer (failed_answer s.frame fault)
            (subst (λ v. answer_of_event board h v ≡ Some s.answer) is answered)))

-- hardware that was asked for what belongs to the history goes on having been asked for it
pub made_serve : (board : Board) (a : ℕ) (h h' : List Event)
    (asked asked' : List Asked → Type 0) (before : List Asked) (old new : CalleeView) (r : Served)
    → ServesOneOn board a h asked old r h' asked' new
    → HasMade before board h asked → HasMade before board h' asked'
made_serve board a h h' asked asked' before old new served.Nothing s made =
    subst (λ k. HasMade before board k asked') (sym s.0) (s.1 (before ++ asks board h) made)
made_serve board a h h' asked asked' before old new served.Done s made =
    made-on board (IsCommandOf a s.frame) h h' asked asked' before s.executes.happens made

-- ADVANCE

-- an event that is no command and posts nothing
agrees_quiet : (board : Board) (h : List Event) (e : Event) (vs : List CalleeView)
    (cs : List CallerView) (ps : List (Option ℕ)) → IsQuiet e → ((b : ℕ) → is_sent_by b e ≡ false)
    → EndsAgree board h vs cs ps → IsLegal board (h ++ e ∷ [])
    → EndsAgree board (h ++ e ∷ []) vs cs ps
agrees_quiet board h e vs cs ps quiet unsent kept legal = record {
  legal = legal;
  callees_count = kept.callees_count;
  callers_count = kept.callers_count;
  closed_at_count = kept.closed_at_count;
  shut = shut_quiet h e quiet vs ps kept.shut;
  served = from_all (IsServed board h) (IsServed board (h ++ e ∷ []))
      (served_quiet board h e quiet) 1 vs kept.served;
  delivers = from_all (IsDelivered board h) (IsDelivered board (h ++ e ∷ [])) (λ b v t. t
      ∙ ap (map Good) (sym (delivered_kept board b h e kept.legal (unsent b)))) 1 cs kept.delivers;
}

-- a set completes
pub agrees_advance : (board : Board) (h : List Event) (vs : List CalleeView) (cs : List CallerView)
    (ps : List (Option ℕ)) → EndsAgree board h vs cs ps → IsLegal board (h ++ Advance ∷ [])
    → EndsAgree board (h ++ Advance ∷ []) vs cs ps
agrees_advance board h vs cs ps kept legal =
    agrees_quiet board h Advance vs cs ps advance (λ b. refl) kept legal

-- a set ends, which completes or fails
agrees_end_of : (board : Board) (h : List Event) (event : Event) (vs : List CalleeView)
    (cs : List CallerView) (ps : List (Option ℕ)) → IsEnd event → EndsAgree board h vs cs ps
    → IsLegal board (h ++ event ∷ []) → EndsAgree board (h ++ event ∷ []) vs cs ps
agrees_end_of board h event vs cs ps (inl is) kept legal =
    subst (λ v. EndsAgree board (h ++ v ∷ []) vs cs ps) (sym is)
    (agrees_advance board h vs cs ps kept (subst (λ v. IsLegal board (h ++ v ∷ [])) is legal))
agrees_end_of board h event vs cs ps (inr (fault, is)) kept legal =
    subst (λ v. EndsAgree board (h ++ v ∷ []) vs cs ps) (sym is)
    (agrees_quiet board h (AdvanceFailed fault) vs cs ps (advance_failed fault) (λ b. refl) kept
    (subst (λ v. IsLegal board (h ++ v ∷ [])) is legal))

-- what a call of `Core` leaves that adds a quiet event that posts nothing, or is refused
agrees_after_quiet : (old new : Platform) (e : Event) (vs : List CalleeView) (cs : List CallerView)
    (ps : List (Option ℕ)) (r : Result (Unit {0}) CoreError) → IsQuiet e
    → ((b : ℕ) → is_sent_by b e ≡ false)
    → EndsAgree old.board old.history vs cs ps → new.board ≡ old.board
    → IsLegal new.board new.history
    → OnOk r (new.history ≡ old.history ++ e ∷ []) → OnErr r (new ≡ old)
    → EndsAgree new.board new.history vs cs ps
agrees_after_quiet old new e vs cs ps (Ok done) quiet unsent kept eb legal event err =
    rw eb (subst (λ k. EndsAgree old.board k vs cs ps)
    (sym event) (agrees_quiet old.board old.history e vs cs ps quiet unsent kept
    (subst (λ k. IsLegal old.board k) event (rw eb at legal))))
agrees_after_quiet old new e vs cs ps (Err error) quiet unsent kept eb legal event err =
    subst (λ p. EndsAgree p.board p.history vs cs ps) (sym err) kept

-- what `Core::restart` leaves, whatever it answers
pub agrees_after_restart : (old new : Platform) (a : ℕ) (vs : List CalleeView)
    (cs : List CallerView) (ps : List (Option ℕ)) (r : Result (Unit {0}) CoreError) → EndsAgree
    old.board old.history vs cs ps → new.board ≡ old.board → IsLegal new.board new.history
    → OnOk r (new.history ≡ old.history ++ Restarted a ∷ []) → OnErr r (new ≡ old)
    → EndsAgree new.board new.history vs cs ps
agrees_after_restart old new a vs cs ps r kept eb legal event err = agrees_after_quiet old new
    (Restarted a) vs cs ps r (restarted a) (λ b. refl) kept eb legal event err

-- what `Core::report` leaves, whatever it answers
pub agrees_after_report : (old new : Platform) (effect : Effect) (vs : List CalleeView)
    (cs : List CallerView) (ps : List (Option ℕ)) (r : Result (Unit {0}) CoreError) → EndsAgree
    old.board old.history vs cs ps → new.board ≡ old.board → IsLegal new.board new.history
    → OnOk r (new.history ≡ old.history ++ Reported effect ∷ []) → OnErr r (new ≡ old)
    → EndsAgree new.board new.history vs cs ps
agrees_after_report old new effect vs cs ps r kept eb legal event err = agrees_after_quiet old new
    (Reported effect) vs cs ps r (reported effect) (λ b. refl) kept eb legal event err

-- what hardware reports is no command, and posts nothing
told_quiet : (r : Report) → IsQuiet (told r)
told_quiet (report.Changed effect) = reported effect
told_quiet (report.First place) = promoted place
told_quiet (report.Settled clock rate) = settled clock rate

told_unsent : (r : Report) (b : ℕ) → is_sent_by b (told r) ≡ false
told_unsent (report.Changed effect) b = refl
told_unsent (report.First place) b = refl
told_unsent (report.Settled clock rate) b = refl

-- what `Core::tell` leaves, whatever it answers
pub agrees_after_tell : (old new : Platform) (said : Report) (vs : List CalleeView)
    (cs : List CallerView) (ps : List (Option ℕ)) (r : Result Bool CoreError) → EndsAgree old.board
    old.history vs cs ps → new.board ≡ old.board → IsLegal new.board new.history
    → IfOk r (λ did. did ≡ true → new.history ≡ old.history ++ told said ∷ []) → IfOk r (λ did. did
    ≡ false → new ≡ old) → OnErr r (new ≡ old) → EndsAgree new.board new.history vs cs ps
agrees_after_tell old new said vs cs ps (Ok true) kept eb legal event same err =
    let legal : IsLegal old.board (old.history ++ told said ∷ []) =
    subst (λ k. IsLegal old.board k) (event refl) (rw eb at legal) in
    rw eb (subst (λ k. EndsAgree old.board k vs cs ps) (sym (event refl)) (agrees_quiet old.board
    old.history (told said) vs cs ps (told_quiet said) (told_unsent said) kept legal))
agrees_after_tell old new said vs cs ps (Ok false) kept eb legal event same err =
    subst (λ p. EndsAgree p.board p.history vs cs ps) (sym (same refl)) kept
agrees_after_tell old new said vs cs ps (Err e) kept eb legal event same err =
    subst (λ p. EndsAgree p.board p.history vs cs ps) (sym err) kept

-- what `Core::advance_on` leaves, whatever it answers
pub agrees_after_on : (old new : Platform) (asked asked' : List Asked → Type 0)
    (vs : List CalleeView) (cs : List CallerView) (ps : List (Option ℕ)) (r : Result Bool CoreError)
    → EndsAgree old.board old.history vs cs ps → new.board ≡ old.board
    → IsLegal new.board new.history
    → IfOk r (λ did. did ≡ true → HappensOn old.board IsEnd old.history asked new.history asked')
    → IfOk r (λ did. did ≡ false → new ≡ old) → OnErr r (new ≡ old)
    → EndsAgree new.board new.history vs cs ps
agrees_after_on old new asked asked' vs cs ps (Ok true) kept eb legal event same err =
    let happens = event refl in
    rw eb (subst (λ k. EndsAgree old.board k vs cs ps) (sym happens.history)
    (agrees_end_of old.board old.history happens.event vs cs ps happens.is_one kept
    (subst (λ k. IsLegal old.board k) happens.history (rw eb at legal))))
agrees_after_on old new asked asked' vs cs ps (Ok false) kept eb legal event same err =
    subst (λ p. EndsAgree p.board p.history vs cs ps) (sym (same refl)) kept
agrees_after_on old new asked asked' vs cs ps (Err e) kept eb legal event same err =
    subst (λ p. EndsAgree p.board p.history vs cs ps) (sym err) kept

-- what `Core::advance` leaves, whatever it answers
pub agrees_after : (old new : Platform) (vs : List CalleeView) (cs : List CallerView)
    (ps : List (Option ℕ)) (r : Result Bool CoreError) → EndsAgree old.board old.history vs cs ps
    → new.board ≡ old.board → IsLegal new.board new.history
    → IfOk r (λ did. did ≡ true → new.history ≡ old.history ++ Advance ∷ []) → IfOk r (λ did. did
    ≡ false → new ≡ old) → OnErr r (new ≡ old) → EndsAgree new.board new.history vs cs ps
agrees_after old new vs cs ps (Ok true) kept eb legal event same err =
    rw eb (subst (λ k. EndsAgree old.board k vs cs ps) (sym (event refl)) (agrees_advance old.board
    old.history vs cs ps kept (subst (λ k. IsLegal old.board k) (event refl) (rw eb at legal))))
agrees_after old new vs cs ps (Ok false) kept eb legal event same err =
    subst (λ p. EndsAgree p.board p.history vs cs ps) (sym (same refl)) kept
agrees_after old new vs cs ps (Err e) kept eb legal event same err =
    subst (λ p. EndsAgree p.board p.history vs cs ps) (sym err) kept

-- FLUSH

-- a `collect` posts nothing
collects_posted : (v : CallerView) (r : Collected) (w : CallerView) → Collects v r w
    → w.posted ≡ v.posted
collects_posted v collected.Nothing w s = ap (λ u. u.posted) s
collects_posted v (collected.Got answer) w s = ap (λ u. u.posted) s.read
collects_posted v collected.Closed w s = ap (λ u. u.posted) s.told

-- a close posts nothing
pub shuts_posted : (shows : CallerView → Result Closing CloseError → Type 0) (v : CallerView)
    (r : Result (Unit {0}) ShutError) (w : CallerView) → CollectsAndShuts shows v r w
    → w.posted ≡ v.posted
shuts_posted shows v r w s = after r s.step
    ∙ collects_posted v s.answer s.collected s.collects where
      after : (r : Result (Unit {0}) ShutError) → ShutsOne shows s.collected r w
          → w.posted ≡ s.collected.posted
      after (Ok done) t = elim t
          [ inl idle ↦ ap (λ u. u.posted) idle.1 | inr withdrawn ↦ ap (λ u. u.posted) withdrawn.1 ]
      after (Err shut.NoAgent) t = absurd t
      after (Err shut.InService) t = ap (λ u. u.posted) t.1
      after (Err shut.ReplyWaiting) t = ap (λ u. u.posted) t.1

module _ {D : Type 0} (f : D → CallerView) (board : Board) (a i : ℕ) (vs : List CalleeView)
    (ds : List D) (ps : List (Option ℕ)) (x d : D) (h : List Event) (e : a ≡ 1 + i)
    (lt : i < length ds) (is : x ≡ get_or ds i x) (kept : EndsAgree board h vs (map f ds) ps) where
  -- the end goes on, under the same history
  pub agrees_caller : (f d).posted ≡ (f x).posted → EndsAgree board h vs (map f (set ds i d)) ps
  agrees_caller p = record {
    legal = kept.legal;
    callees_count = kept.callees_count;
    callers_count = count_set f ds i d ∙ kept.callers_count;
    closed_at_count = kept.closed_at_count;
    shut = kept.shut;
    served = kept.served;
    delivers = rw (map_at_set f ds i d)
        (from_set (IsDelivered board h) (IsDelivered board h) a (λ b v ne s. s) 1 i (map f ds) (f d)
        e (p ∙ from_at (IsDelivered board h) f 1 i a ds x lt e is kept.delivers) kept.delivers);
  }

  -- a flush, after its `collect`
  agrees_after_collect : (w : CallerView) (full : Bool) (h' : List Event) (r : Flushed)
      → w.posted ≡ (f x).posted → IsLegal board h' → FlushesOne full board a h w r h' (f d)
      → EndsAgree board h' vs (map f (set ds i d)) ps
  agrees_after_collect w full h' flushed.Waiting p legal s =
      subst (λ k. EndsAgree board k vs (map f (set ds i d)) ps) (sym s.0) (agrees_caller (elim s.1
      [ inl waits ↦ ap (λ u. u.posted) waits.1 | inr full ↦ ap (λ u. u.posted) full.0.same ] ∙ p))
  agrees_after_collect w full h' flushed.Nothing p legal s = subst (λ k. EndsAgree board k vs
      (map f (set ds i d)) ps) (sym s.0) (agrees_caller (ap (λ u. u.posted) s.1 ∙ p))
  agrees_after_collect w full h' flushed.Closed p legal s = subst (λ k. EndsAgree board k vs
      (map f (set ds i d)) ps) (sym s.0) (agrees_caller (ap (λ u. u.posted) s.1.told ∙ p))
  agrees_after_collect w full h' flushed.Posted p legal s =
      let m = s.message in
      let mine = from_at (IsDelivered board h) f 1 i a ds x lt e is kept.delivers in
      subst (λ k. EndsAgree board k vs (map f (set ds i d)) ps) (sym s.event) (record {
        legal = subst (λ k. IsLegal board k) s.event legal;
        callees_count = kept.callees_count;
        callers_count = count_set f ds i d ∙ kept.callers_count;
        closed_at_count = kept.closed_at_count;
        shut = shut_quiet h (Sent a) (sent_to a) vs ps kept.shut;
        served = from_all (IsServed board h) (IsServed board (h ++ Sent a ∷ []))
            (served_quiet board h (Sent a) (sent_to a)) 1 vs kept.served;
        delivers = rw (map_at_set f ds i d)
            (from_set (IsDelivered board h) (IsDelivered board (h ++ Sent a ∷ [])) a
            (λ b v ne t. t ∙ ap (map Good) (sym (delivered_other board b a h kept.legal ne))) 1 i
            (map f ds) (f d) e
            (ap (λ u. u.posted) s.end ∙ ap (λ fs. fs ++ Good m ∷ []) (p ∙ mine)
            ∙ sym (map-append Good (delivered_messages board a h) (m ∷ []))
            ∙ ap (map Good) (sym (delivered_sent board a h m s.first)))
            kept.delivers);
      })

  -- a flush
  pub agrees_flush : (full : Bool) (h' : List Event) (r : Flushed)
      → IsLegal board h' → CollectsAndFlushes full board a h (f x) r h' (f d)
      → EndsAgree board h' vs (map f (set ds i d)) ps
  agrees_flush full h' r legal s = agrees_after_collect s.collected full h' r
      (collects_posted (f x) s.answer s.collected s.collects) legal s.step

-- CLOSE

-- the platform owes no answer between calls
pub never_owes : {D : Type 0} (f : D → CalleeView) (board : Board) (a i : ℕ)
    (ds : List D) (cs : List CallerView) (ps : List (Option ℕ)) (x : D) (h : List Event) → a ≡ 1 + i
    → i < length ds → x ≡ get_or ds i x → EndsAgree board h (map f ds) cs ps → ¬ (Owes (f x))
never_owes f board a i ds cs ps x h e lt is kept = λ owes.
    let mine = from_at (IsServed board h) f 1 i a ds x lt e is kept.served in
    omega (arith, owes, ap length mine.taken, ap length mine.answered, as_many board a h)
