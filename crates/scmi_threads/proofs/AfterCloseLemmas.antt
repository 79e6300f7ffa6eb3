-- Nothing is done after a script's close.
use Rattle.std.proofs.Common.{◌≡◌, ℕ, ◌+◌, Bool, true, false, ◌||◌, List, [], ◌∷◌, ◌++◌, length, map, Option, Some, None, refl, sym, ap, ap₂, ◌∙◌, subst}
use Rattle.std.specs.List.{All, flat_map}
use Rattle.std.specs.Option.{option_or}
use Rattle.std.proofs.lemmas.List.{append-nil}
use Rattle.std.proofs.lemmas.List.Elements.{All-nil, All-cons, All-append}
use Rattle.std.proofs.lemmas.Grind.{flat_map-append}
use Rattle.arrayvec.specs.ArrayVec.{ArrayVec}
use Rattle.scmi_codec.specs.declared.frame.Frame.{Frame}
use Rattle.scmi_link.specs.declared.closing.Closing.TheVariants.{Idle}
use Rattle.scmi_link.specs.declared.post_error.PostError.TheVariants as post
use Rattle.scmi_plan.specs.Board.{Board}
use Rattle.scmi_core.specs.declared.event.Event.{Event}
use Rattle.scmi_link.specs.Lines.{closing_of, first_closing}
use Rattle.scmi_link.specs.Scripts.{is_close, up_to_close}
use Rattle.scmi_link.specs.declared.line.Line.{Line}
use Rattle.scmi_link.specs.declared.line.Line.TheVariants as line
use Rattle.scmi_link.specs.declared.order.Order.{Order}
use Rattle.scmi_link.specs.declared.order.Order.TheVariants as order
use Rattle.scmi_link.proofs.LineLemmas.{or_again}
use Rattle.scmi_ends.specs.Each.{AllFrom}
use Rattle.scmi_threads.specs.Logs.{LogHeadline}
use Rattle.scmi_threads.specs.Parts.{Part, Writes, CallWrites, call_answered, call_did_not_fit, call_found_no_place, call_ran_out, call_had_no_room, UntilWrites, state_seen, state_not_seen, state_ran_out, state_found_no_place, state_had_no_room, P2aWrites, messages_taken, messages_ran_out, messages_had_no_room, CloseWrites, close_done, close_had_no_room, ClosedWrites, call_refused, state_refused, none_asked_for, none_came, closed_again, line_had_no_room}
use Rattle.scmi_threads.specs.ScriptLogs.{Follows, all_done, ends_here, goes_on, IsScriptLog}
use Rattle.scmi_threads.specs.AfterClose.{SaysNothing, EndsAtClose}
use Rattle.scmi_threads.specs.declared.agent_log.AgentLog.{AgentLog}
use Rattle.scmi_threads.specs.declared.stop.Stop.{Stop}
use Rattle.scmi_threads.proofs.OrderLemmas.{stays_still}

-- the parts after the close

says_nothing : (o : Order) (s : Option Stop) (part : Part) → ClosedWrites o s part
    → All SaysNothing part.lines
says_nothing _ _ _ (call_refused protocol id payload) =
    All-cons SaysNothing (line.NotPosted post.Closed) [] refl (All-nil SaysNothing)
says_nothing _ _ _ (state_refused domain state) =
    All-cons SaysNothing line.UntilLimit [] tt (All-nil SaysNothing)
says_nothing _ _ _ (none_asked_for count none) = All-nil SaysNothing
says_nothing _ _ _ (none_came count some) =
    All-cons SaysNothing line.Limit [] tt (All-nil SaysNothing)
says_nothing _ _ _ closed_again =
    All-cons SaysNothing (line.Close Idle) [] refl (All-nil SaysNothing)
says_nothing _ _ _ (line_had_no_room o some) = All-nil SaysNothing

-- these parts have lines alone, which say nothing
record AreStill (parts : List Part) : Type 0 where
  pub posted : flat_map (λ part. part.posted) parts ≡ []
  pub read : flat_map (λ part. part.read) parts ≡ []
  pub taken : flat_map (λ part. part.taken) parts ≡ []
  pub nothing : All SaysNothing (flat_map (λ part. part.lines) parts)

none_still : AreStill []
none_still = record { posted = refl; read = refl; taken = refl; nothing = All-nil SaysNothing }

one_still : (o : Order) (s : Option Stop) (part : Part) (parts : List Part) → ClosedWrites o s part
    → AreStill parts → AreStill (part ∷ parts)
one_still o s part parts w rest =
    let still = stays_still o s part w in
    record {
      posted = ap₂ (λ xs ys. xs ++ ys) still.posted rest.posted;
      read = ap₂ (λ xs ys. xs ++ ys) still.read rest.read;
      taken = ap₂ (λ xs ys. xs ++ ys) still.taken rest.taken;
      nothing = All-append SaysNothing part.lines (flat_map (λ p. p.lines) parts)
          (says_nothing o s part w) rest.nothing;
    }

or_true : (a b : Bool) → b ≡ true → (a || b) ≡ true
or_true true b is = refl
or_true false b is = is

all_still : (full closed : Bool) (n : ℕ) (orders : List Order) (s : Option Stop) (parts : List Part)
    → closed ≡ true → Follows full closed n orders s parts → AreStill parts
all_still full _ _ _ _ _ is (all_done closed n) = none_still
all_still full _ _ _ _ _ is (ends_here closed n o orders why part w) =
    one_still o (Some why) part [] (subst (λ b. Writes full b n o (Some why) part) is w) none_still
all_still full _ _ _ _ _ is (goes_on closed n o orders s part parts w f) = one_still o None part
    parts (subst (λ b. Writes full b n o None part) is w) (all_still full (is_close o || closed)
    (n + length part.posted) orders s parts (or_true (is_close o) closed is) f)

-- the parts before the close have no line of a close

first_append : (xs ys : List Line)
    → first_closing (xs ++ ys) ≡ option_or (first_closing xs) (first_closing ys)
first_append [] ys = refl
first_append (x ∷ xs) ys = ap (option_or (closing_of x)) (first_append xs ys)
    ∙ sym (or_again (closing_of x) (first_closing xs) (first_closing ys))

behind : (xs ys : List Line) → first_closing xs ≡ None → first_closing (xs ++ ys) ≡ first_closing ys
behind xs ys none = first_append xs ys ∙ ap (λ o. option_or o (first_closing ys)) none

messages_silent : (messages : List Frame) → first_closing (map line.P2a messages) ≡ None
messages_silent [] = refl
messages_silent (m ∷ messages) = messages_silent messages

call_silent : (full : Bool) (n protocol id : ℕ) (payload : ArrayVec ℕ) (s : Option Stop)
    (part : Part) → CallWrites full n protocol id payload s part → first_closing part.lines ≡ None
call_silent full n protocol id payload _ _ (call_answered reply looks of_it) = refl
call_silent full n protocol id payload _ _ (call_did_not_fit long looks of_it) = refl
call_silent full n protocol id payload _ _ (call_found_no_place may) = refl
call_silent full n protocol id payload _ _ call_ran_out = refl
call_silent full n protocol id payload _ _ call_had_no_room = refl

until_silent : (full : Bool) (n domain state : ℕ) (s : Option Stop) (part : Part)
    → UntilWrites full n domain state s part → first_closing part.lines ≡ None
until_silent full n domain state _ _ (state_seen others last below not has looks of_each) = refl
until_silent full n domain state _ _ (state_not_seen others all not looks of_each) = refl
until_silent full n domain state _ _ (state_ran_out others below not looks of_each) = refl
until_silent full n domain state _ _ (state_found_no_place others below not may looks of_each) =
    refl
until_silent full n domain state _ _ (state_had_no_room others below not looks of_each) = refl

p2a_silent : (count : ℕ) (s : Option Stop) (part : Part) → P2aWrites count s part
    → first_closing part.lines ≡ None
p2a_silent count _ _ (messages_taken messages many looks of_each) = messages_silent messages
p2a_silent count _ _ (messages_ran_out messages below looks of_each) =
    behind (map line.P2a messages) (line.Limit ∷ []) (messages_silent messages)
p2a_silent count _ _ (messages_had_no_room messages below looks of_each) = messages_silent messages

ended_silent : (why : Stop) (part : Part) → CloseWrites (Some why) part
    → first_closing part.lines ≡ None
ended_silent _ _ close_had_no_room = refl

end_silent : (full : Bool) (n : ℕ) (o : Order) (why : Stop) (part : Part)
    → Writes full false n o (Some why) part → first_closing part.lines ≡ None
end_silent full n (order.Call protocol id payload) why part w =
    call_silent full n protocol id payload (Some why) part w
end_silent full n (order.Until domain state) why part w =
    until_silent full n domain state (Some why) part w
end_silent full n (order.P2a count) why part w = p2a_silent count (Some why) part w
end_silent full n order.Close why part w = ended_silent why part w

-- the parts up to the close, and those after it
record IsCut (full : Bool) (n : ℕ) (orders : List Order) (parts : List Part) : Type 0 where
  pub first : List Part
  pub rest : List Part
  pub both : parts ≡ first ++ rest
  pub follows : Follows full false n (up_to_close orders) None first
  pub still : AreStill rest

no_closing : {A : Type 0} → None ≡ Some Idle → A
no_closing e = absurd cc

before_cut : (full : Bool) (n : ℕ) (o : Order) (orders : List Order)
    (part : Part) (parts : List Part) → up_to_close (o ∷ orders) ≡ o ∷ up_to_close orders
    → (is_close o || false) ≡ false → Writes full false n o None part
    → IsCut full (n + length part.posted) orders parts → IsCut full n (o ∷ orders) (part ∷ parts)
before_cut full n o orders part parts cut unclosed w rest = record {
  first = part ∷ rest.first;
  rest = rest.rest;
  both = ap (λ ps. part ∷ ps) rest.both;
  follows = subst (λ os. Follows full false n os None (part ∷ rest.first)) (sym cut)
      (goes_on false n o (up_to_close orders) None part rest.first w (subst (λ b. Follows full b
      (n + length part.posted) (up_to_close orders) None rest.first) (sym unclosed) rest.follows));
  still = rest.still;
}

is_cut : (full : Bool) (n : ℕ) (orders : List Order) (s : Option Stop) (parts : List Part)
    → Follows full false n orders s parts
    → first_closing (flat_map (λ part. part.lines) parts) ≡ Some Idle → IsCut full n orders parts
is_cut full n _ _ _ (all_done _ _) is = no_closing is
is_cut full n _ _ _ (ends_here _ _ o orders why part w) is =
    no_closing (sym (behind part.lines [] (end_silent full n o why part w)) ∙ is)
is_cut full n _ _ _ (goes_on _ _ order.Close orders s part parts w f) is = record {
  first = part ∷ [];
  rest = parts;
  both = refl;
  follows = goes_on false n order.Close [] None part [] w (all_done true (n + length part.posted));
  still = all_still full true (n + length part.posted) orders s parts refl f;
}
is_cut full n _ _ _ (goes_on _ _ (order.Call protocol id payload) orders s part parts w f) is =
    before_cut full n (order.Call protocol id payload) orders part parts refl refl w
    (is_cut full (n + length part.posted) orders s parts f (sym (behind part.lines
    (flat_map (λ p. p.lines) parts) (call_silent full n protocol id payload None part w)) ∙ is))
is_cut full n _ _ _ (goes_on _ _ (order.Until domain state) orders s part parts w f) is =
    before_cut full n (order.Until domain state) orders part parts refl refl w
    (is_cut full (n + length part.posted) orders s parts f (sym (behind part.lines
    (flat_map (λ p. p.lines) parts) (until_silent full n domain state None part w)) ∙ is))
is_cut full n _ _ _ (goes_on _ _ (order.P2a count) orders s part parts w f) is =
    before_cut full n (order.P2a count) orders part parts refl refl w
    (is_cut full (n + length part.posted) orders s parts f
    (sym (behind part.lines (flat_map (λ p. p.lines) parts) (p2a_silent count None part w)) ∙ is))

up_to : {X : Type 0} (f : Part → List X) (all : List X) (parts first rest : List Part)
    → all ≡ flat_map f parts → parts ≡ first ++ rest → all ≡ flat_map f first ++ flat_map f rest
up_to f all parts first rest is both = is ∙ ap (flat_map f) both ∙ flat_map-append f first rest

alone : {X : Type 0} (f : Part → List X) (all : List X) (parts first rest : List Part)
    → all ≡ flat_map f parts → parts ≡ first ++ rest → flat_map f rest ≡ [] → all ≡ flat_map f first
alone f all parts first rest is both none = up_to f all parts first rest is both
    ∙ ap (λ xs. flat_map f first ++ xs) none ∙ append-nil (flat_map f first)

done_at_close : (full : Bool) (orders : List Order) (board : Board) (h : List Event)
    (a : ℕ) (log : AgentLog) → IsScriptLog full orders log → LogHeadline board h a log
    → EndsAtClose full orders h a log
done_at_close full orders board h a log script headline is =
    let cut = is_cut full 0 orders log.stopped script.parts script.follows
    (sym (ap first_closing script.made.lines) ∙ sym headline.closing ∙ is) in
    let posted = alone (λ part. part.posted) log.posted.items script.parts cut.first cut.rest
    script.made.posted cut.both cut.still.posted in
    record {
      parts = cut.first;
      follows = cut.follows;
      posted = posted;
      executed = (headline.idle is).0 ∙ posted;
      read = alone (λ part. part.read) log.read.items script.parts cut.first cut.rest
          script.made.read cut.both cut.still.read;
      taken = alone (λ part. part.taken) log.p2a.items script.parts cut.first cut.rest
          script.made.taken cut.both cut.still.taken;
      further = flat_map (λ part. part.lines) cut.rest;
      lines = up_to (λ part. part.lines) log.lines.items script.parts cut.first cut.rest
          script.made.lines cut.both;
      nothing = cut.still.nothing;
    }

pub all_end_at_close : (full : Bool) (orders : ℕ → List Order) (board : Board) (h : List Event)
    (a : ℕ) (logs : List AgentLog) → AllFrom (λ b log. IsScriptLog full (orders b) log) a logs
    → AllFrom (LogHeadline board h) a logs
    → AllFrom (λ b log. EndsAtClose full (orders b) h b log) a logs
all_end_at_close full orders board h a [] scripts headlines = tt
all_end_at_close full orders board h a (log ∷ logs) scripts headlines = (
  done_at_close full (orders a) board h a log scripts.0 headlines.0,
  all_end_at_close full orders board h (a + 1) logs scripts.1 headlines.1,
)
