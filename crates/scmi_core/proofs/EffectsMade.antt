-- The effects of one more event, and what hardware is asked for at it.
use Rattle.std.proofs.Common.{◌≡◌, List, [], ◌∷◌, ◌++◌, map, option_map, Option, Some, None, refl, sym, ap, subst, ◌∙◌}
use Rattle.std.specs.Option.{option_to_list}
use Rattle.std.specs.List.{All}
use Rattle.std.proofs.lemmas.List.{append_assoc, append-nil, map-append}
use Rattle.std.proofs.lemmas.List.Elements.{All-pop}
use Rattle.scmi_codec.specs.declared.frame.Frame.TheVariants.{Good, Malformed}
use Rattle.scmi_core.specs.declared.event.Event.TheVariants.{Advance, AdvanceFailed, Command, CommandFailed, Promoted, Reported, Restarted, Sent, Settled}
use Rattle.scmi_plan.specs.Board.{Board}
use Rattle.scmi_plan.specs.declared.effect.Effect.{Effect}
use Rattle.scmi_core.specs.declared.event.Event.{Event}
use Rattle.scmi_codec.specs.declared.fault.Fault.{Fault}
use Rattle.scmi_core.specs.Deed.{fold_with_prefix}
use Rattle.scmi_core.specs.Asked.{Asked, Made, Refused, and_asked, made_of}
use Rattle.scmi_core.specs.Driven.{HappensOn, HappensThere, HasMade, IsDriven, ask_after, asks, asks_from}
use Rattle.scmi_core.specs.Standing.{Standing}
use Rattle.scmi_core.specs.Effect.{commanded_effects, effect_after, effect_of, effects}
use Rattle.scmi_core.specs.History.{deeds, deed_after}
use Rattle.scmi_core.specs.Value.{Change, change_by, changes, commanded_by, commanded_changes}
use Rattle.scmi_core.specs.Plain.{IsNoReport}
use Rattle.scmi_core.proofs.Deeds.{changes-push, commanded_changes-push}
use Rattle.scmi_core.proofs.Legal.{Grown, deeds-push, empty, grow, grown}

map_one : (o : Option Change)
    → map effect_of (option_to_list o) ≡ option_to_list (option_map effect_of o)
map_one None = refl
map_one (Some change) = refl

-- one more event adds its effect, if it has one
pub effects-push : (board : Board) (h : List Event) (e : Event)
    → effects board (h ++ e ∷ []) ≡ effects board h ++ option_to_list (effect_after board h e)
unfolding effects
effects-push board h e =
    let change = change_by board (deeds board h) (deed_after board (deeds board h) e) in
    ap (λ ds. map effect_of (changes board ds)) (deeds-push board h e)
    ∙ ap (map effect_of) (changes-push board (deeds board h) (deed_after board (deeds board h) e))
    ∙ map-append effect_of (changes board (deeds board h)) (option_to_list change)
    ∙ ap (λ ys. map effect_of (changes board (deeds board h)) ++ ys) (map_one change)

-- the effect of an event that a command asked for, and that the hardware did not report
commanded_after : Board → List Event → Event → Option Effect
commanded_after board h e =
    option_map effect_of (commanded_by board (deeds board h) (deed_after board (deeds board h) e))

-- one more event adds it, if there is one
commanded-push : (board : Board) (h : List Event) (e : Event) → commanded_effects board
    (h ++ e ∷ []) ≡ commanded_effects board h ++ option_to_list (commanded_after board h e)
unfolding commanded_effects commanded_after
commanded-push board h e =
    let change = commanded_by board (deeds board h) (deed_after board (deeds board h) e) in
    ap (λ ds. map effect_of (commanded_changes board ds)) (deeds-push board h e)
    ∙ ap (map effect_of)
    (commanded_changes-push board (deeds board h) (deed_after board (deeds board h) e))
    ∙ map-append effect_of (commanded_changes board (deeds board h)) (option_to_list change)
    ∙ ap (λ ys. map effect_of (commanded_changes board (deeds board h)) ++ ys) (map_one change)

-- it is the event's effect, but for a report
commanded-is : (board : Board) (h : List Event) (e : Event) → IsNoReport e
    → commanded_after board h e ≡ effect_after board h e
unfolding commanded_after
commanded-is board h (Command a (Good m)) other = refl
commanded-is board h (Command a (Malformed len header)) other = refl
commanded-is board h (CommandFailed a (Good m) fault) other = refl
commanded-is board h (CommandFailed a (Malformed len header) fault) other = refl
commanded-is board h Advance other = refl
commanded-is board h (AdvanceFailed fault) other = refl
commanded-is board h (Sent a) other = refl
commanded-is board h (Restarted a) other = refl
commanded-is board h (Promoted place) other = refl
commanded-is board h (Settled clock rate) other = refl
commanded-is board h (Reported effect) other = elim other [ ]

and_asked-append : (asks : List Asked) (ask : Option Asked)
    → and_asked asks ask ≡ asks ++ option_to_list ask
and_asked-append asks None = sym (append-nil asks)
and_asked-append asks (Some ask) = refl

asks_from-push : (board : Board) (before h : List Event) (e : Event) → asks_from board before
    (h ++ e ∷ []) ≡ asks_from board before h ++ option_to_list (ask_after board (before ++ h) e)
asks_from-push board before [] e = append-nil (option_to_list (ask_after board before e))
    ∙ ap (λ h. option_to_list (ask_after board h e)) (sym (append-nil before))
asks_from-push board before (x ∷ h) e =
    let first = option_to_list (ask_after board before x) in
    let rest = asks_from board (before ++ x ∷ []) h in
    ap (λ ys. first ++ ys) (asks_from-push board (before ++ x ∷ []) h e)
    ∙ sym (append_assoc first rest (option_to_list (ask_after board ((before ++ x ∷ []) ++ h) e)))
    ∙ ap (λ k. (first ++ rest) ++ option_to_list (ask_after board k e))
    (append_assoc before (x ∷ []) h)

-- one more event adds what hardware is asked for at it, if that is anything
pub asks-push : (board : Board) (before : List Asked) (h : List Event) (e : Event)
    → and_asked (before ++ asks board h) (ask_after board h e) ≡ before ++ asks board (h ++ e ∷ [])
unfolding asks
asks-push board before h e =
    and_asked-append (before ++ asks_from board [] h) (ask_after board h e)
    ∙ append_assoc before (asks_from board [] h) (option_to_list (ask_after board h e))
    ∙ ap (λ ys. before ++ ys) (sym (asks_from-push board [] h e))

-- one more event at which hardware is asked for nothing
pub asks-stay : (board : Board) (h : List Event) (e : Event) → ask_after board h e ≡ None
    → asks board (h ++ e ∷ []) ≡ asks board h
unfolding asks
asks-stay board h e none =
    asks_from-push board [] h e
    ∙ ap (λ ask. asks_from board [] h ++ option_to_list ask) none
    ∙ append-nil (asks_from board [] h)

-- so hardware that was asked for what belongs to a history goes on having been asked for it
pub made-on : (board : Board) (IsOne : Event → Type 0) (h h' : List Event) (asked asked' : List
    Asked → Type 0) (before : List Asked) → HappensOn board IsOne h asked h' asked'
    → HasMade before board h asked → HasMade before board h' asked'
made-on board IsOne h h' asked asked' before happens made =
    subst (λ k. HasMade before board k asked') (sym happens.history)
    (subst asked' (asks-push board before h happens.event)
    (happens.hardware (before ++ asks board h) made))

-- and so of a platform without its history
pub driven-on : (IsOne : Event → Type 0) (p k : Standing) (asked asked' : List Asked → Type 0)
    → HappensThere IsOne p asked k asked' → k.board ≡ p.board
    → IsDriven p asked → IsDriven k asked'
driven-on IsOne p k asked asked' happens same driven =
    let h = driven.0 in
    let h' = h ++ happens.event ∷ [] in (
      h',
      happens.moves h driven.1,
      subst (λ board. asked' (asks board h')) (sym same)
          (subst asked' (asks-push p.board [] h happens.event)
          (happens.hardware h driven.1 (asks p.board h) driven.2)),
    )

made_of-append : (xs ys : List Asked) → made_of (xs ++ ys) ≡ made_of xs ++ made_of ys
made_of-append [] ys = refl
made_of-append (Made effect ∷ xs) ys = ap (λ zs. effect ∷ zs) (made_of-append xs ys)
made_of-append (Refused effect fault ∷ xs) ys = made_of-append xs ys

made : (o : Option Effect) → made_of (option_to_list (option_map Made o)) ≡ option_to_list o
made None = refl
made (Some effect) = refl

refused : (fault : Fault) (o : Option Effect)
    → made_of (option_to_list (option_map (λ effect. Refused effect fault) o)) ≡ []
refused fault None = refl
refused fault (Some effect) = refl

-- what is made at an event is what the event changes, if that was not reported
made_after : (board : Board) (h : List Event) (e : Event)
    → made_of (option_to_list (ask_after board h e)) ≡ option_to_list (commanded_after board h e)
unfolding commanded_after
made_after board h (Command a (Good m)) = made (effect_after board h (Command a (Good m)))
made_after board h (Command a (Malformed len header)) = refl
made_after board h Advance = made (effect_after board h Advance)
made_after board h (Sent a) = refl
made_after board h (CommandFailed a (Good m) fault) =
    refused fault (effect_after board h (Command a (Good m)))
made_after board h (CommandFailed a (Malformed len header) fault) = refl
made_after board h (AdvanceFailed fault) = refused fault (effect_after board h Advance)
made_after board h (Restarted a) = refl
made_after board h (Promoted place) = refl
made_after board h (Settled clock rate) = refl
made_after board h (Reported effect) = refl

made_from : (board : Board) (before h : List Event) → commanded_effects board before
    ++ made_of (asks_from board before h) ≡ commanded_effects board (before ++ h)
made_from board before [] = append-nil (commanded_effects board before)
    ∙ ap (commanded_effects board) (sym (append-nil before))
made_from board before (e ∷ h) =
    let ask = option_to_list (ask_after board before e) in
    let rest = asks_from board (before ++ e ∷ []) h in
    ap (λ ys. commanded_effects board before ++ ys)
    (made_of-append ask rest ∙ ap (λ ys. ys ++ made_of rest) (made_after board before e))
    ∙ sym (append_assoc (commanded_effects board before)
    (option_to_list (commanded_after board before e)) (made_of rest))
    ∙ ap (λ ys. ys ++ made_of rest) (sym (commanded-push board before e))
    ∙ made_from board (before ++ e ∷ []) h
    ∙ ap (commanded_effects board) (append_assoc before (e ∷ []) h)

none_at_start : (board : Board) → commanded_effects board [] ≡ []
unfolding commanded_effects deeds fold_with_prefix
none_at_start board = refl

-- what hardware has made in a history is what the history changes, but for what was reported
pub made-effects : (board : Board) (h : List Event)
    → made_of (asks board h) ≡ commanded_effects board h
unfolding asks
made-effects board h = ap (λ xs. xs ++ made_of (asks_from board [] h)) (sym (none_at_start board))
    ∙ made_from board [] h

unreported_of : (board : Board) {h : List Event} → Grown h → All IsNoReport h
    → commanded_effects board h ≡ effects board h
unfolding commanded_effects effects deeds fold_with_prefix
unreported_of board empty all = refl
unreported_of board (grow {xs} g e) all =
    let two = All-pop IsNoReport (xs ++ e ∷ []) xs (Some e) refl all in
    commanded-push board xs e
    ∙ ap (λ ys. ys ++ option_to_list (commanded_after board xs e)) (unreported_of board g two.0)
    ∙ ap (λ one. effects board xs ++ option_to_list one) (commanded-is board xs e two.1)
    ∙ sym (effects-push board xs e)

-- and without a report that is all
pub unreported : (board : Board) (h : List Event) → All IsNoReport h
    → commanded_effects board h ≡ effects board h
unreported board h all = unreported_of board (grown h) all
