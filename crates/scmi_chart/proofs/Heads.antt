-- One lifeline more.
use Rattle.std.proofs.Common.{◌≡◌, ℕ, ◌+◌, ◌<◌, List, [], ◌∷◌, ◌++◌, map, take, get_or, length, ap, sym, ◌∙◌, arith}
use Rattle.std.proofs.lemmas.List.{map_push, take_more, length-map, length-take-le}
use Rattle.scmi_chart.specs.declared.chart.Lifeline.{Lifeline}
use Rattle.scmi_chart.specs.Signs.{lane}
use Rattle.scmi_chart.specs.Shown.{head_of, heads_from}

heads_more : (agent : ℕ) (names : List (List ℕ)) (name : List ℕ)
    → heads_from agent (names ++ name ∷ [])
    ≡ heads_from agent names ++ record { agent = lane (agent + length names); name = name } ∷ []
heads_more agent [] name =
    let same : agent ≡ agent + 0 = omega arith in
    ap (λ a. record { agent = lane a; name = name } ∷ []) same
heads_more agent (n ∷ names) name =
    let same : agent + 1 + length names ≡ agent + length (n ∷ names) = omega arith in
    ap (λ heads. record { agent = lane agent; name = n } ∷ heads) (heads_more (agent + 1) names name
    ∙ ap (λ a. heads_from (agent + 1) names ++ record { agent = lane a; name = name } ∷ []) same)

pub heads_step : {X : Type 0} (f : X → List ℕ) (xs : List X) (i : ℕ) (d : X)
    (lifelines all : List Lifeline) (new : Lifeline) → i < length xs → all ≡ lifelines ++ new ∷ []
    → map head_of lifelines ≡ heads_from 1 (map f (take i xs)) → new.agent ≡ lane (1 + i)
    → new.name.items ≡ f (get_or xs i d) → map head_of all ≡ heads_from 1 (map f (take (i + 1) xs))
heads_step f xs i d lifelines all new below more so_far agent_is name_is =
    let names : List (List ℕ) = map f (take i xs) in
    let count : length names ≡ i = length-map (take i xs) f
    ∙ length-take-le i xs (omega (arith, below)) in
    let last : head_of new ≡ record { agent = lane (1 + length names); name = f (get_or xs i d) } =
    ap (λ a. record { agent = a; name = new.name.items })
    (agent_is ∙ ap (λ n. lane (1 + n)) (sym count))
    ∙ ap (λ n. record { agent = lane (1 + length names); name = n }) name_is in
    ap (map head_of) more ∙ map_push head_of lifelines new
    ∙ ap (λ heads. heads ++ head_of new ∷ []) so_far
    ∙ ap (λ head. heads_from 1 names ++ head ∷ []) last
    ∙ sym (heads_more 1 names (f (get_or xs i d)))
    ∙ sym (ap (heads_from 1)
    (ap (map f) (take_more xs i d below) ∙ map_push f (take i xs) (get_or xs i d)))
