-- A list of rates has room in the channel of the agent that asks for it.
use Rattle.std.proofs.Common.{◌≡◌, ℕ, suc, ◌+◌, ◌-◌, ◌*◌, ◌/◌, ◌≤◌, List, [], ◌∷◌, length, take, drop, arith, refl}
use Rattle.std.specs.Prelude.{min}
use Rattle.std.specs.List.{flat_map}
use Rattle.std.proofs.Math.Nat.{min-le_left, mul-div-le}
use Rattle.std.proofs.lemmas.List.{length-take}
use Rattle.scmi_codec.specs.Rate.{rate_words}
use Rattle.scmi_plan.specs.Board.{IsChannel}
use Rattle.scmi_plan.specs.Rates.{SupportedRates}
use Rattle.scmi_plan.specs.Rates as rates
use Rattle.scmi_plan.specs.declared.agent_channel.AgentChannel.{AgentChannel}
use Rattle.scmi_clock.specs.ClockReply.{most_rates, rates_words}

-- two words a rate
length-rates : (xs : List ℕ) → length (flat_map rate_words xs) ≡ 2 * length xs
length-rates [] = refl
length-rates (x ∷ xs) = let rest = length-rates xs in omega (arith, rest)

-- this many rates have room after the status and the flags word
most-within : (words : ℕ) → 8 ≤ words → 2 + 2 * ((words - 2) / 2) ≤ words
most-within words eight = let pairs = mul-div-le (words - 2) 2 in omega (arith, eight, pairs)

-- the reply that lists rates has room in its channel
pub rates-within : (channel : AgentChannel) → IsChannel channel → (r : SupportedRates) (index : ℕ)
    → 1 + length (rates_words channel r index) ≤ channel.words
rates-within channel law (rates.list list) index =
    let count = min (most_rates channel) (length list - index) in
    let pairs : length (flat_map rate_words (take count (drop index list)))
    ≡ 2 * length (take count (drop index list)) = length-rates (take count (drop index list)) in
    let taken : length (take count (drop index list)) ≡ min count (length (drop index list)) =
    length-take count (drop index list) in
    let few : min count (length (drop index list)) ≤ count =
    min-le_left count (length (drop index list)) in
    let most : count ≤ most_rates channel =
    min-le_left (most_rates channel) (length list - index) in
    let room : 2 + 2 * most_rates channel ≤ channel.words = most-within channel.words law.0 in
    short (length (flat_map rate_words (take count (drop index list))))
    (length (take count (drop index list))) (min count (length (drop index list))) count
    (most_rates channel) channel.words pairs taken few most room
  where
    short : (rates taken least count most words : ℕ) → rates ≡ 2 * taken → taken ≡ least
        → least ≤ count → count ≤ most → 2 + 2 * most ≤ words → 1 + suc rates ≤ words
    short rates taken least count most words pairs is few upto room =
        omega (arith, pairs, is, few, upto, room)
rates-within channel law (rates.steps low high step) index = law.0
