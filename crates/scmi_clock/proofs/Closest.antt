-- The rates below and above are the closest on their side, and the nearest is closest of all.
use Rattle.std.proofs.Common.{◌≡◌, ◌⊎◌, inl, inr, ℕ, ◌+◌, ◌-◌, ◌*◌, ◌/◌, ◌<◌, ◌≤◌, nat_le, Bool, true, false, List, length, get_or, map, Option, Some, None, refl, ap, ◌∙◌, subst, arith, if◌then◌else◌}
use Rattle.std.specs.List.{range_with_len}
use Rattle.std.specs.Int.{abs_diff}
use Rattle.std.proofs.Math.Nat.{mul-le-mul_right}
use Rattle.std.proofs.lemmas.Bool.{leb-true, leb-false, cases_lt, cases_order}
use Rattle.std.proofs.lemmas.List.{get_or_default}
use Rattle.std.proofs.lemmas.List.Elements.{Contains-get_or}
use Rattle.std.proofs.lemmas.List.FromFn.{length-map-range_with_len, get_or-map-range_with_len}
use Rattle.std.proofs.lemmas.List.Kept.{AllPairs-from_increasing}
use Rattle.scmi_plan.specs.Rates as rates
use Rattle.scmi_plan.specs.Rates.{SupportedRates, members, HasValidRates, IsSupported}
use Rattle.scmi_clock.specs.Rounding.{IsRoundedDown, IsRoundedUp, IsNearest, rate_below, rate_above, nearer}
use Rattle.scmi_clock.proofs.Passing.{PassesNowhere, IsLast, IsFirst, last_cases, first_cases}

-- rates that don't fall along the list, of which there is one at least
pub record IsLadder (xs : List ℕ) : Type 0 where
  pub some : 0 < length xs
  pub rises : (i j : ℕ) → i ≤ j → j < length xs → get_or xs i 0 ≤ get_or xs j 0

-- the rate at a place of the steps
pub step_at : (low step n k : ℕ) → k < n
    → get_or (map (λ k. low + k * step) (range_with_len 0 n)) k 0 ≡ low + k * step
step_at low step n k h = get_or-map-range_with_len (λ k. low + k * step) 0 n k k 0 h (omega arith)

pub ladder : (r : SupportedRates) → HasValidRates r → IsLadder (members r)
ladder (rates.list list) valid = record { some = valid.0; rises = by } where
  by : (i j : ℕ) → i ≤ j → j < length list → get_or list i 0 ≤ get_or list j 0
  by i j upto within = pick (cases_order i j) where
    pick : ((i ≡ j) ⊎ ((i < j) ⊎ (j < i))) → get_or list i 0 ≤ get_or list j 0
    pick (inl e) =
        let e' : get_or list i 0 ≡ get_or list j 0 = ap (λ k. get_or list k 0) e in
        omega arith
    pick (inr (inl h)) =
        let up : get_or list i 0 < get_or list j 0 =
        AllPairs-from_increasing list valid.2 i j 0 h within in
        omega arith
    pick (inr (inr h)) = absurd (omega arith)
ladder (rates.steps low high step) valid = record { some = by_some; rises = by } where
  count : length (members (rates.steps low high step)) ≡ (high - low) / step + 1
  count = length-map-range_with_len (λ k. low + k * step) 0 ((high - low) / step + 1)

  by_some : 0 < length (members (rates.steps low high step))
  by_some = omega (arith, count)

  by : (i j : ℕ) → i ≤ j → j < length (members (rates.steps low high step)) → get_or
      (members (rates.steps low high step)) i 0 ≤ get_or (members (rates.steps low high step)) j 0
  by i j upto within =
      let wide : j < (high - low) / step + 1 = omega (arith, count) in
      let at_i : get_or (members (rates.steps low high step)) i 0 ≡ low + i * step =
      step_at low step ((high - low) / step + 1) i (omega arith) in
      let at_j : get_or (members (rates.steps low high step)) j 0 ≡ low + j * step =
      step_at low step ((high - low) / step + 1) j wide in
      let up : i * step ≤ j * step = mul-le-mul_right step upto in
      omega arith

module _ (r : SupportedRates) (valid : HasValidRates r) (asked : ℕ) where
  -- a supported rate, at its place
  place : (m : ℕ) (s : IsSupported r m) → get_or (members r) s.0 0 ≡ m
  place m s = get_or_default (members r) s.0 0 m s.1 ∙ s.2

  pub is_down : (m : ℕ) → IsLast (λ x. nat_le x asked) (members r) m → IsRoundedDown r asked m
  is_down m l = record {
    supported = subst (λ x. IsSupported r x) l.is (Contains-get_or (members r) l.place 0 l.within);
    at_most = leb-true m asked l.passes;
    none_between = by;
  } where
    by : (x : ℕ) → IsSupported r x → x ≤ asked → x ≤ m
    by x s low = pick (cases_lt l.place s.0) where
      pick : ((l.place < s.0) ⊎ (s.0 ≤ l.place)) → x ≤ m
      pick (inl h) =
          let past = leb-false _ _ (l.after s.0 h s.1) in
          let e = place x s in
          absurd (omega arith)
      pick (inr h) =
          let up = (ladder r valid).rises s.0 l.place h l.within in
          let e = place x s in
          let f = l.is in
          omega arith

  pub is_up : (m : ℕ) → IsFirst (λ x. nat_le asked x) (members r) m → IsRoundedUp r asked m
  is_up m l = record {
    supported = subst (λ x. IsSupported r x) l.is (Contains-get_or (members r) l.place 0 l.within);
    at_least = leb-true asked m l.passes;
    none_between = by;
  } where
    by : (x : ℕ) → IsSupported r x → asked ≤ x → m ≤ x
    by x s high = pick (cases_lt s.0 l.place) where
      pick : ((s.0 < l.place) ⊎ (l.place ≤ s.0)) → m ≤ x
      pick (inl h) =
          let past = leb-false _ _ (l.before s.0 h) in
          let e = place x s in
          absurd (omega arith)
      pick (inr h) =
          let up = (ladder r valid).rises l.place s.0 h s.1 in
          let e = place x s in
          let f = l.is in
          omega arith

  pub none_down : PassesNowhere (λ x. nat_le x asked) (members r) → (x : ℕ)
      → IsSupported r x → asked < x
  none_down n x s = let past = leb-false _ _ (n.fails s.0 s.1) in let e = place x s in omega arith

  pub none_up : PassesNowhere (λ x. nat_le asked x) (members r) → (x : ℕ)
      → IsSupported r x → x < asked
  none_up n x s = let past = leb-false _ _ (n.fails s.0 s.1) in let e = place x s in omega arith

  pub below_cases : ((rate_below r asked ≡ None) × ((x : ℕ) → IsSupported r x → asked < x))
      ⊎ ((m : ℕ) × (rate_below r asked ≡ Some m) × IsRoundedDown r asked m)
  below_cases = pick (last_cases (λ x. nat_le x asked) None (members r)) where
    pick : ((rate_below r asked ≡ None) × PassesNowhere (λ x. nat_le x asked) (members r))
        ⊎ ((m : ℕ) × (rate_below r asked ≡ Some m) × IsLast (λ x. nat_le x asked) (members r) m)
        → ((rate_below r asked ≡ None) × ((x : ℕ) → IsSupported r x → asked < x))
        ⊎ ((m : ℕ) × (rate_below r asked ≡ Some m) × IsRoundedDown r asked m)
    pick (inl t) = inl (t.0, none_down t.1)
    pick (inr t) = inr (t.0, t.1, is_down t.0 t.2)

  pub above_cases : ((rate_above r asked ≡ None) × ((x : ℕ) → IsSupported r x → x < asked))
      ⊎ ((m : ℕ) × (rate_above r asked ≡ Some m) × IsRoundedUp r asked m)
  above_cases = pick (first_cases (λ x. nat_le asked x) (members r)) where
    pick : ((rate_above r asked ≡ None) × PassesNowhere (λ x. nat_le asked x) (members r))
        ⊎ ((m : ℕ) × (rate_above r asked ≡ Some m) × IsFirst (λ x. nat_le asked x) (members r) m)
        → ((rate_above r asked ≡ None) × ((x : ℕ) → IsSupported r x → x < asked))
        ⊎ ((m : ℕ) × (rate_above r asked ≡ Some m) × IsRoundedUp r asked m)
    pick (inl t) = inl (t.0, none_up t.1)
    pick (inr t) = inr (t.0, t.1, is_up t.0 t.2)

  -- the rates below and above are together never missing, and the nearer of the two is the nearest
  pub nearest_cases : ((o : Option ℕ) → o ≡ nearer asked (rate_below r asked) (rate_above r asked)
      → ((m : ℕ) × (o ≡ Some m) × IsNearest r asked m))
  nearest_cases o is = pick below_cases above_cases where
    first : IsSupported r (get_or (members r) 0 0)
    first = Contains-get_or (members r) 0 0 (ladder r valid).some

    both : (d u : ℕ) → IsRoundedDown r asked d → IsRoundedUp r asked u → (b : Bool)
        → nat_le (asked - d) (u - asked) ≡ b → (m : ℕ) × ((if b then Some d else Some u) ≡ Some m)
        × IsNearest r asked m
    both d u down up true t = (
      d,
      refl,
      record {
        supported = down.supported;
        closest = λ x s. far x s (cases_lt asked x);
        lower_of_two = λ x s e. low x s e (cases_lt asked x);
      },
    ) where
      near : asked - d ≤ u - asked
      near = leb-true (asked - d) (u - asked) t

      far : (x : ℕ) → IsSupported r x → ((asked < x) ⊎ (x ≤ asked))
          → abs_diff asked d ≤ abs_diff asked x
      far x s (inl h) =
          let high = up.none_between x s (omega arith) in
          omega (arith, near, down.at_most, up.at_least)
      far x s (inr h) = let low = down.none_between x s h in omega (arith, near, down.at_most)

      low : (x : ℕ) → IsSupported r x → abs_diff asked x ≡ abs_diff asked d
          → ((asked < x) ⊎ (x ≤ asked)) → d ≤ x
      low x s e (inl h) = omega (arith, down.at_most)
      low x s e (inr h) = let low = down.none_between x s h in omega (arith, down.at_most)
    both d u down up false t = (
      u,
      refl,
      record {
        supported = up.supported;
        closest = λ x s. far x s (cases_lt asked x);
        lower_of_two = λ x s e. low x s e (cases_lt asked x);
      },
    ) where
      near : u - asked < asked - d
      near = leb-false (asked - d) (u - asked) t

      far : (x : ℕ) → IsSupported r x → ((asked < x) ⊎ (x ≤ asked))
          → abs_diff asked u ≤ abs_diff asked x
      far x s (inl h) =
          let high = up.none_between x s (omega arith) in
          omega (arith, near, down.at_most, up.at_least)
      far x s (inr h) =
          let low = down.none_between x s h in
          omega (arith, near, down.at_most, up.at_least)

      low : (x : ℕ) → IsSupported r x → abs_diff asked x ≡ abs_diff asked u
          → ((asked < x) ⊎ (x ≤ asked)) → u ≤ x
      low x s e (inl h) = up.none_between x s (omega arith)
      low x s e (inr h) =
          let low = down.none_between x s h in
          absurd (omega (arith, near, down.at_most, up.at_least))

    only_up : (u : ℕ) → ((x : ℕ) → IsSupported r x → asked < x) → IsRoundedUp r asked u
        → IsNearest r asked u
    only_up u all up = record {
      supported = up.supported;
      closest = λ x s. let above = all x s in let high = up.none_between x s (omega arith) in
          omega (arith, up.at_least);
      lower_of_two = λ x s e. let above = all x s in up.none_between x s (omega arith);
    }

    only_down : (d : ℕ) → ((x : ℕ) → IsSupported r x → x < asked) → IsRoundedDown r asked d
        → IsNearest r asked d
    only_down d all down = record {
      supported = down.supported;
      closest = λ x s. let below = all x s in let low = down.none_between x s (omega arith) in
          omega (arith, down.at_most);
      lower_of_two = λ x s e. let below = all x s in
          let low = down.none_between x s (omega arith) in omega (arith, down.at_most);
    }

    pick : ((rate_below r asked ≡ None) × ((x : ℕ) → IsSupported r x → asked < x))
        ⊎ ((m : ℕ) × (rate_below r asked ≡ Some m) × IsRoundedDown r asked m)
        → ((rate_above r asked ≡ None) × ((x : ℕ) → IsSupported r x → x < asked))
        ⊎ ((m : ℕ) × (rate_above r asked ≡ Some m) × IsRoundedUp r asked m)
        → ((m : ℕ) × (o ≡ Some m) × IsNearest r asked m)
    pick (inl b) (inl a) = let low = a.1 _ first in let high = b.1 _ first in absurd (omega arith)
    pick (inl b) (inr a) =
        (a.0, is ∙ ap (λ z. nearer asked z (rate_above r asked)) b.0 ∙ a.1, only_up a.0 b.1 a.2)
    pick (inr b) (inl a) = (
      b.0,
      is ∙ ap (λ z. nearer asked z (rate_above r asked)) b.1
          ∙ ap (λ z. nearer asked (Some b.0) z) a.0,
      only_down b.0 a.1 b.2,
    )
    pick (inr b) (inr a) =
        let e : o ≡ nearer asked (Some b.0) (Some a.0) = is ∙ ap (λ z. nearer asked z
        (rate_above r asked)) b.1 ∙ ap (λ z. nearer asked (Some b.0) z) a.1 in
        let t = both b.0 a.0 b.2 a.2 (nat_le (asked - b.0) (a.0 - asked)) refl in
        (t.0, e ∙ t.1, t.2)
