-- What a window of a ring is after a step.
use Rattle.std.proofs.Common.{◌≡◌, ℕ, ◌+◌, ◌-◌, ◌%◌, ◌<◌, ◌≤◌, ◌⊎◌, List, [], ◌∷◌, ◌++◌, length, get_or, drop, set, ap, ◌∙◌, inl, inr, mod-eq_of_lt, arith, length-append, length-drop, length-set, length-take-le, get_or-drop, get_or-take}
use native.Mathlib.Nat.{mod-eq-sub-mod, mod-add-mod}
use Rattle.std.proofs.lemmas.List.{same_lists, get_or_append_left, get_or-append_right}
use Rattle.std.proofs.lemmas.Bool.{cases_lt}
use Rattle.std.proofs.lemmas.Grind.{common_steps}
use Rattle.scmi_core.specs.Window.{window}

-- an index below 2 N wraps once at most
mod_wraps_once : (N j : ℕ) → j < N + N → ((j < N) × (j % N ≡ j)) ⊎ ((N ≤ j) × (j % N ≡ j - N))
mod_wraps_once N j below = elim (cases_lt j N) [
  | inl low ↦ inl (low, mod-eq_of_lt low)
  | inr high ↦ inr (high, mod-eq-sub-mod high ∙ mod-eq_of_lt (omega arith))
]

module _ {X : Type 0} (N k n : ℕ) (xs : List X) (starts : k < N) (fits : n ≤ N)
    (all : length xs ≡ N) where
  pub length-window : length (window k n xs) ≡ n
  length-window = length-take-le n _
      (simp (length-append, length-drop) (omega (arith, length-take-le k xs (omega arith))))

  -- item i of the window is place (k + i) % N, which is before the end of the ring or past it
  get_or-window : (i : ℕ) (d : X) → i < n → get_or (window k n xs) i d ≡ get_or xs ((k + i) % N) d
  get_or-window i d within =
      let tail = length-drop k xs in
      get_or-take n _ i d within ∙ elim (mod_wraps_once N (k + i) (omega arith)) [
        | inl before ↦ get_or_append_left _ _ d i (omega arith) ∙ get_or-drop k xs i d
            ∙ ap (λ j. get_or xs j d) (omega arith)
        | inr past ↦ get_or-append_right _ _ (N - k) i d (omega arith) (omega arith)
            ∙ get_or-take k xs _ d (omega arith) ∙ ap (λ j. get_or xs j d) (omega arith)
      ]

-- these use the lemmas above at other windows
module _ {X : Type 0} (N k n : ℕ) (xs : List X) (starts : k < N) (fits : n ≤ N)
    (all : length xs ≡ N) where
  -- what is written after the last item is added at the end
  pub window-push : (x : X) → n < N
      → window k (n + 1) (set xs ((k + n) % N) x) ≡ window k n xs ++ x ∷ []
  window-push x room =
      let ys = set xs ((k + n) % N) x in
      let all' = length-set xs ((k + n) % N) x ∙ all in
      let old = length-window N k n xs starts fits all in
      let new = length-window N k (n + 1) ys starts (omega arith) all' in
      let place = mod_wraps_once N (k + n) (omega arith) in
      same_lists _ _ (grind (arith, common_steps)) (λ i d within. grind (
        arith,
        common_steps,
        mod_wraps_once N (k + i) (omega arith),
        get_or-window N k n xs starts fits all i d,
        get_or-window N k (n + 1) ys starts (omega arith) all' i d,
      ))

  -- without its first item it begins at the next place
  pub window-pop : 0 < n → window ((k + 1) % N) (n - 1) xs ≡ drop 1 (window k n xs)
  window-pop some =
      let next : (k + 1) % N < N = grind (arith, mod_wraps_once N (k + 1) (omega arith)) in
      let old = length-window N k n xs starts fits all in
      let new = length-window N ((k + 1) % N) (n - 1) xs next (omega arith) all in
      same_lists _ _ (simp length-drop (omega arith)) (λ i d within. grind (
        arith,
        length-drop 1 (window k n xs),
        get_or-drop 1 (window k n xs) i d,
        mod-add-mod (k + 1) N i,
        get_or-window N k n xs starts fits all (1 + i) d,
        get_or-window N _ (n - 1) xs next (omega arith) all i d,
      ))
