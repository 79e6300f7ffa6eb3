-- An item that goes before the others: the same items, in another order.
use Rattle.std.proofs.Common.{◌≡◌, ◌⊎◌, inl, inr, ℕ, ◌+◌, ◌-◌, ◌==◌, ◌||◌, Bool, true, false, List, [], ◌∷◌, ◌++◌, length, take, drop, get_or, set, ◌<◌, refl, sym, ap, subst, ◌∙◌, arith}
use Rattle.std.specs.List.{All, copy_within, list_any, refill}
use Rattle.std.proofs.lemmas.List.{drop-drop, drop_more, length-append, take-append-drop}
use Rattle.std.proofs.lemmas.List.Elements.{All-append, All-drop, All-take, filter-append}
use Rattle.std.proofs.lemmas.List.Folds.{list_any-append}
use Rattle.scmi_core.specs.declared.pending_set.PendingSet.{PendingSet}
use Rattle.scmi_core.specs.Pending.{promoted, sets_by}

-- what comes after a place
after-place : {X : Type 0} (place : ℕ) (xs : List X) → drop (1 + place) xs ≡ drop 1 (drop place xs)
after-place place xs =
    let one : 1 + place ≡ place + 1 = omega arith in
    ap (λ n. drop n xs) one ∙ sym (drop-drop 1 place xs)

-- the items before a place, the one there, and those after it
parts : {X : Type 0} (place : ℕ) (xs : List X)
    → xs ≡ take place xs ++ (take 1 (drop place xs) ++ drop (1 + place) xs)
parts place xs =
    sym (take-append-drop place xs)
    ∙ ap (λ ys. take place xs ++ ys)
    (sym (take-append-drop 1 (drop place xs))
    ∙ ap (λ ys. take 1 (drop place xs) ++ ys) (sym (after-place place xs)))

-- the item at a place, if there is one, went before the others
pub record IsFirst {X : Type 0} (place : ℕ) (xs : List X) : Type 0 where
  pub it : X
  pub before : List X
  pub after : List X
  pub whole : xs ≡ before ++ it ∷ after
  pub moved : promoted place xs ≡ it ∷ (before ++ after)

pub promotion : {X : Type 0} (place : ℕ) (xs : List X) → (promoted place xs ≡ xs) ⊎ IsFirst place xs
promotion {X} place xs = by (drop place xs) refl where
  by : (rest : List X) → drop place xs ≡ rest → (promoted place xs ≡ xs) ⊎ IsFirst place xs
  by [] is =
      inl (ap (λ ys. ys ++ (take place xs ++ drop (1 + place) xs)) (ap (take 1) is)
      ∙ ap (λ ys. take place xs ++ ys) (after-place place xs ∙ ap (drop 1) is ∙ sym is)
      ∙ take-append-drop place xs)
  by (x ∷ rest) is = inr (record {
    it = x;
    before = take place xs;
    after = rest;
    whole = sym (take-append-drop place xs) ∙ ap (λ ys. take place xs ++ ys) is;
    moved =
        ap (λ ys. ys ++ (take place xs ++ drop (1 + place) xs)) (ap (take 1) is)
        ∙ ap (λ ys. x ∷ (take place xs ++ ys)) (after-place place xs ∙ ap (drop 1) is);
  })

-- what adds up over lists is the same in another order
measured : {X : Type 0} (measure : List X → ℕ)
    → ((xs ys : List X) → measure (xs ++ ys) ≡ measure xs + measure ys)
    → (place : ℕ) (xs : List X) → measure (promoted place xs) ≡ measure xs
measured measure adds place xs =
    let before = take place xs in
    let it = take 1 (drop place xs) in
    let after = drop (1 + place) xs in
    let turned : measure it + (measure before + measure after)
    ≡ measure before + (measure it + measure after) = omega arith in
    adds it (before ++ after)
    ∙ ap (λ n. measure it + n) (adds before after)
    ∙ turned
    ∙ ap (λ n. measure before + n) (sym (adds it after))
    ∙ sym (adds before (it ++ after))
    ∙ ap measure (sym (parts place xs))

-- there are as many
pub promoted-length : {X : Type 0} (place : ℕ) (xs : List X)
    → length (promoted place xs) ≡ length xs
promoted-length place xs = measured length length-append place xs

-- and of each agent as many
pub promoted-by : (a place : ℕ) (sets : List PendingSet)
    → length (sets_by a (promoted place sets)) ≡ length (sets_by a sets)
promoted-by a =
    measured (λ sets. length (sets_by a sets))
    (λ xs ys.
    ap length (filter-append (λ p. p.agent == a) xs ys)
    ∙ length-append (sets_by a xs) (sets_by a ys))

-- one of them passes a test if and only if one did
turned_any : (x y z : Bool) → (x || (y || z)) ≡ (y || (x || z))
turned_any true true z = refl
turned_any true false z = refl
turned_any false true z = refl
turned_any false false z = refl

pub promoted-any : {X : Type 0} (test : X → Bool) (place : ℕ) (xs : List X)
    → list_any test (promoted place xs) ≡ list_any test xs
promoted-any test place xs =
    let before = take place xs in
    let it = take 1 (drop place xs) in
    let after = drop (1 + place) xs in
    list_any-append test it (before ++ after)
    ∙ ap (λ b. list_any test it || b) (list_any-append test before after)
    ∙ turned_any (list_any test it) (list_any test before) (list_any test after)
    ∙ ap (λ b. list_any test before || b) (sym (list_any-append test it after))
    ∙ sym (list_any-append test before (it ++ after))
    ∙ ap (list_any test) (sym (parts place xs))

-- what holds of each holds of each
pub promoted-all : {X : Type 0} (P : X → Type 0) (place : ℕ) (xs : List X) → All P xs
    → All P (promoted place xs)
promoted-all P place xs all =
    All-append P (take 1 (drop place xs)) (take place xs ++ drop (1 + place) xs)
    (All-take P 1 (drop place xs) (All-drop P place xs all))
    (All-append P (take place xs) (drop (1 + place) xs) (All-take P place xs all)
    (All-drop P (1 + place) xs all))

-- ITEMS OF A SLICE

-- as many as before, written over them
written_over : {X : Type 0} (xs ys : List X) → length ys ≡ length xs → refill (length xs) xs ys ≡ ys
written_over [] [] same = refl
written_over [] (y ∷ ys) same = absurd (omega arith)
written_over (x ∷ xs) [] same = absurd (omega arith)
written_over (x ∷ xs) (y ∷ ys) same = ap (λ zs. y ∷ zs) (written_over xs ys (omega arith))

-- those before a place move on by one, and the one there is written before them
pub moved-on : {X : Type 0} (xs : List X) (place : ℕ) (x : X) → place < length xs
    → x ≡ get_or xs place x
    → set ((take 1 xs ++ take place xs) ++ drop (1 + place) xs) 0 x ≡ promoted place xs
moved-on [] place x within is = elim within [ ]
moved-on (y ∷ ys) place x within is =
    ap (λ zs. zs ++ (take place (y ∷ ys) ++ drop (1 + place) (y ∷ ys)))
    (sym (ap (take 1) (drop_more (y ∷ ys) place x within) ∙ ap (λ z. z ∷ []) (sym is)))

pub put-first : {X : Type 0} (xs lent moved : List X) (place : ℕ) (x : X) → place < length xs
    → lent ≡ xs → x ≡ get_or lent place x → moved ≡ copy_within lent 0 place 1
    → refill (length xs) xs (set moved 0 x) ≡ promoted place xs
put-first xs lent moved place x within same is shifted =
    let read : x ≡ get_or xs place x = subst (λ ys. x ≡ get_or ys place x) same is in
    let all : place - 0 ≡ place = omega arith in
    let over : set moved 0 x ≡ promoted place xs =
    ap (λ ys. set ys 0 x)
    (shifted
    ∙ ap (λ ys. copy_within ys 0 place 1) same
    ∙ ap (λ n. (take 1 xs ++ take n xs) ++ drop (1 + n) xs) all)
    ∙ moved-on xs place x within read in
    written_over xs (set moved 0 x) (ap length over ∙ promoted-length place xs) ∙ over
