-- The lines of a text, one after the other.
use Rattle.std.proofs.Common.{ℕ, suc, ◌<◌, ◌≡◌, ◌≢◌, Bool, true, false, cond, eqb, List, [], ◌∷◌, length, take, drop, refl, sym, ap, subst, ◌∙◌, arith, inl, inr}
use Rattle.std.specs.List.{position_or_len, onto_first}
use Rattle.std.proofs.lemmas.Bool.{cases_Bool, eqb-false}
use Rattle.scmi_board.specs.Lines.{is_significant, last_behind, lines_behind, lines_of, number_behind}

abbrev feed_place : List ℕ → ℕ
feed_place text = position_or_len (λ byte. eqb byte 10) text

pub no_lines : lines_of [] ≡ []
unfolding lines_of
no_lines = refl

at_feed : (byte : ℕ) (rest : List ℕ) → eqb byte 10 ≡ true
    → lines_of (byte ∷ rest) ≡ [] ∷ lines_of rest
unfolding lines_of
at_feed byte rest feed =
    ap (λ (b : Bool). cond b ([] ∷ lines_of rest) (onto_first byte (lines_of rest))) feed

at_other : (byte : ℕ) (rest : List ℕ) (more : List (List ℕ)) → lines_of rest ≡ more
    → eqb byte 10 ≡ false → lines_of (byte ∷ rest) ≡ onto_first byte more
unfolding lines_of
at_other byte rest more same other = ap (λ (b : Bool). cond b ([] ∷ lines_of rest)
    (onto_first byte (lines_of rest))) other ∙ ap (λ (ls : List (List ℕ)). onto_first byte ls) same

place_at_feed : (byte : ℕ) (rest : List ℕ) → eqb byte 10 ≡ true → feed_place (byte ∷ rest) ≡ 0
place_at_feed byte rest feed = rw feed refl

place_at_other : (byte : ℕ) (rest : List ℕ) → eqb byte 10 ≡ false
    → feed_place (byte ∷ rest) ≡ suc (feed_place rest)
place_at_other byte rest other = rw other (omega arith)

abbrev IsCutAt : List ℕ → ℕ → Type 0
IsCutAt text place = lines_of text ≡ take place text ∷ lines_of (drop 1 (drop place text))

cut_at_feed : (byte : ℕ) (rest : List ℕ) → eqb byte 10 ≡ true
    → IsCutAt (byte ∷ rest) (feed_place (byte ∷ rest))
cut_at_feed byte rest feed = subst (λ (k : ℕ). IsCutAt (byte ∷ rest) k)
    (sym (place_at_feed byte rest feed)) (at_feed byte rest feed)

-- the first line, and those after its line feed
pub cut_line : (text : List ℕ) → 0 < length text → IsCutAt text (feed_place text)
cut_line [] some = absurd (omega (arith, some))
cut_line (byte ∷ []) some =
    elim (cases_Bool (eqb byte 10)) [
      | inl feed ↦ cut_at_feed byte [] feed
      | inr other ↦ subst (λ (k : ℕ). IsCutAt (byte ∷ []) k)
          (sym (place_at_other byte [] other)) (at_other byte [] [] no_lines other
          ∙ ap (λ (ls : List (List ℕ)). (byte ∷ []) ∷ ls) (sym no_lines))
    ]
cut_line (byte ∷ next ∷ rest) some =
    elim (cases_Bool (eqb byte 10)) [
      | inl feed ↦ cut_at_feed byte (next ∷ rest) feed
      | inr other ↦ subst (λ (k : ℕ). IsCutAt (byte ∷ next ∷ rest) k)
          (sym (place_at_other byte (next ∷ rest) other))
          (at_other byte (next ∷ rest) _ (cut_line (next ∷ rest) (omega arith)) other)
    ]

pub cut_at : (text front back rest : List ℕ) (k : ℕ) → eqb (length text) 0 ≡ false
    → k ≡ feed_place text → front ≡ take k text → back ≡ drop k text → rest ≡ drop 1 back
    → lines_of text ≡ front ∷ lines_of rest
cut_at text front back rest k some place front-is back-is rest-is =
    let long = eqb-false (length text) 0 some in
    let whole : length text ≢ 0 = long in
    rw (front-is, rest-is, back-is, place) (cut_line text (omega (arith, whole)))

-- a line that counts, and one that does not
pub counted : (n m : ℕ) (all others : List (List ℕ)) (text : List ℕ)
    → all ≡ text ∷ others → m ≡ number_behind n → is_significant text ≡ true
    → lines_behind n all ≡ record { number = m; text = text } ∷ lines_behind m others
unfolding lines_behind
counted n m all others text parts number counts =
    rw (parts, number) (ap (λ (b : Bool). cond b (record { number = number_behind n; text = text }
    ∷ lines_behind (number_behind n) others) (lines_behind (number_behind n) others)) counts)

pub skipped : (n m : ℕ) (all others : List (List ℕ)) (text : List ℕ) → all ≡ text ∷ others
    → m ≡ number_behind n → is_significant text ≡ false → lines_behind m others ≡ lines_behind n all
unfolding lines_behind
skipped n m all others text parts number skips = rw
    (parts, number) (sym (ap (λ (b : Bool). cond b (record { number = number_behind n; text = text }
    ∷ lines_behind (number_behind n) others) (lines_behind (number_behind n) others)) skips))

pub last_later : (n m : ℕ) (all others : List (List ℕ)) (text : List ℕ) → all ≡ text ∷ others
    → m ≡ number_behind n → last_behind m others ≡ last_behind n all
unfolding last_behind
last_later n m all others text parts number = rw (parts, number) refl

-- behind no line
pub none_behind : (n : ℕ) (rest : List ℕ) → rest ≡ [] → lines_behind n (lines_of rest) ≡ []
unfolding lines_behind
none_behind n rest none = rw (none, no_lines) refl

pub last_is : (n : ℕ) (rest : List ℕ) → rest ≡ [] → last_behind n (lines_of rest) ≡ n
unfolding last_behind
last_is n rest none = rw (none, no_lines) refl
