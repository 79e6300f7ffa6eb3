-- The words of an area, one after the other.
use Rattle.std.proofs.Common.{ℕ, ◌≡◌, ◌+◌, ◌<◌, ◌≤◌, Bool, true, false, cond, List, [], ◌∷◌, ◌++◌, length, Option, Some, None, refl, sym, ap, ◌∙◌, nat_le, arith}
use Rattle.std.proofs.lemmas.Bool.Decides.{nat_tests}
use Rattle.std.proofs.lemmas.Option.{same_Some}
use Rattle.std.specs.Int.{to_le_bytes, w32}
use Rattle.scmi_board.specs.Items.{◌>>=◌, ItemsView, first_number, no_item}
use Rattle.scmi_board.specs.LineError.{Fails}
use Rattle.scmi_board.specs.Number.{number_of}
use Rattle.scmi_board.specs.Rows.{after_each}
use Rattle.scmi_board.specs.declared.line_error.LineError.{LineError}
use Rattle.scmi_board.specs.declared.line_error.LineError.TheVariants.{Form, Memory}
use Rattle.scmi_codec.specs.declared.area.TheConstants.{AREA_BYTES}
use Rattle.scmi_check.specs.AreaShown.{area_behind, with_area_word}

abbrev view_of : List (List ℕ) → Bool → ItemsView
view_of items whole = record { items = items; whole = whole }

-- the first of the items as a number, and the others
abbrev one_number : Option ℕ → List (List ℕ) → Bool → Option (ℕ × ItemsView)
one_number number items whole = number >>= λ word. Some (word, view_of items whole)

-- bytes with those of a number, if an area has room for it
abbrev one_word : List ℕ → Option ℕ → Option (List ℕ)
one_word bytes number = number >>= λ word. cond (nat_le (length bytes + 4) AREA_BYTES)
    (Some (bytes ++ to_le_bytes w32 word)) None

abbrev others : Option (List ℕ) → List (List ℕ) → Bool → Option (List ℕ)
others next items whole = cond whole (next >>= λ bytes. after_each with_area_word bytes items) None

number_at : (item : List ℕ) (items : List (List ℕ)) (whole : Bool) (number : Option ℕ)
    → number_of 32 item ≡ number
    → first_number 32 (view_of (item ∷ items) whole) ≡ one_number number items whole
unfolding first_number
number_at item items whole number is = ap (λ (n : Option ℕ). one_number n items whole) is

no_number : (whole : Bool) → first_number 32 (view_of [] whole) ≡ None
unfolding first_number
no_number whole = refl

word_at : (bytes item : List ℕ) (items : List (List ℕ)) (whole : Bool) (number : Option ℕ)
    → number_of 32 item ≡ number
    → area_behind bytes (view_of (item ∷ items) whole) ≡ others (one_word bytes number) items whole
unfolding area_behind with_area_word
word_at bytes item items whole number is =
    ap (λ (n : Option ℕ). others (one_word bytes n) items whole) is

no_word : (bytes : List ℕ) (whole : Bool)
    → area_behind bytes (view_of [] whole) ≡ cond whole (Some bytes) None
unfolding area_behind
no_word bytes whole = refl

behind : (bytes : List ℕ) (items : List (List ℕ)) (whole : Bool)
    → area_behind bytes (view_of items whole) ≡ others (Some bytes) items whole
unfolding area_behind
behind bytes items whole = refl

nothing_at_all : (items : List (List ℕ)) (whole : Bool) → others None items whole ≡ None
nothing_at_all items true = refl
nothing_at_all items false = refl

few_bytes : (bytes : List ℕ) (word : ℕ) → length bytes + 4 ≤ AREA_BYTES
    → one_word bytes (Some word) ≡ Some (bytes ++ to_le_bytes w32 word)
few_bytes bytes word few =
    let less : nat_le (length bytes + 4) AREA_BYTES ≡ true = grind (arith, nat_tests) in
    rw less refl

many_bytes : (bytes : List ℕ) (word : ℕ) → AREA_BYTES < length bytes + 4
    → one_word bytes (Some word) ≡ None
many_bytes bytes word many =
    let more : nat_le (length bytes + 4) AREA_BYTES ≡ false = grind (arith, nat_tests) in
    rw more refl

more_at : (bytes item : List ℕ) (items : List (List ℕ)) (whole : Bool)
    (rest : ItemsView) (word : ℕ) (number : Option ℕ) → number_of 32 item ≡ number
    → one_number number items whole ≡ Some (word, rest)
    → length bytes + 4 ≤ AREA_BYTES → area_behind (bytes ++ to_le_bytes w32 word) rest
    ≡ area_behind bytes (view_of (item ∷ items) whole)
more_at bytes item items whole rest word None is same few = absurd cc
more_at bytes item items whole rest word (Some n) is same few =
    let number : n ≡ word =
    ap (λ (p : ℕ × ItemsView). p.0) (same_Some (n, view_of items whole) (word, rest) same) in
    let left : view_of items whole ≡ rest =
    ap (λ (p : ℕ × ItemsView). p.1) (same_Some (n, view_of items whole) (word, rest) same) in
    ap (area_behind (bytes ++ to_le_bytes w32 word)) (sym left)
    ∙ behind (bytes ++ to_le_bytes w32 word) items whole
    ∙ ap (λ (next : Option (List ℕ)). others next items whole) (sym (few_bytes bytes word few))
    ∙ sym (word_at bytes item items whole (Some word) (is ∙ ap (λ (m : ℕ). Some m) number))

more_of : (bytes : List ℕ) (items : List (List ℕ)) (whole : Bool) (rest : ItemsView) (word : ℕ)
    → first_number 32 (view_of items whole) ≡ Some (word, rest) → length bytes + 4 ≤ AREA_BYTES
    → area_behind (bytes ++ to_le_bytes w32 word) rest ≡ area_behind bytes (view_of items whole)
more_of bytes [] whole rest word is few = absurd (let none = no_number whole in cc)
more_of bytes (item ∷ items) whole rest word is few =
    more_at bytes item items whole rest word (number_of 32 item) refl
    (sym (number_at item items whole (number_of 32 item) refl) ∙ is) few

-- one word more
pub word_more : (bytes : List ℕ) (view rest : ItemsView) (word : ℕ) (total : Option (List ℕ))
    → first_number 32 view ≡ Some (word, rest) → length bytes + 4 ≤ AREA_BYTES
    → area_behind bytes view ≡ total
    → area_behind (bytes ++ to_le_bytes w32 word) rest ≡ total
word_more bytes view rest word total is few so_far =
    more_of bytes view.items view.whole rest word is few ∙ so_far

-- bytes that do not fit, of a word
pub no_room : (n k : ℕ) → k ≡ 4 → (n + k ≤ AREA_BYTES → ⊥) → AREA_BYTES < n + 4
no_room n k is none = grind (arith, nat_tests)

full_at : (bytes item : List ℕ) (items : List (List ℕ)) (whole : Bool)
    (rest : ItemsView) (word : ℕ) (number : Option ℕ) → number_of 32 item ≡ number
    → one_number number items whole ≡ Some (word, rest)
    → AREA_BYTES < length bytes + 4 → area_behind bytes (view_of (item ∷ items) whole) ≡ None
full_at bytes item items whole rest word None is same many = absurd cc
full_at bytes item items whole rest word (Some n) is same many =
    word_at bytes item items whole (Some n) is ∙ ap (λ (next : Option (List ℕ)).
    others next items whole) (many_bytes bytes n many) ∙ nothing_at_all items whole

full_of : (bytes : List ℕ) (items : List (List ℕ)) (whole : Bool) (rest : ItemsView) (word : ℕ)
    → first_number 32 (view_of items whole) ≡ Some (word, rest) → AREA_BYTES < length bytes + 4
    → area_behind bytes (view_of items whole) ≡ None
full_of bytes [] whole rest word is many = absurd (let none = no_number whole in cc)
full_of bytes (item ∷ items) whole rest word is many =
    full_at bytes item items whole rest word (number_of 32 item) refl
    (sym (number_at item items whole (number_of 32 item) refl) ∙ is) many

-- one word too many
pub word_full : (bytes : List ℕ) (view rest : ItemsView) (word : ℕ) (total : Option (List ℕ))
    → first_number 32 view ≡ Some (word, rest) → AREA_BYTES < length bytes + 4
    → area_behind bytes view ≡ total → total ≡ None
word_full bytes view rest word total is many so_far = sym so_far
    ∙ full_of bytes view.items view.whole rest word is many

stop_at : (bytes item : List ℕ) (items : List (List ℕ)) (whole : Bool) (number : Option ℕ)
    → number_of 32 item ≡ number → one_number number items whole ≡ None
    → area_behind bytes (view_of (item ∷ items) whole) ≡ None
stop_at bytes item items whole None is none = word_at bytes item items whole None is
    ∙ nothing_at_all items whole
stop_at bytes item items whole (Some n) is none = absurd cc

stop_of : (bytes : List ℕ) (items : List (List ℕ)) (whole : Bool)
    → first_number 32 (view_of items whole) ≡ None → no_item (view_of items whole) ≡ None
    → area_behind bytes (view_of items whole) ≡ None
stop_of bytes [] true is some = absurd cc
stop_of bytes [] false is some = no_word bytes false
stop_of bytes (item ∷ items) whole is some = stop_at bytes item items whole (number_of 32 item) refl
    (sym (number_at item items whole (number_of 32 item) refl) ∙ is)

-- an item that is no word, or a fault in the spaces
pub word_fails : (bytes : List ℕ) (view : ItemsView) (total : Option (List ℕ)) (error : LineError)
    → Fails error (first_number 32 view) → no_item view ≡ None → area_behind bytes view ≡ total
    → Fails error total
word_fails bytes view total Form is some so_far = sym so_far
    ∙ stop_of bytes view.items view.whole is some
word_fails bytes view total Memory is some so_far = is

done_of : (bytes : List ℕ) (items : List (List ℕ)) (whole : Bool)
    → no_item (view_of items whole) ≡ Some tt → area_behind bytes (view_of items whole) ≡ Some bytes
done_of bytes [] true none = no_word bytes true
done_of bytes [] false none = absurd cc
done_of bytes (item ∷ items) whole none = absurd cc

-- no item is left
pub words_done : (bytes : List ℕ) (view : ItemsView) (total : Option (List ℕ))
    → no_item view ≡ Some tt → area_behind bytes view ≡ total → total ≡ Some bytes
words_done bytes view total none so_far = sym so_far ∙ done_of bytes view.items view.whole none
