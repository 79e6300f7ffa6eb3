-- The payload words of a line, one after the other.
use Rattle.std.proofs.Common.{ℕ, ◌≡◌, ◌<◌, ◌≤◌, Bool, true, false, cond, List, [], ◌∷◌, ◌++◌, length, Option, Some, None, refl, sym, ap, ◌∙◌, nat_lt, arith}
use Rattle.std.proofs.lemmas.Bool.Decides.{nat_tests}
use Rattle.std.proofs.lemmas.Option.{same_Some}
use Rattle.scmi_board.specs.Items.{◌>>=◌, ItemsView, first_number, no_item}
use Rattle.scmi_board.specs.LineError.{Fails}
use Rattle.scmi_board.specs.Number.{number_of}
use Rattle.scmi_board.specs.declared.line_error.LineError.{LineError}
use Rattle.scmi_board.specs.declared.line_error.LineError.TheVariants.{Form, Memory}
use Rattle.scmi_board.specs.Rows.{after_each}
use Rattle.scmi_codec.specs.declared.payload.TheConstants.{PAYLOAD_WORDS}
use Rattle.scmi_text.specs.Fields.{payload_behind, with_word}

-- the items that are left, the first of them with its number
abbrev view_of : List (List ℕ) → Bool → ItemsView
view_of items whole = record { items = items; whole = whole }

abbrev one_number : Option ℕ → List (List ℕ) → Bool → Option (ℕ × ItemsView)
one_number number items whole = number >>= λ word. Some (word, view_of items whole)

abbrev one_word : List ℕ → Option ℕ → Option (List ℕ)
one_word words number =
    number >>= λ word. cond (nat_lt (length words) PAYLOAD_WORDS) (Some (words ++ word ∷ [])) None

abbrev others : Option (List ℕ) → List (List ℕ) → Bool → Option (List ℕ)
others next items whole = cond whole (next >>= λ words. after_each with_word words items) None

number_at : (item : List ℕ) (items : List (List ℕ)) (whole : Bool) (number : Option ℕ)
    → number_of 32 item ≡ number
    → first_number 32 (view_of (item ∷ items) whole) ≡ one_number number items whole
unfolding first_number
number_at item items whole number is = ap (λ (n : Option ℕ). one_number n items whole) is

no_number : (whole : Bool) → first_number 32 (view_of [] whole) ≡ None
unfolding first_number
no_number whole = refl

word_at : (words item : List ℕ) (items : List (List ℕ)) (whole : Bool) (number : Option ℕ)
    → number_of 32 item ≡ number → payload_behind words (view_of (item ∷ items) whole)
    ≡ others (one_word words number) items whole
unfolding payload_behind with_word
word_at words item items whole number is =
    ap (λ (n : Option ℕ). others (one_word words n) items whole) is

no_word : (words : List ℕ) (whole : Bool)
    → payload_behind words (view_of [] whole) ≡ cond whole (Some words) None
unfolding payload_behind
no_word words whole = refl

behind : (words : List ℕ) (items : List (List ℕ)) (whole : Bool)
    → payload_behind words (view_of items whole) ≡ others (Some words) items whole
unfolding payload_behind
behind words items whole = refl

nothing_at_all : (items : List (List ℕ)) (whole : Bool) → others None items whole ≡ None
nothing_at_all items true = refl
nothing_at_all items false = refl

few_words : (words : List ℕ) (word : ℕ) → length words < PAYLOAD_WORDS
    → one_word words (Some word) ≡ Some (words ++ word ∷ [])
few_words words word few =
    let less : nat_lt (length words) PAYLOAD_WORDS ≡ true = grind (arith, nat_tests) in
    rw less refl

many_words : (words : List ℕ) (word : ℕ) → PAYLOAD_WORDS ≤ length words
    → one_word words (Some word) ≡ None
many_words words word many =
    let more : nat_lt (length words) PAYLOAD_WORDS ≡ false = grind (arith, nat_tests) in
    rw more refl

more_at : (words item : List ℕ) (items : List (List ℕ)) (whole : Bool)
    (rest : ItemsView) (word : ℕ) (number : Option ℕ) → number_of 32 item ≡ number
    → one_number number items whole ≡ Some (word, rest) → length words < PAYLOAD_WORDS
    → payload_behind (words ++ word ∷ []) rest ≡ payload_behind words (view_of (item ∷ items) whole)
more_at words item items whole rest word None is same few = absurd cc
more_at words item items whole rest word (Some n) is same few =
    let number : n ≡ word =
    ap (λ (p : ℕ × ItemsView). p.0) (same_Some (n, view_of items whole) (word, rest) same) in
    let left : view_of items whole ≡ rest =
    ap (λ (p : ℕ × ItemsView). p.1) (same_Some (n, view_of items whole) (word, rest) same) in
    ap (payload_behind (words ++ word ∷ [])) (sym left) ∙ behind (words ++ word ∷ []) items whole
    ∙ ap (λ (next : Option (List ℕ)). others next items whole) (sym (few_words words word few))
    ∙ sym (word_at words item items whole (Some word) (is ∙ ap (λ (m : ℕ). Some m) number))

more_of : (words : List ℕ) (items : List (List ℕ)) (whole : Bool) (rest : ItemsView) (word : ℕ)
    → first_number 32 (view_of items whole) ≡ Some (word, rest) → length words < PAYLOAD_WORDS
    → payload_behind (words ++ word ∷ []) rest ≡ payload_behind words (view_of items whole)
more_of words [] whole rest word is few = absurd (let none = no_number whole in cc)
more_of words (item ∷ items) whole rest word is few = more_at words item items whole rest word
    (number_of 32 item) refl (sym (number_at item items whole (number_of 32 item) refl) ∙ is) few

-- one word more
pub word_more : (words : List ℕ) (view rest : ItemsView) (word : ℕ) (total : Option (List ℕ))
    → first_number 32 view ≡ Some (word, rest) → length words < PAYLOAD_WORDS
    → payload_behind words view ≡ total → payload_behind (words ++ word ∷ []) rest ≡ total
word_more words view rest word total is few so_far =
    more_of words view.items view.whole rest word is few ∙ so_far

full_of : (words : List ℕ) (items : List (List ℕ)) (whole : Bool) (rest : ItemsView) (word : ℕ)
    → first_number 32 (view_of items whole) ≡ Some (word, rest) → PAYLOAD_WORDS ≤ length words
    → payload_behind words (view_of items whole) ≡ None
full_of words [] whole rest word is many = absurd (let none = no_number whole in cc)
full_of words (item ∷ items) whole rest word is many =
    full_at words item items whole rest word (number_of 32 item) refl
    (sym (number_at item items whole (number_of 32 item) refl) ∙ is) many where
      full_at : (words item : List ℕ) (items : List (List ℕ))
          (whole : Bool) (rest : ItemsView) (word : ℕ) (number : Option ℕ)
          → number_of 32 item ≡ number
          → one_number number items whole ≡ Some (word, rest) → PAYLOAD_WORDS ≤ length words
          → payload_behind words (view_of (item ∷ items) whole) ≡ None
      full_at words item items whole rest word None is same many = absurd cc
      full_at words item items whole rest word (Some n) is same many =
          word_at words item items whole
          (Some n) is ∙ ap (λ (next : Option (List ℕ)). others next items whole)
          (many_words words n many) ∙ nothing_at_all items whole

-- one word too many
pub word_full : (words : List ℕ) (view rest : ItemsView) (word : ℕ) (total : Option (List ℕ))
    → first_number 32 view ≡ Some (word, rest) → PAYLOAD_WORDS ≤ length words
    → payload_behind words view ≡ total → total ≡ None
word_full words view rest word total is many so_far = sym so_far
    ∙ full_of words view.items view.whole rest word is many

stop_of : (words : List ℕ) (items : List (List ℕ)) (whole : Bool)
    → first_number 32 (view_of items whole) ≡ None → no_item (view_of items whole) ≡ None
    → payload_behind words (view_of items whole) ≡ None
stop_of words [] true is some = absurd cc
stop_of words [] false is some = no_word words false
stop_of words (item ∷ items) whole is some = stop_at words item items whole (number_of 32 item) refl
    (sym (number_at item items whole (number_of 32 item) refl) ∙ is) where
      stop_at : (words item : List ℕ) (items : List (List ℕ)) (whole : Bool) (number : Option ℕ)
          → number_of 32 item ≡ number → one_number number items whole ≡ None
          → payload_behind words (view_of (item ∷ items) whole) ≡ None
      stop_at words item items whole None is none = word_at words item items whole None is
          ∙ nothing_at_all items whole
      stop_at words item items whole (Some n) is none = absurd cc

-- an item that is no word, or a fault in the spaces
pub word_stop : (words : List ℕ) (view : ItemsView) (total : Option (List ℕ)) → first_number 32 view
    ≡ None → no_item view ≡ None → payload_behind words view ≡ total → total ≡ None
word_stop words view total is some so_far = sym so_far ∙ stop_of words view.items view.whole is some

pub word_fails : (words : List ℕ) (view : ItemsView) (total : Option (List ℕ)) (error : LineError)
    → Fails error (first_number 32 view) → no_item view ≡ None → payload_behind words view ≡ total
    → Fails error total
word_fails words view total Form is some so_far = word_stop words view total is some so_far
word_fails words view total Memory is some so_far = is

done_of : (words : List ℕ) (items : List (List ℕ)) (whole : Bool) → no_item (view_of items whole)
    ≡ Some tt → payload_behind words (view_of items whole) ≡ Some words
done_of words [] true none = no_word words true
done_of words [] false none = absurd cc
done_of words (item ∷ items) whole none = absurd cc

-- no item is left
pub words_done : (words : List ℕ) (view : ItemsView) (total : Option (List ℕ))
    → no_item view ≡ Some tt → payload_behind words view ≡ total → total ≡ Some words
words_done words view total none so_far = sym so_far ∙ done_of words view.items view.whole none
