-- The payload words that the items of a line encode.
use Rattle.std.specs.Prelude.{ℕ, ◌+◌, ◌==◌, ◌&&◌, nat_le, Bool, true, false, if◌then◌else◌, List, [], ◌∷◌, ◌++◌, length, map, Option, Some, None}
use Rattle.std.specs.Option.{option_map}
use Rattle.scmi_board.specs.Items.{◌>>=◌}
use Rattle.scmi_board.specs.Number.{number_of}
use Rattle.scmi_board.specs.Rows.{after_each}
use Rattle.scmi_codec.specs.Listing.{Said, listed_row, rows_of}
use Rattle.scmi_codec.specs.Rate.{rate_words}
use Rattle.scmi_codec.specs.declared.messages.Part.{Part}
use Rattle.scmi_codec.specs.declared.messages.Part.TheVariants as part
use Rattle.scmi_codec.specs.declared.payload.TheConstants.{PAYLOAD_WORDS}
use Rattle.scmi_plan.specs.Board.{Board}
use Rattle.scmi_live.specs.Flags.{flags_in, flags_of}
use Rattle.scmi_live.specs.Letters.{is_word}
use Rattle.scmi_live.specs.Names.{number_from, or_named}
use Rattle.scmi_live.specs.Rates.{rate_meant}
use Rattle.scmi_live.specs.Messages.{id_in, protocol_named}
use Rattle.scmi_live.specs.declared.word.TheConstants.{ON, OFF, OFF_STATE}

-- `on` or `off`, in letters of either case, by the words that they mean
abbrev pub switched : ℕ → ℕ → List ℕ → Option ℕ
switched on off item = if is_word item ON.now then Some on else if is_word item OFF.now
    then Some off else None

-- the word that a name means if a message of a protocol has this part
abbrev pub word_named : Board → ℕ → Part → List ℕ → Option ℕ
word_named board protocol part.Agent item = number_from 1 item board.agents
word_named board protocol part.Subject item = number_from 1 item board.agents
word_named board protocol part.Domain item =
    number_from 0 item (map (λ domain. domain.name) board.domains)
word_named board protocol part.Clock item =
    number_from 0 item (map (λ clock. clock.name) board.clocks)
word_named board protocol part.Protocol item = protocol_named item
word_named board protocol part.Message item = id_in item (rows_of protocol)
word_named board protocol part.State item = switched 0 OFF_STATE item
word_named board protocol part.Enable item = switched 1 0 item
word_named board protocol part.ClockAttributes item = switched 1 0 item
word_named board protocol part item = flags_in item (flags_of part)

-- the word that an item encodes
abbrev pub word_meant : Board → ℕ → Part → List ℕ → Option ℕ
word_meant board protocol part item =
    or_named (number_of 32 item) (word_named board protocol part item)

-- the words that an item encodes: two of a rate, the lower one first, and one of all else
abbrev pub words_of_item : Board → ℕ → Part → List ℕ → Option (List ℕ)
words_of_item board protocol part.Rate item = option_map rate_words (rate_meant item)
words_of_item board protocol part item =
    option_map (λ word. word ∷ []) (word_meant board protocol part item)

-- whether a part is flags
abbrev pub is_flags : Part → Bool
is_flags part.PermitFlags = true
is_flags part.ResetFlags = true
is_flags part.PowerFlags = true
is_flags part.RateFlags = true
is_flags part = false

-- the first of the items that are left, and the others
abbrev pub first_left : List (List ℕ) → Option (List ℕ × List (List ℕ))
first_left [] = None
first_left (item ∷ items) = Some (item, items)

-- the words of a part before this number of parts, and the items that are left: flags that have no
-- item are 0
abbrev pub first_words : Board → ℕ → Part → ℕ → List (List ℕ) → Option (List ℕ × List (List ℕ))
first_words board protocol part behind items =
    if is_flags part && (length items == behind) then Some (0 ∷ [], items)
    else first_left items >>= λ found. option_map (λ words. (words, found.1))
    (words_of_item board protocol part found.0)

-- words after others, if a payload has room for them
abbrev pub joined : List ℕ → List ℕ → Option (List ℕ)
joined words more = if nat_le (length words + length more) PAYLOAD_WORDS
    then Some (words ++ more) else None

-- the words that items encode, part by part, after others
abbrev pub words_behind : Board → ℕ → List ℕ → List Part → List (List ℕ) → Option (List ℕ)
words_behind board protocol words [] [] = Some words
words_behind board protocol words [] (item ∷ items) = None
words_behind board protocol words (part ∷ parts) items =
    first_words board protocol part (length parts) items >>= λ found. joined words found.0
    >>= λ more. words_behind board protocol more parts found.1

-- a number after others, if a payload has room for it
abbrev pub with_number : List ℕ → List ℕ → Option (List ℕ)
with_number words item = number_of 32 item >>= λ word. joined words (word ∷ [])

-- items that are numbers
abbrev pub numbers : List (List ℕ) → Option (List ℕ)
numbers items = after_each with_number [] items

-- the payload that items encode: part by part if the message is known, else numbers
abbrev pub payload_by : Board → ℕ → Option Said → List (List ℕ) → Option (List ℕ)
payload_by board protocol None items = numbers items
payload_by board protocol (Some row) items = words_behind board protocol [] row.asks items

-- the payload of a message whose parts these items name; none if they do not
abbrev pub payload_meant : Board → ℕ → ℕ → List (List ℕ) → Option (List ℕ)
payload_meant board protocol id items = payload_by board protocol (listed_row protocol id) items
