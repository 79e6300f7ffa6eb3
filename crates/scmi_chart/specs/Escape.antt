-- Texts from outside, as they are written, and what a reader of XML makes of them.
use Rattle.std.specs.Prelude.{ℕ, ◌==◌, ◌&&◌, not, nat_le, Bool, true, false, if◌then◌else◌, List, [], ◌∷◌, flat_map}
use Rattle.scmi_chart.specs.declared.escape.TheConstants.{AMPERSAND, GREATER, LESS, QUOTE, UNSHOWN}

-- a byte of a text from outside: printable ones of ASCII as themselves, those that XML gives a
-- meaning by their entities, and a sign for any other
unfoldable pub escaped_byte : ℕ → List ℕ
escaped_byte byte =
    if byte == 60 then LESS.now else if byte == 62 then GREATER.now else if byte == 38
    then AMPERSAND.now else if byte == 34 then QUOTE.now
    else if nat_le 32 byte && nat_le byte 126 then byte ∷ [] else UNSHOWN ∷ []

-- a text from outside
abbrev pub escaped_text : List ℕ → List ℕ
escaped_text bytes = flat_map escaped_byte bytes

-- a byte that does not end the text that it is in, between tags or in quotes
abbrev pub is_plain : ℕ → Bool
is_plain byte = not (byte == 60) && not (byte == 62) && not (byte == 34)

-- a byte as it is shown: a printable one of ASCII as itself, and a sign for any other
abbrev pub shown_byte : ℕ → ℕ
shown_byte byte = if nat_le 32 byte && nat_le byte 126 then byte else UNSHOWN

-- the character of an entity by what follows its `&`: `lt;`, `gt;`, `amp;` or `quot;`
abbrev pub entity_character : List ℕ → ℕ
entity_character [] = 38
entity_character (letter ∷ rest) = if letter == 108 then 60 else if letter == 103 then 62
    else if letter == 97 then 38 else 34

-- a text as it is read, from within an entity or not: an entity is its character, and any other
-- byte is itself
abbrev pub read_text : Bool → List ℕ → List ℕ
read_text inside [] = []
read_text true (byte ∷ rest) = read_text (not (byte == 59)) rest
read_text false (byte ∷ rest) = if byte == 38 then entity_character rest ∷ read_text true rest
    else byte ∷ read_text false rest
