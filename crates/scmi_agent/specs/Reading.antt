-- How the words of a reply are read, by the parts that the tables of messages list for it.
use Rattle.std.specs.Prelude.{ℕ, ◌==◌, if◌then◌else◌, List, [], ◌∷◌, length, Option, Some, None, slice_index, ◌+◌}
use Rattle.scmi_codec.specs.Listing.{Said, words_of}
use Rattle.scmi_codec.specs.declared.messages.Part.{Part}

-- as many words as parts have
abbrev pub exactly : {C : Type 0} → (List ℕ → C) → List Part → List ℕ → Option C
exactly make parts words = if length words == words_of parts then Some (make words) else None

-- words as the reply to a message of an id: each row of a table has the reading of its parts
abbrev pub read_among : {C : Type 0} → List Said → List (List Part → List ℕ → Option C) → ℕ
    → List ℕ → Option C
read_among (row ∷ rows) (read ∷ reads) id words = if row.id == id then read row.gives words
    else read_among rows reads id words
read_among _ _ id words = None

-- the four words of a name, from a place on
abbrev pub name_at : ℕ → List ℕ → List ℕ
name_at k w =
    slice_index w k ∷ slice_index w (k + 1) ∷ slice_index w (k + 2) ∷ slice_index w (k + 3) ∷ []
