-- The identity of a word channel.
use Rattle.std.specs.Prelude.{ℕ, List, ◌∷◌}
use Rattle.atomic_table.specs.Seated.{TableId}
use Rattle.scmi_words.specs.declared.word_channel.WordChannel.{WordChannel}
use Rattle.scmi_words.specs.SharedTable.{id_of}

-- the numbers by which a table differs from every other
unfoldable pub table_identity : TableId → List ℕ
table_identity table = table.words ∷ table.slots ∷ table.views_name ∷ table.atom ∷ table.block
    ∷ table.offset ∷ table.slot_names

-- the identity of the channel's table
abbrev pub word_channel_identity : WordChannel → List ℕ
word_channel_identity channel = table_identity (id_of channel.table)
