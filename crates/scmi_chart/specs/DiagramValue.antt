-- What fills the holes of a diagram's lines.
use Rattle.std.specs.Prelude.{ℕ, ◌==◌, ◌&&◌, ◌||◌, nat_le, if◌then◌else◌, List, [], ◌∷◌, ◌++◌, map, decimal}
use Rattle.scmi_chart.specs.declared.mark.Label.{Label}
use Rattle.scmi_chart.specs.declared.diagram_value.TheConstants.{UNREAD}
use Rattle.scmi_chart.specs.declared.diagram_value.DiagramValue.{DiagramValue}
use Rattle.scmi_chart.specs.declared.diagram_value.DiagramValue.TheVariants.{Number, Outside, Words}

-- a byte of a text from outside: a sign for one that is not printable, or that Mermaid gives a
-- meaning
abbrev pub shown_byte : ℕ → ℕ
shown_byte byte =
    if byte == 35 || byte == 59 then UNREAD else if nat_le 32 byte && nat_le byte 126
    then byte else UNREAD

-- a text from outside
abbrev pub shown_text : List ℕ → List ℕ
shown_text bytes = map shown_byte bytes

-- a part of the words of a message, if it has it, after a space
abbrev pub part_text : List ℕ → List ℕ
part_text [] = []
part_text (byte ∷ bytes) = 32 ∷ shown_text (byte ∷ bytes)

-- the words of a message
unfoldable pub label_text : Label → List ℕ
label_text l =
    shown_text l.name.items ++ part_text l.object.items ++ part_text l.value.items
    ++ part_text l.tag.items

-- a value as it is written
abbrev pub value_text : DiagramValue → List ℕ
value_text (Number number) = decimal number
value_text (Outside text) = shown_text text.now
value_text (Words label) = label_text label.now
