-- What goes through the ring from the callee to the caller.
use Rattle.std.specs.Prelude.{Bool, true, false, List, [], ◌∷◌}
use Rattle.scmi_codec.specs.declared.frame.Answer.{Answer}
use Rattle.scmi_link.specs.declared.note.Note.{Note}
use Rattle.scmi_link.specs.declared.note.Note.TheVariants.{Said, Closing}

-- the answers among the notes
abbrev pub answers_among : List Note → List Answer
answers_among [] = []
answers_among (Said envelope ∷ notes) = envelope.value.answer ∷ answers_among notes
answers_among (Closing ∷ notes) = answers_among notes

-- whether the closing note is among them
abbrev pub has_closing : List Note → Bool
has_closing [] = false
has_closing (Said envelope ∷ notes) = has_closing notes
has_closing (Closing ∷ notes) = true

-- whether there is no note
abbrev pub is_nil : List Note → Bool
is_nil [] = true
is_nil (note ∷ notes) = false

-- whether nothing comes after the closing note
abbrev pub ends_well : List Note → Bool
ends_well [] = true
ends_well (Said envelope ∷ notes) = ends_well notes
ends_well (Closing ∷ notes) = is_nil notes
