-- The fields of commands.
use Rattle.std.specs.Prelude.{ℕ, List, [], Option, Some, None}
use Rattle.scmi_codec.specs.Command.{command_header, command_words}
use Rattle.scmi_codec.specs.Listing.{Said, listed_row}
use Rattle.scmi_codec.specs.declared.command.Command.{Command}
use Rattle.scmi_decode.specs.FieldParts.{fields_by}
use Rattle.scmi_decode.specs.declared.field.Field.{Field}

-- the fields of a command's payload words by the row of its message
abbrev pub asked_fields : Option Said → List ℕ → List Field
asked_fields None words = []
asked_fields (Some row) words = fields_by row.asks words

-- the fields of a command
abbrev pub command_fields : Command → List Field
command_fields c = asked_fields (listed_row (command_header c 0).protocol (command_header c 0).id)
    (command_words c)
