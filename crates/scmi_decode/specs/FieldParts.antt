-- The fields of parts, by which the table of messages says what each message has.
use Rattle.std.specs.Prelude.{ℕ, Bool, true, false, List, [], ◌∷◌, drop, slice_index, Option, Some, None}
use Rattle.scmi_codec.specs.Listing.{size_of}
use Rattle.scmi_codec.specs.Rate.{rate_of}
use Rattle.scmi_codec.specs.declared.messages.Part.{Part}
use Rattle.scmi_codec.specs.declared.messages.Part.TheVariants as part
use Rattle.scmi_decode.specs.declared.field.Field.{Field}
use Rattle.scmi_decode.specs.declared.field.Field.TheVariants as field

-- whether a part is a list, which has no field
abbrev pub is_list : Part → Bool
is_list part.Protocols = true
is_list part.Rates = true
is_list _ = false

-- the four words of a name
abbrev pub name_field : List ℕ → Field
name_field w =
    field.Name (slice_index w 0 ∷ slice_index w 1 ∷ slice_index w 2 ∷ slice_index w 3 ∷ [])

-- the three words of statistics memory
abbrev pub statistics_field : List ℕ → Field
statistics_field w = field.Statistics (slice_index w 0 ∷ slice_index w 1 ∷ slice_index w 2 ∷ [])

-- the field of a part, whose words are the first ones
abbrev pub field_of : Part → List ℕ → Option Field
field_of part.Version w = Some (field.Version (slice_index w 0))
field_of part.Counts w = Some (field.Counts (slice_index w 0))
field_of part.Message w = Some (field.Message (slice_index w 0))
field_of part.Attributes w = Some (field.Attributes (slice_index w 0))
field_of part.Name w = Some (name_field w)
field_of part.Implementation w = Some (field.Implementation (slice_index w 0))
field_of part.Skip w = Some (field.Skip (slice_index w 0))
field_of part.Agent w = Some (field.Agent (slice_index w 0))
field_of part.Subject w = Some (field.Subject (slice_index w 0))
field_of part.Device w = Some (field.Device (slice_index w 0))
field_of part.Protocol w = Some (field.Protocol (slice_index w 0))
field_of part.PermitFlags w = Some (field.PermitFlags (slice_index w 0))
field_of part.ResetFlags w = Some (field.ResetFlags (slice_index w 0))
field_of part.Domains w = Some (field.Domains (slice_index w 0))
field_of part.Statistics w = Some (statistics_field w)
field_of part.Domain w = Some (field.Domain (slice_index w 0))
field_of part.DomainAttributes w = Some (field.DomainAttributes (slice_index w 0))
field_of part.PowerFlags w = Some (field.PowerFlags (slice_index w 0))
field_of part.State w = Some (field.State (slice_index w 0))
field_of part.Enable w = Some (field.Enable (slice_index w 0))
field_of part.Clocks w = Some (field.Clocks (slice_index w 0))
field_of part.Clock w = Some (field.Clock (slice_index w 0))
field_of part.ClockAttributes w = Some (field.ClockAttributes (slice_index w 0))
field_of part.Index w = Some (field.Index (slice_index w 0))
field_of part.RateFlags w = Some (field.RateFlags (slice_index w 0))
field_of part.Rate w = Some (field.Rate (rate_of (slice_index w 0) (slice_index w 1)))
field_of part.Protocols w = None
field_of part.Rates w = None

-- a field, if there is one, before others
abbrev pub before : Option Field → List Field → List Field
before None fields = fields
before (Some f) fields = f ∷ fields

-- the fields of parts in their order, each from the words after those of the parts before it
abbrev pub fields_by : List Part → List ℕ → List Field
fields_by [] w = []
fields_by (p ∷ ps) w = before (field_of p w) (fields_by ps (drop (size_of p) w))
