-- What the envelopes that went through a ring hold.
use Rattle.std.specs.Prelude.{List, [], ◌∷◌, Box}
use Rattle.std.specs.declared.alloc.Global.{Global}
use Rattle.scmi_codec.specs.declared.frame.Frame.{Frame}
use Rattle.scmi_link.specs.declared.envelope.Envelope.{Envelope}

-- the frames in them
abbrev pub frames_in : List (Box Envelope Global) → List Frame
frames_in [] = []
frames_in (envelope ∷ envelopes) = envelope.value.frame ∷ frames_in envelopes
