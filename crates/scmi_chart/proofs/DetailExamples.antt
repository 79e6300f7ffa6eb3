-- The header and words of messages, which the prover works out by the definitions.
use Rattle.std.proofs.Common.{◌≡◌, [], ◌∷◌, codes, refl}
use Rattle.std.specs.Fmt.{digits}
use Rattle.scmi_codec.specs.Area.{message_of}
use Rattle.scmi_io.specs.Filled.{filled}
use Rattle.scmi_chart.specs.Detail.{malformed_detail, message_detail}
use Rattle.scmi_chart.specs.Words.{hex_text}

-- POWER_STATE_SET of domain 0, flags 1, state 0x40000000
detail : message_detail (message_of 0x4404 (1 ∷ 0 ∷ 0x40000000 ∷ []))
    ≡ codes "header 0x4404, words 0x1 0x0 0x40000000"
unfolding filled hex_text digits
detail = refl

-- a frame of 5 bytes
malformed : malformed_detail 5 0x4404 ≡ codes "header 0x4404, length 5"
unfolding malformed_detail filled hex_text digits
malformed = refl
