-- The names of messages, protocols and statuses (DEN0056B).
use Rattle.std.specs.Prelude.{ℕ, ◌==◌, ◌&&◌, if◌then◌else◌, List, Option, Some, None}
use Rattle.std.specs.Option.{option_map}
use Rattle.scmi_codec.specs.Listing.{protocol_row}
use Rattle.scmi_codec.specs.declared.status.Status.{Status}
use Rattle.scmi_codec.specs.Status.{status_name}
use Rattle.scmi_decode.specs.declared.names.TheConstants.{POWER_STATE_CHANGED}

-- the name of a status
abbrev pub status_text : Status → List ℕ
status_text s = status_name s

-- the short name of a protocol
abbrev pub protocol_text : ℕ → Option (List ℕ)
protocol_text protocol = option_map (λ row. row.name) (protocol_row protocol)

-- the name of a notification, by protocol and message id
abbrev pub notification_text : ℕ → ℕ → Option (List ℕ)
notification_text protocol id = if (protocol == 0x11) && (id == 0)
    then Some POWER_STATE_CHANGED.now else None
