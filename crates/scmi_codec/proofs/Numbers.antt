-- The numbers of the standard and of the profile that code and definitions share, each as it is
-- written there.
use Rattle.std.proofs.Common.{◌≡◌, ℕ, List, [], ◌∷◌, codes, map, refl}
use Rattle.scmi_codec.specs.Status.{status_word, status_name}
use Rattle.scmi_codec.specs.declared.area.TheConstants.{AREA_BYTES}
use Rattle.scmi_codec.specs.declared.base_command.TheConstants.{BASE_PROTOCOL}
use Rattle.scmi_codec.specs.declared.channel_area.TheConstants.{LEAST_AREA_BYTES, LEAST_PAYLOAD_WORDS}
use Rattle.scmi_codec.specs.declared.clock_command.TheConstants.{CLOCK_PROTOCOL}
use Rattle.scmi_codec.specs.declared.header.TheConstants.{DELAYED_RESPONSE, NOTIFICATION, TOKENS}
use Rattle.scmi_codec.specs.declared.name.TheConstants.{NAME_BYTES}
use Rattle.scmi_codec.specs.declared.payload.TheConstants.{PAYLOAD_WORDS, SUCCESS}
use Rattle.scmi_codec.specs.declared.power_command.TheConstants.{POWER_PROTOCOL}
use Rattle.scmi_codec.specs.declared.status.Status.TheVariants.{Success, NotSupported, InvalidParameters, Denied, NotFound, OutOfRange, Busy, CommsError, GenericError, HardwareError, ProtocolError}

base_protocol : BASE_PROTOCOL ≡ 0x10
base_protocol = refl

power_protocol : POWER_PROTOCOL ≡ 0x11
power_protocol = refl

clock_protocol : CLOCK_PROTOCOL ≡ 0x14
clock_protocol = refl

tokens : TOKENS ≡ 1024
tokens = refl

delayed_response : DELAYED_RESPONSE ≡ 2
delayed_response = refl

notification : NOTIFICATION ≡ 3
notification = refl

payload_words : PAYLOAD_WORDS ≡ 64
payload_words = refl

area_bytes : AREA_BYTES ≡ 284
area_bytes = refl

least_payload_words : LEAST_PAYLOAD_WORDS ≡ 8
least_payload_words = refl

least_area_bytes : LEAST_AREA_BYTES ≡ 60
least_area_bytes = refl

name_bytes : NAME_BYTES ≡ 15
name_bytes = refl

success : SUCCESS ≡ 0
success = refl

status_words
    : map status_word (Success ∷ NotSupported ∷ InvalidParameters ∷ Denied ∷ NotFound ∷ OutOfRange
    ∷ Busy ∷ CommsError ∷ GenericError ∷ HardwareError ∷ ProtocolError ∷ [])
    ≡ 0 ∷ 0xffffffff ∷ 0xfffffffe ∷ 0xfffffffd ∷ 0xfffffffc ∷ 0xfffffffb ∷ 0xfffffffa ∷ 0xfffffff9
    ∷ 0xfffffff8 ∷ 0xfffffff7 ∷ 0xfffffff6 ∷ []
status_words = refl

status_names
    : map status_name (Success ∷ NotSupported ∷ InvalidParameters ∷ Denied ∷ NotFound ∷ OutOfRange
    ∷ Busy ∷ CommsError ∷ GenericError ∷ HardwareError ∷ ProtocolError ∷ [])
    ≡ codes "SUCCESS" ∷ codes "NOT_SUPPORTED" ∷ codes "INVALID_PARAMETERS"
    ∷ codes "DENIED" ∷ codes "NOT_FOUND" ∷ codes "OUT_OF_RANGE" ∷ codes "BUSY" ∷ codes "COMMS_ERROR"
    ∷ codes "GENERIC_ERROR" ∷ codes "HARDWARE_ERROR" ∷ codes "PROTOCOL_ERROR" ∷ []
status_names = refl
