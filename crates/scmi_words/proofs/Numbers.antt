-- The places and the marks in the shared words that code and definitions share, each as the profile
-- has it.
use Rattle.std.proofs.Common.{◌≡◌, ◌+◌, ◌^◌, refl}
use Rattle.scmi_words.specs.declared.layout.TheConstants.{STATUS, FLAGS, LENGTH, HEADER, PAYLOAD, TABLE_WORDS, STATUS_AT, FLAGS_AT}
use Rattle.scmi_words.specs.declared.status_word.TheConstants.{POSTED, FREE, CHANNEL_ERROR, TAKEN, RELEASED, CLOSED}

status : STATUS ≡ 0
status = refl

flags : FLAGS ≡ 1
flags = refl

length_place : LENGTH ≡ 2
length_place = refl

header : HEADER ≡ 3
header = refl

payload : PAYLOAD ≡ 4
payload = refl

table_words : TABLE_WORDS ≡ 68
table_words = refl

status_at : STATUS_AT ≡ 0x04
status_at = refl

flags_at : FLAGS_AT ≡ 0x10
flags_at = refl

posted : POSTED ≡ 0
posted = refl

free : FREE ≡ 1
free = refl

channel_error : CHANNEL_ERROR ≡ 3
channel_error = refl

taken : TAKEN ≡ 2 ^ 32
taken = refl

released : RELEASED ≡ 1 + 2 ^ 32
released = refl

closed : CLOSED ≡ 2 ^ 33
closed = refl
