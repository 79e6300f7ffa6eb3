-- What the definitions give on a whole channel, of 64 words and both ways: what they give if no
-- channel is shorter, and none one way.
use Rattle.std.specs.Prelude.{◌≡◌, ℕ, ◌-◌, ◌*◌, ◌+◌, ◌^◌, ◌≤◌, ◌&&◌, ◌||◌, Bool, not, List, [], ◌∷◌, length, take, drop, if◌then◌else◌, min, is_none}
use Rattle.std.specs.List.{flat_map}
use Rattle.scmi_codec.specs.Rate.{rate_words}
use Rattle.scmi_codec.specs.Reply.{bit_0, other_bits, reply_unless}
use Rattle.scmi_codec.specs.declared.frame.Answer.TheVariants.{Reply}
use Rattle.scmi_codec.specs.declared.frame.Frame.TheVariants.{Good}
use Rattle.scmi_codec.specs.declared.message.Message.{Message}
use Rattle.scmi_codec.specs.declared.status.Status.TheVariants.{NotFound, InvalidParameters, NotSupported, Denied, Busy}
use Rattle.scmi_plan.specs.Board.{Board, channel_of, domain_at, whole_channel}
use Rattle.scmi_plan.specs.declared.domain.Domain.{Domain}
use Rattle.scmi_plan.specs.Rates as rates
use Rattle.scmi_power.specs.PowerReply.{attributes, bit, is_state, no_domain, notify_reply, set_reply}
use Rattle.scmi_clock.specs.ClockReply.{attributes_reply, no_clock, rate_for, rates_word, rates_words, set_checks}
use Rattle.scmi_clock.specs.SetFlags.{has_unknown_flags, is_asynchronous}
use Rattle.scmi_core.specs.ReadCommand.{command_on}
use Rattle.scmi_core.specs.Reply.{answer_in, reply_in, reply_words, words_given}
use Rattle.scmi_core.specs.Situation.{Situation}

-- a description has at most 31 rates
abbrev pub DescribesRates : List ℕ → ℕ → Type 0
DescribesRates list index =
    rates_words whole_channel (rates.list list) index
    ≡ rates_word (length list - index - min 31 (length list - index)) (min 31 (length list - index))
    ∷ flat_map rate_words (take (min 31 (length list - index)) (drop index list))

-- 8 pending sets are announced
abbrev pub AnnouncesSets : Board → Type 0
AnnouncesSets board =
    attributes_reply board whole_channel ≡ 0 ∷ (8 * 2 ^ 16 + length board.clocks) ∷ []

-- the checks of a set of a rate are those of the command and the clock alone
abbrev pub ChecksRateSet : Board → (may busy room : Bool) → (flags c rate : ℕ) → Type 0
ChecksRateSet board may busy room flags c rate =
    reply_unless (set_checks board whole_channel may busy room flags c rate) (0 ∷ [])
    ≡ reply_unless (
    (no_clock board c, NotFound)
    ∷ (has_unknown_flags flags || is_none (rate_for board c flags rate), InvalidParameters)
    ∷ (not may, Denied)
    ∷ (busy || (is_asynchronous flags && not room), Busy)
    ∷ [])
    (0 ∷ [])

-- those of a set of a state are those of the command and the domain alone
abbrev pub ChecksStateSet : Board → (may busy room : Bool) → (flags d state : ℕ) → Type 0
ChecksStateSet board may busy room flags d state =
    set_reply board whole_channel may busy room flags d state
    ≡ reply_unless (
    (no_domain board d, NotFound)
    ∷ (other_bits flags || not (is_state state), InvalidParameters)
    ∷ (
      not (if bit_0 flags then (domain_at board d).asynchronous
          else (domain_at board d).synchronous),
      NotSupported,
    )
    ∷ (not may, Denied)
    ∷ (busy || (bit_0 flags && not room), Busy)
    ∷ [])
    (0 ∷ [])

-- and so those of a request for notifications
abbrev pub ChecksRequest : Board → Bool → (d enable : ℕ) → Type 0
ChecksRequest board may d enable =
    notify_reply board whole_channel may d enable
    ≡ reply_unless (
    (no_domain board d, NotFound)
    ∷ (other_bits enable, InvalidParameters)
    ∷ (not (domain_at board d).notify, NotSupported)
    ∷ (not may, Denied)
    ∷ [])
    (0 ∷ [])

-- a domain's attributes are its own
abbrev pub ShowsAttributes : Domain → Type 0
ShowsAttributes row = attributes whole_channel row
    ≡ bit row.notify 0x80000000 + bit row.asynchronous 0x40000000 + bit row.synchronous 0x20000000

-- each message, which has at most 64 words, has its reply, and is answered with it
abbrev pub AnswersEach : Board → ℕ → Message → Situation → Type 0
AnswersEach board a m s =
    channel_of board a ≡ whole_channel → length m.payload.items ≤ 64
    → (words_given board a s m ≡ reply_words board a s (command_on board m))
    × (answer_in board a (Good m) s ≡ Reply (reply_in board a m s))
