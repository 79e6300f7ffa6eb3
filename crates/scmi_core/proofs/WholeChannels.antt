-- On a whole channel, of 64 words and both ways, replies and answers are those of a platform that
-- knows no other.
use Rattle.std.proofs.Common.{◌≡◌, ℕ, ◌≤◌, nat_le, Bool, true, List, [], length, refl, ap, ◌∙◌, if◌then◌else◌}
use Rattle.std.proofs.lemmas.Bool.{le-leb}
use Rattle.scmi_codec.specs.declared.frame.Answer.TheVariants.{Reply, ChannelError}
use Rattle.scmi_codec.specs.declared.message.Message.{Message}
use Rattle.scmi_plan.specs.Board.{Board, channel_of, whole_channel}
use Rattle.scmi_plan.specs.declared.domain.Domain.{Domain}
use Rattle.scmi_core.specs.ReadCommand.{command_on}
use Rattle.scmi_core.specs.Reply.{fits_channel, reply_in, reply_words}
use Rattle.scmi_core.specs.Situation.{Situation}
use Rattle.scmi_core.specs.WholeChannels.{AnnouncesSets, AnswersEach, ChecksRateSet, ChecksRequest, ChecksStateSet, DescribesRates, ShowsAttributes}

pub describes : (list : List ℕ) (index : ℕ) → DescribesRates list index
describes list index = refl

pub announces : (board : Board) → AnnouncesSets board
announces board = refl

pub rate_set : (board : Board) (may busy room : Bool) (flags c rate : ℕ)
    → ChecksRateSet board may busy room flags c rate
rate_set board may busy room flags c rate = refl

pub state_set : (board : Board) (may busy room : Bool) (flags d state : ℕ)
    → ChecksStateSet board may busy room flags d state
state_set board may busy room flags d state = refl

pub request : (board : Board) (may : Bool) (d enable : ℕ) → ChecksRequest board may d enable
request board may d enable = refl

pub domain_attributes : (row : Domain) → ShowsAttributes row
domain_attributes row = refl

fits : (board : Board) (a : ℕ) (m : Message) → channel_of board a ≡ whole_channel
    → length m.payload.items ≤ 64 → fits_channel board a m ≡ true
fits board a m whole few = ap (λ channel. nat_le (length m.payload.items) channel.words) whole
    ∙ le-leb (length m.payload.items) 64 few

pub answers : (board : Board) (a : ℕ) (m : Message) (s : Situation) → AnswersEach board a m s
answers board a m s = λ whole few.
    let fit = fits board a m whole few in (
      ap (λ b. if b then reply_words board a s (command_on board m) else []) fit,
      ap (λ b. if b then Reply (reply_in board a m s) else ChannelError) fit,
    )
