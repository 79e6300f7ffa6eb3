-- An answer depends on values, permissions, pending sets and room.
use Rattle.std.proofs.Common.{◌≡◌, ℕ, ◌==◌, List, refl, ap, if◌then◌else◌}
use Rattle.std.specs.Prelude.{Result, Ok, Err}
use Rattle.scmi_codec.specs.declared.status.Status.{Status}
use Rattle.scmi_codec.specs.declared.command.Command as codec
use Rattle.scmi_codec.specs.declared.frame.Answer.TheVariants.{Reply, ChannelError}
use Rattle.scmi_codec.specs.declared.frame.Frame.{Frame}
use Rattle.scmi_codec.specs.declared.frame.Frame.TheVariants.{Good, Malformed}
use Rattle.scmi_plan.specs.Board.{Board, channel_of}
use Rattle.scmi_plan.specs.declared.resource.Resource.TheVariants as resource
use Rattle.scmi_base.specs.Permission.{may}
use Rattle.scmi_core.specs.declared.event.Event.{Event}
use Rattle.scmi_core.specs.Commands.{reply_by}
use Rattle.scmi_core.specs.History.{answer_to}
use Rattle.scmi_core.specs.Outbox.{message_with}
use Rattle.scmi_core.specs.ReadCommand.{command_on}
use Rattle.scmi_core.specs.Reply.{answer_in, fits_channel, reply_words}
use Rattle.scmi_core.specs.Situation.{Situation, clock_view, power_view, views}
use Rattle.scmi_core.specs.Value.{Enabled, Rate, State}
use Rattle.scmi_laws.specs.Others.{AreSeenAlike, SeesTheSame, situation_of}

module _ (board : Board) (b : ℕ) (s u : Situation) (alike : AreSeenAlike board b s u) where
  power-same : power_view board b s ≡ power_view board b u
  power-same = λ i.
      record {
        state = λ d. alike.value (State d) i;
        may = λ d. may board (λ device scope. alike.allowed device scope i) (resource.Domain d);
        busy = λ d. alike.busy (resource.Domain d) i;
        room = alike.room i;
        channel = channel_of board b;
      }

  clock-same : clock_view board b s ≡ clock_view board b u
  clock-same = λ i.
      record {
        rate = λ c. alike.value (Rate c) i;
        enabled = λ c. alike.value (Enabled c) i == 1;
        may = λ c. may board (λ device scope. alike.allowed device scope i) (resource.Clock c);
        busy = λ c. alike.busy (resource.Clock c) i;
        room = alike.room i;
        channel = channel_of board b;
      }

  views-same : views board b s ≡ views board b u
  views-same = λ i. record { power = power-same i; clock = clock-same i }

  reply-same : (r : Result codec.Command Status) → reply_words board b s r ≡ reply_words board b u r
  unfolding reply_words
  reply-same (Err e) = refl
  reply-same (Ok c) = ap (λ view. reply_by board b view c) views-same

  answer-same : (frame : Frame) → answer_in board b frame s ≡ answer_in board b frame u
  answer-same (Good m) =
      ap (λ words. if fits_channel board b m then Reply (message_with m.header words)
      else ChannelError) (reply-same (command_on board m))
  answer-same (Malformed len header) = refl

pub answers : (board : Board) (h k : List Event) (b : ℕ) (frame : Frame) → SeesTheSame board b h k
    → answer_to board b frame h ≡ answer_to board b frame k
answers board h k b frame alike =
    answer-same board b (situation_of board b h) (situation_of board b k) alike frame
