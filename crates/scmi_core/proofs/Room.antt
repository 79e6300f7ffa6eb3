-- Each reply has room in its agent's channel.
use Rattle.std.proofs.Common.{ℕ, zero, suc, ◌-◌, ◌≤◌, List, [], ◌∷◌, length, get_or, Result, Ok, Err, arith}
use Rattle.std.specs.List.{All}
use Rattle.std.proofs.lemmas.List.Elements.{All-head, All-tail}
use Rattle.scmi_codec.specs.declared.status.Status.{Status}
use Rattle.scmi_codec.specs.declared.command.Command as codec
use Rattle.scmi_plan.specs.Board.{Board, IsChannel, channel_of, whole_channel}
use Rattle.scmi_plan.specs.Plan.{IsValid}
use Rattle.scmi_plan.specs.declared.agent_channel.AgentChannel.{AgentChannel}
use Rattle.scmi_core.specs.Reply.{reply_words}
use Rattle.scmi_core.specs.Situation.{Situation}
use Rattle.scmi_core.proofs.CommandLaws.{command_laws}

-- the channels of each agent of a valid board are valid
valid_at : (xs : List AgentChannel) (k : ℕ) → All IsChannel xs
    → IsChannel (get_or xs k whole_channel)
valid_at [] k all = (omega arith, omega arith, omega arith, omega arith)
valid_at (x ∷ xs) zero all = All-head IsChannel x xs all
valid_at (x ∷ xs) (suc k) all = valid_at xs k (All-tail IsChannel x xs all)

pub valid_channel : (board : Board) (a : ℕ) → IsValid board → IsChannel (channel_of board a)
valid_channel board a law = valid_at board.channels (a - 1) law.valid_channels

-- a reply has room in its agent's channel
pub reply-within : (board : Board) (a : ℕ) (s : Situation) (r : Result codec.Command Status)
    → IsValid board → length (reply_words board a s r) ≤ (channel_of board a).words
unfolding reply_words
reply-within board a s (Err e) law =
    let least = (valid_channel board a law).0 in
    omega (arith, least)
reply-within board a s (Ok c) law =
    (command_laws board a).within board s c (valid_channel board a law)
