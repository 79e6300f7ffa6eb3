-- The header of a reply, which is that of its message.
use Rattle.std.proofs.Common.{rules, ◌≡◌, ℕ, Bool, true, false, if◌then◌else◌, Option, Some, IsSomeAnd, sym, subst}
use Rattle.scmi_codec.specs.declared.message.Message.{Message}
use Rattle.scmi_codec.specs.declared.frame.Frame.TheVariants.{Good}
use Rattle.scmi_codec.specs.declared.frame.Answer.TheVariants.{Reply, ChannelError}
use Rattle.scmi_plan.specs.Board.{Board}
use Rattle.scmi_core.specs.Reply.{answer_in, fits_channel, reply_in}
use Rattle.scmi_core.specs.Situation.{Situation}

-- what holds of the value that there is
pub some-and : {A : Type 0} (o : Option A) (x : A) (P : A → Type 0) → o ≡ Some x → P x
    → IsSomeAnd o P
some-and o x P is p = subst (λ (o : Option _). IsSomeAnd o P) (sym is) p

-- a reply has the header of its message
pub reply-header : (board : Board) (a : ℕ) (m reply : Message) (s : Situation)
    → Reply reply ≡ answer_in board a (Good m) s → reply.header ≡ m.header
reply-header board a m reply s = by (fits_channel board a m) where
  by : (b : Bool) → Reply reply ≡ (if b then Reply (reply_in board a m s) else ChannelError)
      → reply.header ≡ m.header
  by true p = search rules
  by false p = search rules
