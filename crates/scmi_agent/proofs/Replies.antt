-- What makes a message the reply to a command.
use Rattle.std.proofs.Common.{◌≡◌, ℕ, ◌%◌, List, Bool, false, not, Ok, sym, ap, ◌∙◌}
use Rattle.std.proofs.lemmas.Bool.{not-false}
use Rattle.scmi_codec.specs.Area.{status_at, frame_of}
use Rattle.scmi_codec.specs.Header.{HeaderFields, is_same_header}
use Rattle.scmi_codec.specs.declared.frame.Frame.TheVariants.{Good}
use Rattle.scmi_codec.specs.declared.message.Message.{Message}
use Rattle.scmi_codec.proofs.HeaderLemmas.{header_decides}
use Rattle.scmi_agent.specs.Agent.{IsReplyOf}
use Rattle.scmi_agent.specs.Reply.{reply_of}
use Rattle.scmi_agent.specs.declared.reply.Reply.{Reply}

pub is_reply : (h : HeaderFields) (area : List ℕ) (m : Message) (words : List ℕ) (reply : Reply)
    → status_at area % 4 ≡ 1 → frame_of area ≡ Good m → m.header ≡ h → words ≡ m.payload.items
    → Ok reply ≡ reply_of h words
    → IsReplyOf h area reply
is_reply h area m words reply free frame same listed says = record {
  words = m.payload.items;
  free = free;
  message = frame
      ∙ ap (λ (x : HeaderFields). Good (record { header = x; payload = m.payload })) same;
  says = sym (says ∙ ap (λ (w : List ℕ). reply_of h w) listed);
}

-- two headers of which `!=` does not hold are the same
pub same_unless : (a b : HeaderFields) (differ : Bool) → differ ≡ not (is_same_header a b)
    → differ ≡ false → a ≡ b
same_unless a b differ is never =
    (header_decides a b).0 (not-false (is_same_header a b) (sym is ∙ never))
