-- Replies as words.
use Rattle.std.proofs.Common.{◌≡◌, ◌≢◌, ◌<◌, ◌≤◌, ℕ, ◌+◌, ◌%◌, ◌^◌, ◌==◌, ◌&&◌, Bool, true, false, if◌then◌else◌, List, [], ◌∷◌, ◌++◌, length, drop, None, option_map, sym, subst, ap, refl, ◌∙◌, arith, nat_le}
use Rattle.std.proofs.lemmas.Bool.{and_parts, le-leb, leb-true}
use Rattle.scmi_codec.specs.Area.{message_of}
use Rattle.scmi_codec.specs.ChannelArea.{channel_words, is_channel_size}
use Rattle.scmi_codec.specs.Header.{header_word}
use Rattle.scmi_codec.specs.declared.frame.Frame.{Frame}
use Rattle.scmi_codec.specs.declared.frame.Frame.TheVariants.{Good, Malformed}
use Rattle.scmi_codec.specs.declared.frame.Answer.{Answer}
use Rattle.scmi_codec.specs.declared.frame.Answer.TheVariants.{Reply, ChannelError}
use Rattle.scmi_codec.specs.declared.message.Message.{Message}
use Rattle.scmi_codec.proofs.HeaderLemmas.{header_word-header_of}
use Rattle.scmi_plan.specs.Board.{Board, channel_of}
use Rattle.scmi_plan.specs.Plan.{IsValid}
use Rattle.scmi_core.specs.Channels.{IsAnswerWithin}
use Rattle.scmi_core.specs.Deed.{success_of}
use Rattle.scmi_core.specs.Effect.{effect_after, effect_of}
use Rattle.scmi_core.specs.History.{answer_to, answer_with, deeds}
use Rattle.scmi_core.specs.Outbox.{situation_after}
use Rattle.scmi_core.specs.ReadCommand.{command_on}
use Rattle.scmi_core.specs.Reply.{failed_answer, fits_channel, reply_in, reply_words}
use Rattle.scmi_core.specs.Value.{change_of}
use Rattle.scmi_core.specs.declared.answered.Answered.{Answered}
use Rattle.scmi_core.specs.declared.answered.Answered.TheVariants as answered
use Rattle.scmi_core.specs.declared.event.Event.{Event}
use Rattle.scmi_core.specs.declared.event.Event.TheVariants.{Command as Called}
use Rattle.scmi_codec.specs.declared.fault.Fault.{Fault}
use Rattle.scmi_c.proofs.Answering.{reply-header}
use Rattle.scmi_c.proofs.Areas.{answer-within, one-word}
use Rattle.scmi_c.specs.Words.{IsWritten, count_of, words_after}

-- a reply with this header word was written
written-reply : (answer : Answer) (reply : Message) (header count : ℕ) (before after : List ℕ)
    → Reply reply ≡ answer
    → header ≡ header_word reply.header
    → count ≡ 1 + length reply.payload.items
    → after ≡ (header ∷ reply.payload.items) ++ drop (1 + length reply.payload.items) before
    → IsWritten answer count before after
written-reply answer reply header count before after is head counted written =
    subst (λ a. IsWritten a count before after) is (
      counted,
      written ∙ ap (λ (w : ℕ). (w ∷ reply.payload.items)
          ++ drop (1 + length reply.payload.items) before) head,
    )

-- there is room for the reply to a frame where there is room for the channel's words
pub reply-room : (board : Board) (a : ℕ) (h : List Event) (frame : Frame) (x : Answered)
    (reply : Message) (room : ℕ)
    → IsValid board → (channel_of board a).words < room
    → answer_with x reply ≡ answer_to board a frame h → (answer_to board a frame h ≢ ChannelError)
    → length reply.payload.items < room
reply-room board a h frame answered.Reply reply room law wide is replied =
    let short : IsAnswerWithin board a (Reply reply) =
    subst (IsAnswerWithin board a) (sym is) (answer-within board a frame h law) in
    omega (arith, short, wide)
reply-room board a h frame answered.ChannelError reply room law wide is replied =
    absurd (replied (sym is))

-- a frame that is answered by a reply, which was written
pub written-answer : (board : Board) (a : ℕ) (h : List Event) (frame : Frame) (x : Answered)
    (reply : Message) (header count : ℕ) (before after : List ℕ)
    → answer_with x reply ≡ answer_to board a frame h → (answer_to board a frame h ≢ ChannelError)
    → (Reply reply ≡ answer_to board a frame h → header ≡ header_word reply.header)
    → count ≡ 1 + length reply.payload.items
    → after ≡ (header ∷ reply.payload.items) ++ drop (1 + length reply.payload.items) before
    → IsWritten (answer_to board a frame h) count before after
written-answer board a h frame answered.Reply reply header count before after is replied head
    counted written =
    written-reply (answer_to board a frame h) reply header count before after is
    (head is) counted written
written-answer board a h frame answered.ChannelError reply header count before after is replied head
    counted written = absurd (replied (sym is))

-- a message that fits its channel is answered by a reply
pub fitting-replied : (board : Board) (a : ℕ) (h : List Event) (m : Message) → length
    m.payload.items ≤ (channel_of board a).words → answer_to board a (Good m) h ≢ ChannelError
fitting-replied board a h m few = by (fits_channel board a m)
    (le-leb (length m.payload.items) (channel_of board a).words few) where
      by : (b : Bool)
          → b ≡ true
          → (if b then Reply (reply_in board a m (situation_after board a (deeds board h)))
          else ChannelError) ≢ ChannelError
      by true is = λ e. absurd (cc)
      by false is = absurd (cc)

-- and so is one that is to change the hardware
pub asked-replied : (board : Board) (a : ℕ) (h : List Event) (frame : Frame)
    → effect_after board h (Called a frame) ≢ None → answer_to board a frame h ≢ ChannelError
asked-replied board a h (Good m) some = by (fits_channel board a m) some where
  by : (b : Bool)
      → option_map effect_of
      (change_of board (success_of a m.header (command_on board m) (if b then reply_words board
      a (situation_after board a (deeds board h)) (command_on board m) else [])) None) ≢ None
      → (if b then Reply (reply_in board a m (situation_after board a (deeds board h)))
      else ChannelError) ≢ ChannelError
  by true some = λ e. absurd (cc)
  by false some = absurd (some refl)
asked-replied board a h (Malformed len header) some = absurd (some refl)

-- the header word of a reply to words is theirs
pub words-header : (board : Board) (a : ℕ) (h : List Event) (header : ℕ) (payload : List ℕ)
    (reply : Message) → header < 2 ^ 32
    → Reply reply ≡ answer_to board a (Good (message_of header payload)) h
    → header ≡ header_word reply.header
words-header board a h header payload reply small is =
    sym (header_word-header_of header small)
    ∙ ap header_word (sym (reply-header board a (message_of header payload) reply
    (situation_after board a (deeds board h)) is))

-- there is room for a status where there is room for a channel's words
pub some-room : (bytes room : ℕ) → is_channel_size bytes ≡ true
    → 1 + channel_words bytes ≤ room → 2 ≤ room
some-room bytes room size wide =
    let long : 60 ≤ bytes = leb-true 60 bytes
    (and_parts (nat_le 60 bytes) (nat_le bytes 284 && (bytes % 4 == 0)) size).0 in
    omega (arith, long, wide)

-- there is room for a reply of a status alone
pub failed-room : (frame : Frame) (fault : Fault) (reply : Message) (room : ℕ)
    → Reply reply ≡ failed_answer frame fault → 2 ≤ room → length reply.payload.items < room
failed-room frame fault reply room is wide =
    let one = one-word frame fault reply is in
    omega (arith, one, wide)

-- a reply of a status alone was written
pub failed-written : (frame : Frame) (fault : Fault) (reply : Message) (count : ℕ)
    (before after : List ℕ) → Reply reply ≡ failed_answer frame fault
    → count ≡ count_of reply → after ≡ words_after reply before
    → IsWritten (failed_answer frame fault) count before after
failed-written frame fault reply count before after is counted written =
    written-reply (failed_answer frame fault) reply
    (header_word reply.header) count before after is refl counted written
