-- Answers and messages in an area that is whole or of the size of its agent's channel.
use Rattle.std.proofs.Common.{rules, ◌≡◌, inl, inr, ℕ, ◌-◌, ◌/◌, ◌%◌, ◌==◌, ◌<◌, ◌≤◌, ◌&&◌, Bool, true, false, if◌then◌else◌, List, [], ◌∷◌, length, slice_get, nat_le, Option, Some, None, Result, Ok, Err, OnOk, is_none, sym, subst, ap, refl, ◌∙◌, arith}
use Rattle.std.specs.Prelude.{⊤, ◌⊎◌, ◌≢◌}
use Rattle.std.specs.List.{All}
use Rattle.std.proofs.lemmas.Bool.{and_from, eq-eqb, le-leb, leb-false, leb-true}
use Rattle.std.proofs.lemmas.List.Elements.{All-head, All-drop}
use Rattle.scmi_codec.specs.Area.{area_after_answer, frame_waiting, header_at, length_at, message_of, status_at, is_well_formed_within, waiting_within}
use Rattle.scmi_codec.specs.declared.channel_area.ChannelAreaError.{ChannelAreaError}
use Rattle.scmi_codec.specs.declared.channel_area.ChannelAreaError.TheVariants.{TooLong, WrongSize}
use Rattle.scmi_codec.specs.ChannelArea.{capacity, channel_bytes, channel_waiting, channel_words, is_channel_size, room_for}
use Rattle.scmi_codec.specs.Header.{header_of}
use Rattle.scmi_codec.specs.Word.{words_at}
use Rattle.scmi_codec.specs.declared.message.Message.{Message}
use Rattle.scmi_codec.specs.declared.frame.Frame.{Frame}
use Rattle.scmi_codec.specs.declared.frame.Frame.TheVariants.{Good, Malformed}
use Rattle.scmi_codec.specs.declared.frame.Answer.TheVariants.{Reply, ChannelError}
use Rattle.scmi_plan.specs.Board.{Board, channel_of}
use Rattle.scmi_plan.specs.Plan.{IsValid}
use Rattle.scmi_core.specs.Channels.{IsAnswerWithin, IsWithin}
use Rattle.scmi_core.specs.History.{answer_to, answer_with, deeds, made_for, outbox}
use Rattle.scmi_core.specs.Legal.{IsLegal}
use Rattle.scmi_core.specs.Outbox.{message_with, failed_words, messages_made, sent_count, situation_after}
use Rattle.scmi_core.specs.ReadCommand.{command_on}
use Rattle.scmi_core.specs.Reply.{answer_in, failed_answer, fits_channel, reply_words}
use Rattle.scmi_core.specs.Situation.{Situation}
use Rattle.scmi_core.specs.declared.answered.Answered.{Answered}
use Rattle.scmi_core.specs.declared.answered.Answered.TheVariants as answered
use Rattle.scmi_core.specs.declared.event.Event.{Event}
use Rattle.scmi_codec.specs.declared.fault.Fault.{Fault}
use Rattle.scmi_core.proofs.Channels.{channels}
use Rattle.scmi_core.proofs.Room.{reply-within, valid_channel}
use Rattle.scmi_c.specs.Channel.{IsAreaOf}
use Rattle.scmi_c.specs.Standing.{Held, board_of}
use Rattle.scmi_c.proofs.Answering.{reply-header}

-- AREAS OF A CHANNEL

-- this many words are a channel's area, and there is room for them
pub sized : (words bytes : ℕ) → 8 ≤ words → words ≤ 64 → bytes ≡ channel_bytes words
    → (is_channel_size bytes ≡ true) × (channel_words bytes ≡ words)
sized words bytes least most is = (
  and_from (nat_le 60 bytes) (nat_le bytes 284 && (bytes % 4 == 0))
      (le-leb 60 bytes (omega (arith, least, is)))
      (and_from (nat_le bytes 284) (bytes % 4 == 0) (le-leb bytes 284 (omega (arith, most, is)))
      (eq-eqb (bytes % 4) 0 (omega (arith, is)))),
  omega (arith, is),
)

pub size_of_words : (bytes words : ℕ) → bytes ≡ channel_bytes words → 8 ≤ words → words ≤ 64
    → is_channel_size bytes ≡ true
size_of_words bytes words is least most = (sized words bytes least most is).0

pub words_of_size : (bytes words : ℕ) → bytes ≡ channel_bytes words → 8 ≤ words → words ≤ 64
    → channel_words bytes ≡ words
words_of_size bytes words is least most = (sized words bytes least most is).1

-- this many words are written there
pub room-is : (words : ℕ) (area : List ℕ) → is_channel_size (length area) ≡ true
    → words ≤ capacity area → room_for words area ≡ Ok tt
room-is words area size few =
    ap (λ (b : Bool). if b then (if nat_le words (capacity area) then Ok tt else Err TooLong)
    else Err WrongSize) size
    ∙ ap (λ (b : Bool). if b then Ok tt else Err TooLong) (le-leb words (capacity area) few)

-- a message that has room is not refused
pub not-refused : (r : Result ⊤ ChannelAreaError) (e : ChannelAreaError) (words : ℕ) (area : List ℕ)
    → is_channel_size (length area) ≡ true → words ≤ capacity area
    → r ≡ room_for words area → r ≡ Err e → ⊥
not-refused r e words area size few is err =
    let fits : ◌≡◌ {A = Result ⊤ ChannelAreaError} (Ok tt) (Err e) =
    sym (room-is words area size few) ∙ sym is ∙ err in
    absurd (cc)

-- what was written had room there
pub room-has : (words : ℕ) (area : List ℕ) → room_for words area ≡ Ok tt → words ≤ capacity area
room-has words area = by (is_channel_size (length area)) (nat_le words (capacity area)) refl where
  by : (size fits : Bool) → nat_le words (capacity area) ≡ fits
      → ◌≡◌ {A = Result ⊤ ChannelAreaError} (if size then (if fits then Ok tt else Err TooLong)
      else Err WrongSize) (Ok tt) → words ≤ capacity area
  by true true fit is = leb-true words (capacity area) fit
  by true false fit is = absurd (cc)
  by false fits fit is = absurd (cc)

-- what an area of a channel refused had no room there
pub room-lacks : (words : ℕ) (area : List ℕ) (e : ChannelAreaError)
    → is_channel_size (length area) ≡ true → room_for words area ≡ Err e → capacity area < words
room-lacks words area e size is = by (nat_le words (capacity area)) refl where
  by : (fits : Bool) → nat_le words (capacity area) ≡ fits → capacity area < words
  by true fit = absurd
      (not-refused (Err e) e words area size (leb-true words (capacity area) fit) (sym is) refl)
  by false fit = leb-false words (capacity area) fit

-- an area that holds a frame is of a channel's size
pub size-of-busy : (area : List ℕ) (r : Result Bool ChannelAreaError)
    → (is_channel_size (length area) ≡ false → r ≡ Err WrongSize) → r ≡ Ok false
    → is_channel_size (length area) ≡ true
size-of-busy area r wrong is = by (is_channel_size (length area)) wrong where
  by : (size : Bool) → (size ≡ false → r ≡ Err WrongSize) → size ≡ true
  by true wrong = refl
  by false wrong = let err = wrong refl in absurd (cc)

-- words that have room there are not refused
pub reply-fits : (area : List ℕ) (words : ℕ) → is_channel_size (length area) ≡ true
    → words ≤ capacity area
    → ((is_channel_size (length area) ≡ false)
    ⊎ ((channel_waiting area ≢ None) × (capacity area < words))) → ⊥
reply-fits area words size few (inl wrong) = absurd (cc)
reply-fits area words size few (inr both) = let more = both.1 in omega (arith, few, more)

pub was-written : (r : Result ⊤ ChannelAreaError) (P : Type 0) → r ≡ Ok tt → OnOk r P → P
was-written r P is p = subst (λ (r : Result ⊤ ChannelAreaError). OnOk r P) is p

-- a channel that a reader finds free holds nothing
pub free-is : (o : Option Frame) (r : Result Bool ChannelAreaError) (b : Bool) → r ≡ Ok (is_none o)
    → r ≡ Ok b → b ≡ true → o ≡ None
free-is None r b said is free = refl
free-is (Some frame) r b said is free =
    let no : ◌≡◌ {A = Result Bool ChannelAreaError} (Ok false) (Ok true) = sym said ∙ is
    ∙ ap (λ (b : Bool). Ok b) free in
    absurd (cc)

-- an area of an agent has room for what the agent's channel has
pub has-room : (p : Held) (agent bytes : ℕ) → IsValid (board_of p) → IsAreaOf agent bytes p
    → (channel_of (board_of p) agent).words ≤ channel_words bytes
has-room p agent bytes law (inl whole) =
    let most = (valid_channel (board_of p) agent law).1 in
    omega (arith, most, whole)
has-room p agent bytes law (inr size) =
    let same = size.1 in
    omega (arith, same)

-- a frame that waits in a whole area
pub whole_waits : (area : List ℕ) → length area ≡ 284 → channel_waiting area ≡ frame_waiting area
whole_waits area is = ap (λ (n : ℕ). waiting_within (channel_words n) area) is

-- ANSWERS

-- a message that waits in an area has the area's header
waiting-header : (words : ℕ) (area : List ℕ) (m : Message)
    → waiting_within words area ≡ Some (Good m) → m.header ≡ header_of (header_at area)
waiting-header words area m =
    by (status_at area % 2 == 1) (is_well_formed_within words (length_at area)) where
      by : (free good : Bool)
          → (if free then None else Some (if good
          then Good (record {
            header = header_of (header_at area);
            payload = record { items = words_at 0x1C ((length_at area - 4) / 4) area };
          })
          else Malformed (length_at area) (header_at area))) ≡ Some (Good m)
          → m.header ≡ header_of (header_at area)
      by true good p = search rules
      by false true p = search rules
      by false false p = search rules

pub answer-within : (board : Board) (a : ℕ) (frame : Frame) (h : List Event) → IsValid board
    → IsAnswerWithin board a (answer_to board a frame h)
answer-within board a (Good m) h law = by (fits_channel board a m) where
  by : (short : Bool) → IsAnswerWithin board a (if short then Reply (message_with m.header
      (reply_words board a (situation_after board a (deeds board h)) (command_on board m)))
      else ChannelError)
  by true = reply-within board a (situation_after board a (deeds board h)) (command_on board m) law
  by false = tt
answer-within board a (Malformed len header) h law = tt

answer-header : (board : Board) (a words : ℕ) (area : List ℕ) (frame : Frame) (reply : Message)
    (s : Situation)
    → waiting_within words area ≡ Some frame → Reply reply ≡ answer_in board a frame s
    → reply.header ≡ header_of (header_at area)
answer-header board a words area (Good m) reply s waits is = reply-header board a m reply s is
    ∙ waiting-header words area m waits
answer-header board a words area (Malformed len header) reply s waits is = search rules

-- a message of the area's header is the message
of-header : (area : List ℕ) (reply : Message) → reply.header ≡ header_of (header_at area)
    → area_after_answer (Reply (message_of (header_at area) reply.payload.items)) area
    ≡ area_after_answer (Reply reply) area
of-header area reply head = ap (λ header. area_after_answer (Reply
    (record { header = header; payload = record { items = reply.payload.items } })) area) (sym head)

-- what a frame was answered with, written over it
pub answered-in : (board : Board) (a : ℕ) (h : List Event) (area new : List ℕ) (frame : Frame)
    (x : Answered) (reply : Message)
    → IsValid board → (channel_of board a).words ≤ capacity area → channel_waiting area ≡ Some frame
    → answer_with x reply ≡ answer_to board a frame h
    → (x ≡ answered.Reply → length reply.payload.items ≤ capacity area
    → new ≡ area_after_answer (Reply (message_of (header_at area) reply.payload.items)) area)
    → (x ≡ answered.ChannelError → new ≡ area_after_answer ChannelError area)
    → new ≡ area_after_answer (answer_to board a frame h) area
answered-in board a h area new frame answered.Reply reply law room waits is written error =
    let short : IsAnswerWithin board a (Reply reply) =
    subst (IsAnswerWithin board a) (sym is) (answer-within board a frame h law) in
    written refl (omega (arith, short, room))
    ∙ of-header area reply (answer-header board a (capacity area) area frame reply
    (situation_after board a (deeds board h)) waits is)
    ∙ ap (λ answer. area_after_answer answer area) is
answered-in board a h area new frame answered.ChannelError reply law room waits is written error =
    error refl ∙ ap (λ answer. area_after_answer answer area) is

-- the same of an answer that was written whole
pub committed-in : (board : Board) (a : ℕ) (h : List Event) (area new : List ℕ) (frame : Frame)
    (x : Answered) (reply : Message)
    → IsValid board → (channel_of board a).words ≤ capacity area
    → answer_with x reply ≡ answer_to board a frame h
    → (x ≡ answered.Reply → length reply.payload.items ≤ capacity area
    → new ≡ area_after_answer (Reply reply) area)
    → (x ≡ answered.ChannelError → new ≡ area_after_answer ChannelError area)
    → new ≡ area_after_answer (answer_to board a frame h) area
committed-in board a h area new frame answered.Reply reply law room is written error =
    let short : IsAnswerWithin board a (Reply reply) =
    subst (IsAnswerWithin board a) (sym is) (answer-within board a frame h law) in
    written refl (omega (arith, short, room)) ∙ ap (λ answer. area_after_answer answer area) is
committed-in board a h area new frame answered.ChannelError reply law room is written error =
    error refl ∙ ap (λ answer. area_after_answer answer area) is

-- a reply of a status alone has room in each area
pub one-word : (frame : Frame) (fault : Fault) (reply : Message)
    → Reply reply ≡ failed_answer frame fault → length reply.payload.items ≡ 1
one-word (Good m) fault reply is =
    let same : reply ≡ message_with m.header (failed_words fault) = search rules in
    ap (λ (r : Message). length r.payload.items) same
one-word (Malformed len header) fault reply is = absurd (cc)

-- MESSAGES

head-of : (P : Message → Type 0) (xs : List Message) (m : Message) → slice_get xs 0 ≡ Some m
    → All P xs → P m
head-of P [] m is all = absurd (cc)
head-of P (x ∷ xs) m is all = subst P (search rules) (All-head P x xs all)

-- the first message of an outbox has room in its agent's channel
pub first-within : (board : Board) (a : ℕ) (h : List Event) (m : Message) → IsValid board
    → IsLegal board h → slice_get (outbox board a h) 0 ≡ Some m → IsWithin board a m
unfolding outbox made_for
first-within board a h m law legal is =
    head-of (IsWithin board a) (outbox board a h) m is
    (All-drop (IsWithin board a) (sent_count a (deeds board h))
    (messages_made board a (deeds board h)) ((channels board h law legal).made a))
