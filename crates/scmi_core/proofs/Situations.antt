-- Situations that say the same of a board's things: the same replies, and the same messages.
use Rattle.std.proofs.Common.{◌≡◌, ℕ, ◌+◌, ◌<◌, ◌≤◌, ◌==◌, ◌&&◌, nat_lt, Bool, true, false, not, List, [], ◌∷◌, ◌++◌, length, Option, Some, None, IfSome, Result, Ok, Err, refl, ap, ◌∙◌, if◌then◌else◌}
use Rattle.std.specs.Option.{option_map_or}
use Rattle.std.proofs.lemmas.List.{append-nil}
use Rattle.scmi_codec.specs.declared.status.Status.{Status}
use Rattle.scmi_codec.specs.declared.frame.Answer.TheVariants.{Reply, ChannelError}
use Rattle.scmi_codec.specs.declared.message.Message.{Message}
use Rattle.scmi_codec.specs.declared.frame.Frame.{Frame}
use Rattle.scmi_codec.specs.declared.frame.Frame.TheVariants.{Good, Malformed}
use Rattle.scmi_codec.specs.declared.command.Command as codec
use Rattle.scmi_plan.specs.Board.{Board, channel_of}
use Rattle.scmi_plan.specs.declared.resource.Resource.TheVariants as resource
use Rattle.scmi_plan.specs.declared.scope.Scope.{Scope}
use Rattle.scmi_base.proofs.MaySame.{may-same}
use Rattle.scmi_core.specs.declared.pending_set.PendingSet.{PendingSet}
use Rattle.scmi_core.specs.declared.event.Event.TheVariants.{Promoted, Restarted, Sent, Settled}
use Rattle.scmi_core.specs.Deed.{Deed}
use Rattle.scmi_core.specs.Value.{Change, Thing, State, Rate, Enabled}
use Rattle.scmi_core.specs.Pending.{has_room_beside, has_set_of, pending_sets, sets_by}
use Rattle.scmi_core.specs.Situation.{Situation, has_room, views}
use Rattle.scmi_core.specs.Outbox.{messages_made, made_in, notice_in, outbox_after, response_for, sent_count, situation_after, state_changed}
use Rattle.scmi_core.specs.ReadCommand.{command_on}
use Rattle.scmi_core.specs.Reply.{answer_in, fits_channel, reply_words, words_given}
use Rattle.scmi_core.specs.Tables.{IsThing}
use Rattle.scmi_core.proofs.CommandLaws.{SameViews, reply_by-same}
use Rattle.scmi_core.proofs.Deeds.{messages_made-push, outbox-push}

-- two situations say the same of all that is on the board
pub record SameSituation (board : Board) (s u : Situation) : Type 0 where
  pub value : (x : Thing) → IsThing board x → s.value x ≡ u.value x
  pub allowed : (device : ℕ) (scope : Scope) → device < length board.devices
      → s.allowed device scope ≡ u.allowed device scope
  pub subscribed : (d : ℕ) → d < length board.domains → s.subscribed d ≡ u.subscribed d
  pub pending : s.pending ≡ u.pending
  pub outbox : s.outbox ≡ u.outbox

pub nothing_if : {X : Type 0} (b : Bool) → ◌≡◌ {A = List X} (if b then [] else []) []
nothing_if true = refl
nothing_if false = refl

-- an event that completes and changes nothing makes nothing
pub nothing-made : (a : ℕ) (s : Situation) (left : List PendingSet)
    → made_in a s left None None ≡ []
nothing-made a s left = nothing_if (nat_lt (length s.outbox + 0 + length (sets_by a left)) 16)

-- and so a posting
pub messages_made-sent : (board : Board) (a : ℕ) (h : List Deed) (b : ℕ) → messages_made board a
    (h ++ record { event = Sent b; reply = [] } ∷ []) ≡ messages_made board a h
messages_made-sent board a h b =
    let deed : Deed = record { event = Sent b; reply = [] } in
    messages_made-push board a h deed
    ∙ ap (λ ys. messages_made board a h ++ ys)
    (nothing-made a (situation_after board a h) (pending_sets board (h ++ deed ∷ [])))
    ∙ append-nil (messages_made board a h)

pub outbox-restarted : (board : Board) (a : ℕ) (h : List Deed) (b : ℕ)
    → sent_count a h ≤ length (messages_made board a h)
    → outbox_after board a (h ++ record { event = Restarted b; reply = [] } ∷ [])
    ≡ (if a == b then [] else outbox_after board a h)
outbox-restarted board a h b enough =
    let deed : Deed = record { event = Restarted b; reply = [] } in
    let left = if a == b then [] else outbox_after board a h in
    outbox-push board a h deed refl enough
    ∙ ap (λ ys. left ++ ys)
    (nothing-made a (situation_after board a h) (pending_sets board (h ++ deed ∷ [])))
    ∙ append-nil left

-- a promotion leaves each outbox
pub outbox-promoted : (board : Board) (a : ℕ) (h : List Deed) (place : ℕ)
    → sent_count a h ≤ length (messages_made board a h)
    → outbox_after board a (h ++ record { event = Promoted place; reply = [] } ∷ [])
    ≡ outbox_after board a h
outbox-promoted board a h place enough =
    let deed : Deed = record { event = Promoted place; reply = [] } in
    outbox-push board a h deed refl enough
    ∙ ap (λ ys. outbox_after board a h ++ ys)
    (nothing-made a (situation_after board a h) (pending_sets board (h ++ deed ∷ [])))
    ∙ append-nil (outbox_after board a h)

-- and so does a settled rate
pub outbox-settled : (board : Board) (a : ℕ) (h : List Deed) (clock rate : ℕ)
    → sent_count a h ≤ length (messages_made board a h)
    → outbox_after board a (h ++ record { event = Settled clock rate; reply = [] } ∷ [])
    ≡ outbox_after board a h
outbox-settled board a h clock rate enough =
    let deed : Deed = record { event = Settled clock rate; reply = [] } in
    outbox-push board a h deed refl enough
    ∙ ap (λ ys. outbox_after board a h ++ ys)
    (nothing-made a (situation_after board a h) (pending_sets board (h ++ deed ∷ [])))
    ∙ append-nil (outbox_after board a h)

module _ (board : Board) (a : ℕ) (s u : Situation) (same : SameSituation board s u) where
  room-same : has_room board a s ≡ has_room board a u
  room-same =
      ap (λ p. has_room_beside (channel_of board a).share (length s.outbox) a p) same.pending
      ∙ ap (λ b. has_room_beside (channel_of board a).share (length b) a u.pending) same.outbox

  views-same : SameViews board (views board a s) (views board a u)
  views-same = record {
    power = record {
      state = λ d small. same.value (State d) small;
      may = λ d small. may-same board s.allowed u.allowed (resource.Domain d) same.allowed;
      busy = λ d small. ap (has_set_of (resource.Domain d)) same.pending;
      room = room-same;
      channel = refl;
    };
    clock = record {
      rate = λ k small. same.value (Rate k) small;
      enabled = λ k small. ap (λ n. n == 1) (same.value (Enabled k) small);
      may = λ k small. may-same board s.allowed u.allowed (resource.Clock k) same.allowed;
      busy = λ k small. ap (has_set_of (resource.Clock k)) same.pending;
      room = room-same;
      channel = refl;
    };
  }

  -- one reply to each command
  pub reply-same : (r : Result codec.Command Status)
      → reply_words board a s r ≡ reply_words board a u r
  unfolding reply_words
  reply-same (Err e) = refl
  reply-same (Ok c) = reply_by-same board a (views board a s) (views board a u) views-same c

  -- also if it may be longer than the channel
  pub given-same : (m : Message) → words_given board a s m ≡ words_given board a u m
  given-same m =
      ap (λ words. if fits_channel board a m then words else []) (reply-same (command_on board m))

  -- one answer to each frame
  pub answer-same : (frame : Frame) → answer_in board a frame s ≡ answer_in board a frame u
  answer-same (Good m) = ap (λ words. if fits_channel board a m then Reply
      (record { header = m.header; payload = record { items = words } }) else ChannelError)
      (reply-same (command_on board m))
  answer-same (Malformed len header) = refl

  notice-same : (change : Change) → IsThing board change.thing
      → notice_in s change ≡ notice_in u change
  notice-same change known = by change.thing known where
    by : (x : Thing) → IsThing board x
        → notice_in s (record { thing = x; value = change.value; causer = change.causer })
        ≡ notice_in u (record { thing = x; value = change.value; causer = change.causer })
    by (State d) within =
        ap (λ v. if not (change.value == v) && s.subscribed d then state_changed change.causer d
        change.value ∷ [] else []) (same.value (State d) within)
        ∙ ap (λ b. if not (change.value == u.value (State d)) && b
        then state_changed change.causer d change.value ∷ [] else []) (same.subscribed d within)
    by (Rate k) within = refl
    by (Enabled k) within = refl

  notices-same : (change : Option Change) → IfSome change (λ ch. IsThing board ch.thing)
      → option_map_or (notice_in s) change [] ≡ option_map_or (notice_in u) change []
  notices-same None known = refl
  notices-same (Some change) known = notice-same change known

  -- the same messages of each event
  pub messages_made-same : (left : List PendingSet) (done : Option PendingSet)
      (change : Option Change) → IfSome change (λ ch. IsThing board ch.thing)
      → made_in a s left done change ≡ made_in a u left done change
  messages_made-same left done change known =
      let responses = option_map_or (response_for a) done [] in
      ap (λ b. responses ++ (if nat_lt (length b + length responses + length (sets_by a left)) 16
      then option_map_or (notice_in s) change [] else [])) same.outbox
      ∙ ap (λ n. responses ++ (if nat_lt (length u.outbox + length responses + length
      (sets_by a left)) 16 then n else [])) (notices-same change known)
