-- What each order of a script writes into its agent's log.
use Rattle.std.specs.Prelude.{◌≡◌, ℕ, zero, suc, ◌+◌, ◌*◌, ◌%◌, ◌<◌, ◌≤◌, Bool, true, false, List, [], ◌∷◌, ◌++◌, length, map, Option, Some, None}
use Rattle.std.specs.List.{All}
use Rattle.arrayvec.specs.ArrayVec.{ArrayVec}
use Rattle.scmi_codec.specs.declared.message.Message.{Message}
use Rattle.scmi_codec.specs.declared.frame.Frame.{Frame}
use Rattle.scmi_codec.specs.declared.frame.Frame.TheVariants.{Good}
use Rattle.scmi_codec.specs.declared.frame.Answer.{Answer}
use Rattle.scmi_codec.specs.declared.frame.Answer.TheVariants.{Reply, ChannelError}
use Rattle.scmi_codec.specs.declared.header.TheConstants.{TOKENS}
use Rattle.scmi_link.specs.declared.closing.Closing.TheVariants.{Idle}
use Rattle.scmi_link.specs.declared.post_error.PostError.TheVariants as post
use Rattle.scmi_plan.specs.declared.agent_channel.TheConstants.{LEAST_CHANNEL_WORDS}
use Rattle.scmi_link.specs.Scripts.{IsForNothing}
use Rattle.scmi_link.specs.declared.line.Line.{Line}
use Rattle.scmi_link.specs.declared.line.Line.TheVariants as line
use Rattle.scmi_link.specs.declared.order.Order.{Order}
use Rattle.scmi_link.specs.declared.order.Order.TheVariants as order
use Rattle.scmi_threads.specs.declared.limits.TheConstants.{TURNS, CALLS}
use Rattle.scmi_threads.specs.declared.stop.Stop.{Stop}
use Rattle.scmi_threads.specs.declared.stop.Stop.TheVariants as stop

-- the part of a log that one order wrote: the frames that it posted, the answers that it read, the
-- P2A messages that it took, its lines, and how often it polled for a reply and for a message
pub record Part : Type 0 where
  pub posted : List Frame
  pub read : List Answer
  pub taken : List Frame
  pub lines : List Line
  pub reply_looks : ℕ
  pub message_looks : ℕ

-- the command that an agent posts after n others: its token is n modulo 1,024, its type and its
-- reserved bits are 0
abbrev pub command : ℕ → ℕ → ℕ → ArrayVec ℕ → Frame
command n protocol id payload = Good (record {
  header = record {
    reserved = 0;
    token = n % TOKENS;
    protocol = protocol;
    kind = 0;
    id = id;
  };
  payload = payload;
})

-- k commands, after n others, that ask for the state of a power domain (DEN0056B, POWER_STATE_GET)
abbrev pub state_commands : ℕ → ℕ → ℕ → List Frame
state_commands n domain zero = []
state_commands n domain (suc k) =
    state_commands n domain k ++ command (n + k) 0x11 0x5 (record { items = domain ∷ [] }) ∷ []

-- the reply has status 0 and this state
abbrev pub HasState : ℕ → Message → Type 0
HasState state reply = reply.payload.items ≡ 0 ∷ state ∷ []

-- a part of lines alone: nothing was posted, read or taken, and nothing polled for
abbrev pub only_lines : List Line → Part
only_lines lines =
    record { posted = []; read = []; taken = []; lines = lines; reply_looks = 0; message_looks = 0 }

-- a part of calls: what was posted, read and written, after this many polls for a reply, and none
-- for a message
abbrev pub of_calls : List Frame → List Answer → List Line → ℕ → Part
of_calls posted read lines looks =
    record (only_lines lines) { posted = posted; read = read; reply_looks = looks }

-- a part of messages: what was taken and written, after this many polls for a message, and none for
-- a reply
abbrev pub of_messages : List Frame → List Line → ℕ → Part
of_messages taken lines looks = record (only_lines lines) { taken = taken; message_looks = looks }

-- this many waits that were each answered made this many polls in all: each at least one, and at
-- most TURNS
pub record AreLooksOf (waits looks : ℕ) : Type 0 where
  pub least : waits ≤ looks
  pub most : looks ≤ waits * TURNS

-- a call, by how it ended
pub data CallWrites (full : Bool) (n protocol id : ℕ) (payload : ArrayVec ℕ) : Option Stop → Part
    → Type 0 where
  -- its frame was posted, and its line has the payload of the reply that was read for it
  call_answered : (reply : Message) (looks : ℕ) → AreLooksOf 1 looks
      → CallWrites full n protocol id payload None (of_calls (command n protocol id payload ∷ [])
      (Reply reply ∷ []) (line.Got reply.payload ∷ []) looks)
  -- its frame was posted, and is longer than the agent's channel, which may be one of the shortest
  call_did_not_fit : LEAST_CHANNEL_WORDS < length payload.items
      → (looks : ℕ) → AreLooksOf 1 looks → CallWrites full n protocol id payload None
      (of_calls (command n protocol id payload ∷ []) (ChannelError ∷ []) (line.Error ∷ []) looks)
  -- the channel had no place for it
  call_found_no_place : full ≡ true
      → CallWrites full n protocol id payload None (only_lines (line.NotPosted post.Full ∷ []))
  -- its TURNS ran out, and the script ended
  call_ran_out : CallWrites full n protocol id payload (Some stop.Limit)
      (of_calls (command n protocol id payload ∷ []) [] (line.Limit ∷ []) TURNS)
  -- memory was refused before it posted, and the script ended
  call_had_no_room : CallWrites full n protocol id payload (Some stop.Memory) (only_lines [])

-- an order to wait for a state, by how it ended. All replies but the last that is named say another
-- state
pub data UntilWrites (full : Bool) (n domain state : ℕ) : Option Stop → Part → Type 0 where
  -- the last of at most CALLS replies has the state
  state_seen : (others : List Message) (last : Message)
      → length others < CALLS → All (λ reply. ¬ (HasState state reply)) others
      → HasState state last → (looks : ℕ) → AreLooksOf (length others + 1) looks
      → UntilWrites full n domain state None (of_calls (state_commands n domain (length others + 1))
      (map Reply others ++ Reply last ∷ []) (line.UntilOk ∷ []) looks)
  -- none of CALLS replies has it
  state_not_seen : (others : List Message) → length others ≡ CALLS
      → All (λ reply. ¬ (HasState state reply)) others → (looks : ℕ) → AreLooksOf
      (length others) looks → UntilWrites full n domain state (Some stop.Limit) (of_calls
      (state_commands n domain (length others)) (map Reply others) (line.UntilLimit ∷ []) looks)
  -- the TURNS of a wait ran out
  state_ran_out : (others : List Message) → length others < CALLS → All
      (λ reply. ¬ (HasState state reply)) others → (looks : ℕ) → AreLooksOf (length others) looks
      → UntilWrites full n domain state (Some stop.Limit) (of_calls (state_commands n domain
      (length others + 1)) (map Reply others) (line.UntilLimit ∷ []) (looks + TURNS))
  -- the channel had no place for a command
  state_found_no_place : (others : List Message) → length others < CALLS
      → All (λ reply. ¬ (HasState state reply)) others → full ≡ true → (looks : ℕ) → AreLooksOf
      (length others) looks → UntilWrites full n domain state (Some stop.Limit) (of_calls
      (state_commands n domain (length others)) (map Reply others) (line.UntilLimit ∷ []) looks)
  -- memory was refused before a post
  state_had_no_room : (others : List Message)
      → length others < CALLS → All (λ reply. ¬ (HasState state reply)) others → (looks : ℕ)
      → AreLooksOf (length others) looks → UntilWrites full n domain state (Some stop.Memory)
      (of_calls (state_commands n domain (length others)) (map Reply others) [] looks)

-- an order to take this many P2A messages, by how it ended: each message has its line
pub data P2aWrites (count : ℕ) : Option Stop → Part → Type 0 where
  messages_taken : (messages : List Frame)
      → length messages ≡ count → (looks : ℕ) → AreLooksOf (length messages) looks
      → P2aWrites count None (of_messages messages (map line.P2a messages) looks)
  -- the TURNS for one ran out
  messages_ran_out : (messages : List Frame) → length messages < count
      → (looks : ℕ) → AreLooksOf (length messages) looks → P2aWrites count (Some stop.Limit)
      (of_messages messages (map line.P2a messages ++ line.Limit ∷ []) (looks + TURNS))
  -- memory was refused before one was taken
  messages_had_no_room : (messages : List Frame)
      → length messages < count → (looks : ℕ) → AreLooksOf (length messages) looks
      → P2aWrites count (Some stop.Memory) (of_messages messages (map line.P2a messages) looks)

-- an order to close, by how it ended: nothing of the script is outstanding there
pub data CloseWrites : Option Stop → Part → Type 0 where
  close_done : CloseWrites None (only_lines (line.Close Idle ∷ []))
  close_had_no_room : CloseWrites (Some stop.Memory) (only_lines [])

-- an order of a script that has closed, by how it ended: it posts nothing, reads no answer and
-- takes no message, and polls for no reply
pub data ClosedWrites : Order → Option Stop → Part → Type 0 where
  -- a call is refused
  call_refused : (protocol id : ℕ) (payload : ArrayVec ℕ) → ClosedWrites
      (order.Call protocol id payload) None (only_lines (line.NotPosted post.Closed ∷ []))
  -- so is the first call of a wait for a state, and the script ends
  state_refused : (domain state : ℕ) → ClosedWrites (order.Until domain state) (Some stop.Limit)
      (only_lines (line.UntilLimit ∷ []))
  -- there is nothing to take if no message is asked for
  none_asked_for : (count : ℕ) → count ≡ 0 → ClosedWrites (order.P2a count) None (only_lines [])
  -- the TURNS for a message run out, and the script ends
  none_came : (count : ℕ) → 0 < count
      → ClosedWrites (order.P2a count) (Some stop.Limit) (of_messages [] (line.Limit ∷ []) TURNS)
  -- the end stays closed
  closed_again : ClosedWrites order.Close None (only_lines (line.Close Idle ∷ []))
  -- memory was refused for its line, and the script ended
  line_had_no_room : (o : Order) → ¬ (IsForNothing o)
      → ClosedWrites o (Some stop.Memory) (only_lines [])

-- what an order writes after n commands were posted: `full` says whether the channels may have no
-- place, the second whether the script has closed; with why it ended the script, if it did
abbrev pub Writes : Bool → Bool → ℕ → Order → Option Stop → Part → Type 0
Writes full true n o = ClosedWrites o
Writes full false n (order.Call protocol id payload) = CallWrites full n protocol id payload
Writes full false n (order.Until domain state) = UntilWrites full n domain state
Writes full false n (order.P2a count) = P2aWrites count
Writes full false n order.Close = CloseWrites
