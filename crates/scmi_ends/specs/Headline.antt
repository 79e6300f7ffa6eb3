-- What the history says about what the agents did, once all endpoints are gathered.
use Rattle.std.specs.Prelude.{◌≡◌, ℕ, ◌+◌, ◌≤◌, ◌⊎◌, true, false, List, [], ◌∷◌, ◌++◌, length, map}
use Rattle.scmi_codec.specs.declared.frame.Frame.{Frame}
use Rattle.scmi_codec.specs.declared.frame.Frame.TheVariants.{Good}
use Rattle.scmi_link.specs.View.{CallerView, CalleeView}
use Rattle.scmi_link.specs.Gathered.{IsAllButLast, IsPrefixOf, Agree, Closed}
use Rattle.scmi_plan.specs.Board.{Board}
use Rattle.scmi_core.specs.Agents.{frames_of, answers_to}
use Rattle.scmi_core.specs.History.{delivered_messages, outbox, made_for}
use Rattle.scmi_core.specs.declared.event.Event.{Event}
use Rattle.scmi_ends.specs.AgentView.{AgentView}

-- the commands of agent a, its replies, and the closes of its A2P channel, whose endpoints are the
-- agent's `caller` and the platform's `callee`
pub record CommandsAgree (board : Board) (h : List Event) (a : ℕ) (caller : CallerView)
    (callee : CalleeView) : Type 0 where
  -- the commands executed are those posted, in order, each once, at most the last left out
  pub executed : (frames_of a h ≡ caller.posted) ⊎ IsAllButLast (frames_of a h) caller.posted
  -- each reply that was read is the answer at that command's place
  pub replies : IsPrefixOf caller.read (answers_to board a h)
  -- a command that was withdrawn or given up was not executed; each other one was, and its reply
  -- was read
  pub left : caller.left ≡ true → IsAllButLast (frames_of a h) caller.posted
      × (caller.read ≡ answers_to board a h)
  -- after the agent's close with nothing left, all that was posted was executed and its reply read
  pub idle : caller.closed ≡ true → caller.left ≡ false
      → (frames_of a h ≡ caller.posted) × (caller.read ≡ answers_to board a h)
  -- an endpoint was notified of a close only if the other endpoint has closed
  pub agent_told : caller.told ≡ true → callee.closed ≡ true
  pub platform_told : callee.told ≡ true → caller.closed ≡ true

-- what was made for agent a is what it took, then at most one message not taken, then its outbox
abbrev pub IsAllMade : Board → List Event → ℕ → List Frame → Type 0
IsAllMade board h a taken =
    (waiting : List Frame) × (length waiting ≤ 1)
    × (taken ++ (waiting ++ map Good (outbox board a h)) ≡ map Good (made_for board a h))

-- the messages to agent a and the closes of its P2A channel, whose endpoints are the platform's
-- `caller` and the agent's `callee`
pub record MessagesAgree (board : Board) (h : List Event) (a : ℕ) (caller : CallerView)
    (callee : CalleeView) : Type 0 where
  -- the messages that the agent took are those delivered to it, at most the last left out
  pub taken : (callee.taken ≡ map Good (delivered_messages board a h))
      ⊎ IsAllButLast callee.taken (map Good (delivered_messages board a h))
  -- what was made for the agent is what it took, then at most one message not taken, then its
  -- outbox
  pub made : IsAllMade board h a callee.taken
  -- a message that was withdrawn or given up was not taken
  pub left : caller.left ≡ true
      → IsAllButLast callee.taken (map Good (delivered_messages board a h))
  -- after the platform's close with nothing left, all that was delivered was taken
  pub idle : caller.closed ≡ true → caller.left ≡ false
      → callee.taken ≡ map Good (delivered_messages board a h)
  -- an endpoint was notified of a close only if the other endpoint has closed
  pub agent_told : callee.told ≡ true → caller.closed ≡ true
  pub platform_told : caller.told ≡ true → callee.closed ≡ true

-- both channels of agent a agree with the history; `callee` and `caller` are the platform's
-- endpoints of A2P and P2A
pub record Headline (board : Board) (h : List Event) (a : ℕ) (agent : AgentView)
    (callee : CalleeView) (caller : CallerView) : Type 0 where
  pub commands : CommandsAgree board h a agent.caller callee
  pub messages : MessagesAgree board h a caller agent.callee

-- the same of each agent, counted from n
abbrev pub Headlines : Board → List Event → ℕ → List AgentView → List CalleeView
    → List CallerView → Type 0
Headlines board h n [] callees callers = Unit {0}
Headlines board h n (agent ∷ agents) [] callers = ⊥
Headlines board h n (agent ∷ agents) (callee ∷ callees) [] = ⊥
Headlines board h n (agent ∷ agents) (callee ∷ callees) (caller ∷ callers) =
    Headline board h n agent callee caller × Headlines board h (n + 1) agents callees callers

-- what the gathering of a channel's two endpoints shows
abbrev pub AreGathered : CallerView → CalleeView → Type 0
AreGathered caller callee = Agree caller callee × Closed caller callee

-- the same of each agent's two channels
abbrev pub AllGathered : List AgentView → List CalleeView → List CallerView → Type 0
AllGathered [] callees callers = Unit {0}
AllGathered (agent ∷ agents) [] callers = ⊥
AllGathered (agent ∷ agents) (callee ∷ callees) [] = ⊥
AllGathered (agent ∷ agents) (callee ∷ callees) (caller ∷ callers) = AreGathered agent.caller callee
    × AreGathered caller agent.callee × AllGathered agents callees callers
