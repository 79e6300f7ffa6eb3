-- What each step of a session leaves, and what its line says about it.
use Rattle.std.specs.Prelude.{◌≡◌, ◌≢◌, ℕ, ◌+◌, ◌-◌, ◌%◌, ◌<◌, Bool, true, false, [], ◌∷◌, ◌++◌, length, slice_get, slice_set, Option, Some, None, Result, Ok, Err}
use Rattle.scmi_codec.specs.Area.{is_well_formed}
use Rattle.scmi_codec.specs.Command.{protocol_header}
use Rattle.scmi_codec.specs.declared.frame.Frame.{Frame}
use Rattle.scmi_codec.specs.declared.frame.Frame.TheVariants as frame
use Rattle.scmi_codec.specs.declared.header.TheConstants.{TOKENS}
use Rattle.scmi_link.specs.View.{CallerView, IsOutstanding, knows_close}
use Rattle.scmi_link.specs.Calls.{PostsFrame, RefusesPost, Collects, ClosesCaller}
use Rattle.scmi_link.specs.declared.closing.Closing.{Closing}
use Rattle.scmi_link.specs.declared.close_error.CloseError.{CloseError}
use Rattle.scmi_link.specs.declared.collected.Collected.{Collected}
use Rattle.scmi_link.specs.declared.collected.Collected.TheVariants as collected
use Rattle.scmi_link.specs.declared.post_error.PostError.{PostError}
use Rattle.scmi_link.specs.declared.post_error.PostError.TheVariants as refused
use Rattle.scmi_codec.specs.declared.fault.Fault.{Fault}
use Rattle.scmi_core.specs.Effect.{effect_after}
use Rattle.scmi_plan.specs.declared.report.Report.{Report as HardwareReport}
use Rattle.scmi_core.specs.History.{deeds}
use Rattle.scmi_core.specs.Pending.{pending_sets}
use Rattle.scmi_core.specs.Legal.{CanFollow, told}
use Rattle.scmi_core.specs.declared.event.Event.TheVariants as event
use Rattle.scmi_link.specs.declared.served.Served.{Served}
use Rattle.scmi_ends.specs.AgentView.{AgentView}
use Rattle.scmi_ends.specs.ControllerView.{ControllerView}
use Rattle.scmi_ends.specs.Poll.{Receives}
use Rattle.scmi_ends.specs.Serve.{Serves}
use Rattle.scmi_ends.specs.ServeOn.{ServesOn}
use Rattle.scmi_ends.specs.Flush.{Flushes}
use Rattle.scmi_ends.specs.Shut.{Shuts}
use Rattle.scmi_text.specs.declared.step.Call.{Call}
use Rattle.scmi_text.specs.declared.step.AgentStep.{AgentStep}
use Rattle.scmi_text.specs.declared.step.AgentStep.TheVariants as agent
use Rattle.scmi_text.specs.declared.step.PlatformStep.{PlatformStep}
use Rattle.scmi_text.specs.declared.step.PlatformStep.TheVariants as platform
use Rattle.scmi_text.specs.declared.step.Step.{Step}
use Rattle.scmi_text.specs.declared.step.Step.TheVariants.{Agent, Platform, Do, Advance, Fail, AdvanceFailed, Report, Restart}
use Rattle.scmi_text.specs.declared.step_line.StepLine.{StepLine}
use Rattle.scmi_text.specs.declared.step_line.StepLine.TheVariants as line
use Rattle.scmi_modes.specs.Refusing.{IsAllRefusedWith}
use Rattle.scmi_modes.specs.SessionView.{SessionView}

-- the frame of a command that carries this token
abbrev pub frame_of : Call → ℕ → Frame
frame_of call token = frame.Good
    (record { header = protocol_header call.protocol token call.message; payload = call.payload })

-- a frame is posted at the agent's end of A2P, and nothing else changes
pub record PostsAt (old : AgentView) (frame : Frame) (new : AgentView) : Type 0 where
  pub posts : PostsFrame old.caller frame new.caller
  pub same : new ≡ record old { caller = new.caller }

-- a command is posted with the agent's next token, which moves on
pub record CallsAt (old : AgentView) (call : Call) (token : ℕ) (new : AgentView) : Type 0 where
  pub next : token ≡ old.token
  pub posts : PostsFrame old.caller (frame_of call token) new.caller
  pub same : new ≡ record old { token = (token + 1) % TOKENS; caller = new.caller }

-- a frame of this length is posted, which is not well formed
pub record PostsMalformed (old : AgentView) (len header : ℕ) (new : AgentView) : Type 0 where
  pub malformed : is_well_formed len ≡ false
  pub posts : PostsAt old (frame.Malformed len header) new

-- one `collect` on A2P, and nothing else changes; if a close is known and nothing is outstanding,
-- it gives `Closed`
pub record CollectsAt (old : AgentView) (answer : Collected) (new : AgentView) : Type 0 where
  pub collects : Collects old.caller answer new.caller
  pub known : knows_close old.caller ≡ true → ¬ (IsOutstanding old.caller)
      → answer ≡ collected.Closed
  pub same : new ≡ record old { caller = new.caller }

-- one poll of P2A, and nothing else changes
pub record ReceivesAt (old : AgentView) (frame : Option Frame) (new : AgentView) : Type 0 where
  pub receives : Receives old.callee frame new.callee
  pub same : new ≡ record old { callee = new.callee }

-- what an agent's close leaves of its end of P2A: closed with A2P, or nothing changed
abbrev pub ClosesBoth : AgentView → Result Closing CloseError → AgentView → Type 0
ClosesBoth old (Ok closing) new =
    new ≡ record old { caller = new.caller; callee = record (old.callee) { closed = true } }
ClosesBoth old (Err error) new = new ≡ old

-- at the place of agent a there was an end, and now there is another; all else is as it was
pub record AtAgent (a : ℕ) (Makes : AgentView → AgentView → Type 0)
    (old new : SessionView) : Type 0 where
  pub before : AgentView
  pub after : AgentView
  pub there : slice_get old.agents (a - 1) ≡ Some before
  pub makes : Makes before after
  pub same : new ≡ record old { agents = slice_set old.agents (a - 1) after }

-- the platform's side changes so, and no agent's end
pub record AtPlatform (Makes : ControllerView → ControllerView → Type 0)
    (old new : SessionView) : Type 0 where
  pub makes : Makes old.platform new.platform
  pub same : new ≡ record old { platform = new.platform }

-- one pending set is completed, if there is one
abbrev pub Advances : ControllerView → Bool → ControllerView → Type 0
Advances old true new = (0 < length (pending_sets old.board (deeds old.board old.history)))
    × (new ≡ record old { history = old.history ++ event.Advance ∷ []; room = new.room })
Advances old false new = (pending_sets old.board (deeds old.board old.history) ≡ []) × (new ≡ old)

-- one pending set is ended as failed, if there is one: the hardware refused its change with this
-- fault
abbrev pub AdvancesRefused : Fault → ControllerView → Bool → ControllerView → Type 0
AdvancesRefused fault old true new =
    (0 < length (pending_sets old.board (deeds old.board old.history))) × (new
    ≡ record old { history = old.history ++ event.AdvanceFailed fault ∷ []; room = new.room })
AdvancesRefused fault old false new = (pending_sets old.board (deeds old.board old.history) ≡ [])
    × (new ≡ old)

-- what the hardware reports is taken over, if it may come after the history, and nothing else is
-- done; or it may not, and nothing changes
abbrev pub Reports : HardwareReport → ControllerView → Bool → ControllerView → Type 0
Reports report old true new = CanFollow old.board old.history (told report)
    × (new ≡ record old { history = old.history ++ told report ∷ []; room = new.room })
Reports report old false new = (¬ (CanFollow old.board old.history (told report))) × (new ≡ old)

-- what agent a asked for has ended, since it restarted without the platform; its channels stay as
-- they were
abbrev pub Restarts : ℕ → ControllerView → ControllerView → Type 0
Restarts a old new =
    new ≡ record old { history = old.history ++ event.Restarted a ∷ []; room = new.room }

-- agent a is served beside hardware that refuses each change with this fault: a command that is
-- then in the history was to make none, and one that failed was to make one, and failed with it
pub record ServesRefused (fault : Fault) (a : ℕ) (old : ControllerView) (served : Served)
    (new : ControllerView) : Type 0 where
  pub serves : ServesOn a old (IsAllRefusedWith fault) served new (IsAllRefusedWith fault)
  pub done : (frame : Frame) → new.history ≡ old.history ++ event.Command a frame ∷ []
      → effect_after old.board old.history (event.Command a frame) ≡ None
  pub failed : (frame : Frame) (given : Fault)
      → new.history ≡ old.history ++ event.CommandFailed a frame given ∷ []
      → (given ≡ fault) × (effect_after old.board old.history (event.Command a frame) ≢ None)

-- a post is refused at the agent's end of A2P, and nothing else changes
pub record IsRefusedAt (full : Bool) (old : AgentView) (refusal : PostError)
    (new : AgentView) : Type 0 where
  pub refuses : RefusesPost full old.caller refusal new.caller
  pub same : new ≡ record old { caller = new.caller }

-- why a malformed frame is not posted: its length is well formed, or the post is refused
abbrev pub RefusesMalformed : Bool → AgentView → ℕ → PostError → AgentView → Type 0
RefusesMalformed full old len refused.WellFormed new = (is_well_formed len ≡ true) × (new ≡ old)
RefusesMalformed full old len refusal new = (is_well_formed len ≡ false)
    × IsRefusedAt full old refusal new

-- agent a calls and is given a token, is served in this way, and collects this
pub record Exchanges (Serve : ControllerView → Served → ControllerView → Type 0) (a : ℕ)
    (call : Call) (answer : Collected) (old new : SessionView) : Type 0 where
  pub token : ℕ
  pub posted : SessionView
  pub served : Served
  pub executed : SessionView
  pub calls : AtAgent a (λ before after. CallsAt before call token after) old posted
  pub serves : AtPlatform (λ before after. Serve before served after) posted executed
  pub collects : AtAgent a (λ before after. CollectsAt before answer after) executed new

-- a kind of channel: whether a post may find no place, and what a close shows, by the view after it
module _ (full : Bool) (Shows : CallerView → Result Closing CloseError → Type 0) where
  -- one close of both channels
  pub record ClosesAt (old : AgentView) (closing : Result Closing CloseError)
      (new : AgentView) : Type 0 where
    pub closes : ClosesCaller old.caller closing new.caller
    pub both : ClosesBoth old closing new
    pub shows : Shows new.caller closing

  -- what a call of agent a leaves of its end, and the line that says it
  abbrev pub Makes : ℕ → AgentStep → StepLine → AgentView → AgentView → Type 0
  Makes a (agent.Call call) (line.Token b token) old new = (b ≡ a) × CallsAt old call token new
  Makes a (agent.Call call) (line.NotPosted b refusal) old new = (b ≡ a)
      × IsRefusedAt full old refusal new
  Makes a (agent.Raw message) (line.Posted b) old new = (b ≡ a)
      × PostsAt old (frame.Good message) new
  Makes a (agent.Raw message) (line.NotPosted b refusal) old new = (b ≡ a)
      × IsRefusedAt full old refusal new
  Makes a (agent.Malformed len header) (line.Posted b) old new = (b ≡ a)
      × PostsMalformed old len header new
  Makes a (agent.Malformed len header) (line.NotPosted b refusal) old new = (b ≡ a)
      × RefusesMalformed full old len refusal new
  Makes a agent.Collect (line.Collected b answer) old new = (b ≡ a) × CollectsAt old answer new
  Makes a agent.P2a (line.P2a b frame) old new = (b ≡ a) × ReceivesAt old frame new
  Makes a agent.Close (line.Closed b closing) old new = (b ≡ a) × ClosesAt old closing new
  Makes a _ _ old new = ⊥

  -- what a call of the platform on agent a's channels leaves of its side, and the line that says it
  abbrev pub PlatformMakes : ℕ → PlatformStep → StepLine → ControllerView → ControllerView → Type 0
  PlatformMakes a platform.Serve (line.Served b served) old new = (b ≡ a) × Serves a old served new
  PlatformMakes a platform.Flush (line.Flushed b flushed) old new = (b ≡ a)
      × Flushes full a old flushed new
  PlatformMakes a platform.Shut (line.Shut b closing) old new = (b ≡ a)
      × Shuts Shows a old closing new
  PlatformMakes a _ _ old new = ⊥

  -- what a step leaves of a session, and the line that says it
  abbrev pub Steps : Step → StepLine → SessionView → SessionView → Type 0
  Steps (Agent a step) l old new = AtAgent a (Makes a step l) old new
  Steps (Platform a step) l old new = AtPlatform (PlatformMakes a step l) old new
  Steps (Do a call) (line.NotPosted b refusal) old new = (b ≡ a)
      × AtAgent a (λ before after. IsRefusedAt full before refusal after) old new
  Steps (Do a call) (line.Collected b answer) old new = (b ≡ a)
      × Exchanges (Serves a) a call answer old new
  Steps Advance (line.Advanced more) old new =
      AtPlatform (λ before after. Advances before more after) old new
  Steps (Fail a fault call) (line.NotPosted b refusal) old new = (b ≡ a)
      × AtAgent a (λ before after. IsRefusedAt full before refusal after) old new
  Steps (Fail a fault call) (line.Collected b answer) old new = (b ≡ a)
      × Exchanges (ServesRefused fault a) a call answer old new
  Steps (AdvanceFailed fault) (line.AdvanceFailed more) old new =
      AtPlatform (λ before after. AdvancesRefused fault before more after) old new
  Steps (Report report) (line.Reported taken) old new =
      AtPlatform (λ before after. Reports report before taken after) old new
  Steps (Restart a) (line.Restarted b) old new = (b ≡ a)
      × AtPlatform (λ before after. Restarts a before after) old new
  Steps _ _ old new = ⊥

-- agent a calls and is given a token, and nothing else is done
pub record OnlyCalls (a : ℕ) (call : Call) (old new : SessionView) : Type 0 where
  pub token : ℕ
  pub calls : AtAgent a (λ before after. CallsAt before call token after) old new

-- what is left if memory was refused: nothing was taken, executed or posted but the command of a
-- `do` or a `fail`
abbrev pub StopsFor : Step → SessionView → SessionView → Type 0
StopsFor (Do a call) old new = OnlyCalls a call old new
StopsFor (Fail a fault call) old new = OnlyCalls a call old new
StopsFor (Platform a platform.Serve) old new = new ≡ old
StopsFor (Platform a platform.Flush) old new = new ≡ old
StopsFor Advance old new = new ≡ old
StopsFor (AdvanceFailed fault) old new = new ≡ old
StopsFor (Report report) old new = new ≡ old
StopsFor (Restart a) old new = new ≡ old
StopsFor _ old new = ⊥
