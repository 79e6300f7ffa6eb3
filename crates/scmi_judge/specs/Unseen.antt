-- The moves that no entry shows by itself.
use Rattle.std.specs.Prelude.{◌≡◌, ℕ, ◌-◌}
use Rattle.scmi_codec.specs.declared.frame.Frame.{Frame}
use Rattle.scmi_codec.specs.declared.frame.Answer.{Answer}
use Rattle.scmi_core.specs.declared.event.Event.TheVariants.{Command, CommandFailed, Advance, AdvanceFailed, Restarted, Sent}
use Rattle.scmi_codec.specs.declared.fault.Fault.TheVariants.{HardwareError}
use Rattle.scmi_judge.specs.Moves.{Move}
use Rattle.scmi_judge.specs.declared.outstanding.TheConstants.{OUTSTANDING}
use Rattle.scmi_judge.specs.declared.unseen.Act.{Act}
use Rattle.scmi_judge.specs.declared.unseen.Act.TheVariants as act
use Rattle.scmi_judge.specs.declared.unseen.Step.{Step}
use Rattle.scmi_judge.specs.declared.unseen.Step.TheVariants.{Complete, Execute, Fail, Post, Refuse, Restart}

-- a move is one of a step
abbrev pub IsOf : Step → Move → Type 0
IsOf Complete move = move ≡ Move.happens Advance
IsOf Refuse move = move ≡ Move.happens (AdvanceFailed HardwareError)
IsOf (Post a) move = move ≡ Move.happens (Sent a)
IsOf (Restart a) move = move ≡ Move.happens (Restarted a)
IsOf (Execute k) move = (a : ℕ) × (frame : Frame) × (answer : Answer)
    × (move ≡ Move.executes k (Command a frame) answer)
IsOf (Fail k) move =
    (a : ℕ) × (frame : Frame) × (answer : Answer)
    × (move ≡ Move.executes k (CommandFailed a frame HardwareError) answer)

-- the step of what may happen to each agent, or to the command at each place; places are counted
-- from 1 here
abbrev pub step_of : Act → ℕ → Step
step_of act.Post n = Post n
step_of act.Restart n = Restart n
step_of act.Execute n = Execute (n - 1)
step_of act.Fail n = Fail (n - 1)

-- how many agents, or places, there are
abbrev pub count_of : Act → ℕ → ℕ
count_of act.Post agents = agents
count_of act.Restart agents = agents
count_of act.Execute agents = OUTSTANDING
count_of act.Fail agents = OUTSTANDING
