-- Deeds: events with the replies that they got. A history of deeds is a list of them, oldest first.
use Rattle.std.specs.Prelude.{ℕ, if◌then◌else◌, List, [], ◌∷◌, ◌++◌, Option, Some, None, Result, Ok, Err}
use Rattle.std.specs.List.{filter_map}
use Rattle.scmi_codec.specs.Header.{HeaderFields}
use Rattle.scmi_codec.specs.Payload.{begins_with_success}
use Rattle.scmi_codec.specs.declared.status.Status.{Status}
use Rattle.scmi_codec.specs.declared.frame.Frame.TheVariants.{Good}
use Rattle.scmi_codec.specs.declared.command.Command as codec
use Rattle.scmi_plan.specs.Board.{Board}
use Rattle.scmi_core.specs.ReadCommand.{command_on}
use Rattle.scmi_core.specs.declared.event.Event.{Event}
use Rattle.scmi_core.specs.declared.event.Event.TheVariants.{Command, Restarted}

-- an event, and the payload words of its reply; none if the event is no well-formed command that
-- fits its channel, done or failed
pub record Deed : Type 0 where
  pub event : Event
  pub reply : List ℕ

-- the last item of a list, d if there is none
abbrev pub latest : {A : Type 0} → A → List A → A
latest d [] = d
latest d (x ∷ xs) = latest x xs

-- what `step` makes of s over the items of a list, each given the items before it
unfoldable pub fold_with_prefix : {X S : Type 0} → (List X → S → X → S) → List X → S → List X → S
fold_with_prefix step before s [] = s
fold_with_prefix step before s (x ∷ xs) =
    fold_with_prefix step (before ++ x ∷ []) (step before s x) xs

-- what each item adds to a list, given the items before it
abbrev pub flat_map_with_prefix : {X A : Type 0} → (List X → X → List A) → List X → List A
flat_map_with_prefix adds xs =
    fold_with_prefix (λ before so_far x. so_far ++ adds before x) [] [] xs

-- a command that was answered with status 0
pub record Success : Type 0 where
  pub caller : ℕ
  pub header : HeaderFields
  pub command : codec.Command

-- a message that was read as a command, as a success of its caller
abbrev pub success_with : ℕ → HeaderFields → Result codec.Command Status → Option Success
success_with a header (Ok c) = Some (record { caller = a; header = header; command = c })
success_with a header (Err e) = None

-- a message that got this reply, as a success
abbrev pub success_of : ℕ → HeaderFields → Result codec.Command Status → List ℕ → Option Success
success_of a header r reply = if begins_with_success reply then success_with a header r else None

-- the success that an event with this reply is
abbrev pub success_at : Board → Event → List ℕ → Option Success
success_at board (Command a (Good m)) reply = success_of a m.header (command_on board m) reply
success_at board _ reply = None

-- the agent that an event restarts, without the platform
abbrev pub restarted_by : Event → Option ℕ
restarted_by (Restarted a) = Some a
restarted_by _ = None

-- the successful commands, in order
abbrev pub successes : Board → List Deed → List Success
successes board h = filter_map (λ deed. success_at board deed.event deed.reply) h
