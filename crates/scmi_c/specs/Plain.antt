-- A platform whose hardware has refused and reported nothing, and of which no agent has restarted.
use Rattle.std.specs.Prelude.{List}
use Rattle.std.specs.List.{All}
use Rattle.scmi_core.specs.Plain.{IsPlain}
use Rattle.scmi_core.specs.declared.event.Event.{Event}
use Rattle.scmi_c.specs.Standing.{Held, StandsAt}

-- a platform is at a history of commands, completions and postings alone
abbrev pub HasPlainHistory : Held → Type 0
HasPlainHistory p = (h : List Event) × StandsAt p h × All IsPlain h
