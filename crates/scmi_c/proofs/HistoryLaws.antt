-- What holds of each platform that a program drives, and of each whose hardware refuses and reports
-- nothing.
use Rattle.std.proofs.Common.{◌≡◌, List, [], ◌∷◌, ◌++◌, ap, ◌∙◌}
use Rattle.std.specs.List.{All}
use Rattle.std.proofs.lemmas.List.Elements.{All-nil, All-push}
use Rattle.scmi_core.specs.Asked.{made_of}
use Rattle.scmi_core.specs.Effect.{commanded_effects, effects}
use Rattle.scmi_core.specs.Plain.{IsNoReport, IsPlain}
use Rattle.scmi_core.specs.declared.event.Event.{Event}
use Rattle.scmi_core.proofs.EffectsMade.{made-effects, unreported}
use Rattle.scmi_c.specs.Calls.{HasHappened}
use Rattle.scmi_c.specs.Driven.{IsDriven, failures, refused_of}
use Rattle.scmi_c.specs.Plain.{HasPlainHistory}
use Rattle.scmi_c.specs.Standing.{Held, StandsAt, board_of}
use Rattle.scmi_c.proofs.Driving.{refused_failures}

-- A PLATFORM THAT IS DRIVEN

pub made_driven : (p : Held) (h : List Event) → IsDriven p h
    → made_of p.said ≡ commanded_effects (board_of p) h
made_driven p h is = ap made_of is.1 ∙ made-effects (board_of p) h

pub unreported_driven : (p : Held) (h : List Event) → IsDriven p h → All IsNoReport h
    → made_of p.said ≡ effects (board_of p) h
unreported_driven p h is all = ap made_of is.1 ∙ made-effects (board_of p) h
    ∙ unreported (board_of p) h all

pub refused_driven : (p : Held) (h : List Event) → IsDriven p h
    → refused_of p.said ≡ failures (board_of p) h
refused_driven p h is = ap refused_of is.1 ∙ refused_failures (board_of p) h

-- A PLATFORM WHOSE HARDWARE REFUSES AND REPORTS NOTHING

pub plain_made : (p : Held) → StandsAt p [] → HasPlainHistory p
plain_made p stands = ([], stands, All-nil IsPlain)

pub plain_event : (p k : Held) (event : Event) → HasPlainHistory p → HasHappened p k event
    → IsPlain event → HasPlainHistory k
plain_event p k event plain happened is = (
  plain.0 ++ event ∷ [],
  happened.after plain.0 plain.1,
  All-push IsPlain plain.0 event plain.2 is,
)
