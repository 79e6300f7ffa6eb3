-- The lines of a diagram.
use Rattle.std.specs.Prelude.{ℕ, List, [], ◌∷◌, ◌++◌, flat_map, decimal}
use Rattle.scmi_io.specs.Filled.{filled}
use Rattle.scmi_chart.specs.DiagramValue.{label_text, shown_text}
use Rattle.scmi_chart.specs.declared.chart.Chart.{Chart}
use Rattle.scmi_chart.specs.declared.chart.Lifeline.{Lifeline}
use Rattle.scmi_chart.specs.declared.diagram.TheConstants.{ADVANCE, AGENT, BESIDE_AGENT, BESIDE_PLATFORM, COMMAND, HEAD, PLATFORM, POSTED, REFUSED, REPLY, RESTARTED, WITHDRAWN}
use Rattle.scmi_chart.specs.declared.mark.Mark.{Mark}
use Rattle.scmi_chart.specs.declared.mark.Mark.TheVariants as mark
use Rattle.scmi_chart.specs.declared.mark.Message.{Message}
use Rattle.scmi_chart.specs.declared.mark.Side.{Side}
use Rattle.scmi_chart.specs.declared.mark.Side.TheVariants as side

-- a message, in a line with holes for its agent and its words
abbrev pub message_text : List ℕ → Message → List ℕ
message_text text m = filled text (decimal m.agent ∷ label_text m.label ∷ [])

-- words beside an agent or beside the platform
abbrev pub beside_text : Side → ℕ → List ℕ → List ℕ
beside_text side.Agent agent text = filled BESIDE_AGENT.now (decimal agent ∷ shown_text text ∷ [])
beside_text side.Platform agent text = filled BESIDE_PLATFORM.now (shown_text text ∷ [])

-- the line of a mark; where the platform executes and posts has none
abbrev pub mark_text : Mark → List ℕ
mark_text (mark.Command m token) = message_text COMMAND.now m
mark_text (mark.Withdrawn m token) = message_text WITHDRAWN.now m
mark_text (mark.Refused m) = message_text REFUSED.now m
mark_text (mark.Reply m outcome) = message_text REPLY.now m
mark_text (mark.Delayed m token) = message_text POSTED.now m
mark_text (mark.Notification m) = message_text POSTED.now m
mark_text (mark.Advance slot effective text) = filled ADVANCE.now (shown_text text.items ∷ [])
mark_text (mark.Failed slot text) = filled ADVANCE.now (shown_text text.items ∷ [])
mark_text (mark.Closed agent slot by text) = beside_text by agent text.items
mark_text (mark.Remark agent slot beside text) = beside_text beside agent text.items
mark_text (mark.Fault agent slot text) = filled BESIDE_PLATFORM.now (shown_text text.items ∷ [])
mark_text (mark.Restarted agent slot text) =
    filled RESTARTED.now (decimal agent ∷ shown_text text.items ∷ [])
mark_text (mark.Execution slot until) = []
mark_text (mark.Posted slot) = []

-- the lines of marks, in order
abbrev pub marks_text : List Mark → List ℕ
marks_text marks = flat_map mark_text marks

-- the line of an agent
abbrev pub agent_text : Lifeline → List ℕ
agent_text l = filled AGENT.now (decimal l.agent ∷ shown_text l.name.items ∷ decimal l.agent ∷ [])

-- the lines of agents, in order
abbrev pub agents_text : List Lifeline → List ℕ
agents_text lifelines = flat_map agent_text lifelines

-- a chart as a diagram: its title, a line for each agent, and one for each mark
unfoldable pub diagram_text : Chart → List ℕ
diagram_text chart =
    filled HEAD.now (shown_text chart.title.items ∷ []) ++ agents_text chart.lifelines.items
    ++ PLATFORM.now ++ marks_text chart.marks.items
