-- The picture of a run.
use Rattle.std.specs.Prelude.{◌≡◌, ℕ, List, Option, IfSome}
use Rattle.std.specs.Io.KnownBytes.{Appends}
use Rattle.scmi_io.specs.Lines.{after_line, first_line}
use Rattle.scmi_chart.specs.Diagram.{diagram_text}
use Rattle.scmi_chart.specs.declared.chart.Chart.{Chart}
use Rattle.scmi_chart.specs.Run.{ShowsScript}
use Rattle.scmi_chart.specs.Threads.{ShowsThreads}
use Rattle.scmi_modes.specs.AnyMode.{any_text_of}
use Rattle.scmi_modes.specs.declared.any_mode.AnyMode.{AnyMode}
use Rattle.scmi_modes.specs.declared.any_mode.AnyMode.TheVariants as any
use Rattle.scmi_modes.specs.declared.mode.Mode.TheVariants.{Once, Steps, Threads}
use Rattle.scmi_modes.specs.declared.script_kind.ScriptKind.TheVariants.{Plain, Hardware}

-- the chart shows the run of what follows the first line of an input in this mode; an area has none
abbrev pub ShowsInput : AnyMode → List ℕ → Chart → Type 0
ShowsInput (any.Plain Once) input chart = ⊥
ShowsInput (any.Plain (Steps kind)) input chart = ShowsScript Plain kind input chart
ShowsInput (any.Plain (Threads kind)) input chart = ShowsThreads kind input chart
ShowsInput (any.Hardware kind) input chart = ShowsScript Hardware kind input chart

-- a chart of the run of an input, which is this one if it is known
pub record IsChartOf (known : Option (List ℕ)) (chart : Chart) : Type 0 where
  pub mode : AnyMode
  pub rest : List ℕ
  pub named : IfSome known (λ input. first_line input ≡ any_text_of mode)
  pub behind : IfSome known (λ input. after_line input ≡ rest)
  pub shown : ShowsInput mode rest chart

-- what is written is the diagram of such a chart
pub record IsDiagram (known old new : Option (List ℕ)) : Type 0 where
  pub chart : Chart
  pub shown : IsChartOf known chart
  pub text : Appends old new (diagram_text chart)
