-- What hardware reports, by names.
use Rattle.std.specs.Prelude.{ℕ, nat_eq, nat_le, Bool, if◌then◌else◌, List, [], ◌∷◌, Option, Some, None}
use Rattle.std.specs.Option.{option_map}
use Rattle.scmi_board.specs.Items.{◌>>=◌}
use Rattle.scmi_board.specs.Number.{number_of}
use Rattle.scmi_codec.specs.declared.messages.Part.TheVariants as part
use Rattle.scmi_plan.specs.Board.{Board}
use Rattle.scmi_plan.specs.declared.effect.Effect.{Effect}
use Rattle.scmi_plan.specs.declared.effect.Effect.TheVariants.{State, Rate, Enabled}
use Rattle.scmi_plan.specs.declared.report.Report.{Report}
use Rattle.scmi_plan.specs.declared.report.Report.TheVariants.{Changed, First, Settled}
use Rattle.scmi_text.specs.StepText.{report_forms}
use Rattle.scmi_text.specs.WordRow.{form_in}
use Rattle.scmi_text.specs.declared.step_form.ReportForm.{ReportForm}
use Rattle.scmi_text.specs.declared.step_form.ReportForm.TheVariants as report
use Rattle.scmi_live.specs.Payload.{word_meant}
use Rattle.scmi_live.specs.Rates.{rate_meant}

-- a word that is 0 or 1
abbrev pub flag_of : ℕ → Option Bool
flag_of word = if nat_le word 1 then Some (nat_eq word 1) else None

-- a power domain, and its state
abbrev pub state_of : Board → List (List ℕ) → Option Effect
state_of board (domain ∷ state ∷ []) =
    word_meant board 0x11 part.Domain domain >>= λ d. option_map (λ word. State d word)
    (word_meant board 0x11 part.State state)
state_of board items = None

-- a clock, and its rate
abbrev pub clock_rate_of : Board → List (List ℕ) → Option (ℕ × ℕ)
clock_rate_of board (clock ∷ rate ∷ []) = word_meant board 0x14 part.Clock clock
    >>= λ c. option_map (λ hertz. (c, hertz)) (rate_meant rate)
clock_rate_of board items = None

-- a clock, and whether it is on
abbrev pub enabled_of : Board → List (List ℕ) → Option Effect
enabled_of board (clock ∷ enabled ∷ []) =
    word_meant board 0x14 part.Clock clock >>= λ c. word_meant board 0x14 part.Enable enabled
    >>= λ word. option_map (λ on. Enabled c on) (flag_of word)
enabled_of board items = None

-- the place of a pending set
abbrev pub place_of : List (List ℕ) → Option ℕ
place_of (place ∷ []) = number_of 32 place
place_of items = None

-- what hardware reports, by its form and the items after its word
abbrev pub report_by : Board → ReportForm → List (List ℕ) → Option Report
report_by board report.State items = option_map (λ effect. Changed effect) (state_of board items)
report_by board report.Rate items =
    option_map (λ found. Changed (Rate found.0 found.1)) (clock_rate_of board items)
report_by board report.Enabled items =
    option_map (λ effect. Changed effect) (enabled_of board items)
report_by board report.First items = option_map (λ place. First place) (place_of items)
report_by board report.Settled items =
    option_map (λ found. Settled found.0 found.1) (clock_rate_of board items)

-- what the items after the word `report` encode
abbrev pub report_meant : Board → List (List ℕ) → Option Report
report_meant board [] = None
report_meant board (word ∷ items) = form_in word report_forms >>= λ form. report_by board form items
