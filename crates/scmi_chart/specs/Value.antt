-- Values in texts.
use Rattle.std.specs.Prelude.{ℕ, List, decimal}
use Rattle.scmi_chart.specs.Escape.{escaped_text}
use Rattle.scmi_chart.specs.Rate.{rate_text}
use Rattle.scmi_chart.specs.Words.{hex_text}
use Rattle.scmi_chart.specs.declared.value.Value.{Value}
use Rattle.scmi_chart.specs.declared.value.Value.TheVariants as value

-- a value
abbrev pub value_text : Value → List ℕ
value_text (value.Number n) = decimal n
value_text (value.Count n) = decimal n
value_text (value.Hex n) = hex_text n
value_text (value.Rate hertz) = rate_text hertz
value_text (value.Words words) = words.now
value_text (value.Outside text) = escaped_text text.now
