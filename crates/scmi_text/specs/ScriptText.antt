-- The scripts of agents that a text encodes.
use Rattle.std.specs.Prelude.{ℕ, ◌++◌, if◌then◌else◌, List, [], ◌∷◌, map, nat_eq, Option, Some, None, Result}
use Rattle.std.specs.List.{list_any}
use Rattle.scmi_board.specs.Items.{◌>>=◌, ItemsView, first_item, first_number, items_left, no_item}
use Rattle.scmi_board.specs.Lines.{LinesView, lines_left}
use Rattle.scmi_link.specs.declared.order.Order.{Order}
use Rattle.scmi_link.specs.declared.order.Order.TheVariants as order
use Rattle.scmi_link.specs.declared.script.Script.{Script}
use Rattle.scmi_text.specs.Fields.{first_agent, first_message, payload_left}
use Rattle.scmi_text.specs.TextLines.{after_lines}
use Rattle.scmi_text.specs.WordRow.{form_in}
use Rattle.scmi_text.specs.declared.order_form.OrderForm.{OrderForm}
use Rattle.scmi_text.specs.declared.order_form.OrderForm.TheVariants as form
use Rattle.scmi_text.specs.declared.order_form.ScriptForm.{ScriptForm}
use Rattle.scmi_text.specs.declared.order_form.ScriptForm.TheVariants as script
use Rattle.scmi_text.specs.declared.order_form.TheConstants.{SCRIPT_FORMS}
use Rattle.scmi_text.specs.declared.word_row.WordRow.{WordRow}

-- the orders of one agent
pub record AgentScript : Type 0 where
  pub agent : ℕ
  pub orders : List Order

-- a script as the program has it
abbrev pub script_of : Script → AgentScript
script_of script = record { agent = script.agent; orders = script.lines.items }

-- scripts as the program has them
abbrev pub scripts_of : List Script → List AgentScript
scripts_of scripts = map script_of scripts

-- an order of this form: P M W.., D S, K, or nothing more
unfoldable pub order_at : OrderForm → ItemsView → Option Order
order_at form.Call view = do
  ids ← first_message view
  words ← payload_left ids.1
  Some (order.Call ids.0.0 ids.0.1 (record { items = words }))
order_at form.Until view = do
  domain ← first_number 32 view
  state ← first_number 32 domain.1
  end ← no_item state.1
  Some (order.Until domain.0 state.0)
order_at form.P2a view = do
  count ← first_number 32 view
  end ← no_item count.1
  Some (order.P2a count.0)
order_at form.Close view = do
  end ← no_item view
  Some order.Close

-- the agent whose script a line begins, from 1 to `agents`
unfoldable pub agent_at : ℕ → ItemsView → Option ℕ
agent_at agents view = do
  agent ← first_agent agents view
  end ← no_item agent.1
  Some agent.0

-- one more script, of an agent that has none, and no order in it yet
unfoldable pub with_script : List AgentScript → ℕ → Option (List AgentScript)
with_script scripts agent =
    if list_any (nat_eq agent) (map (λ script. script.agent) scripts) then None
    else Some (scripts ++ record { agent = agent; orders = [] } ∷ [])

-- one more order in the last script; none where there is no script
unfoldable pub with_order : List AgentScript → Order → Option (List AgentScript)
with_order [] order = None
with_order (script ∷ []) order =
    Some (record { agent = script.agent; orders = script.orders ++ order ∷ [] } ∷ [])
with_order (script ∷ next ∷ scripts) order = do
  later ← with_order (next ∷ scripts) order
  Some (script ∷ later)

-- the scripts with what follows the first word of a line
unfoldable pub with_form : ℕ → List AgentScript → ScriptForm → ItemsView → Option (List AgentScript)
with_form agents scripts script.Script view =
    agent_at agents view >>= λ agent. with_script scripts agent
with_form agents scripts (script.Order form) view =
    order_at form view >>= λ order. with_order scripts order

-- the forms of the lines of scripts, by their first words
abbrev pub script_forms : List (WordRow (List ℕ) ScriptForm)
script_forms = map (λ row. record { word = row.word.now; form = row.form }) SCRIPT_FORMS

-- the scripts with a line; none where no script on a board with this number of agents has such a
-- line
unfoldable pub with_line : ℕ → List AgentScript → List ℕ → Option (List AgentScript)
with_line agents scripts text = do
  word ← first_item (items_left text)
  form ← form_in word.0 script_forms
  with_form agents scripts form word.1

-- the scripts of the lines that are left, in the order of their first lines; else the number of the
-- first invalid line
abbrev pub scripts_left : ℕ → LinesView → Result (List AgentScript) ℕ
scripts_left agents lines = after_lines (with_line agents) [] (lines_left lines)
