-- Texts of scripts in threads, and the scripts that they mean, computed.
use Rattle.std.proofs.Common.{◌≡◌, [], ◌∷◌, map, Ok, Err, refl}
use Rattle.std.specs.Prelude.{codes}
use Rattle.scmi_board.specs.Items.{behind_spaces, first_number, item_at, items_up_to}
use Rattle.scmi_board.specs.Lines.{lines_behind, lines_of}
use Rattle.scmi_board.specs.Number.{number_of}
use Rattle.scmi_link.specs.declared.order.Order.TheVariants.{Call, Until, P2a, Close}
use Rattle.scmi_text.specs.Fields.{first_agent, first_message, payload_behind, with_word}
use Rattle.scmi_text.specs.ScriptText.{agent_at, order_at, scripts_left, with_form, with_line, with_order, with_script}
use Rattle.scmi_text.specs.TextLines.{after_each_line}

-- a script of each of two agents, with each order
each_order : scripts_left 2 (record {
  rest =
      codes "script 2\ncall 0x11 4 1 0\nuntil 1 0x40000000\n\nscript 1\np2a 3\nclose\n";
  number = 1;
})
    ≡ Ok (record {
      agent = 2;
      orders = Call 0x11 4 (record { items = 1 ∷ 0 ∷ [] })
          ∷ Until 1 0x40000000 ∷ [];
    } ∷ record { agent = 1; orders = P2a 3 ∷ Close ∷ [] } ∷ [])
unfolding behind_spaces first_number item_at items_up_to number_of first_agent first_message payload_behind with_word agent_at order_at with_form with_line with_order with_script after_each_line lines_of lines_behind
each_order = refl

-- an order before the first script, a second script of an agent, one of an agent that the board
-- lacks, and an order of another form
first_faults : map (scripts_left 2) (
    record { rest = codes "close\nscript 1\n"; number = 1 } ∷ record {
      rest =
          codes "script 1\nscript 2\nscript 1\n";
      number = 1;
    } ∷ record {
      rest = codes "script 3\n";
      number = 1;
    } ∷ record { rest = codes "script 1\np2a\n"; number = 1 } ∷ [])
    ≡ Err 2 ∷ Err 4 ∷ Err 2 ∷ Err 3 ∷ []
unfolding behind_spaces first_number item_at items_up_to number_of first_agent first_message payload_behind with_word agent_at order_at with_form with_line with_order with_script after_each_line lines_of lines_behind
first_faults = refl
