-- Texts and what they encode, computed.
use Rattle.std.proofs.Common.{◌≡◌, ℕ, true, false, List, [], ◌∷◌, Some, None, refl, replicate}
use Rattle.std.specs.Prelude.{codes}
use Rattle.scmi_plan.specs.Board.{Board, nothing_denied, nothing_held, own_protocols, whole_channel}
use Rattle.scmi_plan.specs.Rates as rates
use Rattle.scmi_plan.specs.declared.clock.Clock.{Clock}
use Rattle.scmi_plan.specs.declared.resource.Resource.TheVariants as resource
use Rattle.scmi_plan.specs.declared.scope.Scope.TheVariants as scope
use Rattle.scmi_board.specs.BoardLines.{first_protocols, with_id, with_protocols_line, first_channel, first_denied, first_free, first_options, first_pending, first_resource, first_scope, first_share, with_absent_line, with_board_row, with_channel_line, with_deny_line, with_free_line, with_keep_line, with_line}
use Rattle.scmi_board.specs.Items.{behind_spaces, first_number, item_at, items_left, items_of, items_up_to}
use Rattle.scmi_board.specs.Lines.{lines_of}
use Rattle.scmi_board.specs.Number.{number_of}
use Rattle.scmi_board.specs.declared.board_line.BoardLine.TheVariants as said
use Rattle.scmi_board.specs.declared.channel_line.ChannelLine.{ChannelLine}

hexadecimal : number_of 32 (codes "0xFf") ≡ Some 255
unfolding number_of
hexadecimal = refl

too_large : number_of 8 (codes "256") ≡ None
unfolding number_of
too_large = refl

signed : number_of 8 (codes "+1") ≡ None
unfolding number_of
signed = refl

led_by_zero : number_of 8 (codes "01") ≡ None
unfolding number_of
led_by_zero = refl

spaced : items_of (codes "agent   ap") ≡ Some (codes "agent" ∷ codes "ap" ∷ [])
unfolding behind_spaces item_at items_up_to
spaced = refl

ends_in_a_space : items_of (codes "agent ") ≡ None
unfolding behind_spaces item_at items_up_to
ends_in_a_space = refl

last_line_ends : lines_of (codes "a\n\nb\n") ≡ codes "a" ∷ [] ∷ codes "b" ∷ []
unfolding lines_of
last_line_ends = refl

last_line_lacks_its_end : lines_of (codes "a\nb") ≡ codes "a" ∷ codes "b" ∷ []
unfolding lines_of
last_line_lacks_its_end = refl

one_way_channel
    : first_channel (items_left (codes "2 128 one-way"))
    ≡ Some (
      record { agent = 2; channel = record { words = 25; one_way = true; share = 8 } },
      record { items = []; whole = true },
    )
unfolding behind_spaces item_at items_up_to first_channel first_number first_options first_pending number_of
one_way_channel = refl

channel_of_a_share
    : first_channel (items_left (codes "1 60 pending 3"))
    ≡ Some (
      record { agent = 1; channel = record { words = 8; one_way = false; share = 3 } },
      record { items = []; whole = true },
    )
unfolding behind_spaces item_at items_up_to first_channel first_number first_options first_share number_of
channel_of_a_share = refl

one_way_channel_of_a_share
    : first_channel (items_left (codes "1 60 one-way pending 8"))
    ≡ Some (
      record { agent = 1; channel = record { words = 8; one_way = true; share = 8 } },
      record { items = []; whole = true },
    )
unfolding behind_spaces item_at items_up_to first_channel first_number first_options first_pending first_share number_of
one_way_channel_of_a_share = refl

channel_of_no_share : first_channel (items_left (codes "1 60 pending 0")) ≡ None
unfolding behind_spaces item_at items_up_to first_channel first_number first_options first_share number_of
channel_of_no_share = refl

channel_of_9_sets : first_channel (items_left (codes "1 60 pending 9")) ≡ None
unfolding behind_spaces item_at items_up_to first_channel first_number first_options first_share number_of
channel_of_9_sets = refl

channel_of_odd_bytes : first_channel (items_left (codes "2 126")) ≡ None
unfolding behind_spaces item_at items_up_to first_channel first_number first_options number_of
channel_of_odd_bytes = refl

channel_of_56_bytes : first_channel (items_left (codes "2 56")) ≡ None
unfolding behind_spaces item_at items_up_to first_channel first_number first_options number_of
channel_of_56_bytes = refl

-- a board of 2 agents, 2 devices, 1 domain and 2 clocks
abbrev small : Board
small =
    record {
      vendor = codes "v";
      sub_vendor = codes "s";
      version = 1;
      trusted = 1;
      agents = codes "ap" ∷ codes "scp" ∷ [];
      domains = record {
        name = codes "d0";
        on = true;
        synchronous = true;
        asynchronous = false;
        notify = false;
      } ∷ [];
      clocks = clock (codes "c0") ∷ clock (codes "c1") ∷ [];
      devices = record { domains = 1; clocks = 1 } ∷ record { domains = 0; clocks = 2 } ∷ [];
      channels = replicate 8 whole_channel;
      kept = nothing_held;
      denied = nothing_denied;
      absent = nothing_held;
      free = 0;
      protocols = own_protocols;
      loose = false;
    }
  where
    clock : List ℕ → Clock
    clock name = record { name = name; enabled = true; rate = 5; rates = rates.list (5 ∷ []) }

kept_clock : with_line (small, []) (codes "keep clock 1")
    ≡ Some (small, said.Keep (resource.Clock 1) ∷ [])
unfolding behind_spaces item_at items_up_to first_number first_resource number_of with_keep_line with_line
kept_clock = refl

kept_domain_of_no_row : with_line (small, []) (codes "keep domain 1") ≡ None
unfolding behind_spaces item_at items_up_to first_number first_resource number_of with_keep_line with_line
kept_domain_of_no_row = refl

denied_device
    : with_line (small, []) (codes "deny 2 1")
    ≡ Some (small, said.Deny (record { agent = 2; devices = 2; scope = scope.Device }) ∷ [])
unfolding behind_spaces item_at items_up_to first_denied first_number first_scope number_of with_deny_line with_line
denied_device = refl

denied_protocol
    : with_line (small, []) (codes "deny 1 0 0x14")
    ≡ Some (small, said.Deny (record { agent = 1; devices = 1; scope = scope.Clock }) ∷ [])
unfolding behind_spaces item_at items_up_to first_denied first_number first_scope number_of with_deny_line with_line
denied_protocol = refl

denied_base_protocol : with_line (small, []) (codes "deny 1 0 0x10") ≡ None
unfolding behind_spaces item_at items_up_to first_denied first_number first_scope number_of with_deny_line with_line
denied_base_protocol = refl

denied_device_of_no_row : with_line (small, []) (codes "deny 1 2") ≡ None
unfolding behind_spaces item_at items_up_to first_denied first_number first_scope number_of with_deny_line with_line
denied_device_of_no_row = refl

absent_clock : with_line (small, []) (codes "absent clock 1")
    ≡ Some (small, said.Absent (resource.Clock 1) ∷ [])
unfolding behind_spaces item_at items_up_to first_number first_resource number_of with_absent_line with_line
absent_clock = refl

absent_domain : with_line (small, []) (codes "absent domain 0")
    ≡ Some (small, said.Absent (resource.Domain 0) ∷ [])
unfolding behind_spaces item_at items_up_to first_number first_resource number_of with_absent_line with_line
absent_domain = refl

absent_domain_of_no_row : with_line (small, []) (codes "absent domain 1") ≡ None
unfolding behind_spaces item_at items_up_to first_number first_resource number_of with_absent_line with_line
absent_domain_of_no_row = refl

free_clock : with_line (small, []) (codes "free clock 1") ≡ Some (small, said.Free 1 ∷ [])
unfolding behind_spaces item_at items_up_to first_free first_number number_of with_free_line with_line
free_clock = refl

free_clock_twice : with_line (small, said.Free 1 ∷ []) (codes "free clock 1")
    ≡ Some (small, said.Free 1 ∷ said.Free 1 ∷ [])
unfolding behind_spaces item_at items_up_to first_free first_number number_of with_free_line with_line
free_clock_twice = refl

free_clock_of_no_row : with_line (small, []) (codes "free clock 2") ≡ None
unfolding behind_spaces item_at items_up_to first_free first_number number_of with_free_line with_line
free_clock_of_no_row = refl

free_domain : with_line (small, []) (codes "free domain 0") ≡ None
unfolding behind_spaces item_at items_up_to first_free first_number number_of with_free_line with_line
free_domain = refl

some_protocols : with_line (small, []) (codes "protocols 0x11,0x15,200")
    ≡ Some (small, said.Protocols (0x11 ∷ 0x15 ∷ 200 ∷ replicate 13 0) ∷ [])
unfolding behind_spaces item_at items_up_to first_protocols number_of with_id with_protocols_line with_line
some_protocols = refl

protocols_that_fall : with_line (small, []) (codes "protocols 0x14,0x11") ≡ None
unfolding behind_spaces item_at items_up_to first_protocols number_of with_id with_protocols_line with_line
protocols_that_fall = refl

no_protocol : with_line (small, []) (codes "protocols 0x11,0") ≡ None
unfolding behind_spaces item_at items_up_to first_protocols number_of with_id with_protocols_line with_line
no_protocol = refl

the_base_protocol : with_line (small, []) (codes "protocols 0x10,0x11") ≡ None
unfolding behind_spaces item_at items_up_to first_protocols number_of with_id with_protocols_line with_line
the_base_protocol = refl

absent_clock_behind_a_free_one
    : with_line (small, said.Free 1 ∷ []) (codes "absent clock 0")
    ≡ Some (small, said.Free 1 ∷ said.Absent (resource.Clock 0) ∷ [])
unfolding behind_spaces item_at items_up_to first_number first_resource number_of with_absent_line with_line
absent_clock_behind_a_free_one = refl

row_behind_a_line : with_line (small, said.Keep (resource.Clock 1) ∷ []) (codes "agent mcp") ≡ None
unfolding behind_spaces item_at items_up_to with_board_row with_line
row_behind_a_line = refl

abbrev whole_line : ChannelLine
whole_line = record { agent = 1; channel = whole_channel }

channel_behind_other_lines
    : with_line (
      small,
      said.Channel whole_line ∷ said.Keep (resource.Clock 1)
          ∷ said.Absent (resource.Clock 0) ∷ said.Free 1 ∷ [],
    ) (codes "channel 1 60")
    ≡ None
unfolding behind_spaces item_at items_up_to first_channel first_number first_options number_of with_channel_line with_line
channel_behind_other_lines = refl

channel_behind_a_free_clock
    : with_line (small, said.Free 1 ∷ []) (codes "channel 1 60")
    ≡ Some (
      small,
      said.Free 1 ∷ said.Channel
          (record { agent = 1; channel = record { words = 8; one_way = false; share = 8 } }) ∷ [],
    )
unfolding behind_spaces item_at items_up_to first_channel first_number first_options number_of with_channel_line with_line
channel_behind_a_free_clock = refl
