-- The lines of a text are of its board, and leave what other lines are of.
use Rattle.std.proofs.Common.{◌≡◌, ℕ, ◌-◌, ◌/◌, ◌≤◌, ◌&&◌, ◌%◌, ◌==◌, Bool, true, false, List, [], ◌∷◌, length, Option, Some, None, Result, Ok, Err, IfSome, IfOk, refl, sym, subst, arith, if◌then◌else◌, nat_le, nat_lt}
use Rattle.std.specs.List.{All}
use Rattle.std.specs.Str.{bytes_eq}
use Rattle.std.proofs.Math.Pow.{pow-lt}
use Rattle.std.proofs.lemmas.Bool.{and_parts, leb-true, ltb-true}
use Rattle.std.proofs.lemmas.List.Elements.{All-nil, All-push}
use Rattle.scmi_codec.specs.ChannelArea.{is_channel_size}
use Rattle.scmi_plan.specs.Agent.{IsAgent}
use Rattle.scmi_plan.specs.Board.{Board, IsChannel, IsOnBoard}
use Rattle.scmi_plan.specs.declared.limits.TheConstants.{DEVICES, PENDING_SETS, PROTOCOLS}
use Rattle.scmi_plan.specs.PlanError.{rises}
use Rattle.scmi_plan.specs.Protocols.{AreProtocols, are_above_base}
use Rattle.scmi_plan.specs.declared.resource.Resource.TheVariants as resource
use Rattle.scmi_board.specs.BoardText.{behind_heading, heading_left, lines_by}
use Rattle.scmi_board.specs.BoardLines.{Described, IsLineOf, described_left, first_channel, first_denied, first_free, first_options, first_pending, first_protocols, first_resource, first_scope, first_share, last_agent, with_absent_line, with_board_line, with_board_row, with_channel_line, with_deny_line, with_free_line, with_id, with_keep_line, with_line, with_lines, with_protocols_line}
use Rattle.scmi_board.specs.Items.{◌>>=◌, ItemsView, first_item, first_number, items_left, no_item}
use Rattle.scmi_board.specs.Lines.{Line, LinesView, last_number}
use Rattle.scmi_board.specs.ProtocolRow.{ids_in, row_of}
use Rattle.scmi_board.specs.Rows.{after_each, parts_of, with_row}
use Rattle.scmi_board.specs.declared.board_line.BoardLine.{BoardLine}
use Rattle.scmi_board.specs.declared.board_line.BoardLine.TheVariants as said
use Rattle.scmi_board.specs.declared.words.TheConstants.{ABSENT, CHANNEL, CLOCK, DENY, DOMAIN, FREE, KEEP, ONE_WAY, PENDING}
use Rattle.scmi_board.specs.declared.words.TheConstants as words

-- each line is one of the board
abbrev IsGood : Described → Type 0
IsGood said = All (IsLineOf said.0) said.1

-- what holds of all that a step can make
bound : {A B : Type 0} (o : Option A) (f : A → Option B) (Q : A → Type 0) (P : B → Type 0)
    → IfSome o Q → ((x : A) → Q x → IfSome (f x) P) → IfSome (o >>= f) P
bound None f Q P q all = tt
bound (Some x) f Q P q all = all x q

each : {A B : Type 0} (o : Option A) (f : A → Option B) (P : B → Type 0)
    → ((x : A) → IfSome (f x) P) → IfSome (o >>= f) P
each None f P all = tt
each (Some x) f P all = all x

if-so : {B : Type 0} (b : Bool) (x : Option B) (P : B → Type 0) → (b ≡ true → IfSome x P)
    → IfSome (if b then x else None) P
if-so true x P p = p refl
if-so false x P p = tt

if-else : {B : Type 0} (b : Bool) (x y : Option B) (P : B → Type 0) → (b ≡ true → IfSome x P)
    → IfSome y P → IfSome (if b then x else y) P
if-else true x y P p q = p refl
if-else false x y P p q = q

either : {B : Type 0} (b : Bool) (x y : Option B) (P : B → Type 0) → IfSome x P → IfSome y P
    → IfSome (if b then x else y) P
either true x y P p q = p
either false x y P p q = q

-- what follows if nothing is left, or by what is
or-end : {U B : Type 0} (end : Option U) (x y : Option B) (P : B → Type 0) → IfSome x P → IfSome y P
    → IfSome (elim end [ Some u ↦ x | None ↦ y ]) P
or-end (Some u) x y P p q = p
or-end None x y P p q = q

-- the pending sets that may be an agent's
abbrev IsShare : ℕ → Type 0
IsShare share = (1 ≤ share) × (share ≤ PENDING_SETS)

share-is : (view : ItemsView) → IfSome (first_share view) (λ found. IsShare found.0)
unfolding first_share
share-is view =
    each (first_number 32 view) _ _
    (λ share. if-so (nat_le 1 share.0 && nat_le share.0 PENDING_SETS) _ _ (λ is.
    let parts = and_parts (nat_le 1 share.0) (nat_le share.0 PENDING_SETS) is in
    (leb-true 1 share.0 parts.0, leb-true share.0 PENDING_SETS parts.1)))

pending-is : (view : ItemsView) → IfSome (first_pending view) (λ found. IsShare found.0)
unfolding first_pending
pending-is view =
    or-end (no_item view) _ _ _ (omega arith, omega arith) (each (first_item view) _ _ (λ item.
    if-so (bytes_eq item.0 PENDING.now) _ _ (λ is. share-is item.1)))

options-are : (view : ItemsView) → IfSome (first_options view) (λ found. IsShare found.0.1)
unfolding first_options
options-are view =
    or-end (no_item view) _ _ _ (omega arith, omega arith) (each (first_item view) _ _ (λ item.
    either (bytes_eq item.0 ONE_WAY.now) _ _ _
    (bound (first_pending item.1) _ _ _ (pending-is item.1) (λ share is. is))
    (if-so (bytes_eq item.0 PENDING.now) _ _
    (λ same. bound (first_share item.1) _ _ _ (share-is item.1) (λ share is. is)))))

-- the size of an area gives the words of a channel
size-words : (n share : ℕ) (one_way : Bool) → is_channel_size n ≡ true → IsShare share
    → IsChannel (record { words = (n - 0x1C) / 4; one_way = one_way; share = share })
size-words n share one_way is share-is =
    let parts = and_parts (nat_le 60 n) (nat_le n 284 && (n % 4 == 0)) is in
    let least = leb-true 60 n parts.0 in
    let most = leb-true n 284 (and_parts (nat_le n 284) (n % 4 == 0) parts.1).0 in
    (omega (arith, least), omega (arith, most), share-is.0, share-is.1)

channel-is : (view : ItemsView) → IfSome (first_channel view) (λ found. IsChannel found.0.channel)
unfolding first_channel
channel-is view =
    each (first_number 32 view) _ _ (λ agent. each (first_number 32 agent.1) _ _
    (λ bytes. bound (first_options bytes.1) _ _ _ (options-are bytes.1) (λ options share.
    if-so (is_channel_size bytes.0) _ _
    (λ is. size-words bytes.0 options.0.1 options.0.0 is share))))

resource-is : (board : Board) (view : ItemsView)
    → IfSome (first_resource board view) (λ found. IsOnBoard board found.0)
unfolding first_resource
resource-is board view =
    each (first_item view) _ _ (λ word. each (first_number 32 word.1) _ _ (λ number.
    if-else (bytes_eq word.0 DOMAIN.now && nat_lt number.0 (length board.domains)) _ _ _
    (λ is. ltb-true number.0 (length board.domains)
    (and_parts (bytes_eq word.0 DOMAIN.now) (nat_lt number.0 (length board.domains)) is).1)
    (if-so (bytes_eq word.0 CLOCK.now && nat_lt number.0 (length board.clocks)) _ _
    (λ is. ltb-true number.0 (length board.clocks)
    (and_parts (bytes_eq word.0 CLOCK.now) (nat_lt number.0 (length board.clocks)) is).1))))

free-is : (board : Board) (view : ItemsView)
    → IfSome (first_free board view) (λ found. IsLineOf board (said.Free found.0))
unfolding first_free
free-is board view =
    each (first_item view) _ _ (λ word. each (first_number 32 word.1) _ _ (λ number.
    if-so (bytes_eq word.0 CLOCK.now && nat_lt number.0 (length board.clocks)) _ _
    (λ is. ltb-true number.0 (length board.clocks)
    (and_parts (bytes_eq word.0 CLOCK.now) (nat_lt number.0 (length board.clocks)) is).1)))

protocols-are : (view : ItemsView)
    → IfSome (first_protocols view) (λ found. AreProtocols (ids_in found.0))
unfolding first_protocols
protocols-are view =
    each (first_item view) _ _ (λ item. each (after_each with_id [] (parts_of item.0)) _ _ (λ all.
    let ids = ids_in (row_of all) in
    if-so (nat_le (length ids) PROTOCOLS && rises ids && are_above_base ids) _ _ (λ is.
    let both = and_parts (nat_le (length ids) PROTOCOLS && rises ids) (are_above_base ids) is in
    let first = and_parts (nat_le (length ids) PROTOCOLS) (rises ids) both.0 in
    (leb-true (length ids) PROTOCOLS first.0, first.1, both.1))))

denied-is : (board : Board) (view : ItemsView)
    → IfSome (first_denied board view) (λ found. IsLineOf board (said.Deny found.0))
unfolding first_denied
denied-is board view =
    each (first_number 32 view) _ _ (λ agent. each (first_number 32 agent.1) _ _
    (λ device. each (first_scope device.1) _ _ (λ scope.
    if-so ((nat_le 1 agent.0 && nat_le agent.0 (length board.agents))
    && (nat_lt device.0 DEVICES && nat_lt device.0 (length board.devices))) _ _ (λ is.
    let parts = and_parts (nat_le 1 agent.0 && nat_le agent.0 (length board.agents))
    (nat_lt device.0 DEVICES && nat_lt device.0 (length board.devices)) is in
    let agents = and_parts (nat_le 1 agent.0) (nat_le agent.0 (length board.agents)) parts.0 in
    let devices =
    and_parts (nat_lt device.0 DEVICES) (nat_lt device.0 (length board.devices)) parts.1 in (
      (leb-true 1 agent.0 agents.0, leb-true agent.0 (length board.agents) agents.1),
      pow-lt (ltb-true device.0 (length board.devices) devices.1),
    )))))

-- an agent after another is one of the board
agent-is : (last agent agents : ℕ) → nat_lt last agent && nat_le agent agents ≡ true
    → IsAgent agents agent
agent-is last agent agents is =
    let parts = and_parts (nat_lt last agent) (nat_le agent agents) is in
    let above = ltb-true last agent parts.0 in
    (omega (arith, above), leb-true agent agents parts.1)

channel-good : (so_far : Described) (view : ItemsView) → IsGood so_far
    → IfSome (with_channel_line so_far view) IsGood
unfolding with_channel_line
channel-good so_far view good =
    bound (first_channel view) _ _ _ (channel-is view)
    (λ found channel. each (no_item found.1) _ _ (λ end.
    if-so (nat_lt (last_agent so_far.1) found.0.agent
    && nat_le found.0.agent (length so_far.0.agents)) _ _ (λ is.
    All-push (IsLineOf so_far.0) so_far.1 (said.Channel found.0) good
    (agent-is (last_agent so_far.1) found.0.agent (length so_far.0.agents) is, channel))))

keep-good : (so_far : Described) (view : ItemsView) → IsGood so_far
    → IfSome (with_keep_line so_far view) IsGood
unfolding with_keep_line
keep-good so_far view good =
    bound (first_resource so_far.0 view) _ _ _ (resource-is so_far.0 view)
    (λ found is. each (no_item found.1) _ _ (λ end.
    All-push (IsLineOf so_far.0) so_far.1 (said.Keep found.0) good is))

deny-good : (so_far : Described) (view : ItemsView) → IsGood so_far
    → IfSome (with_deny_line so_far view) IsGood
unfolding with_deny_line
deny-good so_far view good =
    bound (first_denied so_far.0 view) _ _ _ (denied-is so_far.0 view)
    (λ found is. each (no_item found.1) _ _ (λ end.
    All-push (IsLineOf so_far.0) so_far.1 (said.Deny found.0) good is))

absent-good : (so_far : Described) (view : ItemsView) → IsGood so_far
    → IfSome (with_absent_line so_far view) IsGood
unfolding with_absent_line
absent-good so_far view good =
    bound (first_resource so_far.0 view) _ _ _ (resource-is so_far.0 view)
    (λ found is. each (no_item found.1) _ _ (λ end.
    All-push (IsLineOf so_far.0) so_far.1 (said.Absent found.0) good is))

free-good : (so_far : Described) (view : ItemsView) → IsGood so_far
    → IfSome (with_free_line so_far view) IsGood
unfolding with_free_line
free-good so_far view good =
    bound (first_free so_far.0 view) _ _ _ (free-is so_far.0 view)
    (λ found is. each (no_item found.1) _ _ (λ end.
    All-push (IsLineOf so_far.0) so_far.1 (said.Free found.0) good is))

protocols-good : (so_far : Described) (view : ItemsView) → IsGood so_far
    → IfSome (with_protocols_line so_far view) IsGood
unfolding with_protocols_line
protocols-good so_far view good =
    bound (first_protocols view) _ _ _ (protocols-are view)
    (λ found are. each (no_item found.1) _ _ (λ end.
    All-push (IsLineOf so_far.0) so_far.1 (said.Protocols found.0) good are))

row-good : (so_far : Described) (text : List ℕ) → IfSome (with_board_row so_far text) IsGood
unfolding with_board_row
row-good so_far text = by so_far.1 where
  by : (lines : List BoardLine) → IfSome (elim lines
      [ [] ↦ (with_row so_far.0 text >>= λ board. Some (board, [])) | line ∷ lines ↦ None ]) IsGood
  by [] = each (with_row so_far.0 text) _ _ (λ board. All-nil (IsLineOf board))
  by (line ∷ lines) = tt

step-good : (so_far : Described) (text : List ℕ) → IsGood so_far
    → IfSome (with_line so_far text) IsGood
unfolding with_line
step-good so_far text good =
    each (first_item (items_left text)) _ _ (λ word.
    either (bytes_eq word.0 CHANNEL.now) _ _ _ (channel-good so_far word.1 good)
    (either (bytes_eq word.0 KEEP.now) _ _ _ (keep-good so_far word.1 good)
    (either (bytes_eq word.0 DENY.now) _ _ _ (deny-good so_far word.1 good)
    (either (bytes_eq word.0 ABSENT.now) _ _ _ (absent-good so_far word.1 good)
    (either (bytes_eq word.0 FREE.now) _ _ _ (free-good so_far word.1 good)
    (either (bytes_eq word.0 words.PROTOCOLS.now) _ _ _ (protocols-good so_far word.1 good)
    (row-good so_far text)))))))

lines-good : (last : ℕ) (so_far : Described) (lines : List Line) → IsGood so_far
    → IfOk (lines_by with_line last so_far lines) (λ found. IsGood found.0)
unfolding lines_by
lines-good last so_far [] good = tt
lines-good last so_far (line ∷ lines) good = by _ (with_line so_far line.text)
    (step-good so_far line.text good) (λ more goods. lines-good last more lines goods) where
      by : (b : Bool) (made : Option Described) → IfSome made IsGood
          → ((more : Described) → IsGood more
          → IfOk (lines_by with_line last more lines) (λ found. IsGood found.0))
          → IfOk (if b then Ok (so_far, lines) else elim made [
            | None ↦ Err line.number
            | Some more ↦
                lines_by with_line last more lines
          ]) (λ found. IsGood found.0)
      by true made goods others = good
      by false None goods others = tt
      by false (Some more) goods others = others more goods

behind-good : (last : ℕ) (heading : Result (Board × List Line) ℕ)
    → IfOk (behind_heading (λ board. (board, [])) with_line last heading) (λ found. IsGood found.0)
behind-good last (Err number) = tt
behind-good last (Ok found) = lines-good last (found.0, []) found.1 (All-nil (IsLineOf found.0))

-- the lines of a text that is a board's
pub lines-said : (lines : LinesView) (said : Described) (rest : List Line)
    → described_left lines ≡ Ok (said, rest) → All (IsLineOf said.0) said.1
lines-said lines said rest is = subst (λ (r : Result (Described × List Line) ℕ). IfOk r
    (λ found. IsGood found.0)) is (behind-good (last_number lines) (heading_left lines))

-- boards of the same rows
record HasRowsOf (a b : Board) : Type 0 where
  agents : a.agents ≡ b.agents
  domains : a.domains ≡ b.domains
  clocks : a.clocks ≡ b.clocks
  devices : a.devices ≡ b.devices

same-rows : (board : Board) (line : BoardLine) → HasRowsOf board (with_board_line board line)
same-rows board (said.Channel line) =
    record { agents = refl; domains = refl; clocks = refl; devices = refl }
same-rows board (said.Keep kept) =
    record { agents = refl; domains = refl; clocks = refl; devices = refl }
same-rows board (said.Deny line) =
    record { agents = refl; domains = refl; clocks = refl; devices = refl }
same-rows board (said.Absent absent) =
    record { agents = refl; domains = refl; clocks = refl; devices = refl }
same-rows board (said.Free c) =
    record { agents = refl; domains = refl; clocks = refl; devices = refl }
same-rows board (said.Protocols ids) =
    record { agents = refl; domains = refl; clocks = refl; devices = refl }

of-same-rows : (a b : Board) (line : BoardLine) → HasRowsOf a b → IsLineOf a line → IsLineOf b line
of-same-rows a b (said.Channel line) same is = (rw (sym same.agents) is.0, is.1)
of-same-rows a b (said.Keep (resource.Domain d)) same is = rw (sym same.domains) is
of-same-rows a b (said.Keep (resource.Clock c)) same is = rw (sym same.clocks) is
of-same-rows a b (said.Deny line) same is = (rw (sym same.agents) is.0, rw (sym same.devices) is.1)
of-same-rows a b (said.Absent (resource.Domain d)) same is = rw (sym same.domains) is
of-same-rows a b (said.Absent (resource.Clock c)) same is = rw (sym same.clocks) is
of-same-rows a b (said.Free c) same is = rw (sym same.clocks) is
of-same-rows a b (said.Protocols ids) same is = is

-- a line of a board is one too of the board with what other lines say of it
pub still-line : (board : Board) (lines : List BoardLine) (line : BoardLine) → IsLineOf board line
    → IsLineOf (with_lines board lines) line
still-line board [] line is = is
still-line board (first ∷ lines) line is =
    still-line (with_board_line board first) lines line
    (of-same-rows board (with_board_line board first) line (same-rows board first) is)
