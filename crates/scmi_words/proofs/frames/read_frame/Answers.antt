use Rattle.std.proofs.Common.{true, rules, arith, ◌≡◌, ℕ, ◌+◌, ◌*◌, ◌/◌, ◌-◌, length, get_or, sym, refl, ap, ◌∙◌, Some, None}
use Rattle.std.specs.List.{last_or}
use Rattle.scmi_codec.specs.Header.{header_word}
use Rattle.scmi_codec.specs.Area.{is_well_formed}
use Rattle.scmi_codec.specs.declared.frame.Frame.{Frame}
use Rattle.scmi_codec.specs.declared.frame.Frame.TheVariants.{Good}
use Rattle.scmi_words.specs.Area.{frame_words, taken_words, IsValid, IsValidMessage, frame_size}
use Rattle.scmi_words.specs.View.{TableSeat, CalleeBecomes, callee_of}
use Rattle.scmi_words.specs.CalleeSteps.{callee_after, frame_area}
use Rattle.scmi_words.proofs.Picks.{message_in}
use Rattle.scmi_words.proofs.FrameWords.{good_here, good_long, good_valid, well_formed_few, two_words}
use Rattle.scmi_words.proofs.Loads.{callee_is, callee_chain, callee_word_at}
use Rattle.scmi_words.proofs.frames.read_frame.Goals as goal
use Rattle.scmi_words.proofs.frames.read_frame.Goals.{After-is_well_formed}

area : (g : _) (c : After-is_well_formed g)
    → frame_area (callee_of c.args.seat.now) ≡ frame_words g.posted
area g c =
    let last : last_or None (callee_of c.args.seat.now).state.taken ≡ Some g.posted =
    search rules in
    ap taken_words last

now : (g : _) (c : After-is_well_formed g) → callee_of c.load_frame_word-header.new.seat
    ≡ callee_after (callee_after (callee_of c.args.seat.now) 1) 1
now g c = let h = callee_of c.args.seat.now in
    callee_is c.load_frame_word-length.new.seat c.load_frame_word-header.new.seat (callee_after
    (callee_of c.load_frame_word-length.new.seat) 1) c.load_frame_word-header.ensures.view
    ∙ ap (λ z. callee_after z 1) (callee_is c.args.seat.now c.load_frame_word-length.new.seat
    (callee_after h 1) c.load_frame_word-length.ensures.view)

first : (g : _) (c : After-is_well_formed g)
    → c.load_frame_word-length.result ≡ get_or (frame_words g.posted) 0 0
first g c =
    let two = two_words g.posted in
    callee_word_at c.args.seat.now (callee_of c.args.seat.now) (frame_words g.posted) _ 2 0 refl
    (area g c) c.load_frame_word-length.ensures.value (omega arith) (omega arith)

second : (g : _) (c : After-is_well_formed g)
    → c.load_frame_word-header.result ≡ get_or (frame_words g.posted) 1 0
second g c = let h = callee_of c.args.seat.now in let two = two_words g.posted in
    callee_word_at c.load_frame_word-length.new.seat (callee_after h 1)
    (frame_words g.posted) _ 3 1 (callee_is c.args.seat.now c.load_frame_word-length.new.seat
    (callee_after h 1) c.load_frame_word-length.ensures.view)
    (area g c) c.load_frame_word-header.ensures.value (omega arith) (omega arith)

valid : (g : _) (c : After-is_well_formed g) → IsValid g.posted
valid g c = search rules

-- the frame is a good one, where its length is well formed
good : (g : _) (c : After-is_well_formed g) → is_well_formed c.load_frame_word-length.result ≡ true
    → g.posted ≡ Good (message_in g.posted)
good g c well = good_here g.posted _ (valid g c) (first g c) well

count : (g : _) (c : After-is_well_formed g) → is_well_formed c.load_frame_word-length.result ≡ true
    → c.load_frame_word-length.result / 4 - 1 ≡ length (message_in g.posted).payload.items
count g c well =
    let few = well_formed_few c.load_frame_word-length.result well in
    let long : c.load_frame_word-length.result ≡ 4 + ◌*◌ 4 (length
    (message_in g.posted).payload.items) = good_long g.posted _ (first g c) (good g c well) in
    omega arith

head : (g : _) (c : After-is_well_formed g) → is_well_formed c.load_frame_word-length.result ≡ true
    → c.load_frame_word-header.result ≡ header_word (message_in g.posted).header
head g c well = second g c ∙ ap (λ (z : Frame). get_or (frame_words z) 1 0) (good g c well)

read : (g : _) (c : After-is_well_formed g) → is_well_formed c.load_frame_word-length.result ≡ true
    → frame_area (callee_of c.load_frame_word-header.new.seat)
    ≡ frame_words (Good (message_in g.posted))
read g c well = ap frame_area (now g c) ∙ (area g c ∙ ap frame_words (good g c well))

few : (g : _) (c : After-is_well_formed g) → is_well_formed c.load_frame_word-length.result ≡ true
    → IsValidMessage (message_in g.posted)
few g c well = good_valid g.posted (valid g c) (good g c well)

-- the steps of all loads
steps : (g : _) (c : After-is_well_formed g) → is_well_formed c.load_frame_word-length.result ≡ true
    → (t : TableSeat) → CalleeBecomes c.load_frame_word-header.new.seat (callee_after
    (callee_of c.load_frame_word-header.new.seat) (c.load_frame_word-length.result / 4 - 1)) t
    → CalleeBecomes c.args.seat.now
    (callee_after (callee_of c.args.seat.now) (2 + frame_size g.posted)) t
steps g c well t b = let h = callee_of c.args.seat.now in
    let size : frame_size g.posted ≡ length (message_in g.posted).payload.items =
    ap frame_size (good g c well) in
    let n : ℕ = c.load_frame_word-length.result / 4 - 1 in
    let same : n ≡ length (message_in g.posted).payload.items = count g c well in
    let sum : (h.steps + 1 + 1) + n ≡ h.steps + (2 + frame_size g.posted) = omega arith in
    callee_chain c.args.seat.now c.load_frame_word-header.new.seat t
    (callee_after (callee_after h 1) 1) n (h.steps + (2 + frame_size g.posted))
    (callee_chain c.args.seat.now c.load_frame_word-length.new.seat
    c.load_frame_word-header.new.seat (callee_after h 1) 1 (h.steps + 1 + 1)
    c.load_frame_word-length.ensures.view c.load_frame_word-header.ensures.view refl) b sum

pub read_message-requires : goal.read_message-requires
read_message-requires g c =
    let at = (goal.at.read_message-requires g c).After-is_well_formed in
    let well : is_well_formed c.load_frame_word-length.result ≡ true = search rules in (
      (search rules, (search rules, search rules, search rules), read g at well, few g at well),
      (head g at well, (count g at well, search rules)),
    )

pub read_other_message-requires : goal.read_other_message-requires
read_other_message-requires g c =
    let at = (goal.at.read_other_message-requires g c).After-is_well_formed in
    let well : is_well_formed c.load_frame_word-length.result ≡ true = search rules in (
      (search rules, (search rules, search rules, search rules), read g at well, few g at well),
      (head g at well, count g at well),
    )

pub returns-then-len-count-clause-value : goal.returns-then-len-count-clause-value
returns-then-len-count-clause-value g c =
    let at = (goal.at.returns-then-len-count-clause-value g c).After-is_well_formed in
    let well : is_well_formed c.load_frame_word-length.result ≡ true = search rules in
    ap (λ m. Good m) c.read_message.ensures.value ∙ sym (good g at well)

pub returns-then-len-count-clause-view : goal.returns-then-len-count-clause-view
returns-then-len-count-clause-view g c =
    let at = (goal.at.returns-then-len-count-clause-view g c).After-is_well_formed in
    let well : is_well_formed c.load_frame_word-length.result ≡ true = search rules in
    steps g at well _ c.read_message.ensures.view

pub returns-clause-value : goal.returns-clause-value
returns-clause-value g c =
    let at = (goal.at.returns-clause-value g c).After-is_well_formed in
    let well : is_well_formed c.load_frame_word-length.result ≡ true = search rules in
    c.read_other_message.ensures.value ∙ sym (good g at well)

pub returns-clause-view : goal.returns-clause-view
returns-clause-view g c =
    let at = (goal.at.returns-clause-view g c).After-is_well_formed in
    let well : is_well_formed c.load_frame_word-length.result ≡ true = search rules in
    steps g at well _ c.read_other_message.ensures.view
