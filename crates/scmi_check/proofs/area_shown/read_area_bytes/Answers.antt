use Rattle.std.proofs.Common.{◌≡◌, ◌+◌, ◌<◌, ◌≤◌, length, refl, sym, ap, arith}
use Rattle.std.proofs.lemmas.Result.{err_from_is_err_and}
use Rattle.scmi_board.proofs.ItemLemmas.{none_of_nothing, some_of_something}
use Rattle.scmi_board.specs.Items.{items_left}
use Rattle.scmi_codec.specs.declared.area.TheConstants.{AREA_BYTES}
use Rattle.scmi_check.proofs.AreaWords.{no_room, word_fails, word_full, word_more, words_done}
use Rattle.scmi_check.specs.AreaShown.{area_left}
use Rattle.scmi_check.proofs.area_shown.read_area_bytes.Goals as goal

pub returns-in_err-word : goal.returns-in_err-word
returns-in_err-word c =
    let p = err_from_is_err_and c.from_residual.result c.from_residual.ensures.1 in
    rw (p.1, p.2) (word_fails c.loop-items.area.items (items_left c.loop-items.items) (area_left
    (items_left c.args.items.now)) c.in_err-word.field-0.0 c.in_err-word.ensures.number
    (some_of_something c.loop-items.items (sym c.loop-items-test.ensures))
    c.loop-items.invariant)

pub returns-in_default : goal.returns-in_default
returns-in_default c =
    let size : length c.to_le_bytes.result ≡ 4 = ap length c.to_le_bytes.ensures in
    let many : AREA_BYTES < length c.loop-items.area.items + 4 =
    no_room (length c.loop-items.area.items) (length c.to_le_bytes.result) size
    (λ room. absurd (let none = c.in_default.ensures.variant.1 room in cc)) in
    word_full c.loop-items.area.items (items_left c.loop-items.items)
    (items_left c.next_word.new.self) c.in_ok-word.word (area_left
    (items_left c.args.items.now)) c.in_ok-word.ensures.number many c.loop-items.invariant

pub loop-items-preserved : goal.loop-items-preserved
loop-items-preserved c =
    let size : length c.to_le_bytes.result ≡ 4 = ap length c.to_le_bytes.ensures in
    let few : length c.loop-items.area.items + 4 ≤ AREA_BYTES =
    omega (arith, size, c.in-Ok.ensures.variant.0 refl) in
    rw (c.in-Ok.ensures.ok, c.to_le_bytes.ensures) (word_more c.loop-items.area.items (items_left
    c.loop-items.items) (items_left c.next_word.new.self) c.in_ok-word.word (area_left
    (items_left c.args.items.now)) c.in_ok-word.ensures.number few c.loop-items.invariant)

pub returns : goal.returns
returns c = words_done c.loop-items.area.items
    (items_left c.loop-items.items) (area_left (items_left c.args.items.now))
    (none_of_nothing c.loop-items.items (sym c.loop-items-test.ensures)) c.loop-items.invariant
