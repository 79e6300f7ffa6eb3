use Rattle.std.proofs.Common.{◌<◌, ◌≤◌, ◌≢◌, length, sym, arith}
use Rattle.std.proofs.lemmas.Bool.{eqb-false, eqb-true}
use Rattle.std.proofs.lemmas.Result.{err_from_is_err_and}
use Rattle.scmi_board.proofs.ItemLemmas.{none_of_nothing, some_of_something}
use Rattle.scmi_board.specs.Items.{items_left}
use Rattle.scmi_codec.specs.declared.payload.TheConstants.{PAYLOAD_WORDS}
use Rattle.scmi_text.proofs.Payloads.{word_fails, word_full, word_more, words_done}
use Rattle.scmi_text.specs.Fields.{payload_left}
use Rattle.scmi_text.proofs.fields.read_payload.Goals as goal

pub returns-in_err-word : goal.returns-in_err-word
returns-in_err-word c =
    let p = err_from_is_err_and c.from_residual.result c.from_residual.ensures.1 in
    rw (p.1, p.2) (word_fails c.loop-items.payload.items
    (items_left c.loop-items.items) (payload_left (items_left c.args.items.now))
    c.in_err-word.field-0.0 c.in_err-word.ensures.number (some_of_something c.loop-items.items
    (sym c.loop-items-test.ensures)) c.loop-items.invariant)

pub returns-then-is_full : goal.returns-then-is_full
returns-then-is_full c =
    let full = eqb-true (length c.loop-items.payload.items) PAYLOAD_WORDS
    (sym c.if-is_full.ensures.value) in
    let many : PAYLOAD_WORDS ≤ length c.loop-items.payload.items = omega (arith, full) in
    word_full c.loop-items.payload.items (items_left c.loop-items.items)
    (items_left c.next_word.new.self) c.in_ok-word.word (payload_left
    (items_left c.args.items.now)) c.in_ok-word.ensures.number many c.loop-items.invariant

pub loop-items-preserved : goal.loop-items-preserved
loop-items-preserved c =
    let more : length c.loop-items.payload.items ≢ PAYLOAD_WORDS = eqb-false
    (length c.loop-items.payload.items) PAYLOAD_WORDS (sym c.if-is_full.ensures.value) in
    let few : length c.loop-items.payload.items < PAYLOAD_WORDS =
    omega (arith, more, c.if-is_full.ensures.fits) in
    rw c.push.ensures.items (word_more c.loop-items.payload.items (items_left c.loop-items.items)
    (items_left c.next_word.new.self) c.in_ok-word.word (payload_left
    (items_left c.args.items.now)) c.in_ok-word.ensures.number few c.loop-items.invariant)

pub returns : goal.returns
returns c = words_done c.loop-items.payload.items (items_left c.loop-items.items)
    (payload_left (items_left c.args.items.now))
    (none_of_nothing c.loop-items.items (sym c.loop-items-test.ensures)) c.loop-items.invariant
