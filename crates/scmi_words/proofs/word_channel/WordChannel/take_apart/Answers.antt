use Rattle.std.proofs.Common.{arith, ◌≡◌, ℕ, List, length, sym, ◌∙◌, subst}
use Rattle.std.specs.Mem.Slots.{slots_items}
use Rattle.scmi_words.specs.declared.view.CallerHalf.{CallerHalf}
use Rattle.scmi_words.specs.declared.view.CalleeHalf.{CalleeHalf}
use Rattle.scmi_words.specs.Mailbox.{Rule}
use Rattle.scmi_words.specs.View.{caller_of, callee_of}
use Rattle.scmi_words.proofs.TableWords.{same_words}
use Rattle.scmi_words.specs.declared.layout.TheConstants.{TABLE_WORDS}
use Rattle.scmi_words.proofs.word_channel.WordChannel.take_apart.Goals as goal

pub returns : goal.returns
returns c = let both = c.join_callee.ensures.both in
    let r : Rule (slots_items c.close_table-closed.result.words) (caller_of c.args.caller.seat)
    (callee_of c.args.callee.seat) =
    subst (λ (z : CallerHalf × CalleeHalf). Rule (slots_items c.close_table-closed.result.words) z.0
    z.1) (λ i. (both.2 i, both.3 i)) c.close_table-closed.ensures.3 in
    let wide : length (slots_items c.close_table-closed.result.words) ≡ TABLE_WORDS = r.wide in
    let long : length c.words_of-words.result ≡ TABLE_WORDS = c.words_of-words.ensures.long in
    subst (λ (ws : List ℕ). Rule ws (caller_of c.args.caller.seat) (callee_of c.args.callee.seat))
    (same_words (slots_items c.close_table-closed.result.words) c.words_of-words.result
    (wide ∙ sym long) (λ i lt. c.words_of-words.ensures.same i (omega arith))) r
