use Rattle.std.proofs.Common.{◌≡◌, ℕ, ◌+◌, ◌*◌, refl, ap, sym, ◌∙◌, length, take, get_or, ◌<◌, arith, List}
use Rattle.std.proofs.lemmas.List.{take_more, length-take-le}
use Rattle.scmi_codec.specs.Word.{put_words, put_word}
use Rattle.scmi_codec.proofs.WordLemmas.{put_words-push}
use Rattle.scmi_codec.proofs.area_writer.write_words.Goals as goal

-- one more word of the payload is written
written_more : (words start before after : List ℕ) (i : ℕ) → i < length words
    → before ≡ put_words 0x1C (take i words) start
    → after ≡ put_word (0x1C + 4 * i) (get_or words i 0) before
    → after ≡ put_words 0x1C (take (i + 1) words) start
written_more words start before after i within so_far write =
    let len : length (take i words) ≡ i = length-take-le i words (omega arith) in
    write ∙ ap (put_word (0x1C + 4 * i) (get_or words i 0)) so_far
    ∙ sym (ap (λ ws. put_words 0x1C ws start) (take_more words i 0 within)
    ∙ put_words-push 0x1C (take i words) (get_or words i 0) start
    ∙ ap (λ n. put_word (0x1C + 4 * n) (get_or words i 0) (put_words 0x1C (take i words) start))
    len)

pub loop-i-init : goal.loop-i-init
unfolding put_words
loop-i-init c = refl

pub loop-i-preserved : goal.loop-i-preserved
loop-i-preserved c =
    written_more c.args.words.now c.args.area.now c.loop-i.area c.write_word.new.bytes c.loop-i.i
    c.loop-i-test.true c.loop-i.invariant c.write_word.ensures
