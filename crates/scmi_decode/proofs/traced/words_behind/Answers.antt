use Rattle.std.proofs.Common.{rules, ◌≡◌, ◌<◌, ◌-◌, ◌∷◌, [], ◌++◌, length, take, drop, sym, ap, ◌∙◌}
use Rattle.std.proofs.Math.Seq.{take-length}
use Rattle.std.proofs.lemmas.List.{length-drop}
use Rattle.scmi_codec.specs.declared.payload.TheConstants.{PAYLOAD_WORDS}
use Rattle.scmi_decode.specs.Traced.{words_behind}
use Rattle.scmi_decode.proofs.Words.{words_more}
use Rattle.scmi_decode.proofs.traced.words_behind.Goals as goal

pub words-preserved : goal.words-preserved
words-preserved c =
    let words = c.words.words.items in
    let bytes = c.words.rest.now in
    let few : length words < PAYLOAD_WORDS = search rules in
    let more = words_more words bytes c.in-len4-up.len_at_least few in
    let rest : take (length bytes - 4) (drop 4 bytes) ≡ drop 4 bytes =
    ap (λ n. take n (drop 4 bytes)) (sym (length-drop 4 bytes)) ∙ take-length (drop 4 bytes) in
    ap (words_behind c.push.new.self.items) rest ∙ ap (λ all. words_behind all (drop 4 bytes))
    (c.push.ensures.items ∙ ap (λ word. words ++ word ∷ []) c.word_of.ensures) ∙ sym more
    ∙ c.words.invariant
