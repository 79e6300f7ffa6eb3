use Rattle.std.proofs.Common.{◌≡◌, ◌+◌, ◌*◌, ◌-◌, ◌<◌, ℕ, List, [], ◌∷◌, ◌++◌, length, get_or, set, take, drop, refl, sym, ap, ◌∙◌, arith, append_assoc, append-nil, length-set}
use Rattle.std.specs.List.{flat_map}
use Rattle.std.proofs.lemmas.List.{length-take, take_more, take_more_set}
use Rattle.std.proofs.lemmas.Grind.{flat_map-append}
use Rattle.scmi_codec.specs.Rate.{rate_words}
use Rattle.scmi_clock.specs.ClockReply.{rates_word}
use Rattle.scmi_clock.proofs.reads.set_rate_list.Goals as goal

-- two words that were written after others
two_more : (words : List ℕ) (n x y : ℕ) → n + 1 < length words
    → take (n + 2) (set (set words n x) (n + 1) y) ≡ take n words ++ x ∷ y ∷ []
two_more words n x y fits =
    let next : n + 2 ≡ n + 1 + 1 = omega arith in
    ap (λ k. take k (set (set words n x) (n + 1) y)) next
    ∙ take_more_set (set words n x) (n + 1) y (rw (length-set words n x) fits)
    ∙ ap (λ p. p ++ y ∷ []) (take_more_set words n x (omega (arith, fits)))
    ∙ append_assoc (take n words) (x ∷ []) (y ∷ [])

-- the words of one more rate
one_more : (rates : List ℕ) (i : ℕ) → i < length rates
    → flat_map rate_words (take (i + 1) rates)
    ≡ flat_map rate_words (take i rates) ++ rate_words (get_or rates i 0)
one_more rates i within =
    ap (flat_map rate_words) (take_more rates i 0 within)
    ∙ flat_map-append rate_words (take i rates) (get_or rates i 0 ∷ [])
    ∙ ap (λ w. flat_map rate_words (take i rates) ++ w) (append-nil (rate_words (get_or rates i 0)))

pub loop-rate-preserved : goal.loop-rate-preserved
loop-rate-preserved c =
    let l = c.loop-rate in
    let count = c.min-count.result in
    let rates = take (c.args.index + count - c.args.index) (drop c.args.index c.args.list.now) in
    let word = rates_word (length c.args.list.now - c.args.index - count) count in
    let r = get_or rates l.rate-index 0 in
    let most = c.min-count.ensures in
    let room = c.most_rates.ensures.few in
    let most_words = c.requires.channel.1 in
    let returned =
    length-take (c.args.index + count - c.args.index) (drop c.args.index c.args.list.now) in
    let within = c.loop-rate-test.true in
    let fits : l.size + 1 < length l.words = omega
    (arith, most, room, most_words, returned, within, l.invariant.place, l.invariant.whole) in
    record {
      place = omega (arith, l.invariant.place);
      whole = simp length-set l.invariant.whole;
      so_far =
          rw c.rate_words.ensures
          (two_more l.words l.size (get_or (rate_words r) 0 0) (get_or (rate_words r) 1 0) fits
          ∙ ap (λ p. p ++ rate_words r) l.invariant.so_far
          ∙ ap (λ w. 0 ∷ word ∷ w) (sym (one_more rates l.rate-index c.loop-rate-test.true)));
    }

pub loop-rate-init : goal.loop-rate-init
loop-rate-init c =
    let blank = c.as_mut_slice-words.result.now in
    let long : length blank ≡ 2 + 2 * c.min-count.result =
    ap length c.as_mut_slice-words.ensures.value ∙ c.resize.ensures in
    record {
      place = refl;
      whole = simp length-set long;
      so_far = rw c.rates_word.ensures (two_more blank 0 0 _ (omega (arith, long)));
    }
