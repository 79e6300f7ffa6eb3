use Rattle.std.proofs.Common.{◌≡◌, ◌+◌, ◌-◌, ◌*◌, ◌∷◌, length, take}
use Rattle.std.specs.List.{flat_map}
use Rattle.scmi_codec.specs.Rate.{rate_words}
use Rattle.scmi_clock.specs.ClockReply.{rates_word}
use Rattle.scmi_clock.proofs.reads.set_rate_list.Given as goal

abbrev pub invariant-loop-rate : goal.invariant-loop-rate
invariant-loop-rate l = record {
  place : l.size ≡ 2 + 2 * l.rate-index;
  whole : length l.words ≡ 2 + 2 * l.count;
  so_far : take l.size l.words ≡ 0 ∷ rates_word (l.left - l.count) l.count
      ∷ flat_map rate_words (take l.rate-index l.returned);
}
