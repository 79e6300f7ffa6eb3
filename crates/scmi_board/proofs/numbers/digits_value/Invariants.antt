use Rattle.std.proofs.Common.{◌≡◌, ◌<◌, ◌^◌, take}
use Rattle.std.specs.Str.Parse.{AllDigits, digits_value}
use Rattle.scmi_board.proofs.numbers.digits_value.Given as goal

abbrev pub invariant-digits : goal.invariant-digits
invariant-digits l = record {
  fits : l.value < 2 ^ 64;
  digits : AllDigits l.radix (take l.byte-index l.digits);
  value : l.value ≡ digits_value l.radix (take l.byte-index l.digits);
}
