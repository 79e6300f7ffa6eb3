-- Rates, in words.
use Rattle.std.specs.Prelude.{ℕ, ◌/◌, ◌%◌, ◌==◌, ◌&&◌, nat_le, nat_lt, if◌then◌else◌, List, [], ◌++◌, decimal}
use Rattle.scmi_chart.specs.declared.rate.TheConstants.{GIGAHERTZ, MEGAHERTZ, KILOHERTZ, HERTZ, POINT}

-- thousandths after a point, without the zeros at their end
abbrev pub fraction_text : ℕ → List ℕ
fraction_text t =
    if t == 0 then [] else if t % 100 == 0 then POINT.now ++ decimal (t / 100)
    else if t % 10 == 0 then POINT.now ++ decimal (t / 100) ++ decimal (t / 10 % 10)
    else POINT.now ++ decimal (t / 100) ++ decimal (t / 10 % 10) ++ decimal (t % 10)

-- this many thousandths of a unit
unfoldable pub scaled_text : ℕ → List ℕ → List ℕ
scaled_text thousandths unit =
    decimal (thousandths / 1000) ++ fraction_text (thousandths % 1000) ++ unit

-- a rate in the largest unit of which it has one or more and at most three digits after the point
abbrev pub rate_text : ℕ → List ℕ
rate_text hertz =
    if nat_le 1000000000 hertz && (hertz % 1000000 == 0)
    then scaled_text (hertz / 1000000) GIGAHERTZ.now
    else if nat_le 1000000 hertz && (hertz % 1000 == 0)
    then scaled_text (hertz / 1000) MEGAHERTZ.now
    else if nat_le 1000 hertz && nat_lt hertz 1000000 then scaled_text hertz KILOHERTZ.now
    else decimal hertz ++ HERTZ.now
