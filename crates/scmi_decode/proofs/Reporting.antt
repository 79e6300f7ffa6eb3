-- The areas of one size in a dump, which are reported one after the other.
use Rattle.std.proofs.Common.{◌≡◌, ℕ, zero, suc, ◌+◌, ◌<◌, ◌≤◌, Bool, true, false, List, [], ◌∷◌, ◌++◌, length, map, drop, take, Option, ◌∙◌, sym, ap, refl, subst, arith, append_assoc, length-drop}
use Rattle.std.specs.Prelude.{◌||◌}
use Rattle.std.proofs.lemmas.Bool.Decides.{nat_tests}
use Rattle.scmi_decode.proofs.Reported.{reported_nil, reported_trans}
use Rattle.scmi_decode.specs.Finding.{any_area, is_area_found, part_finding, part_found, parts_found}
use Rattle.scmi_decode.specs.Layout.{last_part, part_at, parts_from, size_of}
use Rattle.scmi_decode.specs.Reported.{Reported}
use Rattle.scmi_decode.specs.declared.finding.Finding.{Finding}
use Rattle.scmi_decode.specs.declared.layout.Layout.TheVariants.{Each}
use Rattle.scmi_decode.specs.declared.layout.Pieces.{Pieces}

-- what is found in the rest of a dump of so many bytes
abbrev pub rest_found : Pieces → Option ℕ → (total most : ℕ) → List ℕ → List Finding
rest_found p line total most rest = map (part_finding (Each p) line) (parts_from p total most rest)

-- what is found before the rest of a dump was reported, and what is found in the rest is all that
-- is still to come
pub record AreReported (p : Pieces) (line : Option ℕ) (bytes rest : List ℕ)
    (old now : Option (List Finding)) (has : Bool) : Type 0 where
  pub most : ℕ
  pub fits : length rest < most
  pub done : List Finding
  pub taken : Reported old now done
  pub all : done ++ rest_found p line (length bytes) most rest ≡ parts_found (Each p) line bytes
  pub area : has ≡ any_area done

pub at_begin : (p : Pieces) (line : Option ℕ) (bytes : List ℕ) (old : Option (List Finding))
    → AreReported p line bytes (drop p.offset bytes) old old false
at_begin p line bytes old = record {
  most = length bytes + 1;
  fits = omega (arith, length-drop p.offset bytes);
  done = [];
  taken = reported_nil old;
  all = refl;
  area = refl;
}

pub or_false : (b : Bool) → (b || false) ≡ b
or_false true = refl
or_false false = refl

pub or_assoc : (a b c : Bool) → ((a || b) || c) ≡ (a || (b || c))
or_assoc true b c = refl
or_assoc false b c = refl

pub any_area-both : (xs ys : List Finding) → any_area (xs ++ ys) ≡ (any_area xs || any_area ys)
any_area-both [] ys = refl
any_area-both (x ∷ xs) ys = ap (λ (b : Bool). is_area_found x.found || b) (any_area-both xs ys)
    ∙ sym (or_assoc (is_area_found x.found) (any_area xs) (any_area ys))

any_area-more : (done : List Finding) (f : Finding)
    → any_area (done ++ f ∷ []) ≡ (any_area done || is_area_found f.found)
any_area-more done f = any_area-both done (f ∷ [])
    ∙ ap (λ (b : Bool). any_area done || b) (or_false (is_area_found f.found))

-- the rest of a dump begins with an area
rest-more : (p : Pieces) (line : Option ℕ) (total most : ℕ) (rest : List ℕ)
    → size_of p ≤ length rest
    → rest_found p line total (suc most) rest ≡ part_finding (Each p) line (part_at total rest
    (take (size_of p) rest)) ∷ rest_found p line total most (drop p.gap (drop (size_of p) rest))
rest-more p line total most rest room = grind (arith, nat_tests)

-- no area is in the rest of a dump
rest-last : (p : Pieces) (line : Option ℕ) (total most : ℕ) (rest : List ℕ)
    → length rest < size_of p
    → rest_found p line total (suc most) rest
    ≡ map (part_finding (Each p) line) (last_part p total rest)
rest-last p line total most rest short = grind (arith, nat_tests)

-- a number above another is one more than some number
pub record IsAfter (n : ℕ) : Type 0 where
  pub before : ℕ
  pub is : n ≡ suc before

is_after : (m n : ℕ) → m < n → IsAfter n
is_after m zero h = absurd (omega (arith, h))
is_after m (suc n) h = record { before = n; is = refl }

pub one_more : (p : Pieces) (line : Option ℕ)
    (bytes rest : List ℕ) (old now now' : Option (List Finding)) (has has' : Bool)
    → AreReported p line bytes rest old now has → size_of p ≤ length rest
    → Reported now now'
    (part_finding (Each p) line (part_at (length bytes) rest (take (size_of p) rest)) ∷ [])
    → has' ≡ (has || is_area_found (part_found (Each p) (take (size_of p) rest)))
    → AreReported p line bytes (drop p.gap (drop (size_of p) rest)) old now' has'
one_more p line bytes rest old now now' has has' so_far room here area =
    let f : Finding =
    part_finding (Each p) line (part_at (length bytes) rest (take (size_of p) rest)) in
    let after = is_after (length rest) so_far.most so_far.fits in
    let most : ℕ = after.before in
    let is : so_far.most ≡ suc most = after.is in
    let behind : List ℕ = drop p.gap (drop (size_of p) rest) in
    let later = ap (λ (fs : List Finding). so_far.done ++ fs) (ap (λ (m : ℕ). rest_found p line
    (length bytes) m rest) is ∙ rest-more p line (length bytes) most rest room) in
    record {
      most = most;
      fits = omega (
        arith,
        so_far.fits,
        is,
        room,
        length-drop (size_of p) rest,
        length-drop p.gap (drop (size_of p) rest),
      );
      done = so_far.done ++ f ∷ [];
      taken = reported_trans old now now' so_far.done (f ∷ []) so_far.taken here;
      all = append_assoc so_far.done (f ∷ []) (rest_found p line (length bytes) most behind)
          ∙ sym later ∙ so_far.all;
      area = area ∙ ap (λ (b : Bool). b || is_area_found f.found) so_far.area
          ∙ sym (any_area-more so_far.done f);
    }

-- what is left has no room for an area: what is found there, if something is, was the last to be
-- reported
pub at_end : (p : Pieces)
    (line : Option ℕ) (bytes rest : List ℕ) (old now end : Option (List Finding)) (has has' : Bool)
    → AreReported p line bytes rest old now has → length rest < size_of p
    → Reported now end (map (part_finding (Each p) line) (last_part p (length bytes) rest))
    → has' ≡ (has || any_area (map (part_finding (Each p) line) (last_part p (length bytes) rest)))
    → Reported old end (parts_found (Each p) line bytes)
    × (has' ≡ any_area (parts_found (Each p) line bytes))
at_end p line bytes rest old now end has has' so_far short here area =
    let last : List Finding = map (part_finding (Each p) line) (last_part p (length bytes) rest) in
    let after = is_after (length rest) so_far.most so_far.fits in
    let most : ℕ = after.before in
    let is : so_far.most ≡ suc most = after.is in
    let whole : so_far.done ++ last ≡ parts_found (Each p) line bytes =
    ap (λ (fs : List Finding). so_far.done ++ fs)
    (sym (ap (λ (m : ℕ). rest_found p line (length bytes) m rest) is
    ∙ rest-last p line (length bytes) most rest short)) ∙ so_far.all in (
      subst (λ (fs : List Finding). Reported old end fs) whole
          (reported_trans old now end so_far.done last so_far.taken here),
      area ∙ ap (λ (b : Bool). b || any_area last) so_far.area
          ∙ sym (any_area-both so_far.done last) ∙ ap any_area whole,
    )
