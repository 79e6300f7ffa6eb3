-- How a header word is put together from its fields and taken apart.
use Rattle.std.proofs.Common.{◌≡◌, ℕ, ◌+◌, ◌*◌, ◌%◌, ◌^◌, ◌<◌, bit_or, ap, arith}
use Rattle.std.proofs.lemmas.Nat.{or_shifted}
use Rattle.std.specs.Bool.{Decides}
use Rattle.std.proofs.lemmas.Bool.Decides.{Decides-and, Decides-eqb, Decides-like}
use Rattle.scmi_codec.specs.Header.{HeaderFields, FitsWidths, field, header_of, header_word, is_same_header}

-- two neighbouring fields, the upper one shifted
joined : (a b k : ℕ) → b < 2 ^ k → bit_or (a * 2 ^ k) b ≡ a * 2 ^ k + b
joined a b k h = or_shifted a k b h

pub shifted_or-word : (r t p k i : ℕ) → r < 16 → t < 1024 → p < 256 → k < 4 → i < 256 →
    bit_or (bit_or (bit_or (bit_or (r * 268435456 % 4294967296) (t * 262144 % 4294967296))
    (p * 1024 % 4294967296)) (k * 256 % 4294967296)) i
    ≡ r * 268435456 + t * 262144 + p * 1024 + k * 256 + i
shifted_or-word r t p k i hr ht hp hk hi =
    let er : r * 268435456 % 4294967296 ≡ r * 268435456 = omega arith in
    let et : t * 262144 % 4294967296 ≡ t * 262144 = omega arith in
    let ep : p * 1024 % 4294967296 ≡ p * 1024 = omega arith in
    let ek : k * 256 % 4294967296 ≡ k * 256 = omega arith in
    let one : bit_or (r * 268435456) (t * 262144) ≡ r * 268435456 + t * 262144 =
    or_shifted r 28 (t * 262144) (omega arith) in
    let shape1 : r * 268435456 + t * 262144 ≡ (r * 1024 + t) * 262144 = omega arith in
    let two : bit_or ((r * 1024 + t) * 262144) (p * 1024) ≡ (r * 1024 + t) * 262144 + p * 1024 =
    or_shifted (r * 1024 + t) 18 (p * 1024) (omega arith) in
    let shape2 : (r * 1024 + t) * 262144 + p * 1024 ≡ ((r * 1024 + t) * 256 + p) * 1024 =
    omega arith in
    let three : bit_or (((r * 1024 + t) * 256 + p) * 1024) (k * 256) ≡ ((r * 1024 + t) * 256 + p)
    * 1024 + k * 256 = or_shifted ((r * 1024 + t) * 256 + p) 10 (k * 256) (omega arith) in
    let shape3 : ((r * 1024 + t) * 256 + p) * 1024 + k * 256
    ≡ (((r * 1024 + t) * 256 + p) * 4 + k) * 256 = omega arith in
    let four : bit_or ((((r * 1024 + t) * 256 + p) * 4 + k) * 256) i ≡ (((r * 1024 + t) * 256 + p)
    * 4 + k) * 256 + i = or_shifted (((r * 1024 + t) * 256 + p) * 4 + k) 8 i (omega arith) in
    rw (er, et, ep, ek, one, shape1, two, shape2, three, shape3, four) (omega arith)

pub header_of-header_word : (h : HeaderFields) → FitsWidths h → header_of (header_word h) ≡ h
header_of-header_word h w = λ j. record {
  reserved = er j;
  token = et j;
  protocol = ep j;
  kind = ek j;
  id = ei j;
} where
  er : field 31 28 (header_word h) ≡ h.reserved
  er = omega arith

  et : field 27 18 (header_word h) ≡ h.token
  et = omega arith

  ep : field 17 10 (header_word h) ≡ h.protocol
  ep = omega arith

  ek : field 9 8 (header_word h) ≡ h.kind
  ek = omega arith

  ei : field 7 0 (header_word h) ≡ h.id
  ei = omega arith

pub header_word-header_of : (word : ℕ) → word < 2 ^ 32 → header_word (header_of word) ≡ word
header_word-header_of word small = omega arith

-- the fields of two headers are equal
abbrev HaveSameFields : HeaderFields → HeaderFields → Type 0
HaveSameFields a b = (a.reserved ≡ b.reserved)
    × ((a.token ≡ b.token) × ((a.protocol ≡ b.protocol) × ((a.kind ≡ b.kind) × (a.id ≡ b.id))))

fields_to_header : (a b : HeaderFields) → HaveSameFields a b → a ≡ b
fields_to_header a b (r, (t, (p, (k, d)))) =
    λ i. record { reserved = r i; token = t i; protocol = p i; kind = k i; id = d i }

header_to_fields : (a b : HeaderFields) → a ≡ b → HaveSameFields a b
header_to_fields a b is = (
  ap (λ h. h.reserved) is,
  (ap (λ h. h.token) is, (ap (λ h. h.protocol) is, (ap (λ h. h.kind) is, ap (λ h. h.id) is))),
)

pub header_decides : (a b : HeaderFields) → Decides (is_same_header a b) (a ≡ b)
header_decides a b =
    Decides-like (is_same_header a b) (fields_to_header a b) (header_to_fields a b)
    (Decides-and _ _ (Decides-eqb a.reserved b.reserved)
    (Decides-and _ _ (Decides-eqb a.token b.token)
    (Decides-and _ _ (Decides-eqb a.protocol b.protocol)
    (Decides-and _ _ (Decides-eqb a.kind b.kind) (Decides-eqb a.id b.id)))))
