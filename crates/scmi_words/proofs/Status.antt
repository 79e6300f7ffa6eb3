-- The values of the status word.
use Rattle.std.proofs.Common.{◌≡◌, ℕ, ◌%◌, ◌||◌, nat_le, Bool, true, false, sym, refl, ap, ◌∙◌, subst, arith, bit_or, Option, Some, None}
use Rattle.scmi_codec.specs.declared.frame.Answer.{Answer}
use Rattle.scmi_codec.specs.declared.frame.Answer.TheVariants.{Reply, Released, ChannelError}
use Rattle.scmi_words.specs.declared.status_word.TheConstants.{CLOSED}
use Rattle.scmi_words.specs.StatusWord.{Mark, posted, taken, free, error, released, status_word, answer_mark, settled_mark, told_by}

-- the closed bit can be read off
pub same_bit : (m : Mark) (b : Bool) → status_word m b ≡ status_word m false → b ≡ false
same_bit m false e = refl
same_bit posted true e = absurd (omega arith)
same_bit taken true e = absurd (omega arith)
same_bit free true e = absurd (omega arith)
same_bit error true e = absurd (omega arith)
same_bit released true e = absurd (omega arith)

-- fetch_or of the closed bit
pub or_closed : (m : Mark) (b : Bool) → bit_or (status_word m b) CLOSED ≡ status_word m true
or_closed Mark.posted false = refl
or_closed Mark.posted true = refl
or_closed taken false = refl
or_closed taken true = refl
or_closed free false = refl
or_closed free true = refl
or_closed error false = refl
or_closed error true = refl
or_closed released false = refl
or_closed released true = refl

told_here : (m : Mark) (k : Bool) → nat_le CLOSED (status_word m k) ≡ true → k ≡ true
told_here m true e = refl
told_here posted false e = e
told_here taken false e = e
told_here free false e = e
told_here error false e = e
told_here released false e = e

-- what a status tells of the other end
pub told_right : (m : Mark) (mine other told : Bool) (n : ℕ) → n ≡ status_word m (mine || other)
    → (told ≡ true → other ≡ true) → told_by mine told n ≡ true → other ≡ true
told_right m mine other true n is was e = was refl
told_right m true other false n is was e = was e
told_right m false other false n is was e =
    told_here m other (subst (λ (z : ℕ). nat_le CLOSED z ≡ true) is e)

pub answer_odd : (x : Answer) (b : Bool) → status_word (answer_mark x) b % 2 ≡ 1
answer_odd (Reply m) false = refl
answer_odd (Reply m) true = refl
answer_odd Released false = refl
answer_odd Released true = refl
answer_odd ChannelError false = refl
answer_odd ChannelError true = refl

pub cleared : (x : Answer) (b : Bool)
    → status_word (answer_mark x) b % CLOSED ≡ status_word (answer_mark x) false
cleared (Reply m) false = refl
cleared (Reply m) true = refl
cleared Released false = refl
cleared Released true = refl
cleared ChannelError false = refl
cleared ChannelError true = refl

pub posted_zero : (b : Bool) → status_word Mark.posted b ≡ 0 → b ≡ false
posted_zero false e = refl
posted_zero true e = absurd (omega arith)

pub not_taken_zero : (b : Bool) → status_word Mark.taken b ≡ 0 → ⊥
not_taken_zero false e = omega arith
not_taken_zero true e = omega arith

pub not_settled_zero : (o : Option Answer) (b : Bool) → status_word (settled_mark o) b ≡ 0 → ⊥
not_settled_zero None false e = omega arith
not_settled_zero None true e = omega arith
not_settled_zero (Some x) b e =
    let odd = answer_odd x b in
    let f : 0 % 2 ≡ 1 = ap (λ (z : ℕ). z % 2) (sym e) ∙ odd in
    omega arith

pub or_sides : (a b : Bool) → (a || b) ≡ false → (a ≡ false) × (b ≡ false)
or_sides false b e = (refl, e)
or_sides true b e = absurd (let f : true ≡ false = e in cc)
