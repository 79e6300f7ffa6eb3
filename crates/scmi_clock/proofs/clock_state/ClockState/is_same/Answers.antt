use mathlib.Core.Bool.{beq}
use Rattle.std.proofs.Common.{◌≡◌, Bool, true, false, refl, ap, sym, ◌∙◌}
use Rattle.std.specs.Bool.{Decides}
use Rattle.std.proofs.lemmas.Bool.Decides.{Decides-like}
use Rattle.std.proofs.lemmas.Slice.Eq.{bytes_eq-Decides, slice_eq-Decides}
use Rattle.scmi_clock.proofs.clock_state.ClockState.is_same.Goals as goal

bits_decide : (x y : Bool) → Decides (beq x y) (x ≡ y)
bits_decide true true = (λ is. refl, λ is. refl)
bits_decide true false = (λ is. sym is, λ is. sym is)
bits_decide false true = (λ is. is, λ is. is)
bits_decide false false = (λ is. refl, λ is. refl)

pub returns-then-eq : goal.returns-then-eq
returns-then-eq c =
    let mine = c.self.inside in
    let its = c.other.inside in
    let rates : mine.rates ≡ its.rates =
    (bytes_eq-Decides mine.rates its.rates).0 (sym c.eq.ensures ∙ c.if-eq.true) in
    Decides-like c.eq-then-eq.result
    (λ bits. sym c.self.view_is ∙ (λ i. record { rates = rates i; enabled = bits i })
    ∙ c.other.view_is)
    (λ is. ap (λ t. t.enabled) (c.self.view_is ∙ is ∙ sym c.other.view_is))
    (slice_eq-Decides bits_decide mine.enabled its.enabled c.eq-then-eq.result c.eq-then-eq.ensures)
