-- The names of a board's domains and clocks.
use Rattle.std.proofs.Common.{◌≡◌, List, [], ◌∷◌, map, string_bytes, ap, refl}
use Rattle.scmi_plan.specs.RawPlan.{asked_clock, asked_domain}
use Rattle.scmi_plan.specs.declared.raw_plan.RawClock.{RawClock}
use Rattle.scmi_plan.specs.declared.raw_plan.RawDomain.{RawDomain}

pub domain_names : (domains : List RawDomain) → map (λ domain. string_bytes domain.name) domains
    ≡ map (λ domain. domain.name) (map asked_domain domains)
domain_names [] = refl
domain_names (domain ∷ domains) =
    ap (λ names. string_bytes domain.name ∷ names) (domain_names domains)

pub clock_names : (clocks : List RawClock) → map (λ clock. string_bytes clock.name) clocks
    ≡ map (λ clock. clock.name) (map asked_clock clocks)
clock_names [] = refl
clock_names (clock ∷ clocks) = ap (λ names. string_bytes clock.name ∷ names) (clock_names clocks)
