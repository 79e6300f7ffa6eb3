-- Permissions that agree on the board's devices give the same answers.
use Rattle.std.proofs.Common.{◌≡◌, ℕ, zero, suc, ◌+◌, ◌<◌, ◌≤◌, Bool, ◌&&◌, ◌||◌, not, length, refl, ap, ◌∙◌, arith}
use Rattle.std.specs.List.{list_any, range_with_len}
use Rattle.scmi_plan.specs.Board.{Board, holds, device_at}
use Rattle.scmi_plan.specs.declared.resource.Resource.{Resource}
use Rattle.scmi_base.specs.Permission.{may, some_device, allows, protocol_of}
use Rattle.scmi_plan.specs.declared.scope.Scope.{Scope}
use Rattle.scmi_plan.specs.declared.scope.Scope.TheVariants as scope

any_from-same : (f g : ℕ → Bool) (a n : ℕ) → ((k : ℕ) → a ≤ k → k < a + n → f k ≡ g k)
    → list_any f (range_with_len a n) ≡ list_any g (range_with_len a n)
any_from-same f g a zero h = refl
any_from-same f g a (suc n) h =
    let here : f a ≡ g a = h a (omega arith) (omega arith) in
    let rest : list_any f (range_with_len (a + 1) n) ≡ list_any g (range_with_len (a + 1) n) =
    any_from-same f g (a + 1) n (λ k lo hi. h k (omega arith) (omega arith)) in
    ap (λ b. b || list_any f (range_with_len (a + 1) n)) here ∙ ap (λ b. g a || b) rest

pub may-same : (board : Board) (f g : ℕ → Scope → Bool) (r : Resource) → ((d : ℕ) (s : Scope)
    → d < length board.devices → f d s ≡ g d s) → may board f r ≡ may board g r
may-same board f g r h =
    ap (λ b. not (some_device board (λ d. holds (device_at board d) r)) || b)
    (any_from-same (λ d. holds (device_at board d) r && allows (f d) (protocol_of r))
    (λ d. holds (device_at board d) r && allows (g d) (protocol_of r)) 0 (length board.devices)
    (λ k lo hi. let small : k < length board.devices = omega arith in
    ap (λ b. holds (device_at board k) r && (b && f k (protocol_of r))) (h k scope.Device small)
    ∙ ap (λ b. holds (device_at board k) r && (g k scope.Device && b)) (h k (protocol_of r) small)))
