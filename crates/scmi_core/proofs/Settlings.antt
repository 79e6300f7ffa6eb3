-- Pending sets each of which is changed alone: as many of each agent, and of each domain and clock.
use Rattle.std.proofs.Common.{◌≡◌, ℕ, suc, ◌==◌, ◌||◌, Bool, true, false, List, [], ◌∷◌, length, map, refl, ap, ◌∙◌, if◌then◌else◌}
use Rattle.std.specs.List.{All}
use Rattle.std.proofs.lemmas.List.Elements.{All-map, All-weaker}
use Rattle.scmi_plan.specs.declared.resource.Resource.{Resource}
use Rattle.scmi_plan.specs.declared.resource.Resource.TheVariants as resource
use Rattle.scmi_core.specs.declared.pending_set.PendingSet.{PendingSet}
use Rattle.scmi_core.specs.declared.pending_set.Setting.{Setting}
use Rattle.scmi_core.specs.declared.pending_set.Setting.TheVariants as setting
use Rattle.scmi_core.specs.Pending.{has_set_of, is_set_by, setting_with, sets_by, settled}

-- what leaves each set to its agent leaves each agent as many
pub mapped-by : (a : ℕ) (f : PendingSet → PendingSet) → ((p : PendingSet) → (f p).agent ≡ p.agent)
    → (sets : List PendingSet) → length (sets_by a (map f sets)) ≡ length (sets_by a sets)
mapped-by a f same [] = refl
mapped-by a f same (p ∷ ps) =
    ap (λ x. length (if x == a then f p ∷ sets_by a (map f ps) else sets_by a (map f ps))) (same p)
    ∙ by (p.agent == a) (mapped-by a f same ps)
  where
    by : (own : Bool) → length (sets_by a (map f ps)) ≡ length (sets_by a ps)
        → length (if own then f p ∷ sets_by a (map f ps) else sets_by a (map f ps))
        ≡ length (if own then p ∷ sets_by a ps else sets_by a ps)
    by true rest = ap suc rest
    by false rest = rest

-- a settled rate leaves each set to its clock
settled-of : (r : Resource) (clock rate : ℕ) (s : Setting)
    → is_set_by r (setting_with clock rate s) ≡ is_set_by r s
settled-of (resource.Domain d) clock rate (setting.State e state) = refl
settled-of (resource.Domain d) clock rate (setting.Rate c asked) = refl
settled-of (resource.Clock c) clock rate (setting.State e state) = refl
settled-of (resource.Clock c) clock rate (setting.Rate e asked) = refl

pub settled-any : (r : Resource) (clock rate : ℕ) (sets : List PendingSet)
    → has_set_of r (map (settled clock rate) sets) ≡ has_set_of r sets
settled-any r clock rate [] = refl
settled-any r clock rate (p ∷ ps) =
    ap (λ b. b || has_set_of r (map (settled clock rate) ps)) (settled-of r clock rate p.setting)
    ∙ ap (λ b. is_set_by r p.setting || b) (settled-any r clock rate ps)

-- what holds of each, and of each after it is changed, holds of each
pub settled-all : (P : PendingSet → Type 0) (clock rate : ℕ)
    → ((p : PendingSet) → P p → P (settled clock rate p))
    → (sets : List PendingSet) → All P sets → All P (map (settled clock rate) sets)
settled-all P clock rate keeps sets all =
    All-map P (settled clock rate) sets
    (All-weaker P (λ p. P (settled clock rate p)) keeps sets all)
