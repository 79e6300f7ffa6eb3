-- The mode that a first line names.
use Rattle.std.proofs.Common.{◌≡◌, ℕ, List, take, get_or, Option, None, Some, IfSome, Result, Ok, Err, OnOk, sym, ap, ◌∙◌, refl, subst, arith}
use Rattle.scmi_io.specs.Lines.{after_line, first_line}
use Rattle.scmi_io.specs.declared.input.TheConstants.{KEPT_BYTES}
use Rattle.scmi_modes.specs.AnyMode.{Takes, any_text_of, hardware_text}
use Rattle.scmi_modes.specs.Mode.{text_of}
use Rattle.scmi_modes.specs.Program.{NamesNoHardware, RunsHardware, RunsSteps, RunsThreads}
use Rattle.scmi_modes.specs.Runs.{IsTextOfRun, may_be_full}
use Rattle.scmi_modes.specs.Steps.{WritesHardware, WritesSteps}
use Rattle.scmi_modes.specs.declared.any_mode.AnyMode.{AnyMode}
use Rattle.scmi_modes.specs.declared.any_mode.AnyMode.TheVariants as any
use Rattle.scmi_modes.specs.declared.any_mode.Modes.{Modes}
use Rattle.scmi_modes.specs.declared.any_mode.Modes.TheVariants as modes
use Rattle.scmi_modes.specs.declared.kind.Kind.{Kind}
use Rattle.scmi_modes.specs.declared.kind.Kind.TheVariants.{Rings, Words}
use Rattle.scmi_modes.specs.declared.mode.Mode.{Mode}
use Rattle.scmi_modes.specs.declared.mode.Mode.TheVariants.{Once, Steps, Threads}

-- a mode whose text is that of threads over a kind is that mode
same_mode : (m : Mode) (k : Kind) → take KEPT_BYTES (text_of (Threads k)) ≡ text_of m
    → m ≡ Threads k
same_mode Once Rings same = absurd cc
same_mode Once Words same = absurd cc
same_mode (Steps Rings) Rings same = absurd cc
same_mode (Steps Words) Rings same = absurd cc
same_mode (Steps Rings) Words same = absurd cc
same_mode (Steps Words) Words same = absurd cc
same_mode (Threads Rings) Rings same = refl
same_mode (Threads Words) Rings same =
    let ninth : 114 ≡ 119 = ap (λ (xs : List ℕ). get_or xs 8 0) same in
    absurd (omega (arith, ninth))
same_mode (Threads Rings) Words same =
    let ninth : 119 ≡ 114 = ap (λ (xs : List ℕ). get_or xs 8 0) same in
    absurd (omega (arith, ninth))
same_mode (Threads Words) Words same = refl

plain_threads : (m : AnyMode) (k : Kind) → take KEPT_BYTES (text_of (Threads k)) ≡ any_text_of m
    → m ≡ any.Plain (Threads k)
plain_threads (any.Plain m) k same = ap (λ (q : Mode). any.Plain q) (same_mode m k same)
plain_threads (any.Hardware Rings) Rings same =
    let first : 116 ≡ 104 = ap (λ (xs : List ℕ). get_or xs 0 0) same in
    absurd (omega (arith, first))
plain_threads (any.Hardware Rings) Words same =
    let first : 116 ≡ 104 = ap (λ (xs : List ℕ). get_or xs 0 0) same in
    absurd (omega (arith, first))
plain_threads (any.Hardware Words) Rings same =
    let first : 116 ≡ 104 = ap (λ (xs : List ℕ). get_or xs 0 0) same in
    absurd (omega (arith, first))
plain_threads (any.Hardware Words) Words same =
    let first : 116 ≡ 104 = ap (λ (xs : List ℕ). get_or xs 0 0) same in
    absurd (omega (arith, first))

-- the text of a run over one kind is that of each kind whose mode is the same
pub on_threads : {T E : Type 0} (r : Result T E) (kind : Kind) (known old new : Option (List ℕ))
    → OnOk r (IsTextOfRun (may_be_full kind) known old new) → OnOk r ((k : Kind)
    → any.Plain (Threads kind) ≡ any.Plain (Threads k) → IsTextOfRun (may_be_full k) known old new)
on_threads (Err e) kind known old new holds = tt
on_threads (Ok x) kind known old new holds = λ k same. let is : kind ≡ k = cc in
    subst (λ q. IsTextOfRun (may_be_full q) known old new) is holds

-- what holds where the mode is that of threads holds where the first line is its text
pub where_threads : {T E : Type 0} (r : Result T E)
    (known rest : Option (List ℕ)) (m : AnyMode) (kept : List ℕ) (old new : Option (List ℕ))
    → IfSome known (λ input. kept ≡ take KEPT_BYTES (first_line input))
    → IfSome known (λ input. rest ≡ Some (after_line input)) → kept ≡ any_text_of m
    → OnOk r ((k : Kind) → m ≡ any.Plain (Threads k) → IsTextOfRun (may_be_full k) rest old new)
    → OnOk r (RunsThreads known old new)
where_threads (Err e) known rest m kept old new first behind is holds = tt
where_threads (Ok x) None rest m kept old new first behind is holds = tt
where_threads (Ok x) (Some input) rest m kept old new first behind is holds =
    λ k line. subst (λ q. IsTextOfRun (may_be_full k) q old new) behind (holds k
    (plain_threads m k (ap (λ (xs : List ℕ). take KEPT_BYTES xs) (sym line) ∙ sym first ∙ is)))

-- a mode whose text is that of steps over a kind is that mode
same_steps : (m : Mode) (k : Kind) → take KEPT_BYTES (text_of (Steps k)) ≡ text_of m → m ≡ Steps k
same_steps Once Rings same = absurd cc
same_steps Once Words same = absurd cc
same_steps (Threads Rings) Rings same = absurd cc
same_steps (Threads Words) Rings same = absurd cc
same_steps (Threads Rings) Words same = absurd cc
same_steps (Threads Words) Words same = absurd cc
same_steps (Steps Rings) Rings same = refl
same_steps (Steps Words) Rings same =
    let seventh : 114 ≡ 119 = ap (λ (xs : List ℕ). get_or xs 6 0) same in
    absurd (omega (arith, seventh))
same_steps (Steps Rings) Words same =
    let seventh : 119 ≡ 114 = ap (λ (xs : List ℕ). get_or xs 6 0) same in
    absurd (omega (arith, seventh))
same_steps (Steps Words) Words same = refl

plain_steps : (m : AnyMode) (k : Kind) → take KEPT_BYTES (text_of (Steps k)) ≡ any_text_of m
    → m ≡ any.Plain (Steps k)
plain_steps (any.Plain m) k same = ap (λ (q : Mode). any.Plain q) (same_steps m k same)
plain_steps (any.Hardware Rings) Rings same =
    let first : 115 ≡ 104 = ap (λ (xs : List ℕ). get_or xs 0 0) same in
    absurd (omega (arith, first))
plain_steps (any.Hardware Rings) Words same =
    let first : 115 ≡ 104 = ap (λ (xs : List ℕ). get_or xs 0 0) same in
    absurd (omega (arith, first))
plain_steps (any.Hardware Words) Rings same =
    let first : 115 ≡ 104 = ap (λ (xs : List ℕ). get_or xs 0 0) same in
    absurd (omega (arith, first))
plain_steps (any.Hardware Words) Words same =
    let first : 115 ≡ 104 = ap (λ (xs : List ℕ). get_or xs 0 0) same in
    absurd (omega (arith, first))

-- the text of steps over one kind is that of each kind whose mode is the same
pub on_steps : {T E : Type 0} (r : Result T E) (kind : Kind) (known old new : Option (List ℕ))
    → OnOk r (WritesSteps known kind old new) → OnOk r
    ((k : Kind) → any.Plain (Steps kind) ≡ any.Plain (Steps k) → WritesSteps known k old new)
on_steps (Err e) kind known old new holds = tt
on_steps (Ok x) kind known old new holds = λ k same. let is : kind ≡ k = cc in
    subst (λ q. WritesSteps known q old new) is holds

-- what holds where the mode is that of steps holds where the first line is its text
pub where_steps : {T E : Type 0} (r : Result T E) (known rest : Option (List ℕ))
    (m : AnyMode) (kept : List ℕ) (old new : Option (List ℕ))
    → IfSome known (λ input. kept ≡ take KEPT_BYTES (first_line input))
    → IfSome known (λ input. rest ≡ Some (after_line input)) → kept ≡ any_text_of m
    → OnOk r ((k : Kind) → m ≡ any.Plain (Steps k) → WritesSteps rest k old new)
    → OnOk r (RunsSteps known old new)
where_steps (Err e) known rest m kept old new first behind is holds = tt
where_steps (Ok x) None rest m kept old new first behind is holds = tt
where_steps (Ok x) (Some input) rest m kept old new first behind is holds =
    λ k line. subst (λ q. WritesSteps q k old new) behind (holds k
    (plain_steps m k (ap (λ (xs : List ℕ). take KEPT_BYTES xs) (sym line) ∙ sym first ∙ is)))

-- a mode whose text is that of hardware over a kind is that mode
same_hardware : (m : AnyMode) (k : Kind) → take KEPT_BYTES (hardware_text k) ≡ any_text_of m
    → m ≡ any.Hardware k
same_hardware (any.Plain Once) Rings same =
    let first : 104 ≡ 111 = ap (λ (xs : List ℕ). get_or xs 0 0) same in
    absurd (omega (arith, first))
same_hardware (any.Plain Once) Words same =
    let first : 104 ≡ 111 = ap (λ (xs : List ℕ). get_or xs 0 0) same in
    absurd (omega (arith, first))
same_hardware (any.Plain (Steps Rings)) Rings same =
    let first : 104 ≡ 115 = ap (λ (xs : List ℕ). get_or xs 0 0) same in
    absurd (omega (arith, first))
same_hardware (any.Plain (Steps Words)) Rings same =
    let first : 104 ≡ 115 = ap (λ (xs : List ℕ). get_or xs 0 0) same in
    absurd (omega (arith, first))
same_hardware (any.Plain (Steps Rings)) Words same =
    let first : 104 ≡ 115 = ap (λ (xs : List ℕ). get_or xs 0 0) same in
    absurd (omega (arith, first))
same_hardware (any.Plain (Steps Words)) Words same =
    let first : 104 ≡ 115 = ap (λ (xs : List ℕ). get_or xs 0 0) same in
    absurd (omega (arith, first))
same_hardware (any.Plain (Threads Rings)) Rings same =
    let first : 104 ≡ 116 = ap (λ (xs : List ℕ). get_or xs 0 0) same in
    absurd (omega (arith, first))
same_hardware (any.Plain (Threads Words)) Rings same =
    let first : 104 ≡ 116 = ap (λ (xs : List ℕ). get_or xs 0 0) same in
    absurd (omega (arith, first))
same_hardware (any.Plain (Threads Rings)) Words same =
    let first : 104 ≡ 116 = ap (λ (xs : List ℕ). get_or xs 0 0) same in
    absurd (omega (arith, first))
same_hardware (any.Plain (Threads Words)) Words same =
    let first : 104 ≡ 116 = ap (λ (xs : List ℕ). get_or xs 0 0) same in
    absurd (omega (arith, first))
same_hardware (any.Hardware Rings) Rings same = refl
same_hardware (any.Hardware Words) Rings same =
    let tenth : 114 ≡ 119 = ap (λ (xs : List ℕ). get_or xs 9 0) same in
    absurd (omega (arith, tenth))
same_hardware (any.Hardware Rings) Words same =
    let tenth : 119 ≡ 114 = ap (λ (xs : List ℕ). get_or xs 9 0) same in
    absurd (omega (arith, tenth))
same_hardware (any.Hardware Words) Words same = refl

-- the text of steps beside hardware over one kind is that of each kind whose mode is the same
pub on_hardware : {T E : Type 0} (r : Result T E) (kind : Kind) (known old new : Option (List ℕ))
    → OnOk r (WritesHardware known kind old new)
    → OnOk r ((k : Kind) → any.Hardware kind ≡ any.Hardware k → WritesHardware known k old new)
on_hardware (Err e) kind known old new holds = tt
on_hardware (Ok x) kind known old new holds = λ k same. let is : kind ≡ k = cc in
    subst (λ q. WritesHardware known q old new) is holds

-- what holds where the mode is that of hardware holds where the first line is its text
pub where_hardware : {T E : Type 0} (r : Result T E)
    (known rest : Option (List ℕ)) (m : AnyMode) (kept : List ℕ) (old new : Option (List ℕ))
    → IfSome known (λ input. kept ≡ take KEPT_BYTES (first_line input))
    → IfSome known (λ input. rest ≡ Some (after_line input)) → kept ≡ any_text_of m
    → OnOk r ((k : Kind) → m ≡ any.Hardware k → WritesHardware rest k old new)
    → OnOk r (RunsHardware known old new)
where_hardware (Err e) known rest m kept old new first behind is holds = tt
where_hardware (Ok x) None rest m kept old new first behind is holds = tt
where_hardware (Ok x) (Some input) rest m kept old new first behind is holds =
    λ k line. subst (λ q. WritesHardware q k old new) behind (holds k
    (same_hardware m k (ap (λ (xs : List ℕ). take KEPT_BYTES xs) (sym line) ∙ sym first ∙ is)))

not_taken : (m : AnyMode) (k : Kind) → Takes modes.Plain m → m ≡ any.Hardware k → ⊥
not_taken m k takes is = subst (λ q. Takes modes.Plain q) is takes

-- a first line that names a plain mode names none of hardware
names_none : (known : Option (List ℕ)) (m : AnyMode) (kept : List ℕ)
    → IfSome known (λ input. kept ≡ take KEPT_BYTES (first_line input)) → kept ≡ any_text_of m
    → Takes modes.Plain m → NamesNoHardware known
names_none None m kept first is takes = tt
names_none (Some input) m kept first is takes = λ k line. not_taken m k takes
    (same_hardware m k (ap (λ (xs : List ℕ). take KEPT_BYTES xs) (sym line) ∙ sym first ∙ is))

-- a run that takes the plain modes alone ends well where the first line names none of hardware
pub where_plain : {T E : Type 0} (r : Result T E) (taken : Modes)
    (known : Option (List ℕ)) (m : AnyMode) (kept : List ℕ) → IfSome known
    (λ input. kept ≡ take KEPT_BYTES (first_line input)) → kept ≡ any_text_of m → Takes taken m
    → OnOk r (taken ≡ modes.Plain → NamesNoHardware known)
where_plain (Err e) taken known m kept first is takes = tt
where_plain (Ok x) taken known m kept first is takes =
    λ plain. names_none known m kept first is (subst (λ q. Takes q m) plain takes)
