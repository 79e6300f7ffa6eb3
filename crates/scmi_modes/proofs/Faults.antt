-- The fault that a run of a known input ends with.
use Rattle.std.proofs.Common.{◌≡◌, ◌≢◌, ℕ, ◌<◌, ◌≤◌, ◌⊎◌, inl, inr, List, take, length, Option, None, Some, IfSome, IfErr, IsErrOf, Result, Ok, Err, OnOk, refl, sym, ap, ◌∙◌, subst, arith}
use Rattle.std.proofs.lemmas.List.{length-take, take_all}
use Rattle.scmi_io.specs.Lines.{after_line, first_line}
use Rattle.scmi_io.specs.declared.input.TheConstants.{INPUT_BYTES, KEPT_BYTES}
use Rattle.scmi_io.specs.declared.input_error.InputError.{InputError}
use Rattle.scmi_io.specs.declared.input_error.InputError.TheVariants as input
use Rattle.scmi_modes.specs.AnyMode.{Takes, any_text_of}
use Rattle.scmi_modes.specs.Fault.{IsFaultBehind, IsFaultIn, IsFaultOfOnce, IsFaultOfRun}
use Rattle.scmi_modes.specs.Once.{area_of}
use Rattle.scmi_modes.specs.Program.{NamesMode}
use Rattle.scmi_modes.specs.RunError.{fault_of_input}
use Rattle.scmi_modes.specs.declared.any_mode.AnyMode.{AnyMode}
use Rattle.scmi_modes.specs.declared.any_mode.AnyMode.TheVariants as any
use Rattle.scmi_modes.specs.declared.any_mode.Modes.{Modes}
use Rattle.scmi_modes.specs.declared.kind.Kind.TheVariants.{Rings, Words}
use Rattle.scmi_modes.specs.declared.mode.Mode.TheVariants as mode
use Rattle.scmi_modes.specs.declared.run_error.RunError.{RunError}
use Rattle.scmi_modes.specs.declared.run_error.RunError.TheVariants.{Mode, Size, Read, Area, Board, Script, Plan, Limit, Memory, Write}

-- each mode's text is shorter than what is kept of the first line
short : (m : AnyMode) → length (any_text_of m) < KEPT_BYTES
short (any.Plain mode.Once) = omega arith
short (any.Plain (mode.Steps Rings)) = omega arith
short (any.Plain (mode.Steps Words)) = omega arith
short (any.Plain (mode.Threads Rings)) = omega arith
short (any.Plain (mode.Threads Words)) = omega arith
short (any.Hardware Rings) = omega arith
short (any.Hardware Words) = omega arith

-- a line of which so much is kept is a short one where what is kept is
kept_whole : (line text : List ℕ) → take KEPT_BYTES line ≡ text → length text < KEPT_BYTES
    → line ≡ text
kept_whole line text is few =
    let cut : length (take KEPT_BYTES line) ≡ length text = ap length is in
    let all : length line ≤ KEPT_BYTES = omega (arith, cut, few, length-take KEPT_BYTES line) in
    sym (take_all KEPT_BYTES line all) ∙ is

named_is : (m : AnyMode) (kept line : List ℕ) → kept ≡ take KEPT_BYTES line → kept ≡ any_text_of m
    → line ≡ any_text_of m
named_is m kept line first is = kept_whole line (any_text_of m) (sym first ∙ is) (short m)

once_of : (bytes : List ℕ) (e : RunError) → (e ≡ Area → area_of bytes ≡ None)
    → (e ≡ Size → INPUT_BYTES < length bytes) → (e ≡ Size) ⊎ (e ≡ Read) ⊎ (e ≡ Area) ⊎ (e ≡ Memory)
    ⊎ (e ≡ Write) → IsFaultOfOnce bytes e
once_of bytes e area size (inl is) = subst (IsFaultOfOnce bytes) (sym is) (size is)
once_of bytes e area size (inr (inl is)) = subst (IsFaultOfOnce bytes) (sym is) tt
once_of bytes e area size (inr (inr (inl is))) = subst (IsFaultOfOnce bytes) (sym is) (area is)
once_of bytes e area size (inr (inr (inr (inl is)))) = subst (IsFaultOfOnce bytes) (sym is) tt
once_of bytes e area size (inr (inr (inr (inr is)))) = subst (IsFaultOfOnce bytes) (sym is) tt

-- a fault of the mode `once`
pub of_once : {T : Type 0} (r : Result T RunError) (known : Option (List ℕ))
    → (IsErrOf r Area → IfSome known (λ bytes. area_of bytes ≡ None))
    → (IsErrOf r Size → IfSome known (λ bytes. INPUT_BYTES < length bytes))
    → IfErr r (λ e. (e ≡ Size) ⊎ (e ≡ Read) ⊎ (e ≡ Area) ⊎ (e ≡ Memory) ⊎ (e ≡ Write))
    → IfErr r (λ e. IfSome known (λ bytes. IsFaultOfOnce bytes e))
of_once (Ok x) known area size errors = tt
of_once (Err e) None area size errors = tt
of_once (Err e) (Some bytes) area size errors = once_of bytes e (λ is. area
    (ap (λ (x : RunError). Err x) is)) (λ is. size (ap (λ (x : RunError). Err x) is)) errors

-- no fault behind the first line is that it names no mode
not_behind : (m : AnyMode) (bytes : List ℕ) → IsFaultIn m bytes Mode → ⊥
not_behind (any.Plain mode.Once) bytes is = is
not_behind (any.Plain (mode.Steps kind)) bytes is = is
not_behind (any.Plain (mode.Threads kind)) bytes is = is
not_behind (any.Hardware kind) bytes is = is

module _ (modes : Modes) where
  behind_first : (bytes : List ℕ) (e : RunError) → IsFaultBehind modes bytes e
      → IsFaultOfRun modes bytes e
  behind_first bytes Mode behind =
      absurd (not_behind behind.mode (after_line bytes) behind.fault_in)
  behind_first bytes Size behind = inr behind
  behind_first bytes Read behind = tt
  behind_first bytes Memory behind = tt
  behind_first bytes Area behind = behind
  behind_first bytes (Board line) behind = behind
  behind_first bytes (Script line) behind = behind
  behind_first bytes (Plan rule) behind = behind
  behind_first bytes Limit behind = behind
  behind_first bytes Write behind = behind

  -- a fault in the mode that the first line names
  pub in_mode : {T : Type 0} (r : Result T RunError) (known rest : Option (List ℕ)) (m : AnyMode)
      (kept : List ℕ) → IfSome known (λ bytes. kept ≡ take KEPT_BYTES (first_line bytes)) → IfSome
      known (λ bytes. rest ≡ Some (after_line bytes)) → kept ≡ any_text_of m → Takes modes m
      → IfErr r (λ e. IfSome rest (λ bytes. IsFaultIn m bytes e))
      → IfErr r (λ e. IfSome known (λ bytes. IsFaultOfRun modes bytes e))
  in_mode (Ok x) known rest m kept first behind is takes fault = tt
  in_mode (Err e) None rest m kept first behind is takes fault = tt
  in_mode (Err e) (Some bytes) rest m kept first behind is takes fault =
      let there : IfSome (Some (after_line bytes)) (λ bs. IsFaultIn m bs e) =
      subst (λ (o : Option (List ℕ)). IfSome o (λ bs. IsFaultIn m bs e)) behind fault in
      behind_first bytes e (record {
        mode = m;
        takes = takes;
        named = named_is m kept (first_line bytes) first is;
        fault_in = there;
      })

  -- the first line names the mode that is run
  pub where_named : {T : Type 0} (r : Result T RunError) (known : Option (List ℕ)) (m : AnyMode)
      (kept : List ℕ) → IfSome known (λ bytes. kept ≡ take KEPT_BYTES (first_line bytes))
      → kept ≡ any_text_of m → Takes modes m → OnOk r (NamesMode modes known)
  where_named (Err e) known m kept first is takes = tt
  where_named (Ok x) None m kept first is takes = tt
  where_named (Ok x) (Some bytes) m kept first is takes =
      (m, takes, named_is m kept (first_line bytes) first is)

  -- a first line that names no mode
  pub no_mode : (known : Option (List ℕ)) (kept : List ℕ) → IfSome known (λ bytes. kept
      ≡ take KEPT_BYTES (first_line bytes)) → ((m : AnyMode) → Takes modes m → kept ≢ any_text_of m)
      → IfSome known (λ bytes. IsFaultOfRun modes bytes Mode)
  no_mode None kept first none = tt
  no_mode (Some bytes) kept first none = λ m takes line. none m takes (first
      ∙ ap (take KEPT_BYTES) line ∙ take_all KEPT_BYTES (any_text_of m) (omega (arith, short m)))

  -- a first line that is not read
  pub not_read : (known : Option (List ℕ)) (e : InputError)
      → (e ≡ input.Size → IfSome known (λ bytes. INPUT_BYTES < length (first_line bytes)))
      → IfSome known (λ bytes. IsFaultOfRun modes bytes (fault_of_input e))
  not_read None e size = tt
  not_read (Some bytes) input.Size size = inl (size refl)
  not_read (Some bytes) input.Read size = tt
  not_read (Some bytes) input.Memory size = tt
