-- What an input encodes, as it is read part by part.
use Rattle.std.proofs.Common.{ℕ, ◌^◌, ◌<◌, ◌≤◌, ◌≡◌, ◌≢◌, nat_le, Bool, true, false, cond, List, [], ◌∷◌, length, Option, Some, None, IfSome, IfErr, Result, Ok, Err, refl, sym, ap, ◌∙◌, ◌⊎◌, inl, inr, subst, arith}
use Rattle.std.proofs.lemmas.Bool.Decides.{nat_tests}
use Rattle.scmi_board.specs.BoardText.{FailsBoard}
use Rattle.scmi_board.specs.BoardLines.{Described, with_lines}
use Rattle.scmi_board.specs.Lines.{Line, LinesView}
use Rattle.scmi_board.specs.declared.text_error.TextError.{TextError}
use Rattle.scmi_board.specs.declared.text_error.TextError.TheVariants as text
use Rattle.scmi_io.specs.declared.input.TheConstants.{INPUT_BYTES}
use Rattle.scmi_io.specs.declared.input_error.InputError.{InputError}
use Rattle.scmi_io.specs.declared.input_error.InputError.TheVariants as input
use Rattle.scmi_plan.specs.Board.{Board}
use Rattle.scmi_plan.specs.PlanError.{first_fault, number}
use Rattle.scmi_plan.specs.declared.plan_error.PlanError.{PlanError}
use Rattle.scmi_plan.specs.declared.plan_error.PlanError.TheVariants as plan
use Rattle.scmi_text.specs.TextLines.{FailsScript}
use Rattle.scmi_modes.specs.Input.{FailsInput, IsFaultOf, IsFaultOrLimit, behind_mode, input_of, valid, with_scripts, without_lines}
use Rattle.scmi_modes.specs.RunError.{fault_of_input, fault_of_plan, fault_of_text, status_of}
use Rattle.scmi_modes.specs.declared.run_error.RunError.{RunError}
use Rattle.scmi_modes.specs.declared.run_error.RunError.TheVariants.{Mode, Size, Read, Area, Board as BoardFault, Script as ScriptFault, Plan as PlanFault, Limit, Memory, Write}

-- the lines of an input that no one has read yet
pub lines_same : (lines : LinesView) (bytes : List ℕ) → lines.rest ≡ bytes → lines.number ≡ 1
    → lines ≡ behind_mode bytes
lines_same lines bytes rest first = ap (λ (r : List ℕ). record { rest = r; number = lines.number })
    rest ∙ ap (λ (n : ℕ). record { rest = bytes; number = n }) first

-- what holds of a known input
known_so : {P Q : List ℕ → Type 0} (known : Option (List ℕ)) → IfSome known P
    → ((bytes : List ℕ) → P bytes → Q bytes) → IfSome known Q
known_so None holds then = tt
known_so (Some bytes) holds then = then bytes holds

-- a board whose agents are counted
pub few_agents : (n m : ℕ) → (2 ^ 32 ≤ n → ⊥) → m ≡ n → m < 2 ^ 32
few_agents n m not_many same = omega (arith, not_many, same)

-- a board without channels fails as its lines do
pub plain_fails : (error : TextError) (there : Result (Board × List Line) ℕ)
    → FailsBoard error there → FailsBoard error (without_lines there)
plain_fails (text.Board line) there is = ap without_lines is
plain_fails (text.Script line) there is = absurd is
plain_fails text.Memory there is = tt

-- what a text of these lines encodes
module _ {A : Type 0} (boards : LinesView → Result (Described × List Line) ℕ)
    (scripts : ℕ → List Line → Result A ℕ) where
  abbrev from_scripts : Described → Result A ℕ → Result (Board × A) RunError
  from_scripts said read =
      elim read [ Err line ↦ Err (ScriptFault line) | Ok script ↦ valid said script ]

  abbrev from_board : Result (Described × List Line) ℕ → Result (Board × A) RunError
  from_board found = elim found
      [ Err line ↦ Err (BoardFault line) | Ok found ↦ with_scripts scripts found.0 found.1 ]

  input_is : (bytes : List ℕ) (found : Result (Described × List Line) ℕ)
      → boards (behind_mode bytes) ≡ found → input_of boards scripts bytes ≡ from_board found
  unfolding input_of
  input_is bytes found is = ap from_board is

  scripts_are : (said : Described) (lines : List Line)
      → with_scripts scripts said lines ≡ cond (nat_le (2 ^ 32) (length said.0.agents))
      (Err (PlanFault 1)) (from_scripts said (scripts (length said.0.agents) lines))
  unfolding with_scripts
  scripts_are said lines = refl

  too_many : (said : Described) (lines : List Line) → 2 ^ 32 ≤ length said.0.agents
      → with_scripts scripts said lines ≡ Err (PlanFault 1)
  too_many said lines many =
      let test : nat_le (2 ^ 32) (length said.0.agents) ≡ true = grind (arith, nat_tests) in
      scripts_are said lines ∙ ap (λ (b : Bool). cond b (Err (PlanFault 1))
      (from_scripts said (scripts (length said.0.agents) lines))) test

  few_enough : (said : Described) (lines : List Line) (read : Result A ℕ)
      → length said.0.agents < 2 ^ 32 → scripts (length said.0.agents) lines ≡ read
      → with_scripts scripts said lines ≡ from_scripts said read
  few_enough said lines read few is =
      let test : nat_le (2 ^ 32) (length said.0.agents) ≡ false = grind (arith, nat_tests) in
      scripts_are said lines ∙ ap (λ (b : Bool). cond b (Err (PlanFault 1)) (from_scripts said
      (scripts (length said.0.agents) lines))) test ∙ ap (from_scripts said) is

  -- a line that is none of a board
  pub board_fails : (bytes : List ℕ) (error : TextError)
      → FailsBoard error (boards (behind_mode bytes))
      → FailsInput (fault_of_text error) (input_of boards scripts bytes)
  board_fails bytes (text.Board line) is = input_is bytes (Err line) is
  board_fails bytes (text.Script line) is = absurd is
  board_fails bytes text.Memory is = tt

  module _ (bytes : List ℕ) (said : Described) (lines : List Line)
      (found : boards (behind_mode bytes) ≡ Ok (said, lines)) where
    -- more agents than a number says
    pub count_fails : 2 ^ 32 ≤ length said.0.agents
        → FailsInput (PlanFault 1) (input_of boards scripts bytes)
    count_fails many = input_is bytes (Ok (said, lines)) found ∙ too_many said lines many

    module _ (few : length said.0.agents < 2 ^ 32) where
      reads : (read : Result A ℕ) → scripts (length said.0.agents) lines ≡ read
          → input_of boards scripts bytes ≡ from_scripts said read
      reads read is = input_is bytes (Ok (said, lines)) found ∙ few_enough said lines read few is

      -- a line that is none of a script
      pub script_fails : (error : TextError)
          → FailsScript error (scripts (length said.0.agents) lines)
          → FailsInput (fault_of_text error) (input_of boards scripts bytes)
      script_fails (text.Board line) is = absurd is
      script_fails (text.Script line) is = reads (Err line) is
      script_fails text.Memory is = tt

      broken : (script : A) (rule : Option PlanError)
          → first_fault said.0 ≡ rule → valid said script ≡ elim rule [
            | None ↦ Ok
                (with_lines said.0 said.1, script)
            | Some rule ↦ Err (PlanFault (number rule))
          ]
      unfolding valid
      broken script rule is =
          ap (λ (o : Option PlanError). elim o as (λ o. Result (Board × A) RunError) [
            | None ↦ Ok
                (with_lines said.0 said.1, script)
            | Some rule ↦ Err (PlanFault (number rule))
          ]) is

      breaks : (script : A) (rule : PlanError)
          → scripts (length said.0.agents) lines ≡ Ok script → first_fault said.0 ≡ Some rule
          → input_of boards scripts bytes ≡ Err (PlanFault (number rule))
      breaks script rule is first = reads (Ok script) is ∙ broken script (Some rule) first

      -- a rule that the board breaks
      pub rule_fails : (script : A) (error : PlanError) → scripts (length said.0.agents) lines
          ≡ Ok script → (error ≢ plan.Memory → first_fault said.0 ≡ Some error)
          → FailsInput (fault_of_plan error) (input_of boards scripts bytes)
      rule_fails script plan.Count is first =
          breaks script plan.Count is (first (λ same. absurd cc))
      rule_fails script plan.Name is first = breaks script plan.Name is (first (λ same. absurd cc))
      rule_fails script plan.Rates is first =
          breaks script plan.Rates is (first (λ same. absurd cc))
      rule_fails script plan.Device is first =
          breaks script plan.Device is (first (λ same. absurd cc))
      rule_fails script plan.Trusted is first =
          breaks script plan.Trusted is (first (λ same. absurd cc))
      rule_fails script plan.Memory is first = tt

      -- a board that keeps every rule
      pub stands : (script : A) → scripts (length said.0.agents) lines ≡ Ok script → first_fault
          said.0 ≡ None → input_of boards scripts bytes ≡ Ok (with_lines said.0 said.1, script)
      stands script is none = reads (Ok script) is ∙ broken script None none

module _ {A : Type 0} (bytes : List ℕ) (there : Result A RunError) where
  -- a fault of the text is one of the input
  text_fault : (error : RunError) → FailsInput error there → IsFaultOf bytes there error
  text_fault Mode is = is
  text_fault Size is = absurd is
  text_fault Read is = tt
  text_fault Area is = is
  text_fault (BoardFault line) is = is
  text_fault (ScriptFault line) is = is
  text_fault (PlanFault rule) is = is
  text_fault Limit is = absurd is
  text_fault Memory is = tt
  text_fault Write is = absurd is

  -- and so is an input that is too long
  input_fault : (error : InputError) → (error ≡ input.Size → INPUT_BYTES < length bytes)
      → IsFaultOf bytes there (fault_of_input error)
  input_fault input.Size long = long refl
  input_fault input.Read long = tt
  input_fault input.Memory long = tt

  -- a run of steps that ends without its input's fault
  step_fault : (value : A) (error : RunError) → there ≡ Ok value
      → (error ≡ Memory) ⊎ (error ≡ Write) → IsFaultOf bytes there error
  step_fault value error is (inl memory) = subst (IsFaultOf bytes there) (sym memory) tt
  step_fault value error is (inr write) = subst (IsFaultOf bytes there) (sym write) (value, is)

  or_limit : (error : RunError) → IsFaultOf bytes there error → IsFaultOrLimit bytes there error
  or_limit Mode is = is
  or_limit Size is = is
  or_limit Read is = is
  or_limit Area is = is
  or_limit (BoardFault line) is = is
  or_limit (ScriptFault line) is = is
  or_limit (PlanFault rule) is = is
  or_limit Limit is = absurd is
  or_limit Memory is = is
  or_limit Write is = is

  -- a run in threads that ends without its input's fault
  run_fault : (value : A) (error : RunError) → there ≡ Ok value → ¬ (status_of error ≡ 2)
      → IsFaultOrLimit bytes there error
  run_fault value Mode is other = absurd (other refl)
  run_fault value Size is other = absurd (other refl)
  run_fault value Read is other = tt
  run_fault value Area is other = absurd (other refl)
  run_fault value (BoardFault line) is other = absurd (other refl)
  run_fault value (ScriptFault line) is other = absurd (other refl)
  run_fault value (PlanFault rule) is other = absurd (other refl)
  run_fault value Limit is other = (value, is)
  run_fault value Memory is other = tt
  run_fault value Write is other = (value, is)

module _ {A : Type 0} (stands_for : List ℕ → Result A RunError) (known : Option (List ℕ)) where
  -- what bytes that were read encode, of a known input
  pub known_stands : {value : A} (given bytes : List ℕ)
      → given ≡ bytes → IfSome known (λ input. bytes ≡ input) → stands_for given ≡ Ok value
      → IfSome known (λ input. stands_for input ≡ Ok value)
  known_stands given bytes same read is =
      known_so known read (λ input all. ap stands_for (sym all) ∙ ap stands_for (sym same) ∙ is)

  -- the faults of a known input
  pub known_length : (error : InputError)
      → (error ≡ input.Size → IfSome known (λ input. INPUT_BYTES < length input))
      → IfSome known (λ input. IsFaultOf input (stands_for input) (fault_of_input error))
  known_length error long = by known long where
    by : (known : Option (List ℕ))
        → (error ≡ input.Size → IfSome known (λ input. INPUT_BYTES < length input))
        → IfSome known (λ input. IsFaultOf input (stands_for input) (fault_of_input error))
    by None long = tt
    by (Some bytes) long = input_fault bytes (stands_for bytes) error long

  pub known_text : (given bytes : List ℕ) (error : RunError)
      → given ≡ bytes → IfSome known (λ input. bytes ≡ input) → FailsInput error (stands_for given)
      → IfSome known (λ input. IsFaultOf input (stands_for input) error)
  known_text given bytes error same read is =
      known_so known read (λ input all. text_fault input (stands_for input) error
      (subst (λ (bs : List ℕ). FailsInput error (stands_for bs)) (same ∙ all) is))

  pub known_or_limit : (error : RunError)
      → IfSome known (λ input. IsFaultOf input (stands_for input) error)
      → IfSome known (λ input. IsFaultOrLimit input (stands_for input) error)
  known_or_limit error is =
      known_so known is (λ input fault. or_limit input (stands_for input) error fault)

  pub known_steps : {T : Type 0} (r : Result T RunError) (value : A) → IfSome known
      (λ input. stands_for input ≡ Ok value) → IfErr r (λ e. (e ≡ Memory) ⊎ (e ≡ Write))
      → IfErr r (λ e. IfSome known (λ input. IsFaultOf input (stands_for input) e))
  known_steps (Ok x) value are errors = tt
  known_steps (Err e) value are errors =
      known_so known are (λ input is. step_fault input (stands_for input) value e is errors)

  pub known_run : {T : Type 0} (r : Result T RunError) (value : A)
      → IfSome known (λ input. stands_for input ≡ Ok value) → IfErr r (λ e. ¬ (status_of e ≡ 2))
      → IfErr r (λ e. IfSome known (λ input. IsFaultOrLimit input (stands_for input) e))
  known_run (Ok x) value are errors = tt
  known_run (Err e) value are errors =
      known_so known are (λ input is. run_fault input (stands_for input) value e is errors)
