-- The first line of an input, and the lines after it.
use Rattle.std.proofs.Common.{◌≡◌, ℕ, ◌≤◌, ◌<◌, List, take, length, Option, None, Some, IfSome, sym, ap, ◌∙◌, subst, arith}
use Rattle.std.proofs.lemmas.List.{length-take, take_all}
use Rattle.std.specs.List.{All}
use Rattle.scmi_board.specs.BoardLines.{Described}
use Rattle.scmi_board.specs.Lines.{LinesView}
use Rattle.scmi_board.specs.ValidBoard.{with_its_lines}
use Rattle.scmi_modes.proofs.BoardAgents.{agents_kept}
use Rattle.scmi_plan.specs.Board.{Board}
use Rattle.scmi_text.specs.Step.{IsStepOf}
use Rattle.scmi_text.specs.declared.step.Step.{Step}
use Rattle.scmi_io.specs.Lines.{after_line, first_line}
use Rattle.scmi_io.specs.declared.input.TheConstants.{KEPT_BYTES}
use Rattle.scmi_modes.specs.AnyMode.{any_text_of}
use Rattle.scmi_modes.specs.declared.any_mode.AnyMode.{AnyMode}
use Rattle.scmi_modes.specs.declared.any_mode.AnyMode.TheVariants.{Plain, Hardware}
use Rattle.scmi_modes.specs.declared.kind.Kind.TheVariants.{Rings, Words}
use Rattle.scmi_modes.specs.declared.mode.Mode.TheVariants.{Once, Steps, Threads}

-- the lines of an input that no one has read yet
pub lines_same : (lines : LinesView) (bytes : List ℕ) → lines.rest ≡ bytes → lines.number ≡ 1
    → lines ≡ record { rest = bytes; number = 1 }
lines_same lines bytes rest first = ap (λ (r : List ℕ). record { rest = r; number = lines.number })
    rest ∙ ap (λ (n : ℕ). record { rest = bytes; number = n }) first

short : (m : AnyMode) → length (any_text_of m) < KEPT_BYTES
short (Plain Once) = omega arith
short (Plain (Steps Rings)) = omega arith
short (Plain (Steps Words)) = omega arith
short (Plain (Threads Rings)) = omega arith
short (Plain (Threads Words)) = omega arith
short (Hardware Rings) = omega arith
short (Hardware Words) = omega arith

-- a line whose first bytes are fewer than were to be kept is no longer
whole : (line kept : List ℕ) → kept ≡ take KEPT_BYTES line → length kept < KEPT_BYTES → kept ≡ line
whole line kept is few =
    let all : length line ≤ KEPT_BYTES =
    omega (arith, few, ap length is ∙ length-take KEPT_BYTES line) in
    is ∙ take_all KEPT_BYTES line all

named : (line kept : List ℕ) (m : AnyMode) → kept ≡ take KEPT_BYTES line → kept ≡ any_text_of m
    → line ≡ any_text_of m
named line kept m is mode =
    let few : length kept < KEPT_BYTES = omega (arith, short m, ap length mode) in
    sym (whole line kept is few) ∙ mode

-- the first line of an input, if it is known, is that of the mode that its first bytes name
pub named_line : (known : Option (List ℕ)) (kept : List ℕ) (m : AnyMode)
    → IfSome known (λ input. kept ≡ take KEPT_BYTES (first_line input)) → kept ≡ any_text_of m
    → IfSome known (λ input. first_line input ≡ any_text_of m)
named_line None kept m is mode = tt
named_line (Some input) kept m is mode = named (first_line input) kept m is mode

-- what is left after the first line, and read to its end
pub behind_line : (known left : Option (List ℕ)) (all : List ℕ)
    → IfSome known (λ input. left ≡ Some (after_line input)) → IfSome left (λ rest. all ≡ rest)
    → IfSome known (λ input. after_line input ≡ all)
behind_line None left all is read = tt
behind_line (Some input) left all is read =
    sym (subst (λ (l : Option (List ℕ)). IfSome l (λ rest. all ≡ rest)) is read)

-- steps of a board's agents are of the same board with its channels
pub steps_of_plan : (said : Described) (plan : Board) (steps : List Step) → plan ≡ with_its_lines
    said → All (IsStepOf (length said.0.agents)) steps → All (IsStepOf (length plan.agents)) steps
steps_of_plan said plan steps is all = subst (λ (n : ℕ). All (IsStepOf n) steps)
    (sym (ap (λ (b : Board). length b.agents) is ∙ ap length (agents_kept said.0 said.1))) all
