-- One more command has the next token.
use Rattle.std.proofs.Common.{◌≡◌, ℕ, suc, ◌+◌, ◌%◌, List, [], ◌∷◌, ◌++◌, length, map, Some, arith, sym, ap, ap₂, ◌∙◌}
use Rattle.std.proofs.lemmas.List.{map-append, length-append}
use Rattle.scmi_codec.specs.declared.frame.Frame.{Frame}
use Rattle.scmi_codec.specs.declared.header.TheConstants.{TOKENS}
use Rattle.scmi_threads.specs.Tokens.{command_token, first_tokens}

pub tokens_push : (fs fs' : List Frame) (f : Frame) (t : ℕ) → map command_token fs
    ≡ first_tokens (length fs) → command_token f ≡ Some t → t ≡ length fs % TOKENS
    → fs' ≡ fs ++ f ∷ [] → map command_token fs' ≡ first_tokens (length fs')
tokens_push fs fs' f t tokens is next e =
    let long : length fs' ≡ suc (length fs) =
    omega (arith, ap length e, length-append fs (f ∷ [])) in
    ap (map command_token) e ∙ map-append command_token fs (f ∷ [])
    ∙ ap₂ (λ xs y. xs ++ y ∷ []) tokens (is ∙ ap Some next) ∙ sym (ap first_tokens long)

pub next_push : (fs fs' : List Frame) (f : Frame) (t : ℕ) → t ≡ length fs % TOKENS
    → fs' ≡ fs ++ f ∷ [] → (t + 1) % TOKENS ≡ length fs' % TOKENS
next_push fs fs' f t next e = omega (arith, next, ap length e, length-append fs (f ∷ []))
