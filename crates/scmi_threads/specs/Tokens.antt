-- The tokens of what an agent called.
use Rattle.std.specs.Prelude.{ℕ, zero, suc, ◌%◌, ◌==◌, ◌&&◌, List, [], ◌∷◌, ◌++◌, Option, Some, None, if◌then◌else◌}
use Rattle.scmi_codec.specs.declared.frame.Frame.{Frame}
use Rattle.scmi_codec.specs.declared.frame.Frame.TheVariants.{Good, Malformed}
use Rattle.scmi_codec.specs.declared.header.TheConstants.{TOKENS}

-- the token of a frame, if it is a message of type 0 with reserved bits 0
abbrev pub command_token : Frame → Option ℕ
command_token (Good m) = if m.header.kind == 0 && m.header.reserved == 0
    then Some m.header.token else None
command_token (Malformed length header) = None

-- the tokens of n commands: they are counted from 0, modulo 1,024
abbrev pub first_tokens : ℕ → List (Option ℕ)
first_tokens zero = []
first_tokens (suc n) = first_tokens n ++ Some (n % TOKENS) ∷ []
