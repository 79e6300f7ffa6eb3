-- The line of a fault.
use Rattle.std.specs.Prelude.{ℕ, List, [], ◌∷◌, ◌++◌}
use Rattle.scmi_io.specs.declared.fault_words.TheConstants.{FAULT}

-- the line of a fault of this text, with its line feed
unfoldable pub fault_line : List ℕ → List ℕ
fault_line text = FAULT.now ++ text ++ 10 ∷ []
