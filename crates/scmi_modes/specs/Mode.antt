-- The texts of the modes.
use Rattle.std.specs.Prelude.{ℕ, List}
use Rattle.scmi_modes.specs.declared.kind.Kind.TheVariants.{Rings, Words}
use Rattle.scmi_modes.specs.declared.mode.Mode.{Mode}
use Rattle.scmi_modes.specs.declared.mode.Mode.TheVariants.{Once, Steps, Threads}
use Rattle.scmi_modes.specs.declared.mode_lines.TheConstants.{ONCE, STEPS_RINGS, STEPS_WORDS, THREADS_RINGS, THREADS_WORDS}

-- the text of a mode, which is the whole first line
abbrev pub text_of : Mode → List ℕ
text_of Once = ONCE.now
text_of (Steps Rings) = STEPS_RINGS.now
text_of (Steps Words) = STEPS_WORDS.now
text_of (Threads Rings) = THREADS_RINGS.now
text_of (Threads Words) = THREADS_WORDS.now
