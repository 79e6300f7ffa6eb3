-- The modes that a program takes, and their texts.
use Rattle.std.specs.Prelude.{ℕ, List}
use Rattle.scmi_modes.specs.Mode.{text_of}
use Rattle.scmi_modes.specs.declared.any_mode.AnyMode.{AnyMode}
use Rattle.scmi_modes.specs.declared.any_mode.AnyMode.TheVariants as any
use Rattle.scmi_modes.specs.declared.any_mode.Modes.{Modes}
use Rattle.scmi_modes.specs.declared.any_mode.Modes.TheVariants as modes
use Rattle.scmi_modes.specs.declared.kind.Kind.{Kind}
use Rattle.scmi_modes.specs.declared.kind.Kind.TheVariants.{Rings, Words}
use Rattle.scmi_modes.specs.declared.mode_lines.TheConstants.{HARDWARE_RINGS, HARDWARE_WORDS}

-- the text of a mode beside hardware that may refuse
abbrev pub hardware_text : Kind → List ℕ
hardware_text Rings = HARDWARE_RINGS.now
hardware_text Words = HARDWARE_WORDS.now

-- the text of any mode, which is the whole first line
abbrev pub any_text_of : AnyMode → List ℕ
any_text_of (any.Plain mode) = text_of mode
any_text_of (any.Hardware kind) = hardware_text kind

-- a program that takes these modes takes this one: the plain ones alone, or all
abbrev pub Takes : Modes → AnyMode → Type 0
Takes modes.Plain (any.Plain mode) = Unit {0}
Takes modes.Plain (any.Hardware kind) = ⊥
Takes modes.ForPeople mode = Unit {0}
