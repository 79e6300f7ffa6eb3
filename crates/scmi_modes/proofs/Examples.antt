-- The lines of modes, computed.
use Rattle.std.proofs.Common.{◌≡◌, refl}
use Rattle.std.specs.Prelude.{codes}
use Rattle.scmi_modes.specs.AnyMode.{hardware_text}
use Rattle.scmi_modes.specs.Mode.{text_of}
use Rattle.scmi_modes.specs.declared.kind.Kind.TheVariants.{Rings, Words}
use Rattle.scmi_modes.specs.declared.mode.Mode.TheVariants.{Once, Steps, Threads}

once : text_of Once ≡ codes "once"
once = refl

steps : text_of (Steps Rings) ≡ codes "steps rings"
steps = refl

threads : text_of (Threads Words) ≡ codes "threads words"
threads = refl

hardware : hardware_text Rings ≡ codes "hardware rings"
hardware = refl
