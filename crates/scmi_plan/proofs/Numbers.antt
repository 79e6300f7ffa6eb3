-- The limits of a board that code and definitions share, each as the profile has it.
use Rattle.std.proofs.Common.{◌≡◌, false, refl}
use Rattle.scmi_plan.specs.declared.agent_channel.TheConstants.{LEAST_CHANNEL_WORDS, WHOLE_CHANNEL}
use Rattle.scmi_plan.specs.declared.limits.TheConstants.{AGENTS, DOMAINS, CLOCKS, DEVICES, PENDING_SETS, RATES}
use Rattle.scmi_plan.specs.declared.mask.TheConstants.{MASK_BITS}

agents : AGENTS ≡ 8
agents = refl

domains : DOMAINS ≡ 32
domains = refl

clocks : CLOCKS ≡ 32
clocks = refl

devices : DEVICES ≡ 32
devices = refl

rates : RATES ≡ 64
rates = refl

pending_sets : PENDING_SETS ≡ 8
pending_sets = refl

channel_words : LEAST_CHANNEL_WORDS ≡ 8
channel_words = refl

whole : WHOLE_CHANNEL ≡ record { words = 64; one_way = false; share = 8 }
whole = refl

mask_bits : MASK_BITS ≡ 32
mask_bits = refl
