-- What the tables of messages say, as it is written in the standard, and that each command's
-- message is in them.
use Rattle.std.proofs.Common.{◌≡◌, ℕ, List, [], ◌∷◌, Some, codes, length, map, refl}
use Rattle.scmi_codec.specs.BaseCommand.{base_id, base_words}
use Rattle.scmi_codec.specs.PowerCommand.{power_id, power_words}
use Rattle.scmi_codec.specs.ClockCommand.{clock_id, clock_words}
use Rattle.scmi_codec.specs.Command.{IsListed}
use Rattle.scmi_codec.specs.Listing.{listed_words, protocols, rows_of, words_of}
use Rattle.scmi_codec.specs.declared.base_command.BaseCommand.{BaseCommand}
use Rattle.scmi_codec.specs.declared.base_command.BaseCommand.TheVariants as base
use Rattle.scmi_codec.specs.declared.power_command.PowerCommand.{PowerCommand}
use Rattle.scmi_codec.specs.declared.power_command.PowerCommand.TheVariants as power
use Rattle.scmi_codec.specs.declared.clock_command.ClockCommand.{ClockCommand}
use Rattle.scmi_codec.specs.declared.clock_command.ClockCommand.TheVariants as clock
use Rattle.scmi_codec.specs.declared.command.Command.{Command}
use Rattle.scmi_codec.specs.declared.command.Command.TheVariants.{Base, Power, Clock}

base_listed : (c : BaseCommand) → listed_words 0x10 (base_id c) ≡ Some (length (base_words c))
unfolding rows_of
base_listed base.Version = refl
base_listed base.Attributes = refl
base_listed (base.MessageAttributes m) = refl
base_listed base.Vendor = refl
base_listed base.SubVendor = refl
base_listed base.Implementation = refl
base_listed (base.Protocols s) = refl
base_listed (base.Agent a) = refl
base_listed (base.Permit a d f) = refl
base_listed (base.PermitProtocol a d p f) = refl
base_listed (base.ResetAgent a f) = refl

power_listed : (c : PowerCommand) → listed_words 0x11 (power_id c) ≡ Some (length (power_words c))
unfolding rows_of
power_listed power.Version = refl
power_listed power.Attributes = refl
power_listed (power.MessageAttributes m) = refl
power_listed (power.DomainAttributes d) = refl
power_listed (power.Set f d s) = refl
power_listed (power.Get d) = refl
power_listed (power.Notify d e) = refl

clock_listed : (c : ClockCommand) → listed_words 0x14 (clock_id c) ≡ Some (length (clock_words c))
unfolding rows_of
clock_listed clock.Version = refl
clock_listed clock.Attributes = refl
clock_listed (clock.MessageAttributes m) = refl
clock_listed (clock.ClockAttributes c) = refl
clock_listed (clock.Describe c i) = refl
clock_listed (clock.SetRate f c r) = refl
clock_listed (clock.GetRate c) = refl
clock_listed (clock.Config c a) = refl

pub is_listed : (c : Command) → IsListed c
is_listed (Base c) = base_listed c
is_listed (Power c) = power_listed c
is_listed (Clock c) = clock_listed c

-- of each message its id, and the words of its payload, of its reply and of its delayed response
-- behind their status; of a list as many as it has at least
words_listed : ℕ → List (ℕ × ℕ × ℕ × ℕ)
words_listed protocol = map
    (λ row. (row.id, words_of row.asks, words_of row.gives, words_of row.later)) (rows_of protocol)

base_messages
    : words_listed 0x10
    ≡ (0x0, 0, 1, 0) ∷ (0x1, 0, 1, 0) ∷ (0x2, 1, 1, 0) ∷ (0x3, 0, 4, 0) ∷ (0x4, 0, 4, 0)
    ∷ (0x5, 0, 1, 0) ∷ (0x6, 1, 1, 0) ∷ (0x7, 1, 5, 0)
    ∷ (0x9, 3, 0, 0) ∷ (0xa, 4, 0, 0) ∷ (0xb, 2, 0, 0) ∷ []
unfolding words_listed rows_of
base_messages = refl

power_messages
    : words_listed 0x11
    ≡ (0x0, 0, 1, 0) ∷ (0x1, 0, 4, 0) ∷ (0x2, 1, 1, 0) ∷ (0x3, 1, 5, 0) ∷ (0x4, 3, 0, 2)
    ∷ (0x5, 1, 1, 0) ∷ (0x6, 2, 0, 0) ∷ []
unfolding words_listed rows_of
power_messages = refl

clock_messages
    : words_listed 0x14
    ≡ (0x0, 0, 1, 0) ∷ (0x1, 0, 1, 0) ∷ (0x2, 1, 1, 0) ∷ (0x3, 1, 5, 0) ∷ (0x4, 2, 1, 0)
    ∷ (0x5, 4, 0, 3) ∷ (0x6, 1, 2, 0) ∷ (0x7, 2, 0, 0) ∷ []
unfolding words_listed rows_of
clock_messages = refl

-- of each protocol its id, name and version
protocols_listed : List (ℕ × List ℕ × ℕ)
protocols_listed = map (λ row. (row.id, row.name, row.version)) protocols

protocol_rows : protocols_listed ≡ (0x10, codes "base", 0x00020000)
    ∷ (0x11, codes "power", 0x00020000) ∷ (0x14, codes "clock", 0x00010000) ∷ []
unfolding protocols_listed
protocol_rows = refl
