-- The replies of the base protocol (DEN0056B, base protocol), 0x10.
use Rattle.std.specs.Prelude.{ℕ, ◌+◌, ◌-◌, ◌*◌, ◌/◌, ◌%◌, ◌==◌, ◌&&◌, ◌||◌, Bool, not, nat_lt, nat_le, if◌then◌else◌, List, [], ◌∷◌, length, drop, take, get_or, codes}
use Rattle.scmi_codec.specs.Listing.{is_listed}
use Rattle.scmi_codec.specs.declared.base_command.BaseCommand.{BaseCommand}
use Rattle.scmi_codec.specs.declared.base_command.BaseCommand.TheVariants as base
use Rattle.scmi_codec.specs.declared.status.Status.TheVariants.{NotFound, InvalidParameters, Denied}
use Rattle.scmi_plan.specs.Board.{Board, serves}
use Rattle.scmi_codec.specs.Name.{four_words, name_words}
use Rattle.scmi_codec.specs.Reply.{Check, reply_unless, other_bits}

-- the ids of at most sixteen protocols, four to a word, the first lowest
abbrev pub packed_words : List ℕ → List ℕ
packed_words ids = take ((length ids + 3) / 4) (four_words ids)

-- the board has no such agent; they are numbered from 1
abbrev pub no_agent : Board → ℕ → Bool
no_agent board agent = agent == 0 || nat_lt (length board.agents) agent

-- the board has no such device; they are numbered from 0
abbrev pub no_device : Board → ℕ → Bool
no_device board device = nat_le (length board.devices) device

-- the name of an agent, or of the platform, which is 0
abbrev pub agent_name : Board → ℕ → List ℕ
agent_name board agent = if agent == 0 then codes "platform" else get_or board.agents (agent - 1) []

-- the agent that is asked for, where 0xFFFFFFFF is the caller
abbrev pub asked_for : ℕ → ℕ → ℕ
asked_for caller agent = if agent == 0xFFFFFFFF then caller else agent

-- the checks that only the trusted agent's flags pass (own)
abbrev pub trusted_checks : Board → ℕ → ℕ → List Check
trusted_checks board caller flags =
    (other_bits flags, InvalidParameters) ∷ (not (caller == board.trusted), Denied) ∷ []

-- the checks of 0x9, in order (own)
abbrev pub permit_checks : Board → ℕ → ℕ → ℕ → ℕ → List Check
permit_checks board caller agent device flags = (no_agent board agent, NotFound)
    ∷ (no_device board device, NotFound) ∷ trusted_checks board caller flags

-- the low eight bits of a word are the id of no protocol with resources that the board has
abbrev pub no_protocol : Board → ℕ → Bool
no_protocol board word =
    not ((word % 0x100 == 0x11 || word % 0x100 == 0x14) && serves board (word % 0x100))

-- the checks of 0xA, in order (own)
abbrev pub permit_protocol_checks : Board → ℕ → ℕ → ℕ → ℕ → ℕ → List Check
permit_protocol_checks board caller agent device protocol flags =
    (no_agent board agent, NotFound) ∷ (no_device board device, NotFound)
    ∷ (no_protocol board protocol, NotFound)
    ∷ (nat_lt 0xFF protocol, InvalidParameters) ∷ trusted_checks board caller flags

-- the checks of 0xB, in order (own)
abbrev pub reset_checks : Board → ℕ → ℕ → ℕ → List Check
reset_checks board caller agent flags =
    (no_agent board agent, NotFound) ∷ trusted_checks board caller flags

-- the reply to 0x2: an id of the protocol's table is supported, with no attributes
abbrev pub message_reply : ℕ → List ℕ
message_reply message = reply_unless ((not (is_listed 0x10 message), NotFound) ∷ []) (0 ∷ 0 ∷ [])

-- the reply to 0x6: how many protocols besides this one follow the skipped ones, and their ids
abbrev pub protocols_reply : List ℕ → ℕ → List ℕ
protocols_reply ids skip =
    reply_unless ((nat_lt (length ids) skip, InvalidParameters) ∷ [])
    (0 ∷ length (drop skip ids) ∷ packed_words (drop skip ids))

-- the reply to 0x7: the agent's id and name, the caller's own where it asks so (own)
abbrev pub agent_reply : Board → ℕ → ℕ → List ℕ
agent_reply board caller agent =
    let asked = asked_for caller agent in
    reply_unless ((nat_lt (length board.agents) asked, NotFound) ∷ [])
    (0 ∷ asked ∷ name_words (agent_name board asked))

-- the reply to a command of a caller (DEN0056B, base protocol)
unfoldable pub base_reply : Board → ℕ → BaseCommand → List ℕ
base_reply board caller base.Version = 0 ∷ 0x00020000 ∷ []
base_reply board caller base.Attributes =
    0 ∷ (length board.agents * 0x100 + length board.protocols) ∷ []
base_reply board caller (base.MessageAttributes message) = message_reply message
base_reply board caller base.Vendor = 0 ∷ name_words board.vendor
base_reply board caller base.SubVendor = 0 ∷ name_words board.sub_vendor
base_reply board caller base.Implementation = 0 ∷ board.version ∷ []
base_reply board caller (base.Protocols skip) = protocols_reply board.protocols skip
base_reply board caller (base.Agent agent) = agent_reply board caller agent
base_reply board caller (base.Permit agent device flags) =
    reply_unless (permit_checks board caller agent device flags) (0 ∷ [])
base_reply board caller (base.PermitProtocol agent device protocol flags) =
    reply_unless (permit_protocol_checks board caller agent device protocol flags) (0 ∷ [])
base_reply board caller (base.ResetAgent agent flags) =
    reply_unless (reset_checks board caller agent flags) (0 ∷ [])
