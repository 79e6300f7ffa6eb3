-- A trace: the events so far, each as a few words.
use Rattle.std.specs.Prelude.{◌≡◌, ℕ, ◌≤◌, ◌==◌, List, [], ◌∷◌, length, take, drop, get_or, zero, suc}
use Rattle.scmi_codec.specs.Header.{header_of}
use Rattle.scmi_codec.specs.Rate.{rate_of}
use Rattle.scmi_codec.specs.declared.frame.Frame.TheVariants as frame
use Rattle.scmi_codec.specs.declared.payload.TheConstants.{PAYLOAD_WORDS}
use Rattle.scmi_plan.specs.declared.effect.Effect.TheVariants as effect
use Rattle.scmi_core.specs.declared.event.Event.{Event}
use Rattle.scmi_core.specs.declared.event.Event.TheVariants.{Command, Advance, Sent, CommandFailed, AdvanceFailed, Restarted, Promoted, Settled, Reported}
use Rattle.scmi_core.specs.declared.mark.Mark.{Mark}
use Rattle.scmi_core.specs.declared.mark.Mark.TheVariants as mark
use Rattle.scmi_core.specs.Mark.{mark_of}
use Rattle.scmi_core.specs.Outbox.{message_with}

-- what contracts see of it: the events, oldest first, and for how many more there is memory
pub record Recorded : Type 0 where
  pub events : List Event
  pub room : ℕ

-- how many payload words follow a mark, a size and a header
abbrev pub payload_count : Mark → ℕ → ℕ
payload_count (mark.Message a) size = size
payload_count (mark.Failed a fault) size = size
payload_count mark.RateReported size = 2
payload_count mark.RateSettled size = 2
payload_count _ size = 0

-- the event of a mark, a size, a header and the payload words that follow them; of a report and of
-- a settled rate the size is the domain or clock, the header is a state or an enabled bit, and the
-- payload is the two words of a rate
abbrev pub event_of : Mark → ℕ → ℕ → List ℕ → Event
event_of (mark.Message a) size header payload =
    Command a (frame.Good (message_with (header_of header) payload))
event_of (mark.Malformed a) size header payload = Command a (frame.Malformed size header)
event_of (mark.Sent a) size header payload = Sent a
event_of (mark.Failed a fault) size header payload =
    CommandFailed a (frame.Good (message_with (header_of header) payload)) fault
event_of (mark.Restarted a) size header payload = Restarted a
event_of (mark.Promoted place) size header payload = Promoted place
event_of mark.Advance size header payload = Advance
event_of (mark.AdvanceFailed fault) size header payload = AdvanceFailed fault
event_of mark.StateReported size header payload = Reported (effect.State size header)
event_of mark.RateReported size header payload =
    Reported (effect.Rate size (rate_of (get_or payload 0 0) (get_or payload 1 0)))
event_of mark.EnabledReported size header payload = Reported (effect.Enabled size (header == 1))
event_of mark.RateSettled size header payload =
    Settled size (rate_of (get_or payload 0 0) (get_or payload 1 0))

-- the first n events of some words
unfoldable pub events_of : ℕ → List ℕ → List Event
events_of (suc n) (first ∷ size ∷ header ∷ rest) =
    let count = payload_count (mark_of first) size in
    event_of (mark_of first) size header (take count rest) ∷ events_of n (drop count rest)
events_of _ _ = []

-- some words are n events, and nothing more
unfoldable pub AreEvents : ℕ → List ℕ → Type 0
AreEvents zero words = words ≡ []
AreEvents (suc n) (first ∷ size ∷ header ∷ rest) =
    let count = payload_count (mark_of first) size in
    (count ≤ PAYLOAD_WORDS) × (count ≤ length rest) × AreEvents n (drop count rest)
AreEvents _ _ = ⊥
