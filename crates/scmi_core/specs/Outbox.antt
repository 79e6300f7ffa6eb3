-- The messages that the platform makes for an agent, and those that are not yet posted.
use Rattle.std.specs.Prelude.{ℕ, ◌+◌, ◌==◌, ◌&&◌, Bool, false, not, nat_lt, if◌then◌else◌, List, [], ◌∷◌, ◌++◌, length, take, drop, count_by, Option}
use Rattle.std.specs.Option.{option_map_or}
use Rattle.scmi_codec.specs.Header.{HeaderFields}
use Rattle.scmi_codec.specs.Status.{status_word}
use Rattle.scmi_codec.specs.declared.message.Message.{Message}
use Rattle.scmi_codec.specs.Rate.{rate_words}
use Rattle.scmi_plan.specs.Board.{Board}
use Rattle.scmi_core.specs.declared.pending_set.PendingSet.{PendingSet}
use Rattle.scmi_core.specs.declared.pending_set.Setting.{Setting}
use Rattle.scmi_core.specs.declared.event.Event.{Event}
use Rattle.scmi_core.specs.declared.event.Event.TheVariants.{Sent}
use Rattle.scmi_codec.specs.declared.fault.Fault.{Fault}
use Rattle.scmi_codec.specs.Fault.{fault_status}
use Rattle.scmi_core.specs.Value.{Change, State, Thing, change_by, completed_set, failed_set, fault_in, value}
use Rattle.scmi_core.specs.Deed.{Deed, fold_with_prefix, restarted_by}
use Rattle.scmi_core.specs.Pending.{pending_sets, sets_by}
use Rattle.scmi_core.specs.Permissions.{has_permission}
use Rattle.scmi_core.specs.Situation.{Situation}
use Rattle.scmi_core.specs.Subscriptions.{is_subscriber}
use Rattle.scmi_core.specs.declared.pending_set.Setting.TheVariants as setting
use Rattle.scmi_core.specs.declared.outboxes.TheConstants.{OUTBOX_ROOM}

-- the message of a header and these payload words
abbrev pub message_with : HeaderFields → List ℕ → Message
message_with header words = record { header = header; payload = record { items = words } }

-- the payload of a delayed response: status 0, the domain or clock, and the value that was set
-- (own)
abbrev pub delayed_words : Setting → List ℕ
delayed_words (setting.State d state) = 0 ∷ d ∷ state ∷ []
delayed_words (setting.Rate c rate) = 0 ∷ c ∷ rate_words rate

-- the delayed response to a set: its command's token, protocol and id, type 2 (DEN0056B, message
-- header)
abbrev pub response_to : HeaderFields → Setting → Message
response_to header setting =
    record {
      header = record {
        reserved = 0;
        token = header.token;
        protocol = header.protocol;
        kind = 2;
        id = header.id;
      };
      payload = record { items = delayed_words setting };
    }

-- the payload of the response to what the hardware refused: the status of the fault alone
abbrev pub failed_words : Fault → List ℕ
failed_words fault = status_word (fault_status fault) ∷ []

-- the delayed response to a set whose change the hardware refused (own)
abbrev pub failed_response_to : HeaderFields → Fault → Message
failed_response_to header fault =
    record {
      header = record {
        reserved = 0;
        token = header.token;
        protocol = header.protocol;
        kind = 2;
        id = header.id;
      };
      payload = record { items = failed_words fault };
    }

-- POWER_STATE_CHANGED: type 3, id 0, token 0 (own), the causer, the domain and its state (DEN0056B,
-- power domain management protocol)
abbrev pub state_changed : ℕ → ℕ → ℕ → Message
state_changed causer d state =
    record {
      header = record { reserved = 0; token = 0; protocol = 0x11; kind = 3; id = 0 };
      payload = record { items = causer ∷ d ∷ state ∷ [] };
    }

-- the delayed response that a completed set makes for agent a: to its own agent, if it is wanted
abbrev pub response_for : ℕ → PendingSet → List Message
response_for a p = if p.agent == a && p.wanted then response_to p.header p.setting ∷ [] else []

-- the delayed response that a failed set makes for agent a: to its own agent, if it is wanted
abbrev pub failed_response_for : ℕ → Fault → PendingSet → List Message
failed_response_for a fault p = if p.agent == a && p.wanted
    then failed_response_to p.header fault ∷ [] else []

-- the notification that a change makes for an agent: of a state that is another than before, if the
-- agent asked for it; the causer gets it as well (own)
abbrev pub notice_in : Situation → Change → List Message
notice_in s change = notice change.thing where
  notice : Thing → List Message
  notice (State d) =
      if not (change.value == s.value (State d)) && s.subscribed d
      then state_changed change.causer d change.value ∷ [] else []
  notice _ = []

-- whether an event is the posting of a message to agent a
abbrev pub is_sent_by : ℕ → Event → Bool
is_sent_by a (Sent b) = a == b
is_sent_by a _ = false

-- how many messages were posted to agent a
abbrev pub sent_count : ℕ → List Deed → ℕ
sent_count a h = count_by (λ deed. is_sent_by a deed.event) h

-- what an event makes for agent a, by the sets that it leaves pending, the set that it completes
-- and the change that it makes: the delayed response, and then the notification if outbox and
-- pending sets are below 16 (own)
abbrev pub made_in : ℕ → Situation → List PendingSet → Option PendingSet → Option Change
    → List Message
made_in a s left done change =
    let responses = option_map_or (response_for a) done [] in
    let notices = option_map_or (notice_in s) change [] in
    let load = length s.outbox + length responses + length (sets_by a left) in
    responses ++ (if nat_lt load OUTBOX_ROOM then notices else [])

-- the situation of agent a after some deeds, given what they made for it
abbrev pub situation_with : Board → ℕ → List Message → List Deed → Situation
situation_with board a so_far h =
    record {
      value = λ x. value board x h;
      allowed = λ device scope. has_permission board a device scope h;
      subscribed = λ d. is_subscriber board a d h;
      pending = pending_sets board h;
      outbox = drop (sent_count a h) so_far;
    }

-- what a deed makes for agent a, given the deeds before it and what they made
abbrev pub made_by : Board → ℕ → List Deed → List Message → Deed → List Message
made_by board a before so_far deed =
    option_map_or (failed_response_for a (fault_in deed.event))
    (failed_set board before deed.event) []
    ++ made_in a (situation_with board a so_far before)
    (pending_sets board (before ++ deed ∷ [])) (completed_set board before deed.event)
    (change_by board before deed)

-- whether an event is a restart of agent a
abbrev pub is_restart_of : ℕ → Event → Bool
is_restart_of a event = option_map_or (λ b. a == b) (restarted_by event) false

-- how often agent a restarted
abbrev pub restart_count : ℕ → List Deed → ℕ
restart_count a h = count_by (λ deed. is_restart_of a deed.event) h

-- what is left of the messages made for an agent, the first of which were posted: a restart of the
-- agent drops the others (own)
abbrev pub messages_left : ℕ → Bool → List Message → List Message
messages_left posted restarted so_far = if restarted then take posted so_far else so_far

-- all messages made for agent a, in order, without those that a restart of it dropped
abbrev pub messages_made : Board → ℕ → List Deed → List Message
messages_made board a h =
    fold_with_prefix
    (λ before so_far deed. messages_left (sent_count a before) (is_restart_of a deed.event) so_far
    ++ made_by board a before so_far deed)
    [] [] h

-- the messages made for agent a and not yet posted
abbrev pub outbox_after : Board → ℕ → List Deed → List Message
outbox_after board a h = drop (sent_count a h) (messages_made board a h)

-- the situation of agent a after some deeds
abbrev pub situation_after : Board → ℕ → List Deed → Situation
situation_after board a h = situation_with board a (messages_made board a h) h
