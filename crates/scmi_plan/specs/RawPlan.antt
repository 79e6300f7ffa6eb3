-- The board that a raw plan writes down.
use Rattle.std.specs.Prelude.{false, map, replicate, string_bytes}
use Rattle.scmi_plan.specs.Board.{Board, nothing_denied, nothing_held, own_protocols, whole_channel}
use Rattle.scmi_plan.specs.Rates.{rates_of}
use Rattle.scmi_plan.specs.declared.limits.TheConstants.{AGENTS}
use Rattle.scmi_plan.specs.declared.domain.Domain.{Domain}
use Rattle.scmi_plan.specs.declared.clock.Clock.{Clock}
use Rattle.scmi_plan.specs.declared.raw_plan.RawPlan.{RawPlan}
use Rattle.scmi_plan.specs.declared.raw_plan.RawDomain.{RawDomain}
use Rattle.scmi_plan.specs.declared.raw_plan.RawClock.{RawClock}

-- a domain with its name as bytes
abbrev pub asked_domain : RawDomain → Domain
asked_domain raw =
    record {
      name = string_bytes raw.name;
      on = raw.on;
      synchronous = raw.synchronous;
      asynchronous = raw.asynchronous;
      notify = raw.notify;
    }

-- a clock with its name as bytes
abbrev pub asked_clock : RawClock → Clock
asked_clock raw = record {
  name = string_bytes raw.name;
  enabled = raw.enabled;
  rate = raw.rate;
  rates = rates_of raw.rates;
}

-- the board with its names as bytes: channels are whole, nothing is kept or denied, all is there,
-- no clock is free, and its protocols are power domains and clocks; it is never loose
abbrev pub asked_board : RawPlan → Board
asked_board raw =
    record {
      vendor = string_bytes raw.vendor;
      sub_vendor = string_bytes raw.sub_vendor;
      version = raw.version;
      trusted = raw.trusted;
      agents = map string_bytes raw.agents.items;
      domains = map asked_domain raw.domains.items;
      clocks = map asked_clock raw.clocks.items;
      devices = raw.devices.items;
      channels = replicate AGENTS whole_channel;
      kept = nothing_held;
      denied = nothing_denied;
      absent = nothing_held;
      free = 0;
      protocols = own_protocols;
      loose = false;
    }
