use Rattle.std.proofs.Common.{◌≡◌, ◌≤◌, length, map, take, vec_len, vec_capacity}
use Rattle.scmi_c.specs.Tables.{device_in}
use Rattle.scmi_c.proofs.tabled.add_devices.Given as goal

abbrev pub invariant-loop-row : goal.invariant-loop-row
invariant-loop-row l = record {
  made : l.devices.items ≡ map device_in (take l.row-index l.rows);
  count : vec_len l.devices ≡ l.row-index;
  room : length l.rows ≤ vec_capacity l.devices;
}
