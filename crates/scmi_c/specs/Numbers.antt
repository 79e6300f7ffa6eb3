-- The library's numbers, as `include/scmi.h` has them.
use Rattle.std.specs.Prelude.{ℕ, ◌+◌, ◌*◌, ◌^◌}
use Rattle.scmi_c.specs.declared.numbers.Numbers.{Numbers}

-- the size of an area and of its payload, the codes, and the kinds of a change of hardware
abbrev pub numbers_of_library : Numbers
numbers_of_library =
    record {
      area_bytes = 284;
      payload_words = 64;
      done = 0;
      nothing = 1;
      memory = 2;
      no_agent = 3;
      not_free = 4;
      no_platform = 5;
      in_use = 6;
      no_history = 7;
      no_frame = 8;
      wrong_size = 10;
      no_resource = 11;
      asked = 12;
      effect = 13;
      table = 14;
      wrong_status = 15;
      rule = 16;
      no_state = 32;
      no_rate = 33;
      other = 34;
      line = 256;
      effect_state = 1;
      effect_rate = 2;
      effect_enabled = 3;
    }

-- a version as one number: major, minor and patch, a byte each
abbrev pub version_number : ℕ → ℕ → ℕ → ℕ
version_number major minor patch = major * 2 ^ 16 + minor * 2 ^ 8 + patch

-- the library's, 1.0.0
abbrev pub version_of_library : ℕ
version_of_library = version_number 1 0 0
