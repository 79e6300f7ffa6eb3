-- Lines with names, and the steps that they mean, computed.
use Rattle.std.proofs.Common.{ℕ, ◌≡◌, true, false, List, [], ◌∷◌, map, Option, Some, None, replicate, refl}
use Rattle.std.specs.Prelude.{codes}
use Rattle.scmi_board.specs.Items.{behind_spaces, first_number, item_at, items_up_to}
use Rattle.scmi_board.specs.Number.{number_of}
use Rattle.scmi_codec.specs.Listing.{rows_of}
use Rattle.scmi_codec.specs.declared.fault.Fault.TheVariants.{Busy, Denied, GenericError, HardwareError, OutOfRange}
use Rattle.scmi_core.specs.BoardB.{board_b}
use Rattle.scmi_plan.specs.declared.effect.Effect.TheVariants.{State, Rate, Enabled}
use Rattle.scmi_plan.specs.declared.report.Report.TheVariants.{Changed, First, Settled}
use Rattle.scmi_text.specs.Fields.{first_agent, first_clock_rate, first_flag, first_message, first_named_fault, payload_behind, with_word}
use Rattle.scmi_text.specs.StepHead.{call_with, raw_with}
use Rattle.scmi_text.specs.StepText.{advance_head, agent_head, command_head, first_head, first_refusal, first_report, head_of, payload_of, report_head, report_of, step_of_line}
use Rattle.scmi_text.specs.declared.step.AgentStep.TheVariants as agent
use Rattle.scmi_text.specs.declared.step.PlatformStep.TheVariants.{Serve}
use Rattle.scmi_text.specs.declared.step.Step.{Step}
use Rattle.scmi_text.specs.declared.step.Step.TheVariants.{Agent, Platform, Do, Advance, Fail, AdvanceFailed, Report, Restart}
use Rattle.scmi_live.specs.Meant.{step_meant}

-- on a board of the agents ap and modem, the domains cpu, gpu and usb, and the clocks core, bus and
-- pix
abbrev meant : List ℕ → Option Step
meant text = step_meant board_b 2 text

names : map meant (codes "do ap POWER_STATE_SET cpu on" ∷ codes "do modem POWER_STATE_SET 1 usb off"
    ∷ codes "call ap CLOCK_RATE_SET bus 4294967296" ∷ codes "collect modem" ∷ codes "serve ap" ∷ [])
    ≡ Some (Do 1 (call_with 0x11 4 (0 ∷ 0 ∷ 0 ∷ [])))
    ∷ Some (Do 2 (call_with 0x11 4 (1 ∷ 2 ∷ 0x40000000 ∷ [])))
    ∷ Some (Agent 1 (agent.Call (call_with 0x14 5 (0 ∷ 1 ∷ 0 ∷ 1 ∷ []))))
    ∷ Some (Agent 2 agent.Collect) ∷ Some (Platform 1 Serve) ∷ []
unfolding behind_spaces first_number item_at items_up_to number_of first_agent first_message payload_behind with_word advance_head agent_head command_head first_head head_of payload_of step_of_line rows_of
names = refl

protocols : map meant
    (codes "do ap power PROTOCOL_VERSION" ∷ codes "do ap 0x14 CLOCK_CONFIG_SET pix on" ∷ codes
    "do 1 base 7 modem" ∷ codes "do ap power PROTOCOL_MESSAGE_ATTRIBUTES POWER_STATE_GET" ∷ [])
    ≡ Some (Do 1 (call_with 0x11 0 [])) ∷ Some (Do 1 (call_with 0x14 7 (2 ∷ 1 ∷ [])))
    ∷ Some (Do 1 (call_with 0x10 7 (2 ∷ []))) ∷ Some (Do 1 (call_with 0x11 2 (5 ∷ []))) ∷ []
unfolding behind_spaces first_number item_at items_up_to number_of first_agent first_message payload_behind with_word advance_head agent_head command_head first_head head_of payload_of step_of_line rows_of
protocols = refl

-- numbers, also such as no message of a name could have
in_numbers : map meant (codes "do 1 0x11 4 9" ∷ codes "raw modem 0x4404 7" ∷ codes "advance" ∷ [])
    ≡ Some (Do 1 (call_with 0x11 4 (9 ∷ [])))
    ∷ Some (Agent 2 (agent.Raw (raw_with 0x4404 (7 ∷ [])))) ∷ Some Advance ∷ []
unfolding behind_spaces first_number item_at items_up_to number_of first_agent first_message payload_behind with_word advance_head agent_head command_head first_head head_of payload_of step_of_line rows_of
in_numbers = refl

-- a message that each protocol has, an agent, a domain and a message that are none, an item too few
-- and one too many
refused : map meant (codes "do ap PROTOCOL_VERSION" ∷ codes "do app POWER_STATE_GET cpu" ∷ codes
    "do ap POWER_STATE_GET core" ∷ codes "do ap POWER_STATE cpu" ∷ codes "do ap POWER_STATE_SET cpu"
    ∷ codes "do ap POWER_STATE_GET cpu on" ∷ []) ≡ replicate 6 None
unfolding behind_spaces first_number item_at items_up_to number_of first_agent first_message payload_behind with_word advance_head agent_head command_head first_head head_of payload_of step_of_line rows_of
refused = refl

-- states and flags by their names, and rates with units
in_words : map meant
    (codes "do ap POWER_STATE_SET async cpu OFF" ∷ codes "do ap CLOCK_RATE_SET bus 1.5GHz" ∷ codes
    "do ap CLOCK_RATE_SET async+round-up bus 600mhz" ∷ codes "do ap CLOCK_RATE_SET bus 32768Hz"
    ∷ codes "do ap BASE_SET_DEVICE_PERMISSIONS modem 0 allow"
    ∷ codes "do ap BASE_RESET_AGENT_CONFIGURATION modem permissions" ∷ [])
    ≡ Some (Do 1 (call_with 0x11 4 (1 ∷ 0 ∷ 0x40000000 ∷ [])))
    ∷ Some (Do 1 (call_with 0x14 5 (0 ∷ 1 ∷ 0x59682f00 ∷ 0 ∷ [])))
    ∷ Some (Do 1 (call_with 0x14 5 (5 ∷ 1 ∷ 0x23c34600 ∷ 0 ∷ [])))
    ∷ Some (Do 1 (call_with 0x14 5 (0 ∷ 1 ∷ 0x8000 ∷ 0 ∷ [])))
    ∷ Some (Do 1 (call_with 0x10 9 (2 ∷ 0 ∷ 1 ∷ [])))
    ∷ Some (Do 1 (call_with 0x10 0xb (2 ∷ 1 ∷ []))) ∷ []
unfolding behind_spaces first_number item_at items_up_to number_of first_agent first_message payload_behind with_word advance_head agent_head command_head first_head head_of payload_of step_of_line rows_of
in_words = refl

-- a half Hz, a zero before others, a unit alone, a point without digits, a rate past 64 bits,
-- another message's flag, and flags the other way round
no_words : map meant (codes "do ap CLOCK_RATE_SET bus 1.5Hz"
    ∷ codes "do ap CLOCK_RATE_SET bus 01MHz" ∷ codes "do ap CLOCK_RATE_SET bus MHz"
    ∷ codes "do ap CLOCK_RATE_SET bus 1.GHz" ∷ codes "do ap CLOCK_RATE_SET bus 18446744074GHz"
    ∷ codes "do ap BASE_RESET_AGENT_CONFIGURATION modem async"
    ∷ codes "do ap CLOCK_RATE_SET round-up+async bus 600MHz" ∷ []) ≡ replicate 7 None
unfolding behind_spaces first_number item_at items_up_to number_of first_agent first_message payload_behind with_word advance_head agent_head command_head first_head head_of payload_of step_of_line rows_of
no_words = refl

-- steps beside hardware that refuses, and of an agent that restarts
beside_hardware : map meant (codes "fail ap POWER_STATE_SET cpu on" ∷ codes "restart modem" ∷ codes
    "restart 2" ∷ codes "advance failed" ∷ codes "fail 1 0x11 5 0" ∷ codes "restart usb" ∷ [])
    ≡ Some (Fail 1 HardwareError (call_with 0x11 4 (0 ∷ 0 ∷ 0 ∷ [])))
    ∷ Some (Restart 2) ∷ Some (Restart 2) ∷ Some (AdvanceFailed HardwareError)
    ∷ Some (Fail 1 HardwareError (call_with 0x11 5 (0 ∷ []))) ∷ None ∷ []
unfolding behind_spaces first_number item_at items_up_to number_of first_agent first_flag first_message first_named_fault payload_behind with_word advance_head agent_head command_head first_clock_rate first_report first_head first_refusal head_of payload_of report_head report_of step_of_line rows_of
beside_hardware = refl

-- steps beside hardware that refuses with a status
refused_with : map meant (codes "refuse ap BUSY POWER_STATE_SET cpu on"
    ∷ codes "refuse modem DENIED CLOCK_CONFIG_SET pix off"
    ∷ codes "refuse 2 GENERIC_ERROR power POWER_STATE_SET async usb OFF"
    ∷ codes "refuse ap HARDWARE_ERROR CLOCK_RATE_SET bus 600MHz"
    ∷ codes "refuse 1 OUT_OF_RANGE 0x11 4 9" ∷ codes "advance refused BUSY" ∷ [])
    ≡ Some (Fail 1 Busy (call_with 0x11 4 (0 ∷ 0 ∷ 0 ∷ [])))
    ∷ Some (Fail 2 Denied (call_with 0x14 7 (2 ∷ 0 ∷ [])))
    ∷ Some (Fail 2 GenericError (call_with 0x11 4 (1 ∷ 2 ∷ 0x40000000 ∷ [])))
    ∷ Some (Fail 1 HardwareError (call_with 0x14 5 (0 ∷ 1 ∷ 0x23c34600 ∷ 0 ∷ [])))
    ∷ Some (Fail 1 OutOfRange (call_with 0x11 4 (9 ∷ []))) ∷ Some (AdvanceFailed Busy) ∷ []
unfolding behind_spaces first_number item_at items_up_to number_of first_agent first_flag first_message first_named_fault payload_behind with_word advance_head agent_head command_head first_clock_rate first_report first_head first_refusal head_of payload_of report_head report_of step_of_line rows_of
refused_with = refl

-- what hardware reports
reported : map meant
    (codes "report state cpu off" ∷ codes "report state 2 ON" ∷ codes "report state usb 7"
    ∷ codes "report rate bus 1.5GHz" ∷ codes "report rate core 32768" ∷ codes "report rate 1 2 1"
    ∷ codes "report enabled pix on" ∷ codes "report enabled 1 Off" ∷ codes "report enabled core 1"
    ∷ codes "report first 1" ∷ codes "report settled bus 1.5GHz" ∷ codes "report settled 1 32768"
    ∷ codes "report settled 1 2 1" ∷ [])
    ≡ Some (Report (Changed (State 0 0x40000000))) ∷ Some (Report (Changed (State 2 0)))
    ∷ Some (Report (Changed (State 2 7))) ∷ Some (Report (Changed (Rate 1 1500000000)))
    ∷ Some (Report (Changed (Rate 0 32768))) ∷ Some (Report (Changed (Rate 1 4294967298)))
    ∷ Some (Report (Changed (Enabled 2 true))) ∷ Some (Report (Changed (Enabled 1 false)))
    ∷ Some (Report (Changed (Enabled 0 true)))
    ∷ Some (Report (First 1)) ∷ Some (Report (Settled 1 1500000000))
    ∷ Some (Report (Settled 1 32768)) ∷ Some (Report (Settled 1 4294967298)) ∷ []
unfolding behind_spaces first_number item_at items_up_to number_of first_agent first_flag first_message first_named_fault payload_behind with_word advance_head agent_head command_head first_clock_rate first_report first_head first_refusal head_of payload_of report_head report_of step_of_line rows_of
reported = refl

-- a status that says nothing of hardware, in small letters, left out and before the agent, a clock
-- as a domain, a domain as a clock, a number that is neither on nor off, an item too few and one
-- too many, an agent, and a place with a name
no_refusals_or_reports : map meant (codes "refuse ap NOT_FOUND POWER_STATE_SET cpu on"
    ∷ codes "refuse ap busy POWER_STATE_SET cpu on" ∷ codes "refuse ap POWER_STATE_SET cpu on"
    ∷ codes "refuse BUSY ap POWER_STATE_SET cpu on" ∷ codes "report state core on"
    ∷ codes "report rate cpu 600MHz" ∷ codes "report enabled pix 2" ∷ codes "report state cpu"
    ∷ codes "report rate bus 600 MHz" ∷ codes "report ap state cpu on"
    ∷ codes "report first bus" ∷ codes "report first 1 bus" ∷ codes "report settled cpu 600MHz"
    ∷ codes "report settled bus 600 MHz" ∷ codes "report settled bus" ∷ []) ≡ replicate 15 None
unfolding behind_spaces first_number item_at items_up_to number_of first_agent first_flag first_message first_named_fault payload_behind with_word advance_head agent_head command_head first_clock_rate first_report first_head first_refusal head_of payload_of report_head report_of step_of_line rows_of
no_refusals_or_reports = refl
