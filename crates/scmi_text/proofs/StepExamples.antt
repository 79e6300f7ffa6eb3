-- Texts of scripts on one thread, and the steps that they mean, computed.
use Rattle.std.proofs.Common.{ℕ, ◌≡◌, ◌++◌, List, [], ◌∷◌, map, Option, Some, None, Ok, Err, true, false, replicate, refl}
use Rattle.std.specs.Prelude.{codes}
use Rattle.scmi_board.specs.Items.{behind_spaces, first_number, item_at, items_left, items_up_to}
use Rattle.scmi_board.specs.Lines.{lines_behind, lines_of}
use Rattle.scmi_board.specs.Number.{number_of}
use Rattle.scmi_codec.specs.declared.fault.Fault.{Fault}
use Rattle.scmi_codec.specs.declared.fault.Fault.TheVariants.{NotSupported, InvalidParameters, Denied, OutOfRange, Busy, GenericError, HardwareError}
use Rattle.scmi_plan.specs.declared.effect.Effect.TheVariants.{State, Rate, Enabled}
use Rattle.scmi_plan.specs.declared.report.Report.{Report as ReportOf}
use Rattle.scmi_plan.specs.declared.report.Report.TheVariants.{Changed, First, Settled}
use Rattle.scmi_text.specs.Fields.{first_agent, first_clock_rate, first_flag, first_message, first_named_fault, payload_behind, with_word}
use Rattle.scmi_text.specs.StepHead.{call_with, raw_with}
use Rattle.scmi_text.specs.StepText.{advance_head, agent_head, command_head, first_head, first_refusal, first_report, head_of, payload_of, report_head, report_left, report_of, step_of_line, steps_left, with_step}
use Rattle.scmi_text.specs.TextLines.{after_each_line}
use Rattle.scmi_text.specs.declared.step.AgentStep.TheVariants as agent
use Rattle.scmi_text.specs.declared.step.PlatformStep.TheVariants.{Serve, Flush, Shut}
use Rattle.scmi_text.specs.declared.step.Step.{Step}
use Rattle.scmi_text.specs.declared.step.Step.TheVariants.{Agent, Platform, Do, Advance, Fail, AdvanceFailed, Report, Restart}
use Rattle.scmi_text.specs.declared.step_kinds.StepKinds.TheVariants.{WithoutHardware, All}

-- the step of a line where hardware may refuse, on a board of two agents
abbrev step : List ℕ → Option Step
step text = step_of_line All 2 text

each_line : map step (
    codes "do 1 0x11 4 1 0 0x40000000" ∷ codes "call 2 16 0" ∷ codes "raw 1 0x4404 7"
    ∷ codes "bad 1 3 0x4400" ∷ codes "collect 2" ∷ codes "p2a 1" ∷ codes "close 1" ∷ [])
    ≡ Some (Do 1 (call_with 0x11 4 (1 ∷ 0 ∷ 0x40000000 ∷ [])))
    ∷ Some (Agent 2 (agent.Call (call_with 0x10 0 [])))
    ∷ Some (Agent 1 (agent.Raw (raw_with 0x4404 (7 ∷ []))))
    ∷ Some (Agent 1 (agent.Malformed 3 0x4400)) ∷ Some (Agent 2 agent.Collect)
    ∷ Some (Agent 1 agent.P2a) ∷ Some (Agent 1 agent.Close) ∷ []
unfolding behind_spaces first_number item_at items_up_to number_of first_agent first_message payload_behind with_word agent_head command_head first_head head_of payload_of step_of_line
each_line = refl

each_platform_line : map step (codes "serve 1" ∷ codes "flush 2" ∷ codes "shut 1" ∷ codes "advance"
    ∷ codes "advance failed" ∷ codes "fail 1 0x11 4" ∷ codes "restart 2" ∷ [])
    ≡ Some (Platform 1 Serve) ∷ Some (Platform 2 Flush) ∷ Some (Platform 1 Shut) ∷ Some Advance
    ∷ Some (AdvanceFailed HardwareError) ∷ Some (Fail 1 HardwareError (call_with 0x11 4 []))
    ∷ Some (Restart 2) ∷ []
unfolding behind_spaces first_number item_at items_up_to number_of first_agent first_message payload_behind with_word advance_head agent_head command_head first_head first_refusal head_of payload_of step_of_line
each_platform_line = refl

-- each status that hardware says, by its name
each_refused_advance : map step
    (codes "advance refused NOT_SUPPORTED" ∷ codes "advance refused INVALID_PARAMETERS" ∷ codes
    "advance refused DENIED" ∷ codes "advance refused OUT_OF_RANGE" ∷ codes "advance refused BUSY"
    ∷ codes "advance refused GENERIC_ERROR" ∷ codes "advance refused HARDWARE_ERROR" ∷ [])
    ≡ map (λ (fault : Fault). Some (AdvanceFailed fault)) (NotSupported ∷ InvalidParameters ∷ Denied
    ∷ OutOfRange ∷ Busy ∷ GenericError ∷ HardwareError ∷ [])
unfolding behind_spaces first_number item_at items_up_to number_of first_agent first_flag first_message first_named_fault payload_behind with_word advance_head agent_head command_head first_clock_rate first_report first_head first_refusal head_of payload_of report_head report_of step_of_line
each_refused_advance = refl

each_refused_command : map step
    (codes "refuse 1 BUSY 0x11 4" ∷ codes "refuse 2 DENIED 20 5 0 0 600 0" ∷ [])
    ≡ Some (Fail 1 Busy (call_with 0x11 4 []))
    ∷ Some (Fail 2 Denied (call_with 20 5 (0 ∷ 0 ∷ 600 ∷ 0 ∷ []))) ∷ []
unfolding behind_spaces first_number item_at items_up_to number_of first_agent first_flag first_message first_named_fault payload_behind with_word advance_head agent_head command_head first_clock_rate first_report first_head first_refusal head_of payload_of report_head report_of step_of_line
each_refused_command = refl

-- the lower word of a rate comes first
each_report : map step (codes "report state 3 0x40000000" ∷ codes "report rate 1 600 2"
    ∷ codes "report enabled 2 0" ∷ codes "report enabled 2 1" ∷ codes "report first 0"
    ∷ codes "report first 7" ∷ codes "report settled 1 600 2" ∷ [])
    ≡ Some (Report (Changed (State 3 0x40000000))) ∷ Some (Report (Changed (Rate 1 8589935192)))
    ∷ Some (Report (Changed (Enabled 2 false))) ∷ Some (Report (Changed (Enabled 2 true)))
    ∷ Some (Report (First 0)) ∷ Some (Report (First 7)) ∷ Some (Report (Settled 1 8589935192)) ∷ []
unfolding behind_spaces first_number item_at items_up_to number_of first_agent first_flag first_message first_named_fault payload_behind with_word advance_head agent_head command_head first_clock_rate first_report first_head first_refusal head_of payload_of report_head report_of step_of_line
each_report = refl

-- the same without the first word, as a record has it; what is no report, or has more behind it,
-- gives nothing
abbrev reported : List ℕ → Option ReportOf
reported text = report_left (items_left text)

each_left : map reported (codes "state 3 0x40000000" ∷ codes "rate 1 600 2" ∷ codes "enabled 2 1"
    ∷ codes "first 7" ∷ codes "settled 1 600 2" ∷ codes "first 7 1" ∷ codes "first"
    ∷ codes "settled 1 600" ∷ codes "first 7 " ∷ codes "report first 7" ∷ codes "" ∷ [])
    ≡ Some (Changed (State 3 0x40000000)) ∷ Some (Changed (Rate 1 8589935192)) ∷ Some
    (Changed (Enabled 2 true)) ∷ Some (First 7) ∷ Some (Settled 1 8589935192) ∷ replicate 6 None
unfolding behind_spaces first_number item_at items_up_to number_of first_clock_rate first_flag first_report report_left report_of
each_left = refl

-- statuses that hardware does not say, no status, a word too many, and reports of something else
refused_beside_hardware : map step
    (codes "advance refused SUCCESS" ∷ codes "advance refused NOT_FOUND"
    ∷ codes "refuse 1 COMMS_ERROR 17 4" ∷ codes "refuse 1 busy 17 4" ∷ codes "advance refused"
    ∷ codes "refuse 1 17 4" ∷ codes "advance refused BUSY 1" ∷ codes "advance failed BUSY"
    ∷ codes "report" ∷ codes "report state 3" ∷ codes "report state 3 0 0"
    ∷ codes "report rate 1 600" ∷ codes "report enabled 2 2" ∷ codes "report enabled 2 on"
    ∷ codes "report name 1 2"
    ∷ codes "report first" ∷ codes "report first -1" ∷ codes "report first 0 0"
    ∷ codes "report settled 1 600" ∷ codes "report settled 1 600 2 0" ∷ []) ≡ replicate 20 None
unfolding behind_spaces first_number item_at items_up_to number_of first_agent first_flag first_message first_named_fault payload_behind with_word advance_head agent_head command_head first_clock_rate first_report first_head first_refusal head_of payload_of report_head report_of step_of_line
refused_beside_hardware = refl

-- agents that the board lacks, a missing item, one too many, another word, a number that does not
-- fit, and a space at the end
refused_lines : map step (codes "serve 0" ∷ codes "serve 3" ∷ codes "do 1 16" ∷ codes "serve 1 1"
    ∷ codes "wait 1" ∷ codes "do 1 256 0" ∷ codes "advance now" ∷ codes "flush 1 "
    ∷ codes "restart 1 2" ∷ []) ≡ replicate 9 None
unfolding behind_spaces first_number item_at items_up_to number_of first_agent first_flag first_message first_named_fault payload_behind with_word advance_head agent_head command_head first_clock_rate first_report first_head first_refusal head_of payload_of report_head report_of step_of_line
refused_lines = refl

-- lines that only a script beside hardware has
beside_hardware : map (step_of_line WithoutHardware 2) (codes "fail 1 0x11 4"
    ∷ codes "refuse 1 BUSY 0x11 4" ∷ codes "advance failed" ∷ codes "advance refused BUSY"
    ∷ codes "report enabled 0 1" ∷ codes "report first 0" ∷ codes "report settled 0 1 0"
    ∷ codes "restart 2" ∷ codes "advance" ∷ []) ≡ replicate 8 None ++ Some Advance ∷ []
unfolding behind_spaces first_number item_at items_up_to number_of first_agent first_flag first_message first_named_fault payload_behind with_word advance_head agent_head command_head first_clock_rate first_report first_head first_refusal head_of payload_of report_head report_of step_of_line
beside_hardware = refl

-- a script from line 9 on, whose comments and blank lines are counted
whole_script : steps_left WithoutHardware 2
    (record { rest = codes "\n# served\nserve 2\n\ncollect  2"; number = 8 })
    ≡ Ok (Platform 2 Serve ∷ Agent 2 agent.Collect ∷ [])
unfolding behind_spaces first_number item_at items_up_to number_of first_agent first_message payload_behind with_word agent_head command_head first_head head_of payload_of step_of_line with_step after_each_line lines_of lines_behind
whole_script = refl

first_fault : steps_left WithoutHardware 2
    (record { rest = codes "serve 2\n#\nserve\nserve 9\n"; number = 8 }) ≡ Err 11
unfolding behind_spaces first_number item_at items_up_to number_of first_agent first_message payload_behind with_word agent_head command_head first_head head_of payload_of step_of_line with_step after_each_line lines_of lines_behind
first_fault = refl
