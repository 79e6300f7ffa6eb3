-- A message of the platform as C holds it.
use Rattle.scmi_codec.specs.Status.{status_word}
use Rattle.scmi_agent.specs.declared.notice.Notice.{Notice}
use Rattle.scmi_agent.specs.declared.notice.Notice.TheVariants.{StateSet, StateSetRefused, RateSet, RateSetRefused, StateChanged}
use Rattle.scmi_agent_c.specs.declared.message.Message.{Message}
use Rattle.scmi_agent_c.specs.declared.message.TheConstants.{STATE_SET, RATE_SET, STATE_CHANGED}

-- the numbers of a message: what it does not say is 0
abbrev pub message_of : Notice → Message
message_of (StateSet token domain state) = record {
  rate = 0;
  kind = STATE_SET;
  status = 0;
  token = token;
  agent = 0;
  id = domain;
  state = state;
}
message_of (StateSetRefused token status) = record {
  rate = 0;
  kind = STATE_SET;
  status = status_word status;
  token = token;
  agent = 0;
  id = 0;
  state = 0;
}
message_of (RateSet token clock rate) = record {
  rate = rate;
  kind = RATE_SET;
  status = 0;
  token = token;
  agent = 0;
  id = clock;
  state = 0;
}
message_of (RateSetRefused token status) = record {
  rate = 0;
  kind = RATE_SET;
  status = status_word status;
  token = token;
  agent = 0;
  id = 0;
  state = 0;
}
message_of (StateChanged agent domain state) = record {
  rate = 0;
  kind = STATE_CHANGED;
  status = 0;
  token = 0;
  agent = agent;
  id = domain;
  state = state;
}
