use Rattle.scmi_core.proofs.WholeChannels.{announces, answers, describes, domain_attributes, rate_set, request, state_set}
use Rattle.scmi_core.proofs.whole_channels.every_whole_channel.Goals as goal

pub returns : goal.returns
returns c = record {
  describes = describes;
  announces = announces;
  rate_set = rate_set;
  state_set = state_set;
  request = request;
  attributes = domain_attributes;
  answers = answers;
}
