use Rattle.scmi_core.proofs.PlainBoards.{allows, configures, finds_clocks, finds_domains, lists, names, reads, refuses, resets, rounds, sets, shares, starts}
use Rattle.scmi_core.proofs.plain_boards.every_plain_board.Goals as goal

pub returns : goal.returns
returns c = record {
  allows = allows;
  resets = resets;
  sets = sets;
  configures = configures;
  finds_domains = finds_domains;
  finds_clocks = finds_clocks;
  rounds = rounds;
  reads = reads;
  lists = lists;
  names = names;
  starts = starts;
  refuses = refuses;
  shares = shares;
}
