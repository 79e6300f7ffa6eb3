use Rattle.std.proofs.Common.{[], sym, ap}
use Rattle.scmi_check.specs.RecordText.{Shows}
use Rattle.scmi_check.proofs.under_way.Check.new.Goals as goal

pub returns : goal.returns
returns c = λ r b knows board may places agents. record {
  placed = [];
  agents_are = agents;
  all_is = sym c.new-so_far.ensures;
  none_left = ap (λ (s : Shows). s.entries) c.new-so_far.ensures;
  none_noted = ap (λ (s : Shows). s.left.notes) c.new-so_far.ensures;
  judging = c.new-progress.ensures r b knows board may places;
}
