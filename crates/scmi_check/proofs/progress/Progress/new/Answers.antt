use Rattle.std.proofs.Common.{true, false, None, refl}
use Rattle.scmi_check.proofs.Progressing.{being-none}
use Rattle.scmi_check.proofs.progress.Progress.new.Goals as goal

pub returns : goal.returns
returns c = λ r b knows board may places. being-none r b
    (record {
      judge = c.args.judge;
      lines = c.new.result;
      is_empty = true;
      differs = false;
      unsure = None;
    }) knows board
    may places refl refl refl
