use Rattle.scmi_judge.proofs.Showing.{answers-shown, events-alone, frames-shown, messages-shown, no-restarts, none-outstanding, told-shown}
use Rattle.scmi_judge.proofs.records.every_record.Goals as goal

pub returns : goal.returns
returns c =
    record {
      frames = λ may board entries moves behind all a. frames-shown may board behind all a;
      answers = λ may board entries moves behind all a. answers-shown may board behind all a;
      messages = λ may board entries moves behind legal a. messages-shown may board behind legal a;
      no_restart = λ may board entries moves behind never. no-restarts may board never behind;
      at_once = λ may board entries moves behind all.
          (events-alone may board behind all, λ k. none-outstanding may board behind all k);
      told = λ may board entries moves behind. told-shown may board behind;
    }
