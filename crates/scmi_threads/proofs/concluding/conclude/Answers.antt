use Rattle.scmi_threads.proofs.LogLemmas.{log_headlines}
use Rattle.scmi_threads.proofs.Undisturbed.{all_undisturbed}
use Rattle.scmi_threads.proofs.concluding.conclude.Goals as goal

pub returns-clause-headline : goal.returns-clause-headline
returns-clause-headline g c = log_headlines c.args.controller.board c.retire.result.events 1
    c.args.ends.items c.args.controller.callees c.args.controller.callers c.args.logs.items
    c.retire.ensures.headline c.requires.open_ends c.requires.logs

pub returns-clause-undisturbed : goal.returns-clause-undisturbed
returns-clause-undisturbed g c = all_undisturbed c.args.controller.board c.requires.valid
    c.retire.result.events 1 c.args.ends.items c.args.controller.callees c.args.controller.callers
    c.args.logs.items c.retire.ensures.headline c.requires.open_ends c.requires.logs
