use Rattle.scmi_words.specs.View.{caller_of, callee_of}
use Rattle.scmi_words.proofs.Gathers.{agree, closed_ends}
use Rattle.scmi_words.proofs.LastArea.{last_area}
use Rattle.scmi_words.proofs.word_channel.WordChannelChannel.gather.Goals as goal

pub returns-clause-agree : goal.returns-clause-agree
returns-clause-agree c = let p = c.args.caller in let q = c.args.callee in
    agree _ (caller_of p.seat) (callee_of q.seat) p.phase p.free p.closed p.told q.owes q.closed
    q.told p.posts p.collects q.takes c.take_apart-words.ensures p.remembers q.remembers

pub returns-clause-closed : goal.returns-clause-closed
returns-clause-closed c = let p = c.args.caller in let q = c.args.callee in
    closed_ends _ (caller_of p.seat)
    (callee_of q.seat) p.phase p.free p.closed p.told q.owes q.closed q.told p.posts p.collects
    q.takes c.take_apart-words.ensures p.remembers q.remembers

pub returns-clause-area : goal.returns-clause-area
returns-clause-area c = last_area _ (caller_of c.args.caller.seat)
    (callee_of c.args.callee.seat) c.take_apart-words.ensures
