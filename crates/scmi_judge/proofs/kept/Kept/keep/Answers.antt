use Rattle.std.proofs.Common.{◌<◌, length, rules, arith}
use Rattle.scmi_judge.proofs.Boards.{of-one}
use Rattle.scmi_judge.proofs.kept.Kept.keep.Goals as goal

pub free-requires-then-is_empty : goal.free-requires-then-is_empty
free-requires-then-is_empty c = (c.requires.0, c.each.invariant c.requires.0 c.requires.1)

pub returns-in_err-free-2-clause-boards : goal.returns-in_err-free-2-clause-boards
returns-in_err-free-2-clause-boards c = λ board of.
    c.free-then-is_empty.ensures.boards board (c.each.invariant board of)

pub returns-then-is_empty-clause-boards : goal.returns-then-is_empty-clause-boards
returns-then-is_empty-clause-boards c = λ board of.
    c.free-then-is_empty.ensures.boards board (c.each.invariant board of)

pub keep_one-requires : goal.keep_one-requires
keep_one-requires c =
    let guesses = c.args.guesses.now in
    let less : c.each.guess-index < length guesses = first_of (search rules, omega arith) in (
      c.requires.0,
      c.each.invariant c.requires.0 c.requires.1,
      of-one c.requires.0 guesses c.each.guess-index c.guess-item.result c.guess-item.is less
          c.requires.2,
    )

pub returns-in_err-keep_one-clause-boards : goal.returns-in_err-keep_one-clause-boards
returns-in_err-keep_one-clause-boards c = λ board of.
    c.keep_one.ensures.boards board (c.each.invariant board of)

pub each-preserved : goal.each-preserved
each-preserved c = λ board of. c.keep_one.ensures.boards board (c.each.invariant board of)
