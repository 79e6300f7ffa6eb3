use Rattle.std.proofs.Common.{◌≡◌, ◌++◌, drop, map}
use Rattle.scmi_live.specs.Hertz.{behind_spaces, clock_line, item_in_hertz}
use Rattle.scmi_live.proofs.hertz.clock_line.Given as goal

abbrev pub invariant-loop-rate : goal.invariant-loop-rate
invariant-loop-rate l =
    l.made.items
    ++ behind_spaces (map item_in_hertz (map (λ rate. rate.now) (drop l.rate-index l.rates)))
    ≡ clock_line l.word l.name l.state (map (λ rate. rate.now) l.rates)
