use Rattle.count_ahead.proofs.Walks.{Walk}
use Rattle.count_ahead.proofs.agreeing.Given as goal

-- every stream that was shown is shown again, with its cursor further on by what was counted
abbrev pub invariant-loop-count : goal.invariant-loop-count
invariant-loop-count g l = Walk g.S.IntStream l.initial.stream l.stream l.wanted l.count
