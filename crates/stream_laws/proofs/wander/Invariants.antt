use Rattle.stream_laws.proofs.Wanders.{Wander}
use Rattle.stream_laws.proofs.wander.Given as goal

abbrev pub invariant-loop : goal.invariant-loop
invariant-loop g l = Wander g.S.IntStream l.initial.stream l.stream
