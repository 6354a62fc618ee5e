use Rattle.std.proofs.Common.{vec_items, filter}
use Rattle.scripts.specs.Words.{dark}
use Rattle.scripts.specs.Numerals.{paired}
use Rattle.scripts.proofs.Gathered.{Coming}
use Rattle.scripts.proofs.numerals.pairs.Given as goal

abbrev pub invariant-pairs : goal.invariant-pairs
invariant-pairs l =
    (goal.iterator-pairs).can_next l.digits × (goal.iterator-pairs).is_finite l.digits
    × Coming (goal.iterator-pairs).next_gives (λ y. y.now) (paired (filter dark l.line)) l.digits (vec_items l.found)
