use Rattle.std.proofs.Common.{◌≡◌, length}
use Rattle.scripts.specs.Words.{lines}
use Rattle.scripts.specs.Scripts.{texts}
use Rattle.scripts.proofs.reading.TextsIterator.next.Given as goal

abbrev pub invariant-lines : goal.invariant-lines
invariant-lines l = texts l.self.lines.script.now ≡ texts l.initial.self.lines.script.now

abbrev pub decreases-lines : goal.decreases-lines
decreases-lines l = length (lines l.self.lines.script.now)
