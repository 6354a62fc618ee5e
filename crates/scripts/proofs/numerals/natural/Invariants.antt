use Rattle.std.proofs.Common.{◌≤◌}
use Rattle.scripts.proofs.Digits.{SoFar}
use Rattle.scripts.proofs.numerals.natural.Given as goal

abbrev pub invariant-loop-byte : goal.invariant-loop-byte
invariant-loop-byte l = SoFar l.base l.word l.byte-index l.number × (l.number ≤ 4294967295)
