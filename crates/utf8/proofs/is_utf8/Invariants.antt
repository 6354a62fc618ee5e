-- What is left is well-formed where the whole is, and the other way round.
use Rattle.std.proofs.Common.{length, IsUtf8}
use Rattle.utf8.proofs.is_utf8.Given as goal

abbrev pub invariant-walk : goal.invariant-walk
invariant-walk l = (IsUtf8 l.rest → IsUtf8 l.bytes) × (IsUtf8 l.bytes → IsUtf8 l.rest)

abbrev pub decreases-walk : goal.decreases-walk
decreases-walk l = length l.rest
