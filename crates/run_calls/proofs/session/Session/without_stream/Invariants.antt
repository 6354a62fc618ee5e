use Rattle.std.proofs.Common.{◌≤◌, length}
use Rattle.run_calls.proofs.session.Session.without_stream.Given as goal

abbrev pub decreases-lines : goal.decreases-lines
decreases-lines l = length l.self.lines.rest.now

abbrev pub invariant-lines : goal.invariant-lines
invariant-lines l = length l.self.lines.rest.now ≤ length l.initial.self.lines.rest.now
