use Rattle.std.proofs.Common.{◌+◌, cond, length, is_some}
use Rattle.run_calls.proofs.run_session.Given as goal

-- each stream was made by a line, and one that is still to be run counts as that line
abbrev pub decreases-streams : goal.decreases-streams
decreases-streams l = cond (is_some l.next) 1 0 + length l.session.lines.rest.now
