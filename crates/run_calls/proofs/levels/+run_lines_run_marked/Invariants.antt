use Rattle.std.proofs.Common.{◌+◌, ◌*◌, ◌≤◌, length}
use Rattle.run_calls.specs.Held.{Held, Stays}
use Rattle.run_calls.proofs.levels.+run_lines_run_marked.Given as goal

-- a mark goes with a line that was taken
abbrev pub decreases-run_lines : goal.decreases-run_lines
decreases-run_lines g l = 2 * length l.session.now.lines.rest.now

abbrev pub decreases-run_marked : goal.decreases-run_marked
decreases-run_marked g l = 2 * length l.session.now.lines.rest.now + 1

abbrev pub invariant-run_lines-lines : goal.invariant-run_lines-lines
invariant-run_lines-lines g l =
    Held (g.S.IntStream.status l.stream) l.held
    × Stays l.held (g.S.IntStream.status l.initial.stream) (g.S.IntStream.status l.stream)
    × (length l.session.lines.rest.now ≤ length l.initial.session.lines.rest.now)

abbrev pub decreases-run_lines-lines : goal.decreases-run_lines-lines
decreases-run_lines-lines g l = length l.session.lines.rest.now
