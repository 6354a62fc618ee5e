use Rattle.std.proofs.Common.{◌≡◌, true, []}
use Rattle.token_streams.specs.Unbuffered.{Unbuffered}
use Rattle.token_streams.specs.Shown.{Shows}
use Rattle.runs.proofs.Walks.{Walking}
use Rattle.runs.proofs.walk.token_after.Given as goal

abbrev pub invariant-loop : goal.invariant-loop
invariant-loop g l = (u : Unbuffered) → Shows g.S.TokenSource l.initial.stream u → u.status.opened ≡ true → u.status.marks ≡ [] → u.cursor ≡ 0 → Walking (Shows g.S.TokenSource l.stream) u.feed.list l.counter
