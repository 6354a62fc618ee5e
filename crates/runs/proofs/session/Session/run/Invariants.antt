use Rattle.token_streams.specs.Unbuffered.{Unbuffered}
use Rattle.token_streams.specs.Shown.{Shows}
use Rattle.runs.proofs.Ran.{Going}
use Rattle.runs.proofs.session.Session.run.Given as goal

abbrev pub invariant-loop-at : goal.invariant-loop-at
invariant-loop-at g l = (u : Unbuffered) → Shows g.S.TokenSource l.initial.self.stream u → Going (Shows g.S.TokenSource l.self.stream) u l.initial.out l.calls l.initial.answers l.at l.out l.answers
