use Rattle.std.proofs.Common.{◌≡◌, true}
use Rattle.streams.specs.Marks.{falls}
use Rattle.token_streams.specs.Unbuffered.{Unbuffered}
use Rattle.token_streams.specs.Shown.{Shows}
use Rattle.runs.proofs.Ran.{Kept}
use Rattle.runs.proofs.session.Session.close.Given as goal

abbrev pub invariant-back : goal.invariant-back
invariant-back g l =
    (l.marks.len ≡ l.stream.marks.out) × (falls l.marks.numbering ≡ true)
    × ((u : Unbuffered) → Shows g.S.TokenSource l.initial.stream u → Kept (Shows g.S.TokenSource l.stream) u)

abbrev pub decreases-back : goal.decreases-back
decreases-back g l = l.marks.len
