use Rattle.std.proofs.Common.{◌≡◌, ◌-◌}
use Rattle.windows.specs.Windows.{end, reach}
use Rattle.windows.proofs.Filling.{Filling}
use Rattle.windows.proofs.buffer.Buffer.pull_to.Given as goal

abbrev pub invariant-pull : goal.invariant-pull
invariant-pull g l =
    Filling l.initial.self.window (g.S.TokenSource.coming l.initial.self.source) l.index l.self.window (g.S.TokenSource.coming l.self.source)
    × (g.S.TokenSource.text l.self.source ≡ g.S.TokenSource.text l.initial.self.source)

abbrev pub decreases-pull : goal.decreases-pull
decreases-pull g l = reach l.self.window - end l.self.window
