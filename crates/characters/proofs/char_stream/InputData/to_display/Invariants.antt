use Rattle.std.proofs.Common.{◌-◌, ◌≤◌, length}
use Rattle.characters.proofs.Display.{Written}
use Rattle.characters.proofs.char_stream.InputData.to_display.Given as goal

abbrev pub invariant-walk : goal.invariant-walk
invariant-walk g l = Written (g.Self.InputData.meaning l.self) l.at l.len l.initial.out l.out × (l.len ≤ length l.out)

abbrev pub decreases-walk : goal.decreases-walk
decreases-walk g l = (g.Self.InputData.meaning l.self).size - l.at
