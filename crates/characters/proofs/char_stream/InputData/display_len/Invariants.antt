use Rattle.std.proofs.Common.{◌-◌}
use Rattle.characters.proofs.Display.{Counted}
use Rattle.characters.proofs.char_stream.InputData.display_len.Given as goal

abbrev pub invariant-walk : goal.invariant-walk
invariant-walk g l = Counted (g.Self.InputData.meaning l.self) l.at l.len

abbrev pub decreases-walk : goal.decreases-walk
decreases-walk g l = (g.Self.InputData.meaning l.self).size - l.at
