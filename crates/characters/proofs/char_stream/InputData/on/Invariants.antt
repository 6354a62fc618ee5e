use Rattle.std.proofs.Common.{◌≡◌, ◌-◌}
use Rattle.characters.specs.Text.{on}
use Rattle.characters.proofs.char_stream.InputData.on.Given as goal

-- what is left to go from here leads where the whole way leads
abbrev pub invariant-loop : goal.invariant-loop
invariant-loop g l = on (g.Self.InputData.meaning l.self) l.at (l.steps - l.counter) ≡ on (g.Self.InputData.meaning l.self) l.fn.from l.steps
