use Rattle.std.proofs.Common.{◌≡◌, ◌+◌, ◌-◌}
use Rattle.std.specs.List.{prefix_len}
use Rattle.lexer.specs.Lexed.{goes_on}
use Rattle.lexer.specs.Passed.{Passed, rest}
use Rattle.lexer.proofs.sheet_lexer.Cursor.run.Given as goal

-- what was passed, and how many more the run goes on with
abbrev pub invariant-walk : goal.invariant-walk
invariant-walk g l =
    Passed (g.D.InputData.meaning l.self.input.now) l.self.at l.count l.end l.count
    × (l.count + prefix_len (goes_on l.class) (rest (g.D.InputData.meaning l.self.input.now) l.end) ≡ prefix_len (goes_on l.class) (rest (g.D.InputData.meaning l.self.input.now) l.self.at))

abbrev pub decreases-walk : goal.decreases-walk
decreases-walk g l = (g.D.InputData.meaning l.self.input.now).size - l.end
