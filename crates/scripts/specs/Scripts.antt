-- The lines of a script, and what they say. Assumes nothing.
use Rattle.std.specs.Prelude.{ℕ, not, List, map, filter}
use Rattle.scripts.specs.Words.{lines, words, passed_over}
use Rattle.scripts.specs.Sayings.{Saying, said}

-- those that are not passed over, in order
abbrev pub texts : List ℕ → List (List ℕ)
texts script = filter (λ l. not (passed_over l)) (lines script)

-- what those say
abbrev pub sayings : List ℕ → List Saying
sayings script = map (λ l. said (words l)) (texts script)
