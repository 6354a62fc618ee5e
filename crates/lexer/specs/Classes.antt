-- The classes of symbols, by their ranges. Assumes nothing.
use Rattle.std.specs.Prelude.{ℕ, Bool, cond, ◌||◌, ◌==◌}
use Rattle.std.specs.Int.{is_in_range}
use Rattle.lexer.specs.declared.class.Class.{Class}
use Rattle.lexer.specs.declared.class.Class.TheVariants.{Letter, Digit, LineFeed, Blank, Hash, Other}

-- A to Z and a to z
abbrev pub letter : ℕ → Bool
letter c = is_in_range 65 90 c || is_in_range 97 122 c

-- 0 to 9
abbrev pub digit : ℕ → Bool
digit c = is_in_range 48 57 c

abbrev pub line_feed : ℕ → Bool
line_feed c = c == 10

-- space, tab and carriage return
abbrev pub blank : ℕ → Bool
blank c = c == 32 || (c == 9 || c == 13)

abbrev pub hash : ℕ → Bool
hash c = c == 35

abbrev pub class : ℕ → Class
class c = cond (letter c) Letter (cond (digit c) Digit (cond (line_feed c) LineFeed (cond (blank c) Blank (cond (hash c) Hash Other))))
