-- A mark of a stream that someone holds. Assumes nothing.
use Rattle.std.specs.Prelude.{◌≡◌, true, ℤ, Some, None, Option}
use Rattle.streams.specs.Streams.{Status}
use Rattle.streams.specs.Marks.{latest}

-- the latest mark of an open stream is held, and has this number
abbrev pub Held : Status → Option ℤ → Type 0
Held t None = Unit {0}
Held t (Some n) = (t.opened ≡ true) × (latest t.marks n ≡ true)

-- while a mark is held, the status stays
abbrev pub Stays : Option ℤ → Status → Status → Type 0
Stays None t u = Unit {0}
Stays (Some n) t u = u ≡ t
