-- The stream of the characters of a text. Assumes nothing.
use Rattle.std.specs.Prelude.{◌≡◌, ℕ, true, List, [], ◌∷◌, ◌++◌, map, ℤ, pos, negsuc, Some, None, Option}
use Rattle.characters.specs.Text.{Point, Text, item_at, start_from}
use Rattle.streams.specs.Streams.{Symbol, Status, Stream, whole, place}

-- a code point at its position
abbrev pub symbol : Point → Symbol
symbol p = record { index = p.at; number = pos p.code }

-- the EOF stands at the size
abbrev pub eof : ℕ → Symbol
eof size = record { index = size; number = negsuc 0 }

abbrev pub symbols : Text → List Symbol
symbols t = map symbol t.points ++ eof t.size ∷ []

-- it is always open
abbrev pub open_with : List ℤ → Status
open_with marks = record { opened = true; marks = marks }

-- all symbols of a text, so many of them before the cursor; none is ever dropped, and all can be looked at
abbrev pub characters : Text → List ℤ → ℕ → Stream
characters t marks cursor = record { status = open_with marks; symbols = symbols t; cursor = cursor; floor = 0; sight = whole }

-- what a position of a text shows: the stream with its cursor on the symbol that stands there; the position is a start
pub record Shows (t : Text) (index : ℕ) (marks : List ℤ) (s : Stream) : Type 0 where
  pub stream : s ≡ characters t marks (place (symbols t) index)
  pub start : start_from t index ≡ index

-- the number of the symbol at a start: the code point, or the EOF where none starts
abbrev pub number_of : Option ℕ → ℤ
number_of (Some code) = pos code
number_of None = negsuc 0

abbrev pub number_at : Text → ℕ → ℤ
number_at t i = number_of (item_at t i)

-- the number of the symbol at a start that a walk led to, and another number where it led nowhere
abbrev pub reached : Text → ℤ → Option ℕ → ℤ
reached t nowhere (Some i) = number_at t i
reached t nowhere None = nowhere
