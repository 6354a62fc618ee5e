-- The lexer's tokens, computed: the meaning of a lexer that stands somewhere in a text. `Sheets` says what they are.
-- Assumes nothing.
use Rattle.std.specs.Prelude.{ℕ, zero, suc, ◌+◌, Bool, false, cond, not, List, [], ◌∷◌, map, drop, pos, negsuc, filter, ◌==◌, nat_le}
use Rattle.std.specs.List.{prefix_len}
use Rattle.characters.specs.Text.{Point, Text, start_from}
use Rattle.tokens.specs.declared.token.Token.{Token}
use Rattle.lexer.specs.declared.class.Class.{Class}
use Rattle.lexer.specs.declared.class.Class.TheVariants.{Letter, Digit, LineFeed, Blank, Hash, Other}
use Rattle.lexer.specs.Classes.{letter, digit, line_feed, blank, class}
use Rattle.lexer.specs.Lexemes.{channel}
use Rattle.lexer.specs.Sheets.{before}

abbrev pub type_of : Class → ℕ
type_of Letter = 1
type_of Digit = 2
type_of LineFeed = 3
type_of Blank = 4
type_of Hash = 5
type_of Other = 6

-- which symbols a run goes on with, by the class of its first
abbrev pub goes_on : Class → ℕ → Bool
goes_on Letter c = letter c
goes_on Digit c = digit c
goes_on LineFeed c = false
goes_on Blank c = blank c
goes_on Hash c = not (line_feed c)
goes_on Other c = false

-- how many symbols a point and the digits after it are; a point without digits is none
abbrev pub pointed : ℕ → ℕ
pointed zero = 0
pointed (suc n) = suc (suc n)

abbrev pub fraction : List ℕ → ℕ
fraction [] = 0
fraction (c ∷ cs) = cond (c == 46) (pointed (prefix_len digit cs)) 0

abbrev pub number : List ℕ → ℕ
number cs = prefix_len digit cs + fraction (drop (prefix_len digit cs) cs)

-- how many symbols a match takes after its first
abbrev pub more : Class → List ℕ → ℕ
more Letter cs = prefix_len letter cs
more Digit cs = number cs
more LineFeed cs = 0
more Blank cs = prefix_len blank cs
more Hash cs = prefix_len (λ c. not (line_feed c)) cs
more Other cs = 0

abbrev pub next_line : Class → ℕ → ℕ
next_line Letter line = line
next_line Digit line = line
next_line LineFeed line = line + 1
next_line Blank line = line
next_line Hash line = line
next_line Other line = line

abbrev pub next_column : Class → ℕ → ℕ → ℕ
next_column Letter n column = column + (1 + n)
next_column Digit n column = column + (1 + n)
next_column LineFeed n column = 0
next_column Blank n column = column + (1 + n)
next_column Hash n column = column + (1 + n)
next_column Other n column = column + (1 + n)

abbrev pub made : ℕ → ℕ → ℕ → ℕ → ℕ → Token
made type i j line column = record { token_type = pos type; channel = pos (channel type); start = pos i; stop = before j; line = pos line; column = pos column; index = negsuc 0 }

abbrev pub made_eof : ℕ → ℕ → ℕ → Token
made_eof size line column = record { token_type = negsuc 0; channel = pos 0; start = pos size; stop = before size; line = pos line; column = pos column; index = negsuc 0 }

-- where the first of some points stands, or the size
abbrev pub first_at : ℕ → List Point → ℕ
first_at size [] = size
first_at size (p ∷ ps) = p.at

abbrev pub codes_of : List Point → List ℕ
codes_of ps = map (λ p. p.code) ps

-- the tokens of the points that are left, of which the first few belong to the token before
abbrev pub tokens_of : ℕ → ℕ → ℕ → ℕ → List Point → List Token
tokens_of size skipped line column [] = made_eof size line column ∷ []
tokens_of size (suc skipped) line column (p ∷ ps) = tokens_of size skipped line column ps
tokens_of size zero line column (p ∷ ps) =
    made (type_of (class p.code)) p.at (first_at size (drop (more (class p.code) (codes_of ps)) ps)) line column
    ∷ tokens_of size (more (class p.code) (codes_of ps)) (next_line (class p.code) line) (next_column (class p.code) (more (class p.code) (codes_of ps)) column) ps

-- the points from a start on
abbrev pub left : Text → ℕ → List Point
left t i = cond (start_from t i == i) (filter (λ p. nat_le i p.at) t.points) []

-- the tokens to come of a lexer at a position, on a line and in a column
abbrev pub lexed : Text → ℕ → ℕ → ℕ → List Token
lexed t i line column = tokens_of t.size 0 line column (left t i)
