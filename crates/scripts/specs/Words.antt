-- The lines of a script, and the words of a line. Assumes nothing.
use Rattle.std.specs.Prelude.{ℕ, ◌+◌, Bool, true, false, cond, not, ◌||◌, List, [], ◌∷◌, take, drop, ◌==◌}
use Rattle.std.specs.List.{prefix_len}

abbrev pub space : ℕ → Bool
space c = c == 32

abbrev pub dark : ℕ → Bool
dark c = not (c == 32)

-- a line goes up to a line feed, or to the end
abbrev pub in_line : ℕ → Bool
in_line c = not (c == 10)

abbrev pub first_line : List ℕ → List ℕ
first_line script = take (prefix_len in_line script) script

-- what follows the first line's line feed
abbrev pub later_lines : List ℕ → List ℕ
later_lines script = drop (prefix_len in_line script + 1) script

-- a byte is put before the first word
abbrev pub lengthened : ℕ → List (List ℕ) → List (List ℕ)
lengthened c [] = (c ∷ []) ∷ []
lengthened c (w ∷ ws) = (c ∷ w) ∷ ws

-- a byte before a text with words is a word of its own where a space or the end follows, and else goes with the first
abbrev pub spelled : ℕ → List ℕ → List (List ℕ) → List (List ℕ)
spelled c [] ws = (c ∷ []) ∷ ws
spelled c (d ∷ ds) ws = cond (space d) ((c ∷ []) ∷ ws) (lengthened c ws)

-- a line feed ends a line; any other byte is put before the line that follows
abbrev pub lines : List ℕ → List (List ℕ)
lines [] = []
lines (c ∷ cs) = cond (c == 10) ([] ∷ lines cs) (lengthened c (lines cs))

-- the words of a line: what stands between spaces
abbrev pub words : List ℕ → List (List ℕ)
words [] = []
words (c ∷ cs) = cond (space c) (words cs) (spelled c cs (words cs))

-- a line with no word, or that begins with a hash, is passed over
abbrev pub wordless : List (List ℕ) → Bool
wordless [] = true
wordless (w ∷ ws) = false

abbrev pub passed_over : List ℕ → Bool
passed_over [] = true
passed_over (c ∷ cs) = c == 35 || wordless (words (c ∷ cs))
