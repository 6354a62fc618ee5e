-- The tokens of a sheet. Assumes nothing.
use Rattle.std.specs.Prelude.{◌≡◌, ℕ, zero, suc, ◌+◌, ◌<◌, ◌≤◌, not, List, [], ◌∷◌, ℤ, pos, negsuc, count_by}
use Rattle.std.specs.List.{suffix_len}
use Rattle.characters.specs.Text.{Text, codes, start_from, part}
use Rattle.tokens.specs.declared.token.Token.{Token}
use Rattle.lexer.specs.Classes.{line_feed}
use Rattle.lexer.specs.Lexemes.{Lexeme, channel}

-- the symbols from one position to another
abbrev pub between : Text → ℕ → ℕ → List ℕ
between t i j = codes (part t i j)

-- lines count from 1, and a line feed starts one
abbrev pub line_at : Text → ℕ → ℕ
line_at t i = 1 + count_by line_feed (between t 0 i)

-- columns count the symbols from 0, since the last line feed
abbrev pub column_at : Text → ℕ → ℕ
column_at t i = suffix_len (λ c. not (line_feed c)) (between t 0 i)

abbrev pub before : ℕ → ℤ
before zero = negsuc 0
before (suc n) = pos n

-- the token of a type from one position to just before another
abbrev pub token : Text → ℕ → ℕ → ℕ → Token
token t i j type = record { token_type = pos type; channel = pos (channel type); start = pos i; stop = before j; line = pos (line_at t i); column = pos (column_at t i); index = negsuc 0 }

abbrev pub eof : Text → Token
eof t = record { token_type = negsuc 0; channel = pos 0; start = pos t.size; stop = before t.size; line = pos (line_at t t.size); column = pos (column_at t t.size); index = negsuc 0 }

-- the longest match at a position ends at another, which is a start: no longer piece is a lexeme of any type
pub record Match (t : Text) (i j type : ℕ) : Type 0 where
  pub some : i < j
  pub start : start_from t j ≡ j
  pub lexeme : Lexeme type (between t i j)
  pub longest : (k other : ℕ) → j < k → k ≤ t.size → Lexeme other (between t i k) → ⊥

-- the tokens of a text from a position on: longest matches one after the other, and the EOF at the size
pub data Tokens (t : Text) : ℕ → List Token → Type 0 where
  ended : Tokens t t.size (eof t ∷ [])
  then : {i j type : ℕ} {ks : List Token} → Match t i j type → Tokens t j ks → Tokens t i (token t i j type ∷ ks)

abbrev pub Sheet : Text → List Token → Type 0
Sheet t ks = Tokens t (start_from t 0) ks
