-- Tokens, and the lists that a source means. Assumes nothing.
use Rattle.std.specs.Prelude.{◌≡◌, ◌≤◌, Bool, true, false, not, ◌&&◌, List, [], ◌∷◌, length, ℤ, pos, negsuc, ◌==◌}
use Rattle.tokens.specs.declared.token.Token.{Token}

abbrev pub same : ℤ → ℤ → Bool
same (pos a) (pos b) = a == b
same (pos a) (negsuc b) = false
same (negsuc a) (pos b) = false
same (negsuc a) (negsuc b) = a == b

-- type -1 is the EOF
abbrev pub is_eof : Token → Bool
is_eof k = same k.token_type (negsuc 0)

abbrev pub with_index : ℤ → Token → Token
with_index i k = record { token_type = k.token_type; channel = k.channel; start = k.start; stop = k.stop; line = k.line; column = k.column; index = i }

-- a token as a source gives it, with no place in a stream yet
abbrev pub unstamped : Token → Token
unstamped k = record { token_type = k.token_type; channel = k.channel; start = k.start; stop = k.stop; line = k.line; column = k.column; index = negsuc 0 }

-- the last token is the only EOF
abbrev pub ends : List Token → Bool
ends [] = false
ends (k ∷ []) = is_eof k
ends (k ∷ l ∷ ks) = not (is_eof k) && ends (l ∷ ks)

-- what every list of tokens to come keeps to
pub record Lawful (ks : List Token) : Type 0 where
  pub ended : ends ks ≡ true
  pub few : length ks ≤ 1048576
