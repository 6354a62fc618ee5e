-- A source's list as a stream numbers it. Assumes nothing.
use Rattle.std.specs.Prelude.{ℕ, suc, List, [], ◌∷◌, pos}
use Rattle.tokens.specs.declared.token.Token.{Token}
use Rattle.tokens.specs.Tokens.{with_index}

-- a token with its index
abbrev pub stamped : ℕ → Token → Token
stamped i k = with_index (pos i) k

-- tokens with their places in a list for indexes, from i on
abbrev pub stamps : ℕ → List Token → List Token
stamps i [] = []
stamps i (k ∷ ks) = stamped i k ∷ stamps (suc i) ks

-- what stands in a place that holds no token yet
abbrev pub blank : Token
blank = record { token_type = pos 0; channel = pos 0; start = pos 0; stop = pos 0; line = pos 0; column = pos 0; index = pos 0 }
