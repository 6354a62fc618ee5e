-- The listing of tokens: a line for each, in order. Assumes nothing.
use Rattle.std.specs.Prelude.{ℕ, ◌+◌, cond, List, [], ◌∷◌, ◌++◌, codes, decimal, ◌==◌}
use Rattle.std.specs.List.{flat_map}
use Rattle.std.specs.Fmt.{signed_decimal}
use Rattle.tokens.specs.declared.token.Token.{Token}
use Rattle.tokens.specs.Tokens.{unstamped}

-- a line feed, a tab, a carriage return and a backslash are written as two bytes, any other byte as itself
abbrev pub escape : ℕ → List ℕ
escape b =
    cond (b == 10) (92 ∷ 110 ∷ []) (cond (b == 9) (92 ∷ 116 ∷ []) (cond (b == 13) (92 ∷ 114 ∷ []) (cond (b == 92) (92 ∷ 92 ∷ []) (b ∷ []))))

abbrev pub escaped : List ℕ → List ℕ
escaped bytes = flat_map escape bytes

-- index, type, channel, and the text in brackets
abbrev pub line_head : ℕ → Token → List ℕ
line_head i k = decimal i ++ (codes " " ++ (signed_decimal k.token_type ++ (codes " " ++ (signed_decimal k.channel ++ codes " ["))))

abbrev pub line : ℕ → Token → List ℕ → List ℕ
line i k text = line_head i k ++ (escaped text ++ 93 ∷ 10 ∷ [])

-- the lines of tokens whose first has an index
abbrev pub listed : (Token → List ℕ) → ℕ → List Token → List ℕ
listed text i [] = []
listed text i (k ∷ ks) = line i k (text (unstamped k)) ++ listed text (i + 1) ks
