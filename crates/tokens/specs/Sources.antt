-- What a pull from a source gives and leaves. Assumes nothing.
use Rattle.std.specs.Prelude.{◌≡◌, List, [], ◌∷◌}
use Rattle.tokens.specs.declared.token.Token.{Token}
use Rattle.tokens.specs.Tokens.{unstamped}

-- the front token is given and the others are left; when only the EOF is left, it is given again and again
abbrev pub Pulls : List Token → Token → List Token → Type 0
Pulls [] given left = ⊥
Pulls (k ∷ []) given left = (given ≡ unstamped k) × (left ≡ k ∷ [])
Pulls (k ∷ l ∷ ks) given left = (given ≡ unstamped k) × (left ≡ l ∷ ks)
