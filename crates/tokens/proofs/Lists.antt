-- The end of a list of tokens, seen from its last. Assumes nothing.
use Rattle.std.proofs.Common.{◌≡◌, Bool, true, false, not, ◌&&◌, ◌||◌, List, [], ◌∷◌, ◌++◌, refl, ap, ◌∙◌}
use Rattle.std.specs.List.{list_any}
use Rattle.tokens.specs.declared.token.Token.{Token}
use Rattle.tokens.specs.Tokens.{is_eof, ends}

-- a test before the others, or after them
moved : (a e r : Bool) → (not a && (e && not r)) ≡ (e && not (a || r))
moved true true r = refl
moved true false r = refl
moved false true r = refl
moved false false r = refl

pub ends_append : (front : List Token) (last : Token) → ends (front ++ last ∷ []) ≡ (is_eof last && not (list_any is_eof front))
ends_append [] last = lone (is_eof last)
  where
    lone : (e : Bool) → e ≡ (e && not false)
    lone true = refl
    lone false = refl
ends_append (k ∷ []) last = pair (is_eof k) (is_eof last)
  where
    pair : (a e : Bool) → (not a && e) ≡ (e && not (a || false))
    pair true true = refl
    pair true false = refl
    pair false true = refl
    pair false false = refl
ends_append (k ∷ l ∷ ks) last = ap (λ b. not (is_eof k) && b) (ends_append (l ∷ ks) last) ∙ moved (is_eof k) (is_eof last) (list_any is_eof (l ∷ ks))
