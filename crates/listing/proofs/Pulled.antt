-- A pull takes one line off the listing. Assumes nothing.
use Rattle.std.proofs.Common.{◌≡◌, ℕ, ◌+◌, ◌<◌, true, false, not, List, [], ◌∷◌, ◌++◌, length, sym, ap, ◌∙◌, append-nil, arith}
use Rattle.std.proofs.lemmas.Bool.{and_parts, not-true, both_ways, false≢true}
use Rattle.tokens.specs.declared.token.Token.{Token}
use Rattle.tokens.specs.Tokens.{is_eof, unstamped, ends}
use Rattle.tokens.specs.Sources.{Pulls}
use Rattle.listing.specs.Lines.{line, listed}

-- a list that ends has its EOF still to come
pub some_left : (ks : List Token) → ends ks ≡ true → 0 < length ks
some_left [] e = absurd (false≢true e)
some_left (k ∷ ks) e = omega arith

module _ (text : Token → List ℕ) (i : ℕ) where
  -- what is listed of a token is the same with and without an index
  same_line : (k given : Token) → given ≡ unstamped k → line i k (text (unstamped k)) ≡ line i given (text given)
  same_line k given e = ap (λ g. line i g (text g)) (sym e)

  pub pulled_last : (ks left : List Token) (given : Token) → Pulls ks given left → ends ks ≡ true → is_eof given ≡ true → listed text i ks ≡ line i given (text given)
  pulled_last [] left given p e last = absurd p
  pulled_last (k ∷ []) left given p e last = append-nil _ ∙ same_line k given p.0
  pulled_last (k ∷ l ∷ ks) left given p e last = absurd (both_ways (is_eof k) (not-true (is_eof k) (and_parts (not (is_eof k)) (ends (l ∷ ks)) e).0) (sym (ap is_eof p.0) ∙ last))

  pub pulled_more : (ks left : List Token) (given : Token) → Pulls ks given left → ends ks ≡ true → is_eof given ≡ false → (listed text i ks ≡ line i given (text given) ++ listed text (i + 1) left) × (length left + 1 ≡ length ks)
  pulled_more [] left given p e more = absurd p
  pulled_more (k ∷ []) left given p e more = absurd (both_ways (is_eof k) (sym (ap is_eof p.0) ∙ more) e)
  pulled_more (k ∷ l ∷ ks) left given p e more = (
    (λ j. same_line k given p.0 j ++ listed text (i + 1) (sym p.1 j)),
    omega (arith, ap length p.1),
  )
