-- The computed tokens are such a list as a source may mean. Assumes nothing.
use Rattle.std.specs.Prelude.{◌≡◌, ℕ, zero, suc, ◌+◌, ◌≤◌, Bool, true, false, cond, not, ◌&&◌, List, [], ◌∷◌, length, drop, filter, ◌==◌, nat_le, refl}
use Rattle.std.proofs.Common.{ap, subst, ◌∙◌, arith}
use Rattle.std.proofs.lemmas.List.Sums.{length-filter, count_by-le-length}
use Rattle.characters.specs.Text.{Point, Text, Rises, start_from}
use Rattle.characters.specs.Text as text
use Rattle.tokens.specs.declared.token.Token.{Token}
use Rattle.tokens.specs.Tokens.{is_eof, ends, Lawful}
use Rattle.lexer.specs.Classes.{class}
use Rattle.lexer.specs.Lexed.{type_of, more, next_line, next_column, made, first_at, codes_of, tokens_of, left, lexed}

pub tokens_some : (size skipped line column : ℕ) (ps : List Point) → (k : Token) × ((ks : List Token) × (tokens_of size skipped line column ps ≡ k ∷ ks))
tokens_some size skipped line column [] = (_, (_, refl))
tokens_some size zero line column (p ∷ ps) = (_, (_, refl))
tokens_some size (suc skipped) line column (p ∷ ps) = tokens_some size skipped line column ps

-- before tokens that end may stand one that is no EOF
ends_more : (k : Token) (ks : List Token) → is_eof k ≡ false → (l : Token) (ls : List Token) → ks ≡ l ∷ ls → ends ks ≡ true → ends (k ∷ ks) ≡ true
ends_more k ks other l ls e h =
    ap (λ ks. ends (k ∷ ks)) e ∙ ap (λ b. not b && ends (l ∷ ls)) other ∙ subst (λ ks. ends ks ≡ true) e h

tokens_ended : (size skipped line column : ℕ) (ps : List Point) → ends (tokens_of size skipped line column ps) ≡ true
tokens_ended size skipped line column [] = refl
tokens_ended size (suc skipped) line column (p ∷ ps) = tokens_ended size skipped line column ps
tokens_ended size zero line column (p ∷ ps) =
    let n = more (class p.code) (codes_of ps) in
    let line' = next_line (class p.code) line in
    let column' = next_column (class p.code) n column in
    let rest = tokens_some size n line' column' ps in
    ends_more (made (type_of (class p.code)) p.at (first_at size (drop n ps)) line column) (tokens_of size n line' column' ps) refl rest.0 rest.1.0 rest.1.1 (tokens_ended size n line' column' ps)

tokens_few : (size skipped line column : ℕ) (ps : List Point) → length (tokens_of size skipped line column ps) ≤ length ps + 1
tokens_few size skipped line column [] = omega arith
tokens_few size (suc skipped) line column (p ∷ ps) = omega (arith, tokens_few size skipped line column ps)
tokens_few size zero line column (p ∷ ps) =
    let n = more (class p.code) (codes_of ps) in
    omega (arith, tokens_few size n (next_line (class p.code) line) (next_column (class p.code) n column) ps)

-- there are no more points than positions
points_few : (low : ℕ) (ps : List Point) (size : ℕ) → Rises low ps size → low + length ps ≤ size
points_few low [] size h = omega (arith, h)
points_few low (p ∷ ps) size h = omega (arith, h.0, points_few (suc p.at) ps size h.1)

pub lexed_lawful : (t : Text) → text.Lawful t → (i line column : ℕ) → Lawful (lexed t i line column)
lexed_lawful t ok i line column = record {
  ended = tokens_ended t.size 0 line column (left t i);
  few = omega (arith, tokens_few t.size 0 line column (left t i), left_few (start_from t i == i), points_few 0 t.points t.size ok.rises, ok.few);
}
  where
    left_few : (b : Bool) → length (cond b (filter (λ p. nat_le i p.at) t.points) []) ≤ length t.points
    left_few true = omega (arith, length-filter (λ p. nat_le i p.at) t.points, count_by-le-length (λ p. nat_le i p.at) t.points)
    left_few false = omega arith
