-- What is left of a list of tokens keeps to the rules. Assumes nothing.
use Rattle.std.specs.Prelude.{◌≡◌, ℕ, zero, suc, ◌<◌, ◌≤◌, true, not, List, [], ◌∷◌, length, drop}
use Rattle.std.proofs.Common.{arith, length-drop}
use Rattle.std.proofs.lemmas.Bool.{and_parts, false≢true}
use Rattle.tokens.specs.declared.token.Token.{Token}
use Rattle.tokens.specs.Tokens.{is_eof, ends, Lawful}

rest_ends : (i : ℕ) (ks : List Token) → ends ks ≡ true → i < length ks → ends (drop i ks) ≡ true
rest_ends zero ks e h = e
rest_ends (suc i) [] e h = absurd (omega arith)
rest_ends (suc i) (k ∷ []) e h = absurd (omega arith)
rest_ends (suc i) (k ∷ l ∷ ks) e h = rest_ends i (l ∷ ks) (and_parts (not (is_eof k)) (ends (l ∷ ks)) e).1 (omega arith)

pub rest_lawful : (i : ℕ) (ks : List Token) → ends ks ≡ true → length ks ≤ 65536 → i < length ks → Lawful (drop i ks)
rest_lawful i ks e few h = record { ended = rest_ends i ks e h; few = omega (arith, length-drop i ks) }

-- and so does the whole of it
pub list_lawful : (ks : List Token) → ends ks ≡ true → length ks ≤ 65536 → Lawful ks
list_lawful [] e few = absurd (false≢true e)
list_lawful (k ∷ ks) e few = rest_lawful 0 (k ∷ ks) e few (omega arith)
