-- A list of tokens with their places for indexes, and its end. Assumes nothing.
use Rattle.std.proofs.Common.{◌≡◌, ℕ, zero, suc, ◌+◌, ◌<◌, true, not, eqb, List, [], ◌∷◌, length, get_or, sym, refl, ap, ◌∙◌, ⊎_elim, add-zero, arith}
use Rattle.std.proofs.lemmas.Bool.{and_parts, not-true, eq-eqb, ne_eqb, cases_eq}
use Rattle.tokens.specs.declared.token.Token.{Token}
use Rattle.tokens.specs.Tokens.{is_eof, ends}
use Rattle.windows.specs.Lists.{stamped, stamps, blank}

pub length_stamps : (i : ℕ) (ks : List Token) → length (stamps i ks) ≡ length ks
length_stamps i [] = refl
length_stamps i (k ∷ ks) = ap suc (length_stamps (suc i) ks)

pub get_or_stamps : (ks : List Token) (i j : ℕ) (d : Token) → i < length ks → get_or (stamps j ks) i d ≡ stamped (j + i) (get_or ks i blank)
get_or_stamps [] i j d h = absurd (omega arith)
get_or_stamps (k ∷ ks) zero j d h = ap (λ n. stamped n k) (sym (add-zero j))
get_or_stamps (k ∷ ks) (suc i) j d h =
    let on : suc j + i ≡ j + suc i = omega arith in
    get_or_stamps ks i (suc j) d (omega arith) ∙ ap (λ n. stamped n (get_or ks i blank)) on

eqb_suc : (a b : ℕ) → eqb a b ≡ eqb (suc a) (suc b)
eqb_suc a b = ⊎_elim (λ e. eq-eqb a b e ∙ sym (eq-eqb (suc a) (suc b) (ap suc e))) (λ n. ne_eqb a b n ∙ sym (ne_eqb (suc a) (suc b) (λ e. n (omega arith)))) (cases_eq a b)

-- the last token is the only EOF
pub eof_at : (ks : List Token) (i : ℕ) → ends ks ≡ true → i < length ks → is_eof (get_or ks i blank) ≡ eqb (suc i) (length ks)
eof_at [] i e h = absurd (omega arith)
eof_at (k ∷ []) zero e h = e ∙ sym (eq-eqb 1 1 refl)
eof_at (k ∷ []) (suc i) e h = absurd (omega arith)
eof_at (k ∷ l ∷ ks) zero e h =
    not-true (is_eof k) (and_parts (not (is_eof k)) (ends (l ∷ ks)) e).0 ∙ sym (ne_eqb 1 (length (k ∷ l ∷ ks)) (λ s. omega arith))
eof_at (k ∷ l ∷ ks) (suc i) e h =
    eof_at (l ∷ ks) i (and_parts (not (is_eof k)) (ends (l ∷ ks)) e).1 (omega arith) ∙ eqb_suc (suc i) (length (l ∷ ks))

pub eof_stamped : (ks : List Token) (i : ℕ) → ends ks ≡ true → i < length ks → is_eof (get_or (stamps 0 ks) i blank) ≡ eqb (suc i) (length ks)
eof_stamped ks i e h = ap is_eof (get_or_stamps ks i 0 blank h) ∙ eof_at ks i e h

pub some_token : (ks : List Token) → ends ks ≡ true → 0 < length ks
some_token [] e = let z : ◌≡◌ {A = ℕ} 0 1 = cc in absurd (omega arith)
some_token (k ∷ ks) e = omega arith
