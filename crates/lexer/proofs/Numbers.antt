-- What a number passes after its first digit. Assumes nothing.
use Rattle.std.proofs.Common.{◌≡◌, ℕ, zero, suc, ◌+◌, cond, List, ◌∷◌, Some, sym, refl, ap, ◌∙◌, subst, arith}
use Rattle.std.specs.List.{prefix_len}
use Rattle.std.proofs.lemmas.List.{drop-map}
use Rattle.std.proofs.lemmas.Bool.{ne_eqb, eq-eqb}
use Rattle.characters.specs.Text.{Text, Lawful, start_from, item_at}
use Rattle.lexer.specs.Classes.{digit}
use Rattle.lexer.specs.Lexed.{pointed, fraction, number, codes_of}
use Rattle.lexer.specs.Passed.{Passed, onward, rest}
use Rattle.lexer.proofs.Passing.{passed_more, passed_both, rest_more}

-- what is left after the whole part decides on the fraction
pub number_is : (t : Text) (i end count : ℕ) → Passed t i (prefix_len digit (rest t i)) end count → number (rest t i) ≡ prefix_len digit (rest t i) + fraction (rest t end)
number_is t i end count one = ap (λ l. prefix_len digit (rest t i) + fraction l) (drop-map (λ p. p.code) (prefix_len digit (rest t i)) (onward t i) ∙ ap codes_of (sym one.left))

pub number_whole : (t : Text) (i end count : ℕ) → Passed t i (prefix_len digit (rest t i)) end count → fraction (rest t end) ≡ 0 → Passed t i (number (rest t i)) end count
number_whole t i end count one none = subst (λ n. Passed t i n end count) (sym (number_is t i end count one ∙ omega arith)) one

pub fraction_other : (c : ℕ) (cs : List ℕ) → (c ≡ 46 → ⊥) → fraction (c ∷ cs) ≡ 0
fraction_other c cs apart = ap (λ b. cond b (pointed (prefix_len digit cs)) 0) (ne_eqb c 46 apart)

pub fraction_point : (c : ℕ) (cs : List ℕ) → c ≡ 46 → fraction (c ∷ cs) ≡ pointed (prefix_len digit cs)
fraction_point c cs is = ap (λ b. cond b (pointed (prefix_len digit cs)) 0) (eq-eqb c 46 is)

pub pointed_some : (n : ℕ) → (n ≡ 0 → ⊥) → pointed n ≡ n + 1
pointed_some zero some = absurd (some refl)
pointed_some (suc n) some = omega arith

pub number_pointed : (t : Text) → Lawful t → (i mid n c next end m : ℕ)
    → Passed t i (prefix_len digit (rest t i)) mid n → item_at t mid ≡ Some c → next ≡ start_from t (suc mid) → c ≡ 46
    → Passed t next (prefix_len digit (rest t next)) end m → (m ≡ 0 → ⊥) → Passed t i (number (rest t i)) end (n + 1 + m)
number_pointed t ok i mid n c next end m one e on is two some =
    let more = passed_more t ok i _ mid n c next one e on in
    let same : n ≡ prefix_len digit (rest t i) = one.counted in
    let all = passed_both t ok i (n + 1) next m _ end (subst (λ k. Passed t i (k + 1) next (n + 1)) (sym same) more) two in
    let points = ap fraction (rest_more t ok mid c next e on) ∙ fraction_point c (rest t next) is ∙ pointed_some _ (λ z. some (two.counted ∙ z)) in
    subst (λ k. Passed t i k end (n + 1 + m)) (sym (number_is t i mid n one ∙ omega (arith, points, same))) all
