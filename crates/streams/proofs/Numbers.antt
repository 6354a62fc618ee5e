-- The numbers of marks, one more. Assumes nothing.
use Rattle.std.proofs.Common.{◌≡◌, ℕ, zero, suc, ◌+◌, ◌<◌, false, leb, ◌∷◌, length, ℤ, sym, refl, ap, ◌∙◌, add-one, arith}
use Rattle.std.proofs.lemmas.Bool.{lt-leb}
use Rattle.refusals.specs.Answers.{gives, unless, if_given}
use Rattle.streams.specs.declared.mark.Numbering.{Numbering}
use Rattle.streams.specs.Marks.{numbered, numbers, marking, after_marking}

pub length_numbers : (how : Numbering) (n : ℕ) → length (numbers how n) ≡ n
length_numbers how zero = refl
length_numbers how (suc n) = ap suc (length_numbers how n)

few : (how : Numbering) (n : ℕ) → n < 255 → leb 255 (length (numbers how n)) ≡ false
few how n h = let l : length (numbers how n) < 255 = omega (arith, length_numbers how n) in lt-leb 255 (length (numbers how n)) l

pub mark_given : (how : Numbering) (n : ℕ) (z : ℤ) → n < 255 → gives z ≡ marking (numbers how n) z
mark_given how n z h = ap (λ b. unless b 8 (gives z)) (sym (few how n h))

pub numbers_more : (how : Numbering) (n : ℕ) → n < 255 → numbers how (n + 1) ≡ after_marking (numbers how n) (numbered how n)
numbers_more how n h =
    ap (numbers how) (add-one n)
    ∙ ap (λ a. if_given a (numbered how n ∷ numbers how n) (numbers how n)) (mark_given how n (numbered how n) h)
