-- Marks and their numbers. Assumes nothing.
use Rattle.std.specs.Prelude.{◌≡◌, ℕ, zero, suc, Bool, true, false, not, List, [], ◌∷◌, length, ℤ, negsuc, Some, None, Ok, Err, Option, Result, nat_le}
use Rattle.refusals.specs.declared.Refusal.{Refusal}
use Rattle.refusals.specs.Answers.{Answer, gives, refuses, unless, if_given}
use Rattle.refusals.specs.Numbers.{number}
use Rattle.tokens.specs.Tokens.{same}
use Rattle.streams.specs.declared.mark.Mark.{Mark}
use Rattle.streams.specs.declared.mark.Kept.{Kept}
use Rattle.streams.specs.declared.mark.Numbering.{Numbering}
use Rattle.streams.specs.declared.mark.Numbering.TheVariants.{Fixed, Falling}
use Rattle.streams.specs.declared.mark.Marks.{Marks}

-- the number of a mark that is made while so many are out: always the same, or -1, -2 and so on
abbrev pub numbered : Numbering → ℕ → ℤ
numbered (Fixed z) out = z
numbered Falling out = negsuc out

-- whether marks are numbered -1, -2 and so on
abbrev pub falls : Numbering → Bool
falls (Fixed z) = false
falls Falling = true

-- the numbers of so many marks that are out, the latest first
abbrev pub numbers : Numbering → ℕ → List ℤ
numbers how zero = []
numbers how (suc out) = numbered how out ∷ numbers how out

-- the numbers of the marks of a stream that are out, the latest first, and the one of its next mark
abbrev pub numbers_out : Marks → List ℤ
numbers_out ms = numbers ms.numbering ms.out

abbrev pub next_number : Marks → ℤ
next_number ms = numbered ms.numbering ms.out

-- one mark more; 8 marks used up
abbrev pub marking : List ℤ → ℤ → Answer ℤ
marking ms n = unless (nat_le 255 (length ms)) 8 (gives n)

abbrev pub after_marking : List ℤ → ℤ → List ℤ
after_marking ms n = if_given (marking ms n) (n ∷ ms) ms

-- the latest mark has a number
abbrev pub latest : List ℤ → ℤ → Bool
latest [] n = false
latest (m ∷ ms) n = same m n

abbrev pub earlier : List ℤ → List ℤ
earlier [] = []
earlier (m ∷ ms) = ms

-- the latest mark comes back; 7 wrong mark
abbrev pub releasing : List ℤ → ℤ → Answer (Unit {0})
releasing ms n = unless (not (latest ms n)) 7 (gives tt)

abbrev pub after_releasing : List ℤ → ℤ → List ℤ
after_releasing ms n = if_given (releasing ms n) (earlier ms) ms

-- the number of the latest of so many marks
abbrev pub top : Numbering → ℕ → Option ℤ
top how zero = None
top how (suc out) = Some (numbered how out)

-- one mark more on a pile, which must have the next number: 8 marks used up, 7 wrong mark
abbrev pub piling : Numbering → ℕ → ℤ → Answer (Unit {0})
piling how len n = unless (nat_le 255 len) 8 (unless (not (same (numbered how len) n)) 7 (gives tt))

-- the number of the mark that a call made
abbrev pub made : Result Mark Refusal → Answer ℤ
made (Ok m) = gives m.number
made (Err e) = refuses (number e)

-- a release
abbrev pub released : Result (Unit {0}) Kept → Answer (Unit {0})
released (Ok u) = gives u
released (Err k) = refuses (number k.refusal)

-- a refused release hands the mark back
abbrev pub HandedBack : ℤ → Result (Unit {0}) Kept → Type 0
HandedBack n (Ok u) = Unit {0}
HandedBack n (Err k) = k.mark.number ≡ n
