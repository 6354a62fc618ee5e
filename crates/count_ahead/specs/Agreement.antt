-- How far a list of numbers agrees with the symbols of a stream. Assumes nothing.
use Rattle.std.specs.Prelude.{◌≡◌, ℕ, suc, ◌+◌, ◌≤◌, min, Bool, false, cond, ◌||◌, List, [], ◌∷◌, map, length, take, ℤ, nat_le}
use Rattle.refusals.specs.Answers.{Answer, gives, unless}
use Rattle.tokens.specs.Tokens.{same}
use Rattle.streams.specs.Streams.{Symbol, Stream, coming, beyond}
use Rattle.streams.specs.Calls.{when_open}

-- how many numbers agree at the front of two lists
abbrev pub agreed : List ℤ → List ℤ → ℕ
agreed [] ys = 0
agreed (x ∷ xs) [] = 0
agreed (x ∷ xs) (y ∷ ys) = cond (same x y) (suc (agreed xs ys)) 0

-- two lists agree in this many numbers at their front, and in no more
pub record Longest (n : ℕ) (xs ys : List ℤ) : Type 0 where
  pub within_first : n ≤ length xs
  pub within_second : n ≤ length ys
  pub agrees : take n xs ≡ take n ys
  pub no_longer : (m : ℕ) → m ≤ length xs → m ≤ length ys → take m xs ≡ take m ys → m ≤ n

-- the numbers of the symbols from the cursor on, the EOF's last
abbrev pub numbers_coming : Stream → List ℤ
numbers_coming s = map (λ y. y.number) (coming s)

-- the symbols that have to be compared: those that agree, and the next one where a number is still wanted
abbrev pub compared : Stream → List ℤ → List Symbol
compared s wanted = take (min (agreed (numbers_coming s) wanted + 1) (length wanted)) (coming s)

-- one of some symbols lies at or above the reach
abbrev pub some_beyond : Stream → List Symbol → Bool
some_beyond s [] = false
some_beyond s (y ∷ ys) = beyond s y.index || some_beyond s ys

-- 3 window full
abbrev pub tallied : Stream → List ℤ → Answer ℕ
tallied s wanted = unless (some_beyond s (compared s wanted)) 3 (gives (agreed (numbers_coming s) wanted))

-- 9 not open, 8 marks used up, 3 window full
abbrev pub counted : Stream → List ℤ → Answer ℕ
counted s wanted = when_open s.status (unless (nat_le 255 (length s.status.marks)) 8 (tallied s wanted))
