-- The longest front in which two lists agree. Assumes nothing.
use Rattle.std.proofs.Common.{◌≡◌, ℕ, zero, suc, ◌≤◌, Bool, true, false, cond, List, [], ◌∷◌, length, take, ℤ, sym, refl, ap, ◌∙◌, arith}
use Rattle.std.proofs.lemmas.Bool.{both_ways}
use Rattle.tokens.specs.Tokens.{same}
use Rattle.streams.proofs.Equals.{same_self, same_equal}
use Rattle.count_ahead.specs.Agreement.{agreed, Longest}

-- one more that agrees
longest_more : (n : ℕ) (x y : ℤ) (xs ys : List ℤ) → x ≡ y → Longest n xs ys → Longest (suc n) (x ∷ xs) (y ∷ ys)
longest_more n x y xs ys e old = record {
  within_first = omega (arith, old.within_first);
  within_second = omega (arith, old.within_second);
  agrees = λ i. e i ∷ old.agrees i;
  no_longer = longer;
}
  where
    longer : (m : ℕ) → m ≤ length (x ∷ xs) → m ≤ length (y ∷ ys) → take m (x ∷ xs) ≡ take m (y ∷ ys) → m ≤ suc n
    longer zero one two agrees = omega arith
    longer (suc m) one two agrees = let rest : take m xs ≡ take m ys = cc in omega (arith, old.no_longer m (omega arith) (omega arith) rest)

-- none where the first numbers differ
longest_none : (x y : ℤ) (xs ys : List ℤ) → same x y ≡ false → Longest 0 (x ∷ xs) (y ∷ ys)
longest_none x y xs ys e = record { within_first = omega arith; within_second = omega arith; agrees = refl; no_longer = longer }
  where
    longer : (m : ℕ) → m ≤ length (x ∷ xs) → m ≤ length (y ∷ ys) → take m (x ∷ xs) ≡ take m (y ∷ ys) → m ≤ 0
    longer zero one two agrees = omega arith
    longer (suc m) one two agrees = let first : x ≡ y = cc in absurd (both_ways (same x y) e (ap (same x) (sym first) ∙ same_self x))

pub longest_agreed : (xs ys : List ℤ) → Longest (agreed xs ys) xs ys
longest_agreed [] ys = record { within_first = omega arith; within_second = omega arith; agrees = refl; no_longer = λ m one two agrees. one }
longest_agreed (x ∷ xs) [] = record { within_first = omega arith; within_second = omega arith; agrees = refl; no_longer = λ m one two agrees. two }
longest_agreed (x ∷ xs) (y ∷ ys) = go (same x y) refl (longest_agreed xs ys)
  where
    go : (b : Bool) → same x y ≡ b → Longest (agreed xs ys) xs ys → Longest (cond b (suc (agreed xs ys)) 0) (x ∷ xs) (y ∷ ys)
    go true e old = longest_more (agreed xs ys) x y xs ys (same_equal x y e) old
    go false e old = longest_none x y xs ys e
