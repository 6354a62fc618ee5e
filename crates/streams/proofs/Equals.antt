-- Numbers that are the same. Assumes nothing.
use Rattle.std.proofs.Common.{◌≡◌, true, ℤ, pos, negsuc, refl, ap}
use Rattle.std.proofs.lemmas.Bool.{eqb-true, eq-eqb, false≢true}
use Rattle.tokens.specs.Tokens.{same}
use Rattle.streams.specs.Streams.{minus_one}

pub same_self : (z : ℤ) → same z z ≡ true
same_self (pos n) = eq-eqb n n refl
same_self (negsuc n) = eq-eqb n n refl

pub same_equal : (x y : ℤ) → same x y ≡ true → x ≡ y
same_equal (pos a) (pos b) e = ap pos (eqb-true a b e)
same_equal (pos a) (negsuc b) e = absurd (false≢true e)
same_equal (negsuc a) (pos b) e = absurd (false≢true e)
same_equal (negsuc a) (negsuc b) e = ap negsuc (eqb-true a b e)

-- the number of the EOF
pub same_minus_one : (z : ℤ) → same z (negsuc 0) ≡ minus_one z
same_minus_one (pos n) = refl
same_minus_one (negsuc n) = refl
