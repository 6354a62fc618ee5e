-- An interval that the check grants has two starts for its ends. Assumes nothing.
use Rattle.std.proofs.Common.{◌≡◌, ℕ, ◌+◌, ◌≤◌, Ok, Err, Result, Bool, true, false, cond, ◌||◌, ltb, ℤ, pos, negsuc, ◌+ℤ◌, sym, refl, ap, ◌∙◌, ⊎_elim, arith}
use Rattle.std.proofs.lemmas.Int.{ints}
use lib.Signed.{lt_z}
use Rattle.std.proofs.lemmas.Bool.{and_from, and_cases, or_parts, not-false, ltb-false, le-leb, eq-eqb, eqb-true, cases_lt}
use Rattle.std.specs.Result.{is_ok}
use Rattle.refusals.specs.declared.Refusal.{Refusal}
use Rattle.refusals.specs.Answers.{Answer, gives, answer, unless, if_given}
use Rattle.characters.specs.Text.{Text, Lawful, empty, start_from, inside, cuts, part}
use Rattle.characters.specs.Signed.{upward, past, backward, interval_check, interval}
use Rattle.characters.proofs.Starts.{start_from_within, start_from_above, start_from_start, size_start}

-- a test that refuses was not met where the answer is given
granted : {A : Type 0} (b : Bool) (n : ℕ) (follows : Answer A) (v : A) → unless b n follows ≡ gives v → (b ≡ false) × (follows ≡ gives v)
granted true n follows v e = let z : ◌≡◌ {A = ℕ} 0 1 = cc in absurd (omega arith)
granted false n follows v e = (refl, e)

-- a call that went well granted what it was asked
pub is_granted : (r : Result (Unit {0}) Refusal) → is_ok r ≡ true → gives tt ≡ answer r
is_granted (Ok u) e = refl
is_granted (Err r) e = let z : ◌≡◌ {A = ℕ} 0 1 = cc in absurd (omega arith)

-- an interval that does not run backward ends no earlier than it starts
pub ordered : (start stop : ℤ) → backward start stop ≡ false → upward start ≤ past stop
ordered (negsuc a) stop e = omega arith
ordered (pos a) (pos b) e = omega (arith, ltb-false (b + 1) a e)
ordered (pos a) (negsuc b) e = let low : lt_z (negsuc b +ℤ pos 1) (pos a) ≡ false = e in grind (arith, ints)

module _ (t : Text) (ok : Lawful t) where
  -- what is not inside a code point, and not past the size, is a start
  pub outside_start : (i : ℕ) → i ≤ t.size → inside t i ≡ false → start_from t i ≡ i
  outside_start i h e = ⊎_elim
      (λ l. ⊎_elim (λ (f : ltb i t.size ≡ false). absurd (omega (arith, ltb-false i t.size f))) (λ f. eqb-true _ _ (not-false _ f)) (and_cases _ _ e))
      (λ l. let same : i ≡ t.size = omega arith in ap (start_from t) same ∙ size_start t ok ∙ sym same)
      (cases_lt i t.size)

  pub granted_cuts : (start stop : ℤ) → interval_check t start stop ≡ gives tt → cuts t (upward start) (start_from t (past stop)) ≡ true
  granted_cuts start stop e =
      let first = granted (lt_z start (pos 0)) 5 _ tt e in
      let second = granted (ltb (past stop) (upward start) || inside t (upward start)) 13 _ tt first.1 in
      let third = granted (ltb t.size (past stop)) 6 _ tt second.1 in
      let bad = or_parts (ltb (past stop) (upward start)) (inside t (upward start)) second.0 in
      let order : upward start ≤ past stop = ltb-false _ _ bad.0 in
      let held : past stop ≤ t.size = ltb-false _ _ third.0 in
      and_from _ _ (and_from _ _ (le-leb _ _ (omega (arith, start_from_above t ok (past stop) held))) (le-leb _ _ (start_from_within t ok (past stop))))
      (and_from _ _ (eq-eqb _ _ (outside_start (upward start) (omega arith) bad.1)) (eq-eqb _ _ (start_from_start t ok (past stop))))

  pub interval_given : (start stop : ℤ) → interval_check t start stop ≡ gives tt → cond (cuts t (upward start) (start_from t (past stop))) (part t (upward start) (start_from t (past stop))) empty ≡ interval t start stop
  interval_given start stop e =
      ap (λ b. cond b (part t (upward start) (start_from t (past stop))) empty) (granted_cuts start stop e) ∙ ap (λ a. if_given a (part t (upward start) (start_from t (past stop))) empty) (sym e)
