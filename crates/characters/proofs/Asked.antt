-- Signed positions and steps, read as natural numbers. Assumes nothing.
use Rattle.std.proofs.Common.{◌≡◌, ℕ, zero, suc, ◌≤◌, Bool, true, false, cond, ltb, ℤ, pos, negsuc, neg_ℤ, nat_abs, Some, None, Option, Ok, Err, Result, sym, refl, ap, ◌∙◌, arith}
use lib.Signed.{lt_z}
use Rattle.std.specs.Int.{FitsUnsignedBits}
use Rattle.std.specs.Option.{option_map}
use Rattle.std.specs.Result.{OkIff, result_ok}
use Rattle.std.proofs.lemmas.Bool.{le-ltb, ltb-true, ltb-false, true≢false}
use Rattle.characters.specs.Text.{Text, Lawful, on, back}
use Rattle.characters.specs.Signed.{moved, offset, Returns}
use Rattle.characters.proofs.Starts.{on_within, back_within, on_and_back}

-- a number that fits is the position that it was made into
pub made : {E : Type 0} (r : Result ℕ E) (z : ℤ) (from : ℕ) → OkIff r (FitsUnsignedBits 64 z) (nat_abs z) → Some from ≡ result_ok r → z ≡ pos from
made (Ok x) (pos n) from h e = ap pos (cc (h.1))
made (Ok x) (negsuc n) from h e = absurd h.0
made (Err _) z from h e = let z : ◌≡◌ {A = ℕ} 0 1 = cc in absurd (omega arith)

-- what a walk of so many steps gives, where the number of steps is known up to the way it was passed
pub steps_on : (t : Text) (i n : ℕ) (k l : ℤ) (r : Option ℕ) → l ≡ k → n ≡ nat_abs l → lt_z l (pos 0) ≡ false → r ≡ on t i n → r ≡ moved t i k
steps_on t i n k l r f m h o = o ∙ ap (on t i) m ∙ go l h ∙ ap (moved t i) f
  where
    go : (l : ℤ) → lt_z l (pos 0) ≡ false → on t i (nat_abs l) ≡ moved t i l
    go (pos n) h = refl
    go (negsuc n) h = absurd (true≢false h)

pub steps_back : (t : Text) (i n : ℕ) (k l : ℤ) (r : Option ℕ) → l ≡ k → n ≡ nat_abs l → lt_z l (pos 0) ≡ true → r ≡ back t i n → r ≡ moved t i k
steps_back t i n k l r f m h o = o ∙ ap (back t i) m ∙ go l h ∙ ap (moved t i) f
  where
    go : (l : ℤ) → lt_z l (pos 0) ≡ true → back t i (nat_abs l) ≡ moved t i l
    go (pos n) h = absurd (omega (arith, ltb-true n 0 h))
    go (negsuc n) h = refl

pub offset_is : (t : Text) (index k : ℤ) (from : ℕ) (r : Option ℕ) → index ≡ pos from → from ≤ t.size → r ≡ moved t from k → option_map pos r ≡ offset t index k
offset_is t index k from r e h m = ap (option_map pos) m ∙ sym (ap (λ b. cond b None (option_map pos (moved t from k))) (le-ltb t.size from h)) ∙ ap (λ z. offset t z k) (sym e)

-- no step leaves the text
pub moved_within : (t : Text) → Lawful t → (i j : ℕ) (k : ℤ) → i ≤ t.size → moved t i k ≡ Some j → j ≤ t.size
moved_within t ok i j (pos n) h e = on_within t ok n i j h e
moved_within t ok i j (negsuc n) h e = omega (arith, back_within t ok (suc n) i j e)

-- forward and back again
steps_off : (t : Text) (j k : ℕ) → moved t j (neg_ℤ (pos k)) ≡ back t j k
steps_off t j zero = refl
steps_off t j (suc k) = refl

pub returning : (t : Text) → Lawful t → (index k : ℤ) → Returns t index k (offset t index k)
returning t ok (negsuc i) k = tt
returning t ok (pos i) (negsuc k) = tt
returning t ok (pos i) (pos k) = go (ltb t.size i) refl (on t i k) refl
  where
    go : (b : Bool) → ltb t.size i ≡ b → (r : Option ℕ) → on t i k ≡ r → Returns t (pos i) (pos k) (cond b None (option_map pos r))
    go true e r f = tt
    go false e None f = tt
    go false e (Some j) f = λ s.
        let within = on_within t ok k i j (ltb-false t.size i e) f in
        ap (λ b. cond b None (option_map pos (moved t j (neg_ℤ (pos k))))) (le-ltb t.size j within) ∙ ap (option_map pos) (steps_off t j k ∙ on_and_back t ok k i j s f)
