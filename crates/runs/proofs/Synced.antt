-- The pile has as many marks as the stream has out. Assumes nothing.
use Rattle.std.proofs.Common.{◌≡◌, ℕ, suc, ◌-◌, ◌<◌, Bool, true, false, cond, not, leb, List, [], ◌∷◌, length, ℤ, negsuc, sym, refl, ap, ◌∙◌, arith}
use Rattle.std.proofs.lemmas.Bool.{leb-false, lt-leb, eq-eqb, false≢true}
use Rattle.refusals.specs.Answers.{Answer, gives, refuses, unless, if_given}
use Rattle.tokens.specs.Tokens.{same}
use Rattle.streams.specs.declared.mark.Numbering.{Numbering}
use Rattle.streams.specs.declared.mark.Numbering.TheVariants.{Fixed, Falling}
use Rattle.streams.specs.Streams.{Status}
use Rattle.streams.specs.Marks.{falls, numbers, piling, latest, earlier, releasing}
use Rattle.streams.specs.Calls.{mark_answer, marks_after_mark, release_answer, marks_after_release}
use Rattle.streams.proofs.Numbers.{length_numbers}

abbrev taken : Answer (Unit {0})
taken = gives tt

-- what a mark that was made, or refused, does to the number of marks out: stated for the reader, since no proof cites it
pub record Grown (t : Status) (n z : ℤ) : Type 0 where
  pub more : length (marks_after_mark t n) ≡ suc (length t.marks)
  pub number : z ≡ n
  pub few : length t.marks < 255

module _ (t : Status) (n : ℤ) where
  pub grown : (z : ℤ) → gives z ≡ mark_answer t n → Grown t n z
  grown z e = go t.opened (leb 255 (length t.marks)) refl refl e
    where
      go : (o f : Bool) → t.opened ≡ o → leb 255 (length t.marks) ≡ f → gives z ≡ unless (not o) 9 (unless f 8 (gives n)) → Grown t n z
      go false f p q e = let y : ◌≡◌ {A = ℕ} 0 1 = cc in absurd (omega arith)
      go true true p q e = let y : ◌≡◌ {A = ℕ} 0 1 = cc in absurd (omega arith)
      go true false p q e =
          let same_number : z ≡ n = cc in
          record { more = (λ i. length (if_given (unless (not (p i)) 9 (unless (q i) 8 (gives n))) (n ∷ t.marks) t.marks)); number = same_number; few = leb-false 255 (length t.marks) q }

  pub not_grown : (m : ℕ) → refuses m ≡ mark_answer t n → length (marks_after_mark t n) ≡ length t.marks
  not_grown m e = ap (λ a. length (if_given a (n ∷ t.marks) t.marks)) (sym e)

  -- and one that came back, or was refused
  pub shrunk : taken ≡ release_answer t n → length (marks_after_release t n) ≡ length t.marks - 1
  shrunk e = go t.opened t.marks refl (latest t.marks n) refl e
    where
      go : (o : Bool) (ms : List ℤ) → t.opened ≡ o → (l : Bool) → latest ms n ≡ l → taken ≡ unless (not o) 9 (unless (not l) 7 (taken)) → length (cond o (if_given (unless (not (latest ms n)) 7 (taken)) (earlier ms) ms) ms) ≡ length ms - 1
      go false ms p l q e = let y : ◌≡◌ {A = ℕ} 0 1 = cc in absurd (omega arith)
      go true ms p false q e = let y : ◌≡◌ {A = ℕ} 0 1 = cc in absurd (omega arith)
      go true [] p true q e = absurd (false≢true q)
      go true (m ∷ ms) p true q e = ap (λ b. length (if_given (unless (not b) 7 (taken)) ms (m ∷ ms))) q ∙ (let less : length ms ≡ length (m ∷ ms) - 1 = omega arith in less)

  pub not_shrunk : (m : ℕ) → refuses m ≡ release_answer t n → length (marks_after_release t n) ≡ length t.marks
  not_shrunk m e = go t.opened refl e
    where
      go : (o : Bool) → t.opened ≡ o → refuses m ≡ unless (not o) 9 (releasing t.marks n) → length (cond o (if_given (releasing t.marks n) (earlier t.marks) t.marks) t.marks) ≡ length t.marks
      go false p e = refl
      go true p e = ap (λ a. length (if_given a (earlier t.marks) t.marks)) (sym e)

-- the pile takes the stream's next mark: for the reader too, as is what follows
pub piled : (how : Numbering) (len : ℕ) (z : ℤ) → falls how ≡ true → len < 255 → z ≡ negsuc len → piling how len z ≡ gives tt
piled (Fixed y) len z f few e = absurd (false≢true f)
piled Falling len z f few e =
    (λ i. unless (lt-leb 255 len few i) 8 (unless (not (same (negsuc len) (e i))) 7 (gives tt)))
    ∙ ap (λ b. unless (not b) 7 (gives tt)) (eq-eqb len len refl)

-- equal marks are equally many
pub same_out : (how now_how : Numbering) (out now_out : ℕ) → numbers now_how now_out ≡ numbers how out → now_out ≡ out
same_out how now_how out now_out e = sym (length_numbers now_how now_out) ∙ ap length e ∙ length_numbers how out
