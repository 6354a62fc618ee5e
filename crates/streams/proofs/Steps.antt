-- What an open stream answers at its cursor, and a step on. Assumes nothing.
use Rattle.std.proofs.Common.{◌≡◌, ℕ, ◌+◌, ◌<◌, Bool, true, false, not, length, ℤ, pos, IsErrAnd, Result, sym, refl, ap, ◌∙◌, ⊎_elim, arith}
use Rattle.std.proofs.lemmas.Bool.{both_ways, cases_lt}
use Rattle.std.proofs.lemmas.Result.{err_from_is_err_and}
use Rattle.refusals.specs.declared.Refusal.{Refusal}
use Rattle.refusals.specs.Numbers.{number}
use Rattle.refusals.specs.Answers.{Answer, gives, refuses, answer, unless, if_given}
use Rattle.streams.specs.Streams.{Stream, is_eof, last_of, ahead, beyond, moved, Lawful}
use Rattle.streams.specs.Calls.{when_open, la, consume, consumed, index_answer}
use Rattle.streams.proofs.Symbols.{eof_not_yet, eof_last, last_read}
use Rattle.streams.proofs.Moves.{ahead_here}

-- an answer that is given is not refused
pub given_refused : {A : Type 0} (x : A) (n : ℕ) → gives x ≡ refuses n → ⊥
given_refused x n e = let z : ◌≡◌ {A = ℕ} 0 1 = cc in omega arith

-- a refusal that a `?` passes on
pub passed_on : {A : Type 0} (r : Result A Refusal) (e : Refusal) → IsErrAnd r (λ d. d ≡ e) → answer r ≡ refuses (number e)
passed_on r e by = let p = err_from_is_err_and r by in ap answer p.1 ∙ ap (λ d. refuses (number d)) p.2

-- a test that may refuse, and did not
pub unless_passed : {A : Type 0} (test : Bool) (n : ℕ) (follows : Answer A) (x : A) → unless test n follows ≡ gives x → (test ≡ false) × (follows ≡ gives x)
unless_passed true n follows x e = absurd (given_refused x n (sym e))
unless_passed false n follows x e = (refl, e)

-- the answers of an open stream
module _ (s : Stream) (opened : s.status.opened ≡ true) where
  open_answer : {A : Type 0} (follows : Answer A) → when_open s.status follows ≡ follows
  open_answer follows = ap (λ o. unless (not o) 9 follows) opened

  pub la_here : (nothing : ℤ) → Lawful s → la s nothing (pos 1) ≡ gives (ahead s 0).number
  la_here nothing ok = open_answer _ ∙ ap (λ b. unless b 3 (gives (ahead s 0).number)) (ok.below_reach opened)

  pub index_here : index_answer s ≡ gives (pos (ahead s 0).index)
  index_here = open_answer _

  -- a step from a symbol that is no EOF
  pub consume_on : is_eof (ahead s 0) ≡ false → consume s ≡ unless (beyond s (ahead s 1).index) 3 (gives tt)
  consume_on more = open_answer _ ∙ ap (λ b. unless b 2 (unless (beyond s (ahead s 1).index) 3 (gives tt))) more

-- the EOF under the cursor is the last symbol, and any other has one after it
pub eof_ends : (s : Stream) → Lawful s → is_eof (ahead s 0) ≡ true → s.cursor + 1 ≡ length s.symbols
eof_ends s ok eof = ⊎_elim
    (λ l. absurd (both_ways _ (ap is_eof (ahead_here s) ∙ eof_not_yet 0 s.symbols s.cursor (last_of s.symbols) ok.rising (omega (arith, l))) eof))
    (λ l. omega (arith, l, ok.inside))
    (cases_lt (s.cursor + 1) (length s.symbols))

pub eof_later : (s : Stream) → Lawful s → is_eof (ahead s 0) ≡ false → s.cursor + 1 < length s.symbols
eof_later s ok more = ⊎_elim
    (λ l. l)
    (λ l. absurd (both_ways _ more (ap is_eof (ahead_here s ∙ last_read 0 s.symbols s.cursor ok.rising (omega (arith, l))) ∙ eof_last 0 s.symbols ok.rising)))
    (cases_lt (s.cursor + 1) (length s.symbols))

-- a step that was accepted
pub consumed_on : (s : Stream) → consume s ≡ gives tt → consumed s ≡ moved s (s.cursor + 1)
consumed_on s e = ap (λ a. if_given a (moved s (s.cursor + 1)) s) e
