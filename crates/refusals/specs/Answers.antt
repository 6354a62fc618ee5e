-- What a call answers: a value, or a refusal by its number. Assumes nothing.
use Rattle.std.specs.Prelude.{ℕ, Bool, cond, Ok, Err, Result}
use Rattle.refusals.specs.declared.Refusal.{Refusal}
use Rattle.refusals.specs.Numbers.{number}

pub data Answer (A : Type 0) : Type 0 where
  gives : A → Answer A
  refuses : ℕ → Answer A

abbrev pub answer : {A : Type 0} → Result A Refusal → Answer A
answer (Ok v) = gives v
answer (Err e) = refuses (number e)

-- the refusal of this number where the test fails, else the answer that follows
abbrev pub unless : {A : Type 0} → Bool → ℕ → Answer A → Answer A
unless test n follows = cond test (refuses n) follows

-- the first of two where a call gives an answer, the second where it refuses
abbrev pub if_given : {A B : Type 0} → Answer A → B → B → B
if_given (gives _) x y = x
if_given (refuses _) x y = y
