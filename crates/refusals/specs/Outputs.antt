-- What a call that writes into a caller's output answers and leaves. Assumes nothing.
use Rattle.std.specs.Prelude.{ℕ, cond, List, ◌++◌, length, drop, nat_lt}
use Rattle.refusals.specs.Answers.{Answer, gives, unless}

-- how many items were written, or 'short output' where the output cannot take them all
abbrev pub written : {A : Type 0} → List A → List A → Answer ℕ
written items out = unless (nat_lt (length out) (length items)) 14 (gives (length items))

-- the items, and then the rest of the output as it was; where they do not fit, the output as it was
abbrev pub overwritten : {A : Type 0} → List A → List A → List A
overwritten items out = cond (nat_lt (length out) (length items)) out (items ++ drop (length items) out)
