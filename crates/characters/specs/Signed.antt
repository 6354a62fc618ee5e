-- A text asked by signed numbers: every position and every step has an answer. Assumes nothing.
use Rattle.std.specs.Prelude.{◌≡◌, ℕ, suc, Bool, cond, ◌||◌, ℤ, pos, negsuc, ◌+ℤ◌, neg_ℤ, Some, None, Option, int_lt, nat_lt}
use Rattle.std.specs.Option.{option_map}
use Rattle.refusals.specs.Answers.{Answer, gives, unless, if_given}
use Rattle.characters.specs.Text.{Text, empty, item_at, on, back, inside, start_from, part}

-- the code point that starts at a position
abbrev pub item : Text → ℤ → Option ℤ
item t (pos i) = option_map pos (item_at t i)
item t (negsuc i) = None

-- where k starts on lead, or back for k below 0
abbrev pub moved : Text → ℕ → ℤ → Option ℕ
moved t i (pos k) = on t i k
moved t i (negsuc k) = back t i (suc k)

abbrev pub offset : Text → ℤ → ℤ → Option ℤ
offset t (pos i) k = cond (nat_lt t.size i) None (option_map pos (moved t i k))
offset t (negsuc i) k = None

-- a walk of k starts forward from a start, where there are that many, and then of k back ends where it began
abbrev pub Returns : Text → ℤ → ℤ → Option ℤ → Type 0
Returns t (pos i) (pos k) (Some j) = start_from t i ≡ i → offset t j (neg_ℤ (pos k)) ≡ Some (pos i)
Returns t (pos i) (pos k) None = Unit {0}
Returns t (pos i) (negsuc k) reached = Unit {0}
Returns t (negsuc i) k reached = Unit {0}

-- the least natural number that is not below a number, and above one
abbrev pub upward : ℤ → ℕ
upward (pos n) = n
upward (negsuc n) = 0

abbrev pub past : ℤ → ℕ
past (pos n) = suc n
past (negsuc n) = 0

-- the stop is below the start less one
abbrev pub backward : ℤ → ℤ → Bool
backward start stop = int_lt (stop +ℤ pos 1) start

-- whether a text has the interval from start through stop: 5 negative, 13 bad interval, 6 not held
abbrev pub interval_check : Text → ℤ → ℤ → Answer (Unit {0})
interval_check t start stop =
    unless (int_lt start (pos 0)) 5
    (unless (nat_lt (past stop) (upward start) || inside t (upward start)) 13
    (unless (nat_lt t.size (past stop)) 6 (gives tt)))

-- the code points that start from start through stop, where the text has that interval, else none
abbrev pub interval : Text → ℤ → ℤ → Text
interval t start stop = if_given (interval_check t start stop) (part t (upward start) (start_from t (past stop))) empty
