-- What a window holds. Assumes nothing.
use Rattle.std.specs.Prelude.{ℕ, ◌+◌, ◌-◌, ◌%◌, ◌≤◌, min, Bool, cond, ◌||◌, List, [], ◌∷◌, ◌++◌, map, length, drop, ℤ, pos, None, Option, int_lt, nat_le, nat_lt, slice_index_or}
use Rattle.std.specs.List.{slice_get, range_with_len}
use Rattle.refusals.specs.Answers.{Answer, gives, unless, if_given}
use Rattle.characters.specs.Signed.{upward}
use Rattle.tokens.specs.declared.token.Token.{Token}
use Rattle.windows.specs.Lists.{stamped, blank}

-- the tokens that are held, the index of the first, and how many places are admitted
pub record View : Type 0 where
  pub start : ℕ
  pub tokens : List Token
  pub capacity : ℕ

-- the token of an index stands in the place of its remainder by the number of places
abbrev pub ring : List Token → ℕ → ℕ → List Token
ring places start n = map (λ i. slice_index_or places (i % 2048) blank) (range_with_len start n)

-- the index after the last token
abbrev pub end : View → ℕ
end v = v.start + length v.tokens

-- the index that no pull goes to or beyond
abbrev pub reach : View → ℕ
reach v = v.start + v.capacity

-- what is so of every window: it holds at most 2,048 tokens, none with an index of 1,048,576 or above, and admits at most
-- 2,048 places
pub record Bounded (v : View) : Type 0 where
  pub fits : length v.tokens ≤ 2048
  pub few : end v ≤ 1048576
  pub admits : v.capacity ≤ 2048

abbrev pub with_tokens : View → List Token → View
with_tokens v ks = record { start = v.start; tokens = ks; capacity = v.capacity }

-- 10 capacity
abbrev pub admission : ℤ → Answer (Unit {0})
admission c = unless (int_lt c (pos 2) || int_lt (pos 2048) c) 10 (gives tt)

abbrev pub admitted : View → ℤ → View
admitted v c = record { start = v.start; tokens = v.tokens; capacity = if_given (admission c) (upward c) v.capacity }

-- one token more, with its index; none where the window has no place, or 1,048,576 tokens have entered
abbrev pub full : View → Bool
full v = nat_le 2048 (length v.tokens) || nat_le 1048576 (end v)

abbrev pub pushed : View → Token → View
pushed v k = with_tokens v (cond (full v) v.tokens (v.tokens ++ stamped (end v) k ∷ []))

-- the token of an index, if it is held
abbrev pub token_of : View → ℕ → Option Token
token_of v i = cond (nat_lt i v.start) None (slice_get v.tokens (i - v.start))

-- without the tokens below an index
abbrev pub without : View → ℕ → View
without v i =
    let n = min (i - v.start) (length v.tokens) in
    record { start = v.start + n; tokens = drop n v.tokens; capacity = v.capacity }
