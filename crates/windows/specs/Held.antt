-- What a buffer holds of its source's list. Assumes nothing.
use Rattle.std.specs.Prelude.{◌≡◌, ℕ, suc, ◌-◌, ◌<◌, ◌≤◌, min, max, Bool, true, false, cond, not, ◌&&◌, List, length, drop, Some, None, Option, nat_le, nat_lt}
use Rattle.std.specs.List.{between}
use Rattle.tokens.specs.declared.token.Token.{Token}
use Rattle.tokens.specs.Tokens.{is_eof, ends}
use Rattle.tokens.specs.Sources.{Pulls}
use Rattle.windows.specs.Lists.{stamps}
use Rattle.windows.specs.Windows.{View, end, reach, pushed, token_of}

-- A window holds the tokens of a list from its start on, as far as they were pulled, each with its place in the list for
-- an index; the source still has the others to give.
pub record Holds (list : List Token) (v : View) (coming : List Token) : Type 0 where
  pub ended : ends list ≡ true
  pub few : length list ≤ 1048576
  pub begun : v.start < length list
  pub within : end v ≤ length list
  pub held : v.tokens ≡ between v.start (end v) (stamps 0 list)
  pub rest : end v < length list → drop (end v) (stamps 0 list) ≡ stamps (end v) coming

-- one token went from the source into the window
pub record Pulled (v : View) (coming : List Token) (w : View) (left : List Token) : Type 0 where
  pub token : Token
  pub pulls : Pulls coming token left
  pub window : w ≡ pushed v token

abbrev pub eof_is : Option Token → Bool
eof_is (Some k) = is_eof k
eof_is None = false

-- the last token held is the EOF
abbrev pub at_end : View → Bool
at_end v = eof_is (token_of v (end v - 1))

-- to see the token of an index, one more must be pulled, and can be
abbrev pub wants : View → ℕ → Bool
wants v i = nat_le (end v) i && (nat_lt (end v) (reach v) && (nat_lt (end v) 1048576 && not (at_end v)))

-- how many tokens of so long a list have been pulled, once the token of an index was asked for: up to that token, but
-- none past the EOF or at the reach, and no fewer than before
abbrev pub pulled_to : ℕ → View → ℕ → ℕ
pulled_to size v i = max (end v) (min (reach v) (min (suc i) size))

abbrev pub within_reach : View → ℕ → Option ℕ
within_reach v i = cond (nat_lt i (reach v)) (Some i) None

-- an index that is held, or the EOF's where that is, if it is below the reach
abbrev pub seen_now : View → ℕ → Option ℕ
seen_now v i = cond (nat_lt i (end v)) (within_reach v i) (cond (at_end v) (within_reach v (end v - 1)) None)

-- where the token of an index is seen in a list of a size: at its own index, or at the EOF's; below the reach
abbrev pub seen_at : ℕ → View → ℕ → Option ℕ
seen_at size v i = within_reach v (min i (size - 1))
