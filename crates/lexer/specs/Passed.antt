-- Symbols passed over. Assumes nothing.
use Rattle.std.specs.Prelude.{◌≡◌, ℕ, ◌+◌, ◌≤◌, List, drop, filter, nat_le}
use Rattle.characters.specs.Text.{Text, Point, start_from}
use Rattle.lexer.specs.Lexed.{codes_of}

-- the points at or after a position, and their codes
abbrev pub onward : Text → ℕ → List Point
onward t i = filter (λ p. nat_le i p.at) t.points

abbrev pub rest : Text → ℕ → List ℕ
rest t i = codes_of (onward t i)

-- n symbols from a start on end at another
pub record Passed (t : Text) (i n end count : ℕ) : Type 0 where
  pub counted : count ≡ n
  pub start : start_from t end ≡ end
  pub left : onward t end ≡ drop n (onward t i)
  pub wide : i + n ≤ end
