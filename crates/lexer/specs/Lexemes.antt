-- The types of a sheet's tokens: which symbols make one of each, and on which channel it goes. Assumes nothing.
use Rattle.std.specs.Prelude.{◌≡◌, ℕ, ◌<◌, Bool, true, false, cond, List, [], ◌∷◌, ◌++◌, length, ◌==◌}
use Rattle.std.specs.List.{AllByRecursion}
use Rattle.lexer.specs.declared.class.Class.TheVariants.{Other}
use Rattle.lexer.specs.Classes.{letter, digit, line_feed, blank, class}

-- at least one symbol, and each passes the test
abbrev pub Run : (ℕ → Bool) → List ℕ → Type 0
Run test cs = (0 < length cs) × AllByRecursion (λ c. test c ≡ true) cs

pub data Lexeme : ℕ → List ℕ → Type 0 where
  word : {cs : List ℕ} → Run letter cs → Lexeme 1 cs
  whole : {cs : List ℕ} → Run digit cs → Lexeme 2 cs
  decimal : (cs ds : List ℕ) → Run digit cs → Run digit ds → Lexeme 2 (cs ++ 46 ∷ ds)
  newline : Lexeme 3 (10 ∷ [])
  space : {cs : List ℕ} → Run blank cs → Lexeme 4 cs
  remark : {cs : List ℕ} → AllByRecursion (λ c. line_feed c ≡ false) cs → Lexeme 5 (35 ∷ cs)
  other : {c : ℕ} → class c ≡ Other → Lexeme 6 (c ∷ [])

-- space is on channel 1 and remarks are on channel 2
abbrev pub channel : ℕ → ℕ
channel type = cond (type == 4) 1 (cond (type == 5) 2 0)
