-- Values, remarks and space told apart. Assumes nothing.
use Rattle.std.specs.Prelude.{◌≡◌, ℕ, ◌≤◌, Bool, true, false, ◌&&◌, List, [], ◌∷◌, pos, Some, filter, ◌≢◌, int_le}
use Rattle.std.specs.List.{AllByRecursion}
use Rattle.characters.specs.Text.{Text, item_at}
use Rattle.tokens.specs.declared.token.Token.{Token}
use Rattle.tokens.specs.Tokens.{is_eof}
use Rattle.lexer.specs.Classes.{blank}

-- a position stands in a remark: a `#` stands there or before, and no line feed from that on
pub record InRemark (t : Text) (i : ℕ) : Type 0 where
  pub hash : ℕ
  pub before : hash ≤ i
  pub marked : item_at t hash ≡ Some 35
  pub unbroken : (l : ℕ) → hash ≤ l → l ≤ i → item_at t l ≢ Some 10

abbrev pub covers : Token → ℕ → Bool
covers k i = int_le k.start (pos i) && int_le (pos i) k.stop

-- what a token covers, by its channel: on 0 nothing of a remark, on 2 nothing else, on 1 space outside of remarks
pub record Apart (t : Text) (k : Token) : Type 0 where
  pub value : k.channel ≡ pos 0 → (i c : ℕ) → item_at t i ≡ Some c → covers k i ≡ true → InRemark t i → ⊥
  pub remark : k.channel ≡ pos 2 → (i c : ℕ) → item_at t i ≡ Some c → covers k i ≡ true → InRemark t i
  pub space : k.channel ≡ pos 1 → (i c : ℕ) → item_at t i ≡ Some c → covers k i ≡ true → (blank c ≡ true) × (InRemark t i → ⊥)

-- each token keeps them apart, and one token alone covers a symbol, which is not the EOF
pub record ToldApart (t : Text) (ks : List Token) : Type 0 where
  pub each : AllByRecursion (Apart t) ks
  pub once : (i c : ℕ) → item_at t i ≡ Some c → (k : Token) × (is_eof k ≡ false) × (filter (λ k. covers k i) ks ≡ k ∷ [])
