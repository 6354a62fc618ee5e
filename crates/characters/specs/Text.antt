-- What a text means: code points at rising positions below a size. Assumes nothing.
use Rattle.std.specs.Prelude.{ℕ, zero, suc, ◌-◌, ◌≤◌, Bool, cond, not, ◌&&◌, ltb, leb, List, [], ◌∷◌, ◌++◌, map, reverse, Some, filter, Option, ◌==◌, nat_eq, nat_le, nat_lt, slice_index_or}
use Rattle.std.proofs.Math.Utf8.{scalar, encodes}
use Rattle.std.specs.List.{slice_get}

pub record Point : Type 0 where
  pub at : ℕ
  pub code : ℕ

pub record Text : Type 0 where
  pub points : List Point
  pub size : ℕ

-- the positions rise, the first is at least low, and all are below the size
abbrev pub Rises : ℕ → List Point → ℕ → Type 0
Rises low [] size = low ≤ size
Rises low (p ∷ ps) size = (low ≤ p.at) × Rises (suc p.at) ps size

-- what every text keeps to
pub record Lawful (t : Text) : Type 0 where
  pub rises : Rises 0 t.points t.size
  pub few : t.size ≤ 65536

abbrev pub empty : Text
empty = record { points = []; size = 0 }

abbrev pub codes : Text → List ℕ
codes t = map (λ p. p.code) t.points

-- where a code point starts; the size is a start too
abbrev pub starts : Text → List ℕ
starts t = map (λ p. p.at) t.points ++ t.size ∷ []

-- the first start at or after i, or the size
abbrev pub start_from : Text → ℕ → ℕ
start_from t i = slice_index_or (filter (leb i) (starts t)) 0 t.size

-- the code point that starts at i
abbrev pub item_at : Text → ℕ → Option ℕ
item_at t i = slice_get (map (λ p. p.code) (filter (λ p. nat_eq i p.at) t.points)) 0

-- k starts on from i, and k starts back
abbrev pub on : Text → ℕ → ℕ → Option ℕ
on t i zero = Some i
on t i (suc k) = slice_get (filter (ltb i) (starts t)) k

abbrev pub back : Text → ℕ → ℕ → Option ℕ
back t i zero = Some i
back t i (suc k) = slice_get (reverse (filter (λ s. ltb s i) (starts t))) k

-- i is no start, though it is below the size
abbrev pub inside : Text → ℕ → Bool
inside t i = nat_lt i t.size && not (start_from t i == i)

abbrev pub moved_down : ℕ → Point → Point
moved_down i p = record { at = p.at - i; code = p.code }

-- the code points that start from i on and below j, as a text of its own
abbrev pub part : Text → ℕ → ℕ → Text
part t i j = record { points = map (moved_down i) (filter (λ p. nat_le i p.at && nat_lt p.at j) t.points); size = j - i }

-- i and j are starts in this order
abbrev pub cuts : Text → ℕ → ℕ → Bool
cuts t i j = (nat_le i j && nat_le j t.size) && (start_from t i == i && start_from t j == j)

-- a code that is no Unicode scalar value is shown as U+FFFD
abbrev pub shown : ℕ → ℕ
shown c = cond (scalar c) c 65533

-- the text in UTF-8
abbrev pub display : Text → List ℕ
display t = encodes (map shown (codes t))
