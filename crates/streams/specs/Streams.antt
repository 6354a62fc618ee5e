-- What a stream of symbols means. Assumes nothing.
use Rattle.std.specs.Prelude.{◌≡◌, ℕ, suc, ◌+◌, ◌<◌, ◌≤◌, Bool, true, false, not, ◌&&◌, List, [], ◌∷◌, reverse, length, take, drop, ℤ, pos, negsuc, Some, None, filter, Option, ◌==◌, nat_le, nat_lt, slice_index_or}
use Rattle.std.specs.List.{slice_get}

-- a symbol is a number at an index: a code point at its position, or a token's type at the token's index
pub record Symbol : Type 0 where
  pub index : ℕ
  pub number : ℤ

-- how far a stream sees: all of its symbols; those below a reach; or, through a window that slides along, as many
-- indexes from its floor on as the window has places
pub data Sight : Type 0 where
  whole : Sight
  upto : ℕ → Sight
  sliding : ℕ → Sight

-- whether a stream is open, and the numbers of the marks that are out, the latest first
pub record Status : Type 0 where
  pub opened : Bool
  pub marks : List ℤ

-- all visible symbols, how many of them lie before the cursor, and the index below which nothing is looked at
pub record Stream : Type 0 where
  pub status : Status
  pub symbols : List Symbol
  pub cursor : ℕ
  pub floor : ℕ
  pub sight : Sight

-- the number of the EOF is -1
abbrev pub minus_one : ℤ → Bool
minus_one (pos n) = false
minus_one (negsuc n) = n == 0

abbrev pub is_eof : Symbol → Bool
is_eof y = minus_one y.number

-- the indexes rise, the first is at least low, and the last symbol is the only EOF
abbrev pub Rising : ℕ → List Symbol → Type 0
Rising low [] = ⊥
Rising low (y ∷ []) = (low ≤ y.index) × (is_eof y ≡ true)
Rising low (y ∷ z ∷ ys) = (low ≤ y.index) × (is_eof y ≡ false) × Rising (suc y.index) (z ∷ ys)

-- the last of some symbols
abbrev pub last_of : List Symbol → Symbol
last_of [] = record { index = 0; number = negsuc 0 }
last_of (y ∷ []) = y
last_of (y ∷ z ∷ ys) = last_of (z ∷ ys)

-- the symbols from the cursor on
abbrev pub coming : Stream → List Symbol
coming s = drop s.cursor s.symbols

-- the k-th symbol from the cursor on, counted from 0, or the EOF where fewer remain
abbrev pub ahead : Stream → ℕ → Symbol
ahead s k = slice_index_or (coming s) k (last_of s.symbols)

-- the k-th symbol before the cursor, the nearest first, counted from 0
abbrev pub behind : Stream → ℕ → Option Symbol
behind s k = slice_get (reverse (take s.cursor s.symbols)) k

-- how many symbols lie before the first one at or after an index; the EOF is never passed over
abbrev pub place : List Symbol → ℕ → ℕ
place ys i = length (filter (λ y. not (is_eof y) && nat_lt y.index i) ys)

-- the index at which a stream's reach begins, if it has one
abbrev pub reach_of : Sight → ℕ → Option ℕ
reach_of whole floor = None
reach_of (upto reach) floor = Some reach
reach_of (sliding places) floor = Some (floor + places)

abbrev pub reach : Stream → Option ℕ
reach s = reach_of s.sight s.floor

abbrev pub at_or_above : Option ℕ → ℕ → Bool
at_or_above None i = false
at_or_above (Some r) i = nat_le r i

-- an index is at or above the reach
abbrev pub beyond : Stream → ℕ → Bool
beyond s i = at_or_above (reach s) i

-- a window's floor follows the cursor while no mark is out, and stays while one is
abbrev pub resting : Sight → List ℤ → ℕ → ℕ → ℕ
resting whole marks here floor = floor
resting (upto reach) marks here floor = floor
resting (sliding places) [] here floor = here
resting (sliding places) (m ∷ ms) here floor = floor

abbrev pub settled : Stream → Stream
settled s = record { status = s.status; symbols = s.symbols; cursor = s.cursor; floor = resting s.sight s.status.marks (ahead s 0).index s.floor; sight = s.sight }

-- the same stream with its cursor elsewhere
abbrev pub moved : Stream → ℕ → Stream
moved s n = settled (record { status = s.status; symbols = s.symbols; cursor = n; floor = s.floor; sight = s.sight })

-- the same stream with other marks out
abbrev pub with_marks : Stream → List ℤ → Stream
with_marks s ms = settled (record { status = record { opened = s.status.opened; marks = ms }; symbols = s.symbols; cursor = s.cursor; floor = s.floor; sight = s.sight })

-- what every stream keeps to: the cursor is on a symbol, not below the floor, and an open stream sees it
pub record Lawful (s : Stream) : Type 0 where
  pub rising : Rising 0 s.symbols
  pub inside : s.cursor < length s.symbols
  pub above_floor : s.floor ≤ (ahead s 0).index
  pub at_rest : (settled s).floor ≡ s.floor
  pub below_reach : s.status.opened ≡ true → beyond s (ahead s 0).index ≡ false

-- what is true of everything that a value shows: more than one stream can be shown, where dropped symbols are forgotten
abbrev pub IfShown : {X M : Type 0} → (X → M → Type 0) → X → (M → Type 0) → Type 0
IfShown {M = M} shows x says = (m : M) → shows x m → says m

-- everything that was shown has become another, which is shown now
abbrev pub Becomes : {X M : Type 0} → (X → M → Type 0) → X → X → (M → M) → Type 0
Becomes shows x y next = IfShown shows x (λ m. shows y (next m))
