-- Symbols with rising indexes: where each stands, and that only the last is the EOF. Assumes nothing.
use Rattle.std.proofs.Common.{◌≡◌, ℕ, zero, suc, ◌<◌, ◌≤◌, Bool, true, false, not, ◌&&◌, ltb, List, [], ◌∷◌, length, get_or, refl, ap, ◌∙◌, arith}
use Rattle.std.proofs.lemmas.Bool.{lt-ltb, le-ltb, and_left, and_right, and_from, not_from_true, not_from_false}
use Rattle.characters.proofs.Kept.{keeps, leaves}
use Rattle.streams.specs.Streams.{Symbol, is_eof, Rising, last_of, place}

-- passed over on the way to an index
abbrev before : ℕ → Symbol → Bool
before i y = not (is_eof y) && ltb y.index i

-- no index is below low
pub index_above : (low : ℕ) (ys : List Symbol) (c : ℕ) (d : Symbol) → Rising low ys → c < length ys → low ≤ (get_or ys c d).index
index_above low [] c d h l = absurd h
index_above low (y ∷ []) zero d h l = h.0
index_above low (y ∷ []) (suc c) d h l = absurd (omega arith)
index_above low (y ∷ z ∷ ys) zero d h l = h.0
index_above low (y ∷ z ∷ ys) (suc c) d h l = omega (arith, h.0, index_above (suc y.index) (z ∷ ys) c d h.2 (omega arith))

pub index_rises : (low : ℕ) (ys : List Symbol) (c e : ℕ) (d : Symbol) → Rising low ys → c < e → e < length ys → (get_or ys c d).index < (get_or ys e d).index
index_rises low [] c e d h less l = absurd h
index_rises low (y ∷ []) c e d h less l = absurd (omega arith)
index_rises low (y ∷ z ∷ ys) zero zero d h less l = absurd (omega arith)
index_rises low (y ∷ z ∷ ys) zero (suc e) d h less l = omega (arith, index_above (suc y.index) (z ∷ ys) e d h.2 (omega arith))
index_rises low (y ∷ z ∷ ys) (suc c) zero d h less l = absurd (omega arith)
index_rises low (y ∷ z ∷ ys) (suc c) (suc e) d h less l = index_rises (suc y.index) (z ∷ ys) c e d h.2 (omega arith) (omega arith)

-- one with another after it is no EOF, and the last is the EOF
pub eof_not_yet : (low : ℕ) (ys : List Symbol) (c : ℕ) (d : Symbol) → Rising low ys → suc c < length ys → is_eof (get_or ys c d) ≡ false
eof_not_yet low [] c d h l = absurd h
eof_not_yet low (y ∷ []) c d h l = absurd (omega arith)
eof_not_yet low (y ∷ z ∷ ys) zero d h l = h.1
eof_not_yet low (y ∷ z ∷ ys) (suc c) d h l = eof_not_yet (suc y.index) (z ∷ ys) c d h.2 (omega arith)

pub eof_last : (low : ℕ) (ys : List Symbol) → Rising low ys → is_eof (last_of ys) ≡ true
eof_last low [] h = absurd h
eof_last low (y ∷ []) h = h.1
eof_last low (y ∷ z ∷ ys) h = eof_last (suc y.index) (z ∷ ys) h.2

-- what is read at the last place and past it
pub last_read : (low : ℕ) (ys : List Symbol) (c : ℕ) → Rising low ys → length ys ≤ suc c → get_or ys c (last_of ys) ≡ last_of ys
last_read low [] c h l = absurd h
last_read low (y ∷ []) zero h l = refl
last_read low (y ∷ []) (suc c) h l = refl
last_read low (y ∷ z ∷ ys) zero h l = absurd (omega arith)
last_read low (y ∷ z ∷ ys) (suc c) h l = last_read (suc y.index) (z ∷ ys) c h.2 (omega arith)

-- nothing lies before an index at or below low
none_before : (low : ℕ) (ys : List Symbol) (i : ℕ) → Rising low ys → i ≤ low → place ys i ≡ 0
none_before low [] i h l = refl
none_before low (y ∷ []) i h l = ap length (leaves (before i) y [] (and_left _ _ (not_from_true _ h.1)))
none_before low (y ∷ z ∷ ys) i h l =
    let above : i ≤ y.index = omega (arith, h.0) in
    ap length (leaves (before i) y (z ∷ ys) (and_right _ _ (le-ltb y.index i above))) ∙ none_before (suc y.index) (z ∷ ys) i h.2 (omega arith)

-- a symbol's own index leads to its place
pub place_own : (low : ℕ) (ys : List Symbol) (c : ℕ) (d : Symbol) → Rising low ys → c < length ys → place ys (get_or ys c d).index ≡ c
place_own low [] c d h l = absurd h
place_own low (y ∷ []) zero d h l = ap length (leaves (before y.index) y [] (and_left _ _ (not_from_true _ h.1)))
place_own low (y ∷ []) (suc c) d h l = absurd (omega arith)
place_own low (y ∷ z ∷ ys) zero d h l =
    ap length (leaves (before y.index) y (z ∷ ys) (and_right _ _ (le-ltb y.index y.index (omega arith))))
    ∙ none_before (suc y.index) (z ∷ ys) y.index h.2 (omega arith)
place_own low (y ∷ z ∷ ys) (suc c) d h l =
    let i = (get_or (z ∷ ys) c d).index in
    let above : y.index < i = index_above (suc y.index) (z ∷ ys) c d h.2 (omega arith) in
    ap length (keeps (before i) y (z ∷ ys) (and_from _ _ (not_from_false _ h.1) (lt-ltb y.index i above)))
    ∙ ap suc (place_own (suc y.index) (z ∷ ys) c d h.2 (omega arith))
