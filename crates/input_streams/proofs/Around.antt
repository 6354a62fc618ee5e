-- The symbols of a text before a position, and those from it on. Assumes nothing.
use Rattle.std.proofs.Common.{◌≡◌, ℕ, suc, ◌+◌, ◌<◌, ◌≤◌, Bool, true, false, cond, not, ltb, leb, List, [], ◌∷◌, ◌++◌, map, length, get_or, take, drop, filter, sym, refl, ap, ◌∙◌, ⊎_elim, arith}
use Rattle.std.proofs.lemmas.List.Filters.{length-filter_both}
use Rattle.std.proofs.lemmas.Bool.{le-leb, lt-leb, cases_lt}
use Rattle.characters.specs.Text.{Point, Text, Rises, Lawful, start_from}
use Rattle.characters.proofs.Kept.{keeps, leaves}
use Rattle.characters.proofs.Onward.{from, onward, from_all, onward_start}
use Rattle.streams.specs.Streams.{Symbol, place, last_of}
use Rattle.input_streams.specs.Symbols.{symbol, eof, symbols}

-- the code points before a position
abbrev pub before : ℕ → List Point → List Point
before i ps = filter (λ p. ltb p.at i) ps

-- the symbols from a position on
abbrev pub reading : Text → ℕ → List Symbol
reading t i = map symbol (onward t i) ++ eof t.size ∷ []

place_before : (ps : List Point) (size i : ℕ) → place (map symbol ps ++ eof size ∷ []) i ≡ length (before i ps)
place_before [] size i = refl
place_before (p ∷ ps) size i = go _ _ (ltb p.at i) (place_before ps size i)
  where
    go : (ys : List Symbol) (qs : List Point) (b : Bool) → length ys ≡ length qs → length (cond b (symbol p ∷ ys) ys) ≡ length (cond b (p ∷ qs) qs)
    go ys qs true e = ap suc e
    go ys qs false e = e

none_before : (low : ℕ) (ps : List Point) (size i : ℕ) → Rises low ps size → i ≤ low → before i ps ≡ []
none_before low [] size i h l = refl
none_before low (p ∷ ps) size i h l =
    let above : i < suc p.at = omega (arith, h.0) in
    leaves (λ p. ltb p.at i) p ps (lt-leb (suc p.at) i above) ∙ none_before (suc p.at) ps size i h.1 (omega arith)

-- a list is cut where the code points before a position end
dropped : (low : ℕ) (ps : List Point) (size i : ℕ) → Rises low ps size → drop (length (before i ps)) (map symbol ps ++ eof size ∷ []) ≡ map symbol (from i ps) ++ eof size ∷ []
dropped low [] size i h = refl
dropped low (p ∷ ps) size i h = ⊎_elim (earlier (dropped (suc p.at) ps size i h.1)) here (cases_lt p.at i)
  where
    earlier : drop (length (before i ps)) (map symbol ps ++ eof size ∷ []) ≡ map symbol (from i ps) ++ eof size ∷ [] → p.at < i → drop (length (before i (p ∷ ps))) (map symbol (p ∷ ps) ++ eof size ∷ []) ≡ map symbol (from i (p ∷ ps)) ++ eof size ∷ []
    earlier later l =
        ap (λ qs. drop (length qs) (map symbol (p ∷ ps) ++ eof size ∷ [])) (keeps (λ p. ltb p.at i) p ps (le-leb (suc p.at) i l)) ∙ later
        ∙ ap (λ qs. map symbol qs ++ eof size ∷ []) (sym (leaves (λ p. leb i p.at) p ps (lt-leb i p.at l)))

    here : i ≤ p.at → drop (length (before i (p ∷ ps))) (map symbol (p ∷ ps) ++ eof size ∷ []) ≡ map symbol (from i (p ∷ ps)) ++ eof size ∷ []
    here l =
        ap (λ qs. drop (length qs) (map symbol (p ∷ ps) ++ eof size ∷ [])) (none_before p.at (p ∷ ps) size i (omega arith, h.1) l)
        ∙ ap (λ qs. map symbol qs ++ eof size ∷ []) (sym (from_all p.at (p ∷ ps) size i (omega arith, h.1) l))

taken : (low : ℕ) (ps : List Point) (size i : ℕ) → Rises low ps size → take (length (before i ps)) (map symbol ps ++ eof size ∷ []) ≡ map symbol (before i ps)
taken low [] size i h = refl
taken low (p ∷ ps) size i h = ⊎_elim (earlier (taken (suc p.at) ps size i h.1)) here (cases_lt p.at i)
  where
    earlier : take (length (before i ps)) (map symbol ps ++ eof size ∷ []) ≡ map symbol (before i ps) → p.at < i → take (length (before i (p ∷ ps))) (map symbol (p ∷ ps) ++ eof size ∷ []) ≡ map symbol (before i (p ∷ ps))
    earlier later l =
        let first = keeps (λ p. ltb p.at i) p ps (le-leb (suc p.at) i l) in
        ap (λ qs. take (length qs) (map symbol (p ∷ ps) ++ eof size ∷ [])) first ∙ ap (λ l. symbol p ∷ l) later ∙ ap (map symbol) (sym first)

    here : i ≤ p.at → take (length (before i (p ∷ ps))) (map symbol (p ∷ ps) ++ eof size ∷ []) ≡ map symbol (before i (p ∷ ps))
    here l =
        let none = none_before p.at (p ∷ ps) size i (omega arith, h.1) l in
        ap (λ qs. take (length qs) (map symbol (p ∷ ps) ++ eof size ∷ [])) none ∙ ap (map symbol) (sym none)

last_is : (ps : List Point) (size : ℕ) → last_of (map symbol ps ++ eof size ∷ []) ≡ eof size
last_is [] size = refl
last_is (p ∷ []) size = refl
last_is (p ∷ q ∷ ps) size = last_is (q ∷ ps) size

-- what is before a position and what is from it on are all
below_or_from : (i n : ℕ) → leb i n ≡ not (ltb n i)
below_or_from i n = ⊎_elim
    (λ l. lt-leb i n l ∙ sym (ap not (le-leb (suc n) i l)))
    (λ l. let above : i < suc n = omega arith in le-leb i n l ∙ sym (ap not (lt-leb (suc n) i above)))
    (cases_lt n i)

pub place_and_rest : (t : Text) (i : ℕ) → place (symbols t) i + length (onward t i) ≡ length t.points
place_and_rest t i =
    omega (arith, place_before t.points t.size i, length-filter_both (λ (p : Point). ltb p.at i) (λ p. leb i p.at) (λ p. below_or_from i p.at) t.points)

module _ (t : Text) (ok : Lawful t) where
  -- the symbols from the cursor on, and the last of them
  pub from_cursor : (i k : ℕ) → get_or (drop (place (symbols t) i) (symbols t)) k (last_of (symbols t)) ≡ get_or (reading t i) k (eof t.size)
  from_cursor i k =
      let rest = ap (λ n. drop n (symbols t)) (place_before t.points t.size i) ∙ dropped 0 t.points t.size i ok.rises in
      (λ j. get_or (rest j) k (last_is t.points t.size j))

  -- the symbols before the cursor
  pub to_cursor : (i : ℕ) → take (place (symbols t) i) (symbols t) ≡ map symbol (before i t.points)
  to_cursor i = ap (λ n. take n (symbols t)) (place_before t.points t.size i) ∙ taken 0 t.points t.size i ok.rises

  -- the symbol from a position on is the one at the first start from there on
  pub place_start : (i : ℕ) → place (symbols t) (start_from t i) ≡ place (symbols t) i
  place_start i = omega (arith, place_and_rest t i, place_and_rest t (start_from t i), ap length (onward_start t ok i))
