-- The symbols between two positions. Assumes nothing.
use Rattle.std.proofs.Common.{◌≡◌, ℕ, suc, ◌+◌, ◌<◌, ◌≤◌, Bool, true, false, cond, ◌&&◌, ltb, leb, ◌⊎◌, List, [], ◌∷◌, ◌++◌, map, length, take, Some, None, filter, Option, sym, refl, ap, ◌∙◌, subst, inl, inr, ⊎_elim, arith, length-append, length-drop}
use mathlib.Core.Path.{fun_ext}
use lib.ListN.{length-map}
use Rattle.std.specs.List.{AllByRecursion}
use Rattle.std.proofs.lemmas.List.{append_cancel_right, map-append, take_at, take-map}
use Rattle.std.proofs.lemmas.List.Elements.{filter-append}
use Rattle.std.proofs.ByRecursion.{all-has, has_append_right}
use Rattle.std.proofs.lemmas.List.Sums.{length-filter, count_by-le-length}
use Rattle.std.proofs.lemmas.Bool.{le-leb, lt-leb, lt-ltb, le-ltb, and_from, and_left, and_right, cases_lt}
use Rattle.characters.specs.Text.{Point, Text, Rises, Lawful, moved_down, start_from, item_at}
use Rattle.characters.proofs.Kept.{keeps, leaves, kept_both}
use Rattle.characters.proofs.Starts.{start_from_above}
use Rattle.characters.proofs.Onward.{from, from_all, onward_some, onward_none, onward_start, item_within}
use Rattle.lexer.specs.Sheets.{between}
use Rattle.lexer.specs.Lexed.{codes_of}
use Rattle.lexer.specs.Passed.{Passed, onward, rest}

-- the points below a position
abbrev pub upto : ℕ → List Point → List Point
upto k ps = filter (λ p. ltb p.at k) ps

-- to move points down keeps their codes
codes_moved : (i : ℕ) (ps : List Point) → map (λ p. p.code) (map (moved_down i) ps) ≡ codes_of ps
codes_moved i [] = refl
codes_moved i (p ∷ ps) = ap (λ l. p.code ∷ l) (codes_moved i ps)

-- the symbols from i to j are those from i on that stand below j
pub between_is : (t : Text) (i j : ℕ) → between t i j ≡ codes_of (upto j (onward t i))
between_is t i j = codes_moved i _ ∙ ap codes_of (kept_both (λ p. leb i p.at) (λ p. ltb p.at j) t.points)

-- nothing that rises from k on is below k
upto_none : (low : ℕ) (ps : List Point) (size k : ℕ) → Rises low ps size → k ≤ low → upto k ps ≡ []
upto_none low [] size k h l = refl
upto_none low (p ∷ ps) size k h l =
    let above : k < suc p.at = omega (arith, h.0) in
    leaves (λ p. ltb p.at k) p ps (lt-leb (suc p.at) k above) ∙ upto_none (suc p.at) ps size k h.1 (omega arith)

-- a position cuts the points in two
pub cut : (low : ℕ) (ps : List Point) (size k : ℕ) → Rises low ps size → ps ≡ upto k ps ++ from k ps
cut low [] size k h = refl
cut low (p ∷ ps) size k h = ⊎_elim (below (cut (suc p.at) ps size k h.1)) above (cases_lt p.at k)
  where
    below : ps ≡ upto k ps ++ from k ps → p.at < k → p ∷ ps ≡ upto k (p ∷ ps) ++ from k (p ∷ ps)
    below rest l =
        ap (λ l. p ∷ l) rest ∙ (λ i. sym (keeps (λ p. ltb p.at k) p ps (le-leb (suc p.at) k l)) i ++ sym (leaves (λ p. leb k p.at) p ps (lt-leb k p.at l)) i)

    above : k ≤ p.at → p ∷ ps ≡ upto k (p ∷ ps) ++ from k (p ∷ ps)
    above l = (λ i. sym (upto_none p.at (p ∷ ps) size k (omega arith, h.1) l) i ++ sym (from_all p.at (p ∷ ps) size k (omega arith, h.1) l) i)

-- what rises from a position on rises from a lower one on
rises_low : (low least : ℕ) (ps : List Point) (size : ℕ) → least ≤ low → Rises low ps size → Rises least ps size
rises_low low least [] size l h = omega (arith, h)
rises_low low least (p ∷ ps) size l h = (omega (arith, h.0), h.1)

-- what is left of a rising list rises
from_rises : (low : ℕ) (ps : List Point) (size i : ℕ) → Rises low ps size → Rises low (from i ps) size
from_rises low [] size i h = h
from_rises low (p ∷ ps) size i h = go (leb i p.at) (from_rises (suc p.at) ps size i h.1)
  where
    go : (b : Bool) → Rises (suc p.at) (from i ps) size → Rises low (cond b (p ∷ from i ps) (from i ps)) size
    go true rest = (h.0, rest)
    go false rest = rises_low (suc p.at) low (from i ps) size (omega (arith, h.0)) rest

-- of two bounds the stricter decides
from_from : (ps : List Point) (i j : ℕ) → i ≤ j → from j (from i ps) ≡ from j ps
from_from ps i j h = sym (kept_both (λ p. leb i p.at) (λ p. leb j p.at) ps) ∙ ap (λ test. filter test ps) (fun_ext (λ p. go p.at (cases_lt p.at j)))
  where
    go : (x : ℕ) → (x < j) ⊎ (j ≤ x) → (leb i x && leb j x) ≡ leb j x
    go x (inl l) = and_right (leb i x) (leb j x) (lt-leb j x l) ∙ sym (lt-leb j x l)
    go x (inr l) = and_from (leb i x) (leb j x) (le-leb i x (omega arith)) (le-leb j x l) ∙ sym (le-leb j x l)

-- and so it does from above
upto_upto : (ps : List Point) (i j : ℕ) → i ≤ j → upto j (upto i ps) ≡ upto i ps
upto_upto ps i j h = sym (kept_both (λ p. ltb p.at i) (λ p. ltb p.at j) ps) ∙ ap (λ test. filter test ps) (fun_ext (λ p. go p.at (cases_lt p.at i)))
  where
    go : (x : ℕ) → (x < i) ⊎ (i ≤ x) → (ltb x i && ltb x j) ≡ ltb x i
    go x (inl l) = and_from (ltb x i) (ltb x j) (lt-ltb x i l) (lt-ltb x j (omega arith)) ∙ sym (lt-ltb x i l)
    go x (inr l) = and_left (ltb x i) (ltb x j) (le-ltb x i l) ∙ sym (le-ltb x i l)

-- from a later position on there are no more points than from an earlier one
from_shorter : (ps : List Point) (i j : ℕ) → i ≤ j → length (from j ps) ≤ length (from i ps)
from_shorter ps i j h = omega (arith, ap length (from_from ps i j h), length-filter (λ p. leb j p.at) (from i ps), count_by-le-length (λ p. leb j p.at) (from i ps))

module _ (t : Text) (ok : Lawful t) where
  -- from one position to the end, cut at another
  cut_at : (i k : ℕ) → i ≤ k → onward t i ≡ upto k (onward t i) ++ onward t k
  cut_at i k h = cut 0 (onward t i) t.size k (from_rises 0 t.points t.size i ok.rises) ∙ ap (λ l. upto k (onward t i) ++ l) (from_from t.points i k h)

  -- the points from i to k are a front of those from i on
  pub upto_take : (i k : ℕ) → i ≤ k → upto k (onward t i) ≡ take (length (upto k (onward t i))) (onward t i)
  upto_take i k h = sym (take_at (upto k (onward t i)) (onward t k) _ refl) ∙ ap (take (length (upto k (onward t i)))) (sym (cut_at i k h))

  upto_length : (i k : ℕ) → i ≤ k → length (upto k (onward t i)) + length (onward t k) ≡ length (onward t i)
  upto_length i k h = sym (ap length (cut_at i k h) ∙ length-append (upto k (onward t i)) (onward t k))

  -- n symbols passed are the symbols between
  pub passed_between : (i n end count : ℕ) → Passed t i n end count → n ≤ length (onward t i) → between t i end ≡ take n (rest t i)
  passed_between i n end count passed held =
      let order : i ≤ end = omega (arith, passed.wide) in
      let same : length (upto end (onward t i)) ≡ n = omega (arith, upto_length i end order, ap length passed.left ∙ length-drop n (onward t i)) in
      between_is t i end ∙ ap codes_of (upto_take i end order ∙ ap (λ m. take m (onward t i)) same) ∙ sym (take-map (λ p. p.code) n (onward t i))

  -- and further on lie more of them
  pub further_between : (i n end count k : ℕ) → Passed t i n end count → n ≤ length (onward t i) → end < k → k ≤ t.size
      → (m : ℕ) × (n < m) × (m ≤ length (rest t i)) × (between t i k ≡ take m (rest t i))
  further_between i n end count k passed held more within =
      let order : i ≤ k = omega (arith, passed.wide) in
      let m = length (upto k (onward t i)) in
      let left = ap length passed.left ∙ length-drop n (onward t i) in
      let here = symbol_at end passed.start (omega arith) in
      let next = ap length (onward_some t ok end here.0 here.1 ∙ ap (λ l. record { at = end; code = here.0 } ∷ l) (onward_start t ok (suc end))) in
      let fewer = from_shorter t.points (suc end) k more in (
        m,
        omega (arith, upto_length i k order, left, next, fewer),
        omega (arith, upto_length i k order, length-map (onward t i) (λ p. p.code)),
        between_is t i k ∙ ap codes_of (upto_take i k order) ∙ sym (take-map (λ p. p.code) m (onward t i)),
      )
    where
      symbol_at : (i : ℕ) → start_from t i ≡ i → i < t.size → (c : ℕ) × (item_at t i ≡ Some c)
      symbol_at i s l = go (item_at t i) refl
        where
          go : (o : Option ℕ) → item_at t i ≡ o → (c : ℕ) × (item_at t i ≡ Some c)
          go None e = absurd (omega (arith, (onward_none t ok i s e).1))
          go (Some c) e = (c, e)

  -- a piece cut at a position
  pub between_cut : (i j k : ℕ) → i ≤ j → j ≤ k → between t i k ≡ between t i j ++ between t j k
  between_cut i j k l h =
      between_is t i k ∙ ap codes_of (ap (upto k) (cut_at i j l) ∙ filter-append (λ p. ltb p.at k) (upto j (onward t i)) (onward t j) ∙ ap (λ l. l ++ upto k (onward t j)) (upto_upto (onward t i) j k h))
      ∙ map-append (λ p. p.code) (upto j (onward t i)) (upto k (onward t j)) ∙ (λ n. sym (between_is t i j) n ++ sym (between_is t j k) n)

  -- from the front to a position, and on to another
  pub between_both : (i j : ℕ) → i ≤ j → between t 0 j ≡ between t 0 i ++ between t i j
  between_both i j h = between_cut 0 i j (omega arith) h

  -- from a position to itself there is nothing
  between_none : (i : ℕ) → between t i i ≡ []
  between_none i = between_is t i i ∙ ap codes_of (sym (append_cancel_right [] (upto i (onward t i)) (onward t i) (cut_at i i (omega arith))))

  -- a piece that begins at a symbol is that symbol, and then the piece from the next start on
  between_some : (i j c : ℕ) → item_at t i ≡ Some c → i < j → between t i j ≡ c ∷ between t (start_from t (suc i)) j
  between_some i j c e l =
      let next = start_from t (suc i) in
      between_is t i j ∙ ap codes_of (ap (upto j) (onward_some t ok i c e) ∙ keeps (λ p. ltb p.at j) _ (onward t next) (lt-ltb i j l)) ∙ ap (λ l. c ∷ l) (sym (between_is t next j))

  -- one symbol more
  pub between_more : (i j c : ℕ) → i ≤ j → item_at t j ≡ Some c → between t i (start_from t (suc j)) ≡ between t i j ++ c ∷ []
  between_more i j c l e =
      let next = start_from t (suc j) in
      let above : j < next = start_from_above t ok (suc j) (item_within t ok j c e) in
      between_cut i j next l (omega arith) ∙ ap (λ l. between t i j ++ l) (between_some j next c e above ∙ ap (λ l. c ∷ l) (between_none next))

  -- the first symbol of a piece that begins at a start stands there
  pub between_first : (i j c : ℕ) (cs : List ℕ) → start_from t i ≡ i → i < j → between t i j ≡ c ∷ cs → item_at t i ≡ Some c
  between_first i j c cs s l e = go (item_at t i) refl
    where
      go : (o : Option ℕ) → item_at t i ≡ o → item_at t i ≡ Some c
      go None f = absurd (omega (arith, ap length (sym e ∙ between_is t i j ∙ ap (λ l. codes_of (upto j l)) (onward_none t ok i s f).0)))
      go (Some d) f = let same : d ≡ c = cc (sym (between_some i j d f l) ∙ e) in f ∙ ap Some same

  -- what holds of all symbols of a piece holds of the one at a position in it
  pub all_between : (P : ℕ → Type 0) (i j p c : ℕ) → AllByRecursion P (between t i j) → item_at t p ≡ Some c → i ≤ p → p < j → P c
  all_between P i j p c a e l m =
      let rest = between t (start_from t (suc p)) j in
      let is = between_cut i p j l (omega arith) ∙ ap (λ l. between t i p ++ l) (between_some p j c e m) in
      all-has P (between t i p ++ c ∷ rest) c (subst (AllByRecursion P) is a) (has_append_right (between t i p) (c ∷ rest) c (0, omega arith, λ d. refl))

  -- no symbol stands before the first start
  pub none_before : (p c : ℕ) → item_at t p ≡ Some c → start_from t 0 ≤ p
  none_before p c e = ⊎_elim (λ l. absurd (never l)) (λ l. l) (cases_lt p (start_from t 0))
    where
      never : p < start_from t 0 → ⊥
      never l =
          let one = ap length (onward_some t ok p c e ∙ ap (λ l. record { at = p; code = c } ∷ l) (onward_start t ok (suc p))) in
          omega (arith, one, ap length (onward_start t ok 0), from_shorter t.points 0 p (omega arith), from_shorter t.points (suc p) (start_from t 0) l)
