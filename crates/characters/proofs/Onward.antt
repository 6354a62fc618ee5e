-- What is left of a text from a position on. Assumes nothing.
use Rattle.std.proofs.Common.{◌≡◌, ℕ, suc, ◌<◌, ◌≤◌, Bool, true, false, cond, eqb, leb, ◌⊎◌, List, [], ◌∷◌, ◌++◌, map, length, get_or, Some, None, filter, Option, sym, refl, ap, ◌∙◌, inl, inr, ⊎_elim, arith}
use Rattle.std.specs.List.{slice_get}
use Rattle.std.proofs.lemmas.List.Elements.{filter-append}
use Rattle.std.proofs.lemmas.Bool.{le-leb, lt-leb, ne_eqb, eq-eqb, cases_lt}
use Rattle.characters.specs.Text.{Point, Text, Rises, Lawful, start_from, item_at}
use Rattle.characters.proofs.Kept.{keeps, leaves}
use Rattle.characters.proofs.Starts.{rises_under}

-- the code points at or after a position
abbrev pub from : ℕ → List Point → List Point
from i ps = filter (λ p. leb i p.at) ps

abbrev pub onward : Text → ℕ → List Point
onward t i = from i t.points

-- the code of the first that stands at a position
abbrev pub item_of : List Point → ℕ → Option ℕ
item_of ps i = slice_get (map (λ p. p.code) (filter (λ p. eqb i p.at) ps)) 0

from_skips : (i : ℕ) (x : Point) (xs : List Point) → x.at < i → from i (x ∷ xs) ≡ from i xs
from_skips i x xs l = leaves (λ p. leb i p.at) x xs (lt-leb i x.at l)

item_skips : (i : ℕ) (x : Point) (xs : List Point) → (i ≡ x.at → ⊥) → item_of (x ∷ xs) i ≡ item_of xs i
item_skips i x xs apart = ap (λ l. slice_get (map (λ p. p.code) l) 0) (leaves (λ p. eqb i p.at) x xs (ne_eqb i x.at apart))

item_here : (x : Point) (xs : List Point) → item_of (x ∷ xs) x.at ≡ Some x.code
item_here x xs = ap (λ l. slice_get (map (λ p. p.code) l) 0) (keeps (λ p. eqb x.at p.at) x xs (eq-eqb x.at x.at refl))

pub from_all : (low : ℕ) (ps : List Point) (size i : ℕ) → Rises low ps size → i ≤ low → from i ps ≡ ps
from_all low [] size i h l = refl
from_all low (p ∷ ps) size i h l =
    let le : i ≤ p.at = omega (arith, h.0) in
    keeps (λ p. leb i p.at) p ps (le-leb i p.at le) ∙ ap (λ l. p ∷ l) (from_all (suc p.at) ps size i h.1 (omega arith))

item_below : (low : ℕ) (ps : List Point) (size i : ℕ) → Rises low ps size → i < low → item_of ps i ≡ None
item_below low [] size i h l = refl
item_below low (p ∷ ps) size i h l =
    item_skips i p ps (λ e. omega (arith, h.0)) ∙ item_below (suc p.at) ps size i h.1 (omega (arith, h.0))

-- nothing is left, or a point p and then what comes after it
pub record First (ps : List Point) (i : ℕ) : Type 0 where
  pub point : Point
  pub above : i ≤ point.at
  pub then : from i ps ≡ point ∷ from (suc point.at) ps
  pub same : from point.at ps ≡ from i ps
  pub item : item_of ps point.at ≡ Some point.code
  pub none : i < point.at → item_of ps i ≡ None

pub record Ended (ps : List Point) (i : ℕ) : Type 0 where
  pub left : from i ps ≡ []
  pub item : item_of ps i ≡ None

pub look : (low : ℕ) (ps : List Point) (size i : ℕ) → Rises low ps size → Ended ps i ⊎ First ps i
look low [] size i h = inl (record { left = refl; item = refl })
look low (x ∷ xs) size i h = ⊎_elim (earlier (look (suc x.at) xs size i h.1)) here (cases_lt x.at i)
  where
    earlier : Ended xs i ⊎ First xs i → x.at < i → Ended (x ∷ xs) i ⊎ First (x ∷ xs) i
    earlier later l =
        let skip : (j : ℕ) → i ≤ j → item_of (x ∷ xs) j ≡ item_of xs j = λ j k. item_skips j x xs (λ e. omega arith) in
        ⊎_elim
        (λ e. inl (record { left = from_skips i x xs l ∙ e.left; item = skip i (omega arith) ∙ e.item }))
        (λ f. inr (record {
          point = f.point;
          above = f.above;
          then = from_skips i x xs l ∙ f.then ∙ ap (λ l. f.point ∷ l) (sym (from_skips (suc f.point.at) x xs (omega (arith, f.above))));
          same = from_skips f.point.at x xs (omega (arith, f.above)) ∙ f.same ∙ sym (from_skips i x xs l);
          item = skip f.point.at f.above ∙ f.item;
          none = λ k. skip i (omega arith) ∙ f.none k;
        }))
        later

    all : (j : ℕ) → j ≤ x.at → from j (x ∷ xs) ≡ x ∷ xs
    all j k = from_all x.at (x ∷ xs) size j (omega arith, h.1) k

    here : i ≤ x.at → Ended (x ∷ xs) i ⊎ First (x ∷ xs) i
    here l = inr (record {
      point = x;
      above = l;
      then = all i l ∙ ap (λ l. x ∷ l) (sym (from_skips (suc x.at) x xs (omega arith) ∙ from_all (suc x.at) xs size (suc x.at) h.1 (omega arith)));
      same = all x.at (omega arith) ∙ sym (all i l);
      item = item_here x xs;
      none = λ k. item_skips i x xs (λ e. omega arith) ∙ item_below (suc x.at) xs size i h.1 (omega arith);
    })

map_from : (i : ℕ) (ps : List Point) → filter (leb i) (map (λ p. p.at) ps) ≡ map (λ p. p.at) (from i ps)
map_from i [] = refl
map_from i (p ∷ ps) = go (leb i p.at) refl (map_from i ps)
  where
    go : (b : Bool) → leb i p.at ≡ b → filter (leb i) (map (λ p. p.at) ps) ≡ map (λ p. p.at) (from i ps) → cond b (p.at ∷ filter (leb i) (map (λ p. p.at) ps)) (filter (leb i) (map (λ p. p.at) ps)) ≡ map (λ p. p.at) (cond b (p ∷ from i ps) (from i ps))
    go true e later = ap (λ l. p.at ∷ l) later
    go false e later = later

-- the first start from i on stands at the front of what is left
pub start_from_onward : (t : Text) (i : ℕ) → start_from t i ≡ get_or (map (λ p. p.at) (onward t i) ++ filter (leb i) (t.size ∷ [])) 0 t.size
start_from_onward t i = ap (λ l. get_or l 0 t.size) (filter-append (leb i) (map (λ p. p.at) t.points) (t.size ∷ []) ∙ ap (λ l. l ++ filter (leb i) (t.size ∷ [])) (map_from i t.points))

none_from : (low : ℕ) (ps : List Point) (size i : ℕ) → Rises low ps size → size ≤ i → from i ps ≡ []
none_from low [] size i h l = refl
none_from low (p ∷ ps) size i h l = from_skips i p ps (omega (arith, rises_under (suc p.at) ps size h.1)) ∙ none_from (suc p.at) ps size i h.1 l

module _ (t : Text) (ok : Lawful t) where
  looked : (i : ℕ) → Ended t.points i ⊎ First t.points i
  looked i = look 0 t.points t.size i ok.rises

  start_ended : (i : ℕ) → Ended t.points i → start_from t i ≡ t.size
  start_ended i e = start_from_onward t i ∙ ap (λ l. get_or (map (λ p. p.at) l ++ filter (leb i) (t.size ∷ [])) 0 t.size) e.left ∙ at_end (leb i t.size)
    where
      at_end : (b : Bool) → get_or (cond b (t.size ∷ []) []) 0 t.size ≡ t.size
      at_end true = refl
      at_end false = refl

  start_first : (i : ℕ) (f : First t.points i) → start_from t i ≡ f.point.at
  start_first i f = start_from_onward t i ∙ ap (λ l. get_or (map (λ p. p.at) l ++ filter (leb i) (t.size ∷ [])) 0 t.size) f.then

  pub onward_all : onward t 0 ≡ t.points
  onward_all = from_all 0 t.points t.size 0 ok.rises (omega arith)

  -- from a position to the first start from there on, nothing is passed over
  pub onward_start : (i : ℕ) → onward t (start_from t i) ≡ onward t i
  onward_start i = ⊎_elim
      (λ e. ap (onward t) (start_ended i e) ∙ none_from 0 t.points t.size t.size ok.rises (omega arith) ∙ sym e.left)
      (λ f. ap (onward t) (start_first i f) ∙ f.same)
      (looked i)

  -- where a code point starts at i, it comes first of what is left, and then what is left from the next start on
  pub onward_some : (i c : ℕ) → item_at t i ≡ Some c → onward t i ≡ record { at = i; code = c } ∷ onward t (start_from t (suc i))
  onward_some i c e = ⊎_elim (λ f. absurd (never (sym f.item ∙ e))) (λ f. ⊎_elim (λ l. absurd (never (sym (f.none l) ∙ e))) (here f) (cases_lt i f.point.at)) (looked i)
    where
      never : None ≡ Some c → ⊥
      never e = let z : ◌≡◌ {A = ℕ} 0 1 = cc in omega arith

      here : (f : First t.points i) → f.point.at ≤ i → onward t i ≡ record { at = i; code = c } ∷ onward t (start_from t (suc i))
      here f l =
          let at : f.point.at ≡ i = omega (arith, f.above) in
          let code : f.point.code ≡ c = cc (sym f.item ∙ ap (item_at t) at ∙ e) in
          f.then ∙ (λ k. record { at = at k; code = code k } ∷ onward t (suc (at k))) ∙ ap (λ l. record { at = i; code = c } ∷ l) (sym (onward_start (suc i)))

  -- where none starts at a start, nothing is left
  pub onward_none : (i : ℕ) → start_from t i ≡ i → item_at t i ≡ None → (onward t i ≡ []) × (i ≡ t.size)
  onward_none i s e = ⊎_elim (λ f. (f.left, sym s ∙ start_ended i f)) (λ f. absurd (never f (sym (start_first i f) ∙ s))) (looked i)
    where
      never : (f : First t.points i) → f.point.at ≡ i → ⊥
      never f at = let some = sym f.item ∙ ap (item_at t) at ∙ e in let z : ◌≡◌ {A = ℕ} 0 1 = cc some in omega arith

  -- a code point starts below the size
  pub item_within : (i c : ℕ) → item_at t i ≡ Some c → i < t.size
  item_within i c e = ⊎_elim (λ l. l) (λ l. absurd (never (sym (none_from 0 t.points t.size i ok.rises l) ∙ onward_some i c e))) (cases_lt i t.size)
    where
      never : {p : Point} {ps : List Point} → [] ≡ p ∷ ps → ⊥
      never e = omega (arith, ap length e)

  -- where a code point starts is a start
  pub item_start : (i c : ℕ) → item_at t i ≡ Some c → start_from t i ≡ i
  item_start i c e =
      ⊎_elim (λ f. absurd (never (sym f.item ∙ e)))
      (λ f. ⊎_elim (λ l. absurd (never (sym (f.none l) ∙ e))) (λ l. let at : f.point.at ≡ i = omega (arith, f.above) in start_first i f ∙ at) (cases_lt i f.point.at)) (looked i)
    where
      never : None ≡ Some c → ⊥
      never e = let z : ◌≡◌ {A = ℕ} 0 1 = cc in omega arith
