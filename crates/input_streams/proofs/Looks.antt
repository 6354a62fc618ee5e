-- What is looked at ahead of the cursor, and behind it. Assumes nothing.
use Rattle.std.proofs.Common.{◌≡◌, ℕ, zero, suc, ◌≤◌, Bool, true, false, cond, not, ◌&&◌, eqb, ltb, List, [], ◌∷◌, ◌++◌, map, reverse, get_or, ℤ, negsuc, Some, None, filter, Option, sym, refl, ap, ◌∙◌, subst, append-nil, arith}
use mathlib.Core.List.{reverse-cons}
use Rattle.std.specs.List.{slice_get, AllByRecursion}
use Rattle.std.proofs.lemmas.List.{map-append}
use Rattle.std.proofs.lemmas.List.Elements.{filter-append}
use Rattle.std.proofs.ByRecursion.{all_kept_by, All-push}
use Rattle.std.proofs.lemmas.Bool.{le-ltb, ne_eqb, eq-eqb}
use Rattle.refusals.specs.Answers.{gives, unless}
use Rattle.characters.specs.Text.{Point, Text, Rises, Lawful, starts, start_from, item_at, on, back}
use Rattle.characters.proofs.Kept.{keeps, leaves}
use Rattle.characters.proofs.Starts.{start_from_start, start_from_within, on_more, on_none}
use Rattle.characters.proofs.Onward.{item_of, onward_some, onward_none, item_within}
use Rattle.streams.specs.Streams.{Symbol, Stream}
use Rattle.streams.specs.Calls.{seen}
use Rattle.input_streams.specs.Symbols.{symbol, eof, number_of, number_at, reached}
use Rattle.input_streams.proofs.Around.{before, reading}

module _ (t : Text) (ok : Lawful t) where
  -- what is read from a start on: the symbol there, and then what is read from the next start on
  pub reading_some : (i c : ℕ) → item_at t i ≡ Some c → reading t i ≡ symbol (record { at = i; code = c }) ∷ reading t (start_from t (suc i))
  reading_some i c e = ap (λ ps. map symbol ps ++ eof t.size ∷ []) (onward_some t ok i c e)

  pub reading_none : (i : ℕ) → start_from t i ≡ i → item_at t i ≡ None → (reading t i ≡ eof t.size ∷ []) × (i ≡ t.size)
  reading_none i s e =
      let left = onward_none t ok i s e in
      (ap (λ ps. map symbol ps ++ eof t.size ∷ []) left.0, left.1)

  -- the k-th from a start on stands k starts on
  pub number_on : (k i : ℕ) → start_from t i ≡ i → (get_or (reading t i) k (eof t.size)).number ≡ reached t (negsuc 0) (on t i k)
  number_on zero i s = go (item_at t i) refl
    where
      go : (r : Option ℕ) → item_at t i ≡ r → (get_or (reading t i) 0 (eof t.size)).number ≡ number_at t i
      go (Some c) e = ap (λ ys. (get_or ys 0 (eof t.size)).number) (reading_some i c e) ∙ sym (ap number_of e)
      go None e = ap (λ ys. (get_or ys 0 (eof t.size)).number) (reading_none i s e).0 ∙ sym (ap number_of e)
  number_on (suc k) i s = go (number_on k (start_from t (suc i)) (start_from_start t ok (suc i))) (item_at t i) refl
    where
      go : (get_or (reading t (start_from t (suc i))) k (eof t.size)).number ≡ reached t (negsuc 0) (on t (start_from t (suc i)) k) → (r : Option ℕ) → item_at t i ≡ r → (get_or (reading t i) (suc k) (eof t.size)).number ≡ reached t (negsuc 0) (on t i (suc k))
      go later (Some c) e =
          ap (λ ys. (get_or ys (suc k) (eof t.size)).number) (reading_some i c e) ∙ later
          ∙ ap (reached t (negsuc 0)) (sym (on_more t ok i k (item_within t ok i c e)))
      go later None e =
          let none = reading_none i s e in
          ap (λ ys. (get_or ys (suc k) (eof t.size)).number) none.0 ∙ ap (reached t (negsuc 0)) (sym (on_none t ok i k (omega (arith, none.1))))

  -- the first from a start on stands there
  pub index_here : (i : ℕ) → start_from t i ≡ i → (get_or (reading t i) 0 (eof t.size)).index ≡ i
  index_here i s = go (item_at t i) refl
    where
      go : (r : Option ℕ) → item_at t i ≡ r → (get_or (reading t i) 0 (eof t.size)).index ≡ i
      go (Some c) e = ap (λ ys. (get_or ys 0 (eof t.size)).index) (reading_some i c e)
      go None e = let none = reading_none i s e in ap (λ ys. (get_or ys 0 (eof t.size)).index) none.0 ∙ sym none.1

reverse_map : {X Y : Type 0} (f : X → Y) (xs : List X) → reverse (map f xs) ≡ map f (reverse xs)
reverse_map f [] = refl
reverse_map f (x ∷ xs) = reverse-cons (f x) (map f xs) ∙ ap (λ l. l ++ f x ∷ []) (reverse_map f xs) ∙ sym (ap (map f) (reverse-cons x xs) ∙ map-append f (reverse xs) (x ∷ []))

all_reverse : {X : Type 0} (P : X → Type 0) (xs : List X) → AllByRecursion P xs → AllByRecursion P (reverse xs)
all_reverse P [] a = tt
all_reverse P (x ∷ xs) a = subst (AllByRecursion P) (sym (reverse-cons x xs)) (All-push P (reverse xs) x (all_reverse P xs a.1) a.0)

-- each code point is the one that starts at its position
items : (low : ℕ) (ps : List Point) (size : ℕ) → Rises low ps size → (item : ℕ → Option ℕ) → ((i : ℕ) → low ≤ i → item i ≡ item_of ps i) → AllByRecursion (λ p. item p.at ≡ Some p.code) ps
items low [] size h item same = tt
items low (p ∷ ps) size h item same = (
  same p.at h.0 ∙ ap (λ qs. slice_get (map (λ q. q.code) qs) 0) (keeps (λ q. eqb p.at q.at) p ps (eq-eqb p.at p.at refl)),
  items (suc p.at) ps size h.1 item
      (λ i l.
      let further : low ≤ i = omega (arith, h.0) in
      let apart : i ≡ p.at → ⊥ = λ e. omega arith in
      same i further ∙ ap (λ qs. slice_get (map (λ q. q.code) qs) 0) (leaves (λ q. eqb i q.at) p ps (ne_eqb i p.at apart))),
)

map_before : (i : ℕ) (ps : List Point) → filter (λ s. ltb s i) (map (λ p. p.at) ps) ≡ map (λ p. p.at) (before i ps)
map_before i [] = refl
map_before i (p ∷ ps) = go _ _ (ltb p.at i) (map_before i ps)
  where
    go : (xs : List ℕ) (qs : List Point) (b : Bool) → xs ≡ map (λ p. p.at) qs → cond b (p.at ∷ xs) xs ≡ map (λ p. p.at) (cond b (p ∷ qs) qs)
    go xs qs true later = ap (λ l. p.at ∷ l) later
    go xs qs false later = later

-- nothing lies below the floor
seen_given : (s : Stream) → s.floor ≡ 0 → (k : ℕ) (nothing : ℤ) (y : Symbol) → seen s k nothing (Some y) ≡ gives y.number
seen_given s e k nothing y = ap (λ b. unless (not (eqb k 0) && b) 4 (gives y.number)) (ap (ltb y.index) e ∙ le-ltb y.index 0 (omega arith)) ∙ go (not (eqb k 0))
  where
    go : (b : Bool) → unless (b && false) 4 (gives y.number) ≡ gives y.number
    go true = refl
    go false = refl

module _ (t : Text) (ok : Lawful t) where
  -- below a position of the text stand its code points alone
  starts_before : (i : ℕ) → i ≤ t.size → filter (λ s. ltb s i) (starts t) ≡ map (λ p. p.at) (before i t.points)
  starts_before i h =
      filter-append (λ s. ltb s i) (map (λ p. p.at) t.points) (t.size ∷ [])
      ∙ ap (λ l. filter (λ s. ltb s i) (map (λ p. p.at) t.points) ++ l) (leaves (λ s. ltb s i) t.size [] (le-ltb t.size i h))
      ∙ append-nil _ ∙ map_before i t.points

  -- the k-th before a position stands k + 1 starts back
  pub number_back : (s : Stream) → s.floor ≡ 0 → (k i : ℕ) (nothing : ℤ) → start_from t i ≡ i → seen s k nothing (slice_get (reverse (map symbol (before i t.points))) k) ≡ gives (reached t nothing (back t i (suc k)))
  number_back s e k i nothing start =
      let inside : i ≤ t.size = omega (arith, start_from_within t ok i) in
      let all = all_reverse (λ p. item_at t p.at ≡ Some p.code) _ (all_kept_by (λ p. ltb p.at i) (λ p. item_at t p.at ≡ Some p.code) t.points (items 0 t.points t.size ok.rises (item_at t) (λ _ _. refl))) in
      ap (λ ys. seen s k nothing (slice_get ys k)) (reverse_map symbol (before i t.points)) ∙ go k (reverse (before i t.points)) k all
      ∙ sym (ap (λ l. gives (reached t nothing (slice_get l k))) (ap reverse (starts_before i inside) ∙ reverse_map (λ p. p.at) (before i t.points)))
    where
      go : (n : ℕ) (ps : List Point) (k : ℕ) → AllByRecursion (λ p. item_at t p.at ≡ Some p.code) ps → seen s n nothing (slice_get (map symbol ps) k) ≡ gives (reached t nothing (slice_get (map (λ p. p.at) ps) k))
      go n [] k a = refl
      go n (p ∷ ps) zero a = seen_given s e n nothing (symbol p) ∙ sym (ap (λ r. gives (number_of r)) a.0)
      go n (p ∷ ps) (suc k) a = go n ps k a.1
