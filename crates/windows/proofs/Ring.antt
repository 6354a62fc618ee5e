-- A row of indexes in a ring of places. Assumes nothing.
use Rattle.std.proofs.Common.{◌≡◌, ℕ, zero, suc, ◌+◌, ◌-◌, ◌%◌, ◌<◌, ◌≤◌, min, max, true, false, ltb, leb, ◌≢◌, ◌⊎◌, List, [], ◌∷◌, ◌++◌, length, get_or, drop, set, Some, None, sym, refl, ap, ◌∙◌, subst, ⊎_elim, add-zero, arith}
use Rattle.std.specs.List.{slice_get}
use Rattle.std.proofs.lemmas.List.{get_or-set_same, get_or-set_other, set-set}
use Rattle.std.proofs.lemmas.List.FromFn.{length-map-range_with_len, get_or-map-range_with_len, map-range_with_len_more}
use Rattle.std.proofs.lemmas.Option.{slice_get-get_or, slice_get_past}
use Rattle.std.proofs.lemmas.Bool.{le-leb, lt-leb, le-ltb, lt-ltb, cond-true, cond-false, or_left, or_right, or_from, cases_lt}
use Rattle.tokens.specs.declared.token.Token.{Token}
use Rattle.windows.specs.Lists.{stamped, blank}
use Rattle.windows.specs.declared.window.Window.TheInside.{Inside}
use Rattle.windows.specs.Places.{view_of, Kept}
use Rattle.windows.specs.Windows.{View, ring, end, Bounded, full, pushed, token_of, without}

pub length_ring : (places : List Token) (start n : ℕ) → length (ring places start n) ≡ n
length_ring places start n = length-map-range_with_len (λ i. get_or places (i % 2048) blank) start n

-- the held tokens end where the window says
pub ring_end : (places : List Token) (start last : ℕ) → start ≤ last → start + length (ring places start (last - start)) ≡ last
ring_end places start last h = omega (arith, length_ring places start (last - start))

-- indexes that are less than 2,048 apart stand in other places
apart : (i e : ℕ) → i < e → e < i + 2048 → i % 2048 ≢ e % 2048
apart i e l m same = omega arith

-- a write to another place leaves a row as it was
ring_other : (places : List Token) (e : ℕ) (k : Token) (n start : ℕ) → start + n ≤ e → e < start + 2048 → ring (set places (e % 2048) k) start n ≡ ring places start n
ring_other places e k zero start l m = refl
ring_other places e k (suc n) start l m =
    let less : start < e = omega arith in
    let ne : start % 2048 ≢ e % 2048 = apart start e less m in
    let head = get_or-set_other places (e % 2048) (start % 2048) k blank ne in
    (λ i. head i ∷ ring_other places e k n (start + 1) (omega arith) (omega arith) i)

-- one token more
pub ring_more : (places : List Token) (k : Token) (start last : ℕ) → length places ≡ 2048 → start ≤ last → last < start + 2048 → ring (set places (last % 2048) k) start (last + 1 - start) ≡ ring places start (last - start) ++ k ∷ []
ring_more places k start last whole low high =
    let n = last - start in
    let count : last + 1 - start ≡ n + 1 = omega arith in
    let inside : last % 2048 < length places = omega arith in
    ap (ring (set places (last % 2048) k) start) count
    ∙ map-range_with_len_more (λ i. get_or (set places (last % 2048) k) (i % 2048) blank) start n last (omega arith)
    ∙ (λ i. ring_other places last k n start (omega arith) high i ++ get_or-set_same places (last % 2048) k blank inside i ∷ [])

-- the token of an index
pub ring_at : (places : List Token) (start last i : ℕ) (k : Token) → start ≤ i → i < last → k ≡ get_or places (i % 2048) blank → Some k ≡ slice_get (ring places start (last - start)) (i - start)
ring_at places start last i k low high is =
    let f : ℕ → Token = λ j. get_or places (j % 2048) blank in
    ap Some (is ∙ sym (get_or-map-range_with_len f start (last - start) (i - start) i blank (omega arith) (omega arith)))
    ∙ sym (slice_get-get_or (ring places start (last - start)) (i - start) blank (omega (arith, length_ring places start (last - start))))

pub ring_past : (places : List Token) (start last i : ℕ) → last ≤ i → None ≡ slice_get (ring places start (last - start)) (i - start)
ring_past places start last i h = sym (slice_get_past (ring places start (last - start)) (i - start) (omega (arith, length_ring places start (last - start))))

-- without the first tokens
pub ring_drop : (places : List Token) (n k start : ℕ) → ring places (start + k) (n - k) ≡ drop k (ring places start n)
ring_drop places zero zero start = refl
ring_drop places zero (suc k) start = ap (ring places (start + suc k)) (let none : 0 - suc k ≡ 0 = omega arith in none)
ring_drop places (suc n) zero start = (λ i. ring places (add-zero start i) (let same : suc n - 0 ≡ suc n = omega arith in same i))
ring_drop places (suc n) (suc k) start =
    let on : start + suc k ≡ start + 1 + k = omega arith in
    let less : suc n - suc k ≡ n - k = omega arith in
    (λ i. ring places (on i) (less i)) ∙ ring_drop places n k (start + 1)

-- a window, by its parts
abbrev pub seen : List Token → ℕ → ℕ → ℕ → View
seen places capacity start last = record { start = start; tokens = ring places start (last - start); capacity = capacity }

module _ (places : List Token) (capacity start last : ℕ) (ordered : start ≤ last) where
  length_seen : length (ring places start (last - start)) ≡ last - start
  length_seen = length_ring places start (last - start)

  pub seen_bounded : capacity ≤ 2048 → last ≤ start + 2048 → last ≤ 1048576 → Bounded (seen places capacity start last)
  seen_bounded admits fits few = record { fits = omega (arith, length_seen); few = omega (arith, length_seen); admits = admits }

  -- a token that finds no place, or comes too late, changes nothing
  kept : (k : Token) → full (seen places capacity start last) ≡ true → seen places capacity start last ≡ pushed (seen places capacity start last) k
  kept k e =
      let v = seen places capacity start last in
      ap (λ ks. record { start = start; tokens = ks; capacity = capacity }) (sym (cond-true (full v) v.tokens (v.tokens ++ stamped (end v) k ∷ []) e))

  pub push_full : (k : Token) → 2048 ≤ last - start → seen places capacity start last ≡ pushed (seen places capacity start last) k
  push_full k h =
      let most : 2048 ≤ length (ring places start (last - start)) = omega (arith, length_seen) in
      kept k (or_left _ _ (le-leb 2048 (length (ring places start (last - start))) most))

  pub push_late : (k : Token) → 1048576 ≤ last → seen places capacity start last ≡ pushed (seen places capacity start last) k
  push_late k h =
      let most : 1048576 ≤ start + length (ring places start (last - start)) = omega (arith, length_seen) in
      kept k (or_right (leb 2048 (length (ring places start (last - start)))) _ (le-leb 1048576 (start + length (ring places start (last - start))) most))

  -- a token with its index in the place of its remainder
  pub push_one : (j k l : Token) → length places ≡ 2048 → last - start < 2048 → last < 1048576 → l ≡ stamped last k → seen (set (set places (last % 2048) j) (last % 2048) l) capacity start (last + 1) ≡ pushed (seen places capacity start last) k
  push_one j k l whole room few is =
      let v = seen places capacity start last in
      let short : length v.tokens < 2048 = omega (arith, length_seen) in
      let at : end v ≡ last = ring_end places start last ordered in
      let low : end v < 1048576 = omega arith in
      let free : full v ≡ false = or_from _ _ (lt-leb 2048 (length v.tokens) short) (lt-leb 1048576 (end v) low) in
      let more = ring_more places l start last whole ordered (omega arith) in
      ap (λ ks. record { start = start; tokens = ks; capacity = capacity })
      (ap (λ ps. ring ps start (last + 1 - start)) (set-set places (last % 2048) j l)
      ∙ more ∙ ap (λ t. v.tokens ++ t ∷ []) (is ∙ ap (λ i. stamped i k) (sym at))
      ∙ sym (cond-false (full v) v.tokens (v.tokens ++ stamped (end v) k ∷ []) free))

  pub get_outside : (i : ℕ) → (i < start) ⊎ (last ≤ i) → None ≡ token_of (seen places capacity start last) i
  get_outside i h = ⊎_elim below past (cases_lt i start)
    where
      below : i < start → None ≡ token_of (seen places capacity start last) i
      below low = sym (cond-true (ltb i start) None _ (lt-ltb i start low))

      past : start ≤ i → None ≡ token_of (seen places capacity start last) i
      past low = ring_past places start last i (omega (arith, h)) ∙ sym (cond-false (ltb i start) None _ (le-ltb i start low))

  pub get_held : (i : ℕ) (k : Token) → start ≤ i → i < last → k ≡ get_or places (i % 2048) blank → Some k ≡ token_of (seen places capacity start last) i
  get_held i k low high is = ring_at places start last i k low high is ∙ sym (cond-false (ltb i start) None _ (le-ltb i start low))

  -- the tokens from an index on
  without_is : (i n : ℕ) → n ≡ min (i - start) (length (ring places start (last - start))) → seen places capacity (start + n) last ≡ without (seen places capacity start last) i
  without_is i n e =
      let fewer : last - (start + n) ≡ last - start - n = omega arith in
      (λ j. record { start = start + n; tokens = (ap (ring places (start + n)) fewer ∙ ring_drop places (last - start) n start) j; capacity = capacity })
      ∙ ap (λ m. record { start = start + m; tokens = drop m (ring places start (last - start)); capacity = capacity }) e

  pub drop_held : (i s : ℕ) → s ≡ max start (min i last) → seen places capacity s last ≡ without (seen places capacity start last) i
  drop_held i s e =
      let on : s ≡ start + min (i - start) (last - start) = omega (arith, e) in
      ap (λ s. seen places capacity s last) on ∙ without_is i (min (i - start) (last - start)) (ap (min (i - start)) (sym length_seen))

-- what every window keeps, by its view
pub kept_bounded : (w : Inside) (v : View) → Kept w → view_of w ≡ v → Bounded v
kept_bounded w v k is = subst Bounded is (seen_bounded w.places w.capacity w.start w.end k.ordered k.admitted k.fits k.few)
