-- Where the code points of a laid-out text stand. Assumes nothing.
use Rattle.std.proofs.Common.{◌≡◌, ℕ, ◌+◌, ◌-◌, ◌<◌, ◌≤◌, Bool, true, false, cond, ◌&&◌, eqb, ltb, leb, List, [], ◌∷◌, ◌++◌, map, reverse, get_or, Some, None, filter, sym, refl, ap, ◌∙◌, subst, ⊎_elim, add-zero, add_assoc, zero-add, arith}
use Rattle.std.specs.List.{slice_get, AllByRecursion}
use Rattle.std.proofs.lemmas.List.Elements.{filter-append}
use Rattle.std.proofs.ByRecursion.{All-weaker, All-map}
use Rattle.std.proofs.lemmas.List.{append-nil, append_assoc, reverse-append}
use Rattle.std.proofs.lemmas.Bool.{leb-true, eqb-true, lt-ltb, le-ltb, le-leb, lt-leb, eq-eqb, ne_eqb, cases_lt, and_parts, and_from, and_left, and_right, cond_both, cond-true}
use Rattle.characters.specs.Text.{Point, Text, empty, starts, start_from, item_at, back, moved_down, part, cuts}
use Rattle.characters.proofs.Kept.{kept_all, kept_none}
use Rattle.texts.specs.Laid.{laid, span, laid_out}

pub span_append : (w : ℕ → ℕ) (xs ys : List ℕ) → span w (xs ++ ys) ≡ span w xs + span w ys
span_append w [] ys = omega arith
span_append w (x ∷ xs) ys = omega (arith, span_append w xs ys)

pub laid_append : (w : ℕ → ℕ) (i : ℕ) (xs ys : List ℕ) → laid w i (xs ++ ys) ≡ laid w i xs ++ laid w (i + span w xs) ys
laid_append w i [] ys = ap (λ k. laid w k ys) (sym (add-zero i))
laid_append w i (x ∷ xs) ys =
    ap (λ l. record { at = i; code = x } ∷ l) (laid_append w (i + w x) xs ys ∙ ap (λ k. laid w (i + w x) xs ++ laid w k ys) (add_assoc i (w x) (span w xs)))

-- where the code points start
abbrev pub begins : (ℕ → ℕ) → ℕ → List ℕ → List ℕ
begins w i cs = map (λ p. p.at) (laid w i cs)

-- and where the last one ends
abbrev pub marks : (ℕ → ℕ) → ℕ → List ℕ → List ℕ
marks w i [] = i ∷ []
marks w i (c ∷ cs) = i ∷ marks w (i + w c) cs

marks_are : (w : ℕ → ℕ) (i : ℕ) (cs : List ℕ) → begins w i cs ++ (i + span w cs) ∷ [] ≡ marks w i cs
marks_are w i [] = ap (λ k. k ∷ []) (add-zero i)
marks_are w i (c ∷ cs) = ap (λ l. i ∷ l) (ap (λ k. begins w (i + w c) cs ++ k ∷ []) (sym (add_assoc i (w c) (span w cs))) ∙ marks_are w (i + w c) cs)

marks_append : (w : ℕ → ℕ) (i : ℕ) (xs ys : List ℕ) → marks w i (xs ++ ys) ≡ begins w i xs ++ marks w (i + span w xs) ys
marks_append w i [] ys = ap (λ k. marks w k ys) (sym (add-zero i))
marks_append w i (x ∷ xs) ys = ap (λ l. i ∷ l) (marks_append w (i + w x) xs ys ∙ ap (λ k. begins w (i + w x) xs ++ marks w k ys) (add_assoc i (w x) (span w xs)))

-- the starts of a text, split before a code point or at the end
pub starts_split : (w : ℕ → ℕ) (xs ys : List ℕ) → starts (laid_out w (xs ++ ys)) ≡ begins w 0 xs ++ marks w (span w xs) ys
starts_split w xs ys =
    ap (λ k. begins w 0 (xs ++ ys) ++ k ∷ []) (sym (zero-add (span w (xs ++ ys))))
    ∙ marks_are w 0 (xs ++ ys)
    ∙ marks_append w 0 xs ys
    ∙ ap (λ k. begins w 0 xs ++ marks w k ys) (zero-add (span w xs))

pub points_split : (w : ℕ → ℕ) (xs ys : List ℕ) → (laid_out w (xs ++ ys)).points ≡ laid w 0 xs ++ laid w (span w xs) ys
points_split w xs ys = laid_append w 0 xs ys ∙ ap (λ k. laid w 0 xs ++ laid w k ys) (zero-add (span w xs))

-- moved down together, they stand as if laid further down
moved : (w : ℕ → ℕ) (i k : ℕ) (cs : List ℕ) → map (moved_down i) (laid w (i + k) cs) ≡ laid w k cs
moved w i k [] = refl
moved w i k (c ∷ cs) =
    let down : i + k - i ≡ k = omega arith in
    let on : i + k + w c ≡ i + (k + w c) = omega arith in
    rw (down, on) (ap (λ l. record { at = k; code = c } ∷ l) (moved w i (k + w c) cs))

last_of : (xs : List ℕ) (x : ℕ) → slice_get (reverse (xs ++ x ∷ [])) 0 ≡ Some x
last_of xs x = ap (λ l. slice_get l 0) (reverse-append xs (x ∷ []))

-- a position within a code point
pub record Within (w : ℕ → ℕ) (cs : List ℕ) (p : ℕ) : Type 0 where
  pub before : List ℕ
  pub here : ℕ
  pub after : List ℕ
  pub deep : ℕ
  pub whole : cs ≡ before ++ here ∷ after
  pub spot : p ≡ span w before + deep
  pub inner : deep < w here

pub located : (w : ℕ → ℕ) (cs : List ℕ) (p : ℕ) → p < span w cs → Within w cs p
located w [] p h = absurd (omega arith)
located w (c ∷ cs) p h =
    ⊎_elim
    (λ l. record { before = []; here = c; after = cs; deep = p; whole = refl; spot = omega arith; inner = l })
    (λ l.
    let on = located w cs (p - w c) (omega arith) in
    record { before = c ∷ on.before; here = on.here; after = on.after; deep = on.deep; whole = ap (λ l. c ∷ l) on.whole; spot = omega (arith, on.spot); inner = on.inner })
    (cases_lt p (w c))

-- two starts in order, and the code points between them
pub record Cut (w : ℕ → ℕ) (cs : List ℕ) (i j : ℕ) : Type 0 where
  pub before : List ℕ
  pub between : List ℕ
  pub after : List ℕ
  pub whole : cs ≡ before ++ (between ++ after)
  pub first : i ≡ span w before
  pub last : j ≡ span w before + span w between

module _ (w : ℕ → ℕ) (wide : (c : ℕ) → 1 ≤ w c) where
  laid_within : (i : ℕ) (cs : List ℕ) → AllByRecursion (λ q. (i ≤ q.at) × (q.at < i + span w cs)) (laid w i cs)
  laid_within i [] = tt
  laid_within i (c ∷ cs) = (
    (omega arith, omega (arith, wide c)),
    All-weaker (λ q. (i + w c ≤ q.at) × (q.at < i + w c + span w cs)) (λ q. (i ≤ q.at) × (q.at < i + (w c + span w cs))) (λ q h. (omega (arith, h.0), omega (arith, h.1))) (laid w (i + w c) cs) (laid_within (i + w c) cs),
  )

  -- a test that is true of every position that they take keeps their starts, and one that is false of them keeps none
  begins_kept : (p : ℕ → Bool) (i : ℕ) (cs : List ℕ) → ((q : ℕ) → i ≤ q → q < i + span w cs → p q ≡ true) → filter p (begins w i cs) ≡ begins w i cs
  begins_kept p i cs h =
      kept_all p (begins w i cs) (All-map (λ q. p q ≡ true) (λ q. q.at) (laid w i cs) (All-weaker _ (λ q. p q.at ≡ true) (λ q l. h q.at l.0 l.1) (laid w i cs) (laid_within i cs)))

  begins_left : (p : ℕ → Bool) (i : ℕ) (cs : List ℕ) → ((q : ℕ) → i ≤ q → q < i + span w cs → p q ≡ false) → filter p (begins w i cs) ≡ []
  begins_left p i cs h =
      kept_none p (begins w i cs) (All-map (λ q. p q ≡ false) (λ q. q.at) (laid w i cs) (All-weaker _ (λ q. p q.at ≡ false) (λ q l. h q.at l.0 l.1) (laid w i cs) (laid_within i cs)))

  marks_left : (p : ℕ → Bool) (i : ℕ) (cs : List ℕ) → ((q : ℕ) → i ≤ q → p q ≡ false) → filter p (marks w i cs) ≡ []
  marks_left p i [] h = rw (h i (omega arith))
  marks_left p i (c ∷ cs) h = rw (h i (omega arith)) (marks_left p (i + w c) cs (λ q l. h q (omega arith)))

  laid_kept : (p : Point → Bool) (i : ℕ) (cs : List ℕ) → ((q : Point) → i ≤ q.at → q.at < i + span w cs → p q ≡ true) → filter p (laid w i cs) ≡ laid w i cs
  laid_kept p i cs h = kept_all p (laid w i cs) (All-weaker _ (λ q. p q ≡ true) (λ q l. h q l.0 l.1) (laid w i cs) (laid_within i cs))

  laid_left : (p : Point → Bool) (i : ℕ) (cs : List ℕ) → ((q : Point) → i ≤ q.at → q.at < i + span w cs → p q ≡ false) → filter p (laid w i cs) ≡ []
  laid_left p i cs h = kept_none p (laid w i cs) (All-weaker _ (λ q. p q ≡ false) (λ q l. h q l.0 l.1) (laid w i cs) (laid_within i cs))

  -- the first start from p on, among those of a list that begins at or after p
  first_mark : (p i d : ℕ) (cs : List ℕ) → p ≤ i → get_or (filter (leb p) (marks w i cs)) 0 d ≡ i
  first_mark p i d [] h = rw (le-leb p i h)
  first_mark p i d (c ∷ cs) h = rw (le-leb p i h)

  -- the starts from p on, where everything before the split is below p
  from_split : (xs ys : List ℕ) (p : ℕ) → span w xs ≤ p → filter (leb p) (starts (laid_out w (xs ++ ys))) ≡ filter (leb p) (marks w (span w xs) ys)
  from_split xs ys p h =
      ap (filter (leb p)) (starts_split w xs ys)
      ∙ filter-append (leb p) (begins w 0 xs) (marks w (span w xs) ys)
      ∙ ap (λ l. l ++ filter (leb p) (marks w (span w xs) ys)) (begins_left (leb p) 0 xs (λ q _ l. lt-leb p q (omega arith)))

  pub from_start : (xs ys : List ℕ) → start_from (laid_out w (xs ++ ys)) (span w xs) ≡ span w xs
  from_start xs ys =
      ap (λ l. get_or l 0 (span w (xs ++ ys))) (from_split xs ys (span w xs) (omega arith)) ∙ first_mark (span w xs) (span w xs) (span w (xs ++ ys)) ys (omega arith)

  pub from_within : (xs : List ℕ) (c : ℕ) (ys : List ℕ) (p : ℕ) → span w xs < p → p ≤ span w xs + w c → start_from (laid_out w (xs ++ c ∷ ys)) p ≡ span w xs + w c
  from_within xs c ys p low high =
      ap (λ l. get_or l 0 (span w (xs ++ c ∷ ys))) (from_split xs (c ∷ ys) p (omega arith))
      ∙ rw (lt-leb p (span w xs) low) (first_mark p (span w xs + w c) (span w (xs ++ c ∷ ys)) ys high)

  pub from_past : (cs : List ℕ) (p : ℕ) → span w cs ≤ p → start_from (laid_out w cs) p ≡ span w cs
  from_past cs p h =
      ap (λ l. get_or l 0 (span w cs)) (filter-append (leb p) (begins w 0 cs) (span w cs ∷ []) ∙ ap (λ l. l ++ filter (leb p) (span w cs ∷ [])) (begins_left (leb p) 0 cs (λ q _ l. lt-leb p q (omega arith))))
      ∙ cond_both (leb p (span w cs)) (span w cs ∷ []) [] (λ l. get_or l 0 (span w cs) ≡ span w cs) (λ _. refl) (λ _. refl)

  -- the code points at p, where everything before the split is below p
  at_split : (xs ys : List ℕ) (p : ℕ) → span w xs ≤ p → filter (λ q. eqb p q.at) (laid_out w (xs ++ ys)).points ≡ filter (λ q. eqb p q.at) (laid w (span w xs) ys)
  at_split xs ys p h =
      let test : Point → Bool = λ q. eqb p q.at in
      ap (filter test) (points_split w xs ys)
      ∙ filter-append test (laid w 0 xs) (laid w (span w xs) ys)
      ∙ ap (λ l. l ++ filter test (laid w (span w xs) ys)) (laid_left test 0 xs (λ q _ l. ne_eqb p q.at (λ e. omega arith)))

  pub item_start : (xs : List ℕ) (c : ℕ) (ys : List ℕ) → item_at (laid_out w (xs ++ c ∷ ys)) (span w xs) ≡ Some c
  item_start xs c ys =
      ap (λ l. slice_get (map (λ q. q.code) l) 0) (at_split xs (c ∷ ys) (span w xs) (omega arith)) ∙ rw (eq-eqb (span w xs) (span w xs) refl)

  pub item_within : (xs : List ℕ) (c : ℕ) (ys : List ℕ) (p : ℕ) → span w xs < p → p < span w xs + w c → item_at (laid_out w (xs ++ c ∷ ys)) p ≡ None
  item_within xs c ys p low high =
      ap (λ l. slice_get (map (λ q. q.code) l) 0) (at_split xs (c ∷ ys) p (omega arith))
      ∙ rw (ne_eqb p (span w xs) (λ e. omega arith)) (ap (λ l. slice_get (map (λ q. q.code) l) 0) (laid_left (λ q. eqb p q.at) (span w xs + w c) ys (λ q l _. ne_eqb p q.at (λ e. omega arith))))

  pub item_past : (cs : List ℕ) (p : ℕ) → span w cs ≤ p → item_at (laid_out w cs) p ≡ None
  item_past cs p h = ap (λ l. slice_get (map (λ q. q.code) l) 0) (laid_left (λ q. eqb p q.at) 0 cs (λ q _ l. ne_eqb p q.at (λ e. omega arith)))

  -- the last start below a position
  pub back_within : (xs : List ℕ) (c : ℕ) (ys : List ℕ) (p : ℕ) → span w xs < p → p ≤ span w xs + w c → back (laid_out w (xs ++ c ∷ ys)) p 1 ≡ Some (span w xs)
  back_within xs c ys p low high =
      let below : ℕ → Bool = λ s. ltb s p in
      let here : filter below (marks w (span w xs) (c ∷ ys)) ≡ span w xs ∷ [] =
      rw (lt-ltb (span w xs) p low) (ap (λ l. span w xs ∷ l) (marks_left below (span w xs + w c) ys (λ q l. le-ltb q p (omega arith)))) in
      ap (λ l. slice_get (reverse l) 0)
      (ap (filter below) (starts_split w xs (c ∷ ys))
      ∙ filter-append below (begins w 0 xs) (marks w (span w xs) (c ∷ ys))
      ∙ (λ i. begins_kept below 0 xs (λ q _ l. lt-ltb q p (omega arith)) i ++ here i))
      ∙ last_of (begins w 0 xs) (span w xs)

  pub back_first : (cs : List ℕ) → back (laid_out w cs) 0 1 ≡ None
  back_first cs = ap (λ l. slice_get (reverse l) 0) (ap (filter (λ s. ltb s 0)) (starts_split w [] cs) ∙ marks_left (λ s. ltb s 0) 0 cs (λ q _. le-ltb q 0 (omega arith)))

  pub back_past : (cs : List ℕ) (p : ℕ) → span w cs < p → back (laid_out w cs) p 1 ≡ Some (span w cs)
  back_past cs p h =
      let below : ℕ → Bool = λ s. ltb s p in
      let here : filter below (span w cs ∷ []) ≡ span w cs ∷ [] = rw (lt-ltb (span w cs) p h) in
      ap (λ l. slice_get (reverse l) 0) (filter-append below (begins w 0 cs) (span w cs ∷ []) ∙ (λ i. begins_kept below 0 cs (λ q _ l. lt-ltb q p (omega arith)) i ++ here i))
      ∙ last_of (begins w 0 cs) (span w cs)

  -- a part between two starts
  part_points : (xs ys zs : List ℕ) → filter (λ q. leb (span w xs) q.at && ltb q.at (span w xs + span w ys)) (laid_out w (xs ++ (ys ++ zs))).points ≡ laid w (span w xs) ys
  part_points xs ys zs =
      let test : Point → Bool = λ q. leb (span w xs) q.at && ltb q.at (span w xs + span w ys) in
      let first : filter test (laid w 0 xs) ≡ [] = laid_left test 0 xs (λ q _ l. and_left _ _ (lt-leb (span w xs) q.at (omega arith))) in
      let middle : filter test (laid w (span w xs) ys) ≡ laid w (span w xs) ys = laid_kept test (span w xs) ys (λ q l h. and_from _ _ (le-leb (span w xs) q.at l) (lt-ltb q.at (span w xs + span w ys) h)) in
      let last : filter test (laid w (span w xs + span w ys) zs) ≡ [] = laid_left test (span w xs + span w ys) zs (λ q l _. and_right (leb (span w xs) q.at) _ (le-ltb q.at (span w xs + span w ys) l)) in
      ap (filter test) (points_split w xs (ys ++ zs) ∙ ap (λ l. laid w 0 xs ++ l) (laid_append w (span w xs) ys zs))
      ∙ filter-append test (laid w 0 xs) (laid w (span w xs) ys ++ laid w (span w xs + span w ys) zs)
      ∙ (λ i. first i ++ filter-append test (laid w (span w xs) ys) (laid w (span w xs + span w ys) zs) i)
      ∙ (λ i. middle i ++ last i)
      ∙ append-nil (laid w (span w xs) ys)

  pub part_laid : (xs ys zs : List ℕ) → part (laid_out w (xs ++ (ys ++ zs))) (span w xs) (span w xs + span w ys) ≡ laid_out w ys
  part_laid xs ys zs =
      let points = ap (map (moved_down (span w xs))) (part_points xs ys zs ∙ ap (λ k. laid w k ys) (sym (add-zero (span w xs)))) ∙ moved w (span w xs) 0 ys in
      let size : span w xs + span w ys - span w xs ≡ span w ys = omega arith in
      λ i. record { points = points i; size = size i }

  pub cuts_laid : (xs ys zs : List ℕ) → cuts (laid_out w (xs ++ (ys ++ zs))) (span w xs) (span w xs + span w ys) ≡ true
  cuts_laid xs ys zs =
      let t : Text = laid_out w (xs ++ (ys ++ zs)) in
      let i : ℕ = span w xs in
      let j : ℕ = span w xs + span w ys in
      let to_end : start_from t j ≡ j =
      subst (λ n. start_from t n ≡ n) (span_append w xs ys) (ap (λ l. start_from (laid_out w l) (span w (xs ++ ys))) (sym (append_assoc xs ys zs)) ∙ from_start (xs ++ ys) zs) in
      and_from (leb i j && leb j t.size) (eqb (start_from t i) i && eqb (start_from t j) j)
      (and_from (leb i j) (leb j t.size) (le-leb i j (omega arith)) (le-leb j t.size (omega (arith, span_append w xs (ys ++ zs), span_append w ys zs))))
      (and_from (eqb (start_from t i) i) (eqb (start_from t j) j) (eq-eqb (start_from t i) i (from_start xs (ys ++ zs))) (eq-eqb (start_from t j) j to_end))

  -- a start is where a list of whole code points ends
  pub split_at_start : (cs : List ℕ) (p : ℕ) → p ≤ span w cs → start_from (laid_out w cs) p ≡ p → (xs : List ℕ) × (ys : List ℕ) × (cs ≡ xs ++ ys) × (p ≡ span w xs)
  split_at_start cs p h e =
      ⊎_elim
      (λ l.
      let at = located w cs p l in
      ⊎_elim
      (λ d. absurd (let on = ap (λ l. start_from (laid_out w l) p) at.whole ∙ from_within at.before at.here at.after p (omega (arith, at.spot)) (omega (arith, at.spot, at.inner)) in omega (arith, at.spot, at.inner)))
      (λ d. (at.before, at.here ∷ at.after, at.whole, omega (arith, at.spot)))
      (cases_lt 0 at.deep))
      (λ l. (cs, [], sym (append-nil cs), omega arith))
      (cases_lt p (span w cs))

  -- of two fronts of a list, the one that takes fewer positions begins the other
  shorter_front : (xs ys us vs : List ℕ) → xs ++ ys ≡ us ++ vs → span w xs ≤ span w us → (ms : List ℕ) × (us ≡ xs ++ ms)
  shorter_front [] ys us vs e h = (us, refl)
  shorter_front (x ∷ xs) ys [] vs e h = absurd (omega (arith, wide x))
  shorter_front (x ∷ xs) ys (u ∷ us) vs e h =
      let same : x ≡ u = cc in
      let rest : xs ++ ys ≡ us ++ vs = cc in
      let more = shorter_front xs ys us vs rest (omega (arith, ap w same)) in
      (more.0, λ i. sym same i ∷ more.1 i)

  -- two splits in order
  both_splits : (cs xs us ys vs : List ℕ) (i j : ℕ) → cs ≡ xs ++ us → i ≡ span w xs → cs ≡ ys ++ vs → j ≡ span w ys → i ≤ j → Cut w cs i j
  both_splits cs xs us ys vs i j e f d g h =
      let more = shorter_front xs us ys vs (sym e ∙ d) (omega arith) in
      record {
        before = xs;
        between = more.0;
        after = vs;
        whole = d ∙ ap (λ l. l ++ vs) more.1 ∙ append_assoc xs more.0 vs;
        first = f;
        last = g ∙ ap (span w) more.1 ∙ span_append w xs more.0;
      }

  pub cuts_split : (cs : List ℕ) (i j : ℕ) → cuts (laid_out w cs) i j ≡ true → Cut w cs i j
  cuts_split cs i j e =
      let t : Text = laid_out w cs in
      let parts = and_parts (leb i j && leb j t.size) (eqb (start_from t i) i && eqb (start_from t j) j) e in
      let order = and_parts (leb i j) (leb j t.size) parts.0 in
      let both = and_parts (eqb (start_from t i) i) (eqb (start_from t j) j) parts.1 in
      let low : i ≤ j = leb-true i j order.0 in
      let high : j ≤ span w cs = leb-true j t.size order.1 in
      let one = split_at_start cs i (omega arith) (eqb-true (start_from t i) i both.0) in
      let two = split_at_start cs j high (eqb-true (start_from t j) j both.1) in
      both_splits cs one.0 one.1 two.0 two.1 i j one.2 one.3 two.2 two.3 low

  -- the part between two starts
  pub part_cut : (cs : List ℕ) (i j : ℕ) → (cut : Cut w cs i j) → cond (cuts (laid_out w cs) i j) (part (laid_out w cs) i j) empty ≡ laid_out w cut.between
  part_cut cs i j cut =
      (λ k. cond (cuts (laid_out w (cut.whole k)) (cut.first k) (cut.last k)) (part (laid_out w (cut.whole k)) (cut.first k) (cut.last k)) empty)
      ∙ cond-true _ _ empty (cuts_laid cut.before cut.between cut.after)
      ∙ part_laid cut.before cut.between cut.after
