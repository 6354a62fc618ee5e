-- Steps over the starts of a text. Assumes nothing.
use Rattle.std.proofs.Common.{◌≡◌, ℕ, zero, suc, ◌+◌, ◌<◌, ◌≤◌, ltb, leb, ◌⊎◌, List, [], ◌∷◌, ◌++◌, map, reverse, length, get_or, Some, None, filter, Option, sym, refl, ap, ◌∙◌, subst, inl, inr, ⊎_elim, add-one, arith, length-append}
use Rattle.std.specs.List.{slice_get, AllByRecursion}
use Rattle.std.proofs.lemmas.List.Elements.{filter-append}
use Rattle.std.proofs.ByRecursion.{all_kept_by}
use Rattle.std.proofs.lemmas.List.{reverse-append}
use Rattle.std.proofs.lemmas.Bool.{le-leb, lt-leb, cases_lt}
use Rattle.characters.specs.Text.{Point, Text, Rises, Lawful, starts, start_from, on, back}
use Rattle.characters.proofs.Kept.{keeps, leaves}

-- rising numbers, the first at least low
abbrev pub Climbs : ℕ → List ℕ → Type 0
Climbs low [] = Unit {0}
Climbs low (x ∷ xs) = (low ≤ x) × Climbs (suc x) xs

pub starts_climb : (low : ℕ) (ps : List Point) (size : ℕ) → Rises low ps size → Climbs low (map (λ p. p.at) ps ++ size ∷ [])
starts_climb low [] size h = (h, tt)
starts_climb low (p ∷ ps) size h = (h.0, starts_climb (suc p.at) ps size h.1)

-- the size bounds every position
pub rises_under : (low : ℕ) (ps : List Point) (size : ℕ) → Rises low ps size → low ≤ size
rises_under low [] size h = h
rises_under low (p ∷ ps) size h = omega (arith, h.0, rises_under (suc p.at) ps size h.1)

pub all_above : (i low : ℕ) (xs : List ℕ) → Climbs low xs → i ≤ low → filter (leb i) xs ≡ xs
all_above i low [] h k = refl
all_above i low (x ∷ xs) h k =
    let le : i ≤ x = omega (arith, h.0) in
    keeps (leb i) x xs (le-leb i x le) ∙ ap (λ l. x ∷ l) (all_above i (suc x) xs h.1 (omega arith))

-- the first start at or after i, if there is one, and then those above it
abbrev FirstAbove : List ℕ → ℕ → Type 0
FirstAbove xs i = (filter (leb i) xs ≡ []) ⊎ ((q : ℕ) × (i ≤ q) × (filter (leb i) xs ≡ q ∷ filter (leb (suc q)) xs) × (filter (leb q) xs ≡ q ∷ filter (leb (suc q)) xs))

pub first_above : (xs : List ℕ) (low i : ℕ) → Climbs low xs → FirstAbove xs i
first_above [] low i h = inl refl
first_above (x ∷ xs) low i h = ⊎_elim (earlier (first_above xs (suc x) i h.1)) here (cases_lt x i)
  where
    earlier : FirstAbove xs i → x < i → FirstAbove (x ∷ xs) i
    earlier later l =
        let skip : (j : ℕ) → x < j → filter (leb j) (x ∷ xs) ≡ filter (leb j) xs = λ j k. leaves (leb j) x xs (lt-leb j x k) in
        ⊎_elim (λ e. inl (skip i l ∙ e))
        (λ f.
        let on = ap (λ l. f.0 ∷ l) (sym (skip (suc f.0) (omega (arith, f.1)))) in
        inr (f.0, f.1, skip i l ∙ f.2 ∙ on, skip f.0 (omega (arith, f.1)) ∙ f.3 ∙ on))
        later

    here : i ≤ x → FirstAbove (x ∷ xs) i
    here l =
        let rest = leaves (leb (suc x)) x xs (lt-leb (suc x) x (omega arith)) ∙ all_above (suc x) (suc x) xs h.1 (omega arith) in
        let all : (j : ℕ) → j ≤ x → filter (leb j) (x ∷ xs) ≡ x ∷ filter (leb (suc x)) (x ∷ xs) = λ j k. all_above j x (x ∷ xs) (omega arith, h.1) k ∙ ap (λ l. x ∷ l) (sym rest) in
        inr (x, l, all i l, all x (omega arith))

-- nothing is kept of what climbs from j on
pub none_below : (j least : ℕ) (ys : List ℕ) → Climbs least ys → j ≤ least → filter (λ s. ltb s j) ys ≡ []
none_below j least [] c l = refl
none_below j least (y ∷ ys) c l =
    let above : j < suc y = omega (arith, c.0) in
    leaves (λ s. ltb s j) y ys (lt-leb (suc y) j above) ∙ none_below j (suc y) ys c.1 (omega arith)

-- the last start below i, if there is one, and before it those below it
abbrev LastBelow : List ℕ → ℕ → ℕ → Type 0
LastBelow xs low i = (filter (λ s. ltb s i) xs ≡ []) ⊎ ((q : ℕ) × (low ≤ q) × (q < i) × (filter (λ s. ltb s i) xs ≡ filter (λ s. ltb s q) xs ++ q ∷ []))

pub last_below : (xs : List ℕ) (low i : ℕ) → Climbs low xs → LastBelow xs low i
last_below [] low i h = inl refl
last_below (x ∷ xs) low i h = ⊎_elim (here (last_below xs (suc x) i h.1)) none_here (cases_lt x i)
  where
    here : LastBelow xs (suc x) i → x < i → LastBelow (x ∷ xs) low i
    here later l =
        let first = keeps (λ s. ltb s i) x xs (le-leb (suc x) i l) in
        let none = leaves (λ s. ltb s x) x xs (lt-leb (suc x) x (omega arith)) ∙ none_below x (suc x) xs h.1 (omega arith) in
        ⊎_elim
        (λ e. inr (x, h.0, l, first ∙ ap (λ l. x ∷ l) e ∙ ap (λ l. l ++ x ∷ []) (sym none)))
        (λ f.
        inr (
          f.0,
          omega (arith, f.1, h.0),
          f.2,
          first ∙ ap (λ l. x ∷ l) f.3 ∙ ap (λ l. l ++ f.0 ∷ []) (sym (keeps (λ s. ltb s f.0) x xs (le-leb (suc x) f.0 f.1))),
        ))
        later

    none_here : i ≤ x → LastBelow (x ∷ xs) low i
    none_here l = inl (leaves (λ s. ltb s i) x xs (lt-leb (suc x) i (omega arith)) ∙ none_below i (suc x) xs h.1 (omega arith))

-- two starts side by side: the first is the last below the second
pub neighbours : (xs : List ℕ) (low i q : ℕ) (ys : List ℕ) → Climbs low xs → i < q → filter (leb i) xs ≡ i ∷ q ∷ ys → filter (λ s. ltb s q) xs ≡ filter (λ s. ltb s i) xs ++ i ∷ []
neighbours [] low i q ys h less e = absurd (omega (arith, ap length e))
neighbours (x ∷ xs) low i q ys h less e = ⊎_elim (λ l. earlier l (neighbours xs (suc x) i q ys h.1 less (sym (leaves (leb i) x xs (lt-leb i x l)) ∙ e))) here (cases_lt x i)
  where
    earlier : x < i → filter (λ s. ltb s q) xs ≡ filter (λ s. ltb s i) xs ++ i ∷ [] → filter (λ s. ltb s q) (x ∷ xs) ≡ filter (λ s. ltb s i) (x ∷ xs) ++ i ∷ []
    earlier l later =
        keeps (λ s. ltb s q) x xs (le-leb (suc x) q (omega arith)) ∙ ap (λ l. x ∷ l) later
        ∙ ap (λ l. l ++ i ∷ []) (sym (keeps (λ s. ltb s i) x xs (le-leb (suc x) i l)))

    here : i ≤ x → filter (λ s. ltb s q) (x ∷ xs) ≡ filter (λ s. ltb s i) (x ∷ xs) ++ i ∷ []
    here l =
        let all = sym (all_above i x (x ∷ xs) (omega arith, h.1) l) ∙ e in
        let first : x ≡ i = cc in
        let rest : xs ≡ q ∷ ys = cc in
        let climb : Climbs (suc x) (q ∷ ys) = subst (Climbs (suc x)) rest h.1 in
        keeps (λ s. ltb s q) x xs (le-leb (suc x) q (omega arith))
        ∙ ap (λ l. x ∷ l) (ap (filter (λ s. ltb s q)) rest ∙ none_below q q (q ∷ ys) (omega arith, climb.1) (omega arith)) ∙ ap (λ s. s ∷ []) first
        ∙ ap (λ l. l ++ i ∷ []) (sym (none_below i x (x ∷ xs) (omega arith, h.1) l))

-- no start is above the size, and the size is one
none_past : (low : ℕ) (ps : List Point) (size i : ℕ) → Rises low ps size → size < i → filter (leb i) (map (λ p. p.at) ps ++ size ∷ []) ≡ []
none_past low [] size i h l = leaves (leb i) size [] (lt-leb i size l)
none_past low (p ∷ ps) size i h l =
    let below : p.at < i = omega (arith, rises_under (suc p.at) ps size h.1) in
    leaves (leb i) p.at _ (lt-leb i p.at below) ∙ none_past (suc p.at) ps size i h.1 l

size_kept : (xs : List ℕ) (size i : ℕ) → i ≤ size → filter (leb i) (xs ++ size ∷ []) ≡ [] → ⊥
size_kept xs size i h e =
    let some = filter-append (leb i) xs (size ∷ []) ∙ ap (λ l. filter (leb i) xs ++ l) (keeps (leb i) size [] (le-leb i size h)) in
    omega (arith, ap length (sym some ∙ e), length-append (filter (leb i) xs) (size ∷ []))

-- a list that a test leaves, read at its front
front_read : (l : List ℕ) (q d : ℕ) (ys : List ℕ) → l ≡ q ∷ ys → get_or l 0 d ≡ q
front_read l q d ys e = ap (λ l. get_or l 0 d) e

module _ (t : Text) (ok : Lawful t) where
  climbing : Climbs 0 (starts t)
  climbing = starts_climb 0 t.points t.size ok.rises

  -- where i is below the size, a step on goes to the first start above i
  pub on_more : (i n : ℕ) → i < t.size → on t i (suc n) ≡ on t (start_from t (suc i)) n
  on_more i n h = ⊎_elim (λ e. absurd (size_kept _ t.size (suc i) h e)) (λ f. go n f.0 f.2) (first_above (starts t) 0 (suc i) climbing)
    where
      go : (n q : ℕ) → filter (leb (suc i)) (starts t) ≡ q ∷ filter (leb (suc q)) (starts t) → on t i (suc n) ≡ on t (start_from t (suc i)) n
      go zero q e = ap (λ l. slice_get l 0) e ∙ ap Some (sym (front_read _ q t.size _ e))
      go (suc n) q e = ap (λ l. slice_get l (suc n)) e ∙ ap (λ s. on t s (suc n)) (sym (front_read _ q t.size _ e))

  -- from the size on there is none
  pub on_none : (i n : ℕ) → t.size ≤ i → on t i (suc n) ≡ None
  on_none i n h = ap (λ l. slice_get l n) (none_past 0 t.points t.size (suc i) ok.rises (omega arith))

  -- a step back goes to the last start below i
  pub back_more : (i q n : ℕ) → back t i 1 ≡ Some q → back t i (suc n) ≡ back t q n
  back_more i q n e = ⊎_elim (λ none. absurd (never (sym e ∙ ap (λ l. slice_get (reverse l) 0) none))) (λ f. go n f.0 f.3) (last_below (starts t) 0 i climbing)
    where
      never : Some q ≡ None → ⊥
      never e = let z : ◌≡◌ {A = ℕ} 0 1 = cc in omega arith

      step : (n p : ℕ) → p ≡ q → slice_get (p ∷ reverse (filter (λ s. ltb s p) (starts t))) n ≡ back t q n
      step zero p same = ap Some same
      step (suc n) p same = ap (λ s. back t s (suc n)) same

      go : (n p : ℕ) → filter (λ s. ltb s i) (starts t) ≡ filter (λ s. ltb s p) (starts t) ++ p ∷ [] → back t i (suc n) ≡ back t q n
      go n p f =
          let turned = ap reverse f ∙ reverse-append (filter (λ s. ltb s p) (starts t)) (p ∷ []) in
          let same : p ≡ q = cc (sym e ∙ ap (λ l. slice_get l 0) turned) in
          ap (λ l. slice_get l n) turned ∙ step n p same

  pub back_none : (i n : ℕ) → back t i 1 ≡ None → back t i (suc n) ≡ None
  back_none i n e = ⊎_elim (λ none. ap (λ l. slice_get (reverse l) n) none) (λ f. absurd (never f.0 f.3)) (last_below (starts t) 0 i climbing)
    where
      never : (p : ℕ) → filter (λ s. ltb s i) (starts t) ≡ filter (λ s. ltb s p) (starts t) ++ p ∷ [] → ⊥
      never p f =
          let first = ap (λ l. slice_get l 0) (ap reverse f ∙ reverse-append (filter (λ s. ltb s p) (starts t)) (p ∷ [])) in
          let z : ◌≡◌ {A = ℕ} 0 1 = cc (sym e ∙ first) in omega arith

  -- the same where the steps that are left are counted otherwise
  pub on_step : (i n m : ℕ) → n ≡ suc m → i < t.size → on t i n ≡ on t (start_from t (i + 1)) m
  on_step i n m e h = ap (on t i) e ∙ on_more i m h ∙ ap (λ s. on t (start_from t s) m) (sym (add-one i))

  pub on_stop : (i n m : ℕ) → n ≡ suc m → t.size ≤ i → on t i n ≡ None
  on_stop i n m e h = ap (on t i) e ∙ on_none i m h

  pub back_step : (i q n m : ℕ) → n ≡ suc m → back t i 1 ≡ Some q → back t i n ≡ back t q m
  back_step i q n m e h = ap (back t i) e ∙ back_more i q m h

  pub back_stop : (i n m : ℕ) → n ≡ suc m → back t i 1 ≡ None → back t i n ≡ None
  back_stop i n m e h = ap (back t i) e ∙ back_none i m h

  -- no start is past the size
  starts_within : AllByRecursion (λ s. s ≤ t.size) (starts t)
  starts_within = go 0 t.points ok.rises
    where
      go : (low : ℕ) (ps : List Point) → Rises low ps t.size → AllByRecursion (λ s. s ≤ t.size) (map (λ p. p.at) ps ++ t.size ∷ [])
      go low [] h = (omega arith, tt)
      go low (p ∷ ps) h = (omega (arith, rises_under (suc p.at) ps t.size h.1), go (suc p.at) ps h.1)

  pub start_from_within : (i : ℕ) → start_from t i ≤ t.size
  start_from_within i = go _ (all_kept_by (leb i) (λ s. s ≤ t.size) (starts t) starts_within)
    where
      go : (xs : List ℕ) → AllByRecursion (λ s. s ≤ t.size) xs → get_or xs 0 t.size ≤ t.size
      go [] a = omega arith
      go (x ∷ xs) a = a.0

  pub on_within : (n i j : ℕ) → i ≤ t.size → on t i n ≡ Some j → j ≤ t.size
  on_within zero i j h e = let same : i ≡ j = cc in omega arith
  on_within (suc n) i j h e = ⊎_elim (λ l. on_within n (start_from t (suc i)) j (start_from_within (suc i)) (sym (on_more i n l) ∙ e)) (λ l. absurd (never (sym (on_none i n l) ∙ e))) (cases_lt i t.size)
    where
      never : None ≡ Some j → ⊥
      never e = let z : ◌≡◌ {A = ℕ} 0 1 = cc in omega arith

  pub back_within : (n i j : ℕ) → back t i n ≡ Some j → j ≤ i
  back_within zero i j e = let same : i ≡ j = cc in omega arith
  back_within (suc n) i j e =
      ⊎_elim
      (λ none. absurd (never (sym (back_none i n (ap (λ l. slice_get (reverse l) 0) none)) ∙ e)))
      (λ f.
      let step = first_back f.0 f.3 in
      let rest : j ≤ f.0 = back_within n f.0 j (sym (back_more i f.0 n step) ∙ e) in
      omega (arith, f.2, rest))
      (last_below (starts t) 0 i climbing)
    where
      never : None ≡ Some j → ⊥
      never e = let z : ◌≡◌ {A = ℕ} 0 1 = cc in omega arith

      first_back : (p : ℕ) → filter (λ s. ltb s i) (starts t) ≡ filter (λ s. ltb s p) (starts t) ++ p ∷ [] → back t i 1 ≡ Some p
      first_back p f = ap (λ l. slice_get l 0) (ap reverse f ∙ reverse-append (filter (λ s. ltb s p) (starts t)) (p ∷ []))

  -- at or below the size, the first start from i on is no lower than i, and is a start
  pub start_from_above : (i : ℕ) → i ≤ t.size → i ≤ start_from t i
  start_from_above i h =
      ⊎_elim (λ e. absurd (size_kept _ t.size i h e)) (λ f. let q = front_read _ f.0 t.size _ f.2 in omega (arith, f.1, q))
      (first_above (starts t) 0 i climbing)

  pub size_start : start_from t t.size ≡ t.size
  size_start = omega (arith, start_from_above t.size (omega arith), start_from_within t.size)

  pub start_from_start : (i : ℕ) → start_from t (start_from t i) ≡ start_from t i
  start_from_start i =
      ⊎_elim
      (λ e. let past : start_from t i ≡ t.size = ap (λ l. get_or l 0 t.size) e in ap (start_from t) past ∙ size_start ∙ sym past)
      (λ f.
      let here : start_from t i ≡ f.0 = front_read _ f.0 t.size _ f.2 in
      ap (start_from t) here ∙ front_read _ f.0 t.size _ f.3 ∙ sym here)
      (first_above (starts t) 0 i climbing)

  -- from a start, a step on and a step back return
  next_back : (i : ℕ) → start_from t i ≡ i → i < t.size → back t (start_from t (suc i)) 1 ≡ Some i
  next_back i s h = ⊎_elim (λ e. absurd (size_kept _ t.size (suc i) h e)) next (first_above (starts t) 0 (suc i) climbing)
    where
      here : filter (leb i) (starts t) ≡ i ∷ filter (leb (suc i)) (starts t)
      here = ⊎_elim (λ e. absurd (size_kept _ t.size i (omega arith) e))
          (λ f. let same : f.0 ≡ i = sym (front_read _ f.0 t.size _ f.2) ∙ s in f.2 ∙ (λ k. same k ∷ filter (leb (suc (same k))) (starts t)))
          (first_above (starts t) 0 i climbing)

      next : (q : ℕ) × (suc i ≤ q) × (filter (leb (suc i)) (starts t) ≡ q ∷ filter (leb (suc q)) (starts t)) × (filter (leb q) (starts t) ≡ q ∷ filter (leb (suc q)) (starts t)) → back t (start_from t (suc i)) 1 ≡ Some i
      next f =
          let q : start_from t (suc i) ≡ f.0 = front_read _ f.0 t.size _ f.2 in
          let before = neighbours (starts t) 0 i f.0 (filter (leb (suc f.0)) (starts t)) climbing f.1 (here ∙ ap (λ l. i ∷ l) f.2) in
          ap (λ s. back t s 1) q ∙ ap (λ l. slice_get l 0) (ap reverse before ∙ reverse-append (filter (λ s. ltb s i) (starts t)) (i ∷ []))

  -- a step back at the end of a walk back
  back_last : (k j q : ℕ) → back t j k ≡ Some q → back t j (suc k) ≡ back t q 1
  back_last zero j q e = let same : j ≡ q = cc in ap (λ s. back t s 1) same
  back_last (suc k) j q e = go (λ p h. back_last k p q h) (back t j 1) refl
    where
      go : ((p : ℕ) → back t p k ≡ Some q → back t p (suc k) ≡ back t q 1) → (r : Option ℕ) → back t j 1 ≡ r → back t j (suc (suc k)) ≡ back t q 1
      go shorter None none = let z : ◌≡◌ {A = ℕ} 0 1 = cc (sym (back_none j k none) ∙ e) in absurd (omega arith)
      go shorter (Some p) some = back_more j p (suc k) some ∙ shorter p (sym (back_more j p k some) ∙ e)

  pub on_and_back : (k i j : ℕ) → start_from t i ≡ i → on t i k ≡ Some j → back t j k ≡ Some i
  on_and_back zero i j s e = let same : i ≡ j = cc in ap Some (sym same)
  on_and_back (suc k) i j s e = ⊎_elim
      (λ l. back_last k j (start_from t (suc i)) (on_and_back k (start_from t (suc i)) j (start_from_start (suc i)) (sym (on_more i k l) ∙ e)) ∙ next_back i s l)
      (λ l. absurd (never (sym (on_none i k l) ∙ e)))
      (cases_lt i t.size)
    where
      never : None ≡ Some j → ⊥
      never e = let z : ◌≡◌ {A = ℕ} 0 1 = cc in omega arith
