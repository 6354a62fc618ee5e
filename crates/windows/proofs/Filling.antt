-- Pulling, one token after the other, until the token of an index is held. Assumes nothing.
use Rattle.std.proofs.Common.{◌≡◌, ℕ, suc, ◌+◌, ◌-◌, ◌<◌, ◌≤◌, min, true, false, cond, ltb, leb, List, length, IfSome, Some, None, sym, ap, ◌∙◌, subst, ⊎_elim, arith}
use Rattle.std.proofs.lemmas.Bool.{and_parts, and_cases, not-true, not-false, leb-true, leb-false, ltb-true, ltb-false, lt-leb, or_from, lt-ltb, le-ltb, cond-true, cond-false, cond_both, cases_lt, cases_Bool, false≢true}
use Rattle.tokens.specs.declared.token.Token.{Token}
use Rattle.windows.specs.Windows.{View, end, reach, full}
use Rattle.windows.specs.Held.{Holds, Pulled, eof_is, at_end, wants, pulled_to, within_reach, seen_now, seen_at}
use Rattle.windows.proofs.Held.{token_past, at_end_all, at_end_more, end_grown, holds_more}

-- between the first window and this one
pub record Filling (first : View) (coming : List Token) (index : ℕ) (v : View) (left : List Token) : Type 0 where
  pub start : v.start ≡ first.start
  pub capacity : v.capacity ≡ first.capacity
  pub grows : end first ≤ end v
  pub holds : (list : List Token) → Holds list first coming → Holds list v left
  pub bounded : (list : List Token) → Holds list first coming → end v ≤ pulled_to (length list) first index

-- what a pull that is wanted finds
pub record Wanted (v : View) (index : ℕ) : Type 0 where
  pub before : end v ≤ index
  pub inside : end v < reach v
  pub few : end v < 1048576
  pub more : at_end v ≡ false

pub wanted : (v : View) (index : ℕ) → wants v index ≡ true → Wanted v index
wanted v index e =
    let one = and_parts (leb (end v) index) _ e in
    let two = and_parts (ltb (end v) (reach v)) _ one.1 in
    let three = and_parts (ltb (end v) 1048576) _ two.1 in
    record { before = leb-true (end v) index one.0; inside = ltb-true (end v) (reach v) two.0; few = ltb-true (end v) 1048576 three.0; more = not-true (at_end v) three.1 }

pub has_room : (v : View) (index : ℕ) → v.capacity ≤ 2048 → Wanted v index → full v ≡ false
has_room v index c w =
    let short : length v.tokens < 2048 = omega (arith, w.inside) in
    or_from _ _ (lt-leb 2048 (length v.tokens) short) (lt-leb 1048576 (end v) w.few)

module _ (first : View) (coming : List Token) (index : ℕ) (v w : View) (left rest : List Token) (c : v.capacity ≤ 2048) (f : Filling first coming index v left) (m : Wanted v index) (p : Pulled v left w rest) where
  grew : end w ≡ end v + 1
  grew = ap end p.window ∙ end_grown v p.token (has_room v index c m)

  same_start : w.start ≡ v.start
  same_start = ap (λ u. u.start) p.window

  same_capacity : w.capacity ≡ v.capacity
  same_capacity = ap (λ u. u.capacity) p.window

  pub pull_falls : reach w - end w < reach v - end v
  pull_falls =
      let r : reach w ≡ reach v = (λ i. same_start i + same_capacity i) in
      omega (arith, grew, m.inside)

  pub filling_more : Filling first coming index w rest
  filling_more = record {
    start = same_start ∙ f.start;
    capacity = same_capacity ∙ f.capacity;
    grows = omega (arith, f.grows, grew);
    holds = λ list h.
        let k = f.holds list h in
        subst (λ u. Holds list u rest) (sym p.window) (holds_more list v left rest p.token k (at_end_more list v left k m.more) (has_room v index c m) p.pulls);
    bounded = λ list h.
        let k = f.holds list h in
        let r : reach v ≡ reach first = (λ i. f.start i + f.capacity i) in
        let more : end v < length list = at_end_more list v left k m.more in
        omega (arith, m.before, m.inside, grew, f.grows);
  }

-- where no pull is wanted, all was pulled that can be
pub filling_done : (first : View) (coming : List Token) (index : ℕ) (v : View) (left : List Token) → Filling first coming index v left → wants v index ≡ false → (list : List Token) → Holds list first coming → end v ≡ pulled_to (length list) first index
filling_done first coming index v left f e list h =
    let k = f.holds list h in
    let r : reach v ≡ reach first = (λ i. f.start i + f.capacity i) in
    let most = f.bounded list h in
    let least : min (reach first) (min (suc index) (length list)) ≤ end v = ⊎_elim
    (λ past. let l = leb-false (end v) index past in omega arith)
    (λ e. ⊎_elim
    (λ full. let l = ltb-false (end v) (reach v) full in omega arith)
    (λ e. ⊎_elim
    (λ late. let l = ltb-false (end v) 1048576 late in omega (arith, k.few))
    (λ last. let l = at_end_all list v left k (not-false (at_end v) last) in omega arith)
    (and_cases (ltb (end v) 1048576) _ e))
    (and_cases (ltb (end v) (reach v)) _ e))
    (and_cases (leb (end v) index) _ e) in
    omega (arith, f.grows, most, least)

-- what is held after the pulls shows where the token of an index is seen
module _ (list : List Token) (first v : View) (left : List Token) (index : ℕ) (k : Holds list v left) (start : v.start ≡ first.start) (capacity : v.capacity ≡ first.capacity) (all : end v ≡ pulled_to (length list) first index) where
  same_reach : reach v ≡ reach first
  same_reach = (λ i. start i + capacity i)

  within_same : (i j : ℕ) → i ≡ j → within_reach v i ≡ within_reach first j
  within_same i j e = (λ n. cond (ltb (e n) (same_reach n)) (Some (e n)) None)

  beyond : (i : ℕ) → reach first ≤ i → None ≡ within_reach first i
  beyond i h = sym (cond-false (ltb i (reach first)) (Some i) None (le-ltb i (reach first) h))

  pub sees : seen_now v index ≡ seen_at (length list) first index
  sees = ⊎_elim
      (λ (l : index < end v).
      cond-true (ltb index (end v)) _ _ (lt-ltb index (end v) l) ∙ within_same index (min index (length list - 1)) (omega (arith, k.within)))
      (λ (l : end v ≤ index).
      cond-false (ltb index (end v)) _ _ (le-ltb index (end v) l)
      ∙ ⊎_elim
      (λ (e : at_end v ≡ true).
      let full = at_end_all list v left k e in
      cond-true (at_end v) _ _ e ∙ within_same (end v - 1) (min index (length list - 1)) (omega (arith, full)))
      (λ (e : at_end v ≡ false).
      let more = at_end_more list v left k e in
      cond-false (at_end v) _ _ e ∙ beyond (min index (length list - 1)) (omega (arith, more, all)))
      (cases_Bool (at_end v)))
      (cases_lt index (end v))

-- what is seen is held
pub seen_held : (v : View) (index : ℕ) → IfSome (seen_now v index) (λ i. i < end v)
seen_held v index = cond_both (ltb index (end v)) _ _ (λ r. IfSome r (λ i. i < end v))
    (λ l. near index (ltb-true index (end v) l))
    (λ l. cond_both (at_end v) _ _ (λ r. IfSome r (λ i. i < end v)) (λ e. near (end v - 1) (some e)) (λ e. tt))
  where
    near : (i : ℕ) → i < end v → IfSome (within_reach v i) (λ i. i < end v)
    near i l = cond_both (ltb i (reach v)) (Some i) None (λ r. IfSome r (λ i. i < end v)) (λ e. l) (λ e. tt)

    some : at_end v ≡ true → end v - 1 < end v
    some e = ⊎_elim (λ l. l) (λ (l : end v ≤ end v - 1). absurd (false≢true (sym (ap eof_is (token_past v (end v - 1) l)) ∙ e))) (cases_lt (end v - 1) (end v))
