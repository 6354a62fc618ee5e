-- Texts of units, which have one code point at each position. Assumes nothing.
use Rattle.std.proofs.Common.{◌≡◌, ℕ, zero, suc, ◌+◌, ◌-◌, ◌<◌, ◌≤◌, min, false, cond, ◌&&◌, leb, ◌⊎◌, List, [], ◌∷◌, ◌++◌, map, length, get_or, take, drop, Some, None, Option, sym, refl, ap, ◌∙◌, ⊎_elim, arith}
use Rattle.std.proofs.lemmas.List.{length-map, length-take-le, length-drop, take-append-drop, drop_more, take-map, map-append, get_or-map}
use Rattle.std.proofs.lemmas.Bool.{cases_lt, lt-leb, le-leb, and_left, and_right, cond-false}
use Rattle.std.specs.Bool.{then_some}
use Rattle.std.specs.Borrow.{Bor}
use Rattle.std.specs.Option.{SomeIff, unwrap_or}
use Rattle.std.specs.Slice.{IsGetRangeResult}
use Rattle.characters.specs.Text.{Text, Lawful, empty, item_at, start_from, on, back, cuts, part}
use Rattle.characters.proofs.Starts.{on_more, on_none, back_more, back_none, back_step}
use Rattle.texts.specs.Laid.{span}
use Rattle.texts.specs.Units.{in_a_row, low, row_of}
use Rattle.texts.specs.Keeps.{span_one, in_a_row_lawful}
use Rattle.texts.proofs.Laid.{Cut, from_start, from_past, item_start, item_past, back_within, back_first, back_past, part_cut}

module _ {A : Type 0} (number : A → ℕ) (units : List A) where
  abbrev codes : List ℕ
  codes = map number units

  -- their text
  abbrev row : Text
  row = in_a_row codes

  pub in_a_row_size : row.size ≡ length units
  in_a_row_size = span_one codes ∙ length-map units number

  -- the units before a position, and from it on
  split_at : (p : ℕ) → codes ≡ map number (take p units) ++ map number (drop p units)
  split_at p = ap (map number) (sym (take-append-drop p units)) ∙ map-append number (take p units) (drop p units)

  split_here : (p : ℕ) → p < length units → codes ≡ map number (take p units) ++ get_or codes p 0 ∷ drop (p + 1) codes
  split_here p h =
      sym (take-append-drop p codes) ∙ (λ k. take-map number p units k ++ drop_more codes p 0 (omega (arith, length-map units number)) k)

  front : (p : ℕ) → p ≤ length units → span (λ _. 1) (map number (take p units)) ≡ p
  front p h = span_one (map number (take p units)) ∙ length-map (take p units) number ∙ length-take-le p units h

  pub in_a_row_item : (p : ℕ) (u : A) → p < length units → u ≡ get_or units p u → item_at row p ≡ Some (number u)
  in_a_row_item p u h e =
      (λ k. item_at (in_a_row (split_here p h k)) (sym (front p (omega arith)) k))
      ∙ item_start (λ _. 1) (λ _. omega arith) (map number (take p units)) (get_or codes p 0) (drop (p + 1) codes)
      ∙ ap Some (get_or-map number units p u 0 h ∙ ap number (sym e))

  pub in_a_row_item_past : (p : ℕ) → length units ≤ p → item_at row p ≡ None
  in_a_row_item_past p h = item_past (λ _. 1) (λ _. omega arith) codes p (omega (arith, in_a_row_size))

  pub in_a_row_from : (p : ℕ) → p ≤ length units → start_from row p ≡ p
  in_a_row_from p h =
      (λ k. start_from (in_a_row (split_at p k)) (sym (front p h) k))
      ∙ from_start (λ _. 1) (λ _. omega arith) (map number (take p units)) (map number (drop p units))
      ∙ front p h

  in_a_row_from_past : (p : ℕ) → length units ≤ p → start_from row p ≡ length units
  in_a_row_from_past p h = from_past (λ _. 1) (λ _. omega arith) codes p (omega (arith, in_a_row_size)) ∙ in_a_row_size

  pub in_a_row_from_min : (p : ℕ) → start_from row p ≡ min p (length units)
  in_a_row_from_min p = ⊎_elim (λ l. in_a_row_from p (omega arith) ∙ omega arith) (λ l. in_a_row_from_past p l ∙ omega arith) (cases_lt p (length units))

  pub in_a_row_back_first : back row 0 1 ≡ None
  in_a_row_back_first = back_first (λ _. 1) (λ _. omega arith) codes

  pub in_a_row_back : (p : ℕ) → 0 < p → p ≤ length units → back row p 1 ≡ Some (p - 1)
  in_a_row_back p some within =
      let before = front (p - 1) (omega arith) in
      ap (λ l. back (in_a_row l) p 1) (split_here (p - 1) (omega arith))
      ∙ back_within (λ _. 1) (λ _. omega arith) (map number (take (p - 1) units)) (get_or codes (p - 1) 0) (drop (p - 1 + 1) codes) p (omega arith) (omega arith)
      ∙ ap Some before

  pub in_a_row_back_past : (p : ℕ) → length units < p → back row p 1 ≡ Some (length units)
  in_a_row_back_past p h = back_past (λ _. 1) (λ _. omega arith) codes p (omega (arith, in_a_row_size)) ∙ ap Some in_a_row_size

  -- a number of steps is a distance
  module _ (few : length units ≤ 65536) where
    ok : Lawful row
    ok = in_a_row_lawful number units few

    one_on : (p k : ℕ) → p < length units → on row p (suc k) ≡ on row (suc p) k
    one_on p k l = on_more row ok p k (omega (arith, in_a_row_size)) ∙ ap (λ s. on row s k) (in_a_row_from (suc p) (omega arith))

    -- steps on lead as far, where that is no further than the end, and else nowhere
    pub in_a_row_on : (steps p : ℕ) → p + steps ≤ length units → on row p steps ≡ Some (p + steps)
    in_a_row_on zero p h = ap Some (omega arith)
    in_a_row_on (suc k) p h = one_on p k (omega arith) ∙ in_a_row_on k (suc p) (omega arith) ∙ ap Some (omega arith)

    pub in_a_row_on_none : (steps p : ℕ) → 0 < steps → length units < p + steps → on row p steps ≡ None
    in_a_row_on_none zero p some h = absurd (omega arith)
    in_a_row_on_none (suc k) p some h =
        ⊎_elim (λ l. one_on p k l ∙ in_a_row_on_none k (suc p) (omega arith) (omega arith)) (λ l. on_none row ok p k (omega (arith, in_a_row_size))) (cases_lt p (length units))

    pub in_a_row_on_tested : (steps p : ℕ) → 0 < steps → then_some (leb (p + steps) (length units)) (p + steps) ≡ on row p steps
    in_a_row_on_tested steps p some = ⊎_elim
        (λ l. ap (λ b. then_some b (p + steps)) (lt-leb (p + steps) (length units) l) ∙ sym (in_a_row_on_none steps p some l))
        (λ l. ap (λ b. then_some b (p + steps)) (le-leb (p + steps) (length units) l) ∙ sym (in_a_row_on steps p l))
        (cases_lt (length units) (p + steps))

    one_back : (p k : ℕ) → p < length units → back row (suc p) (suc k) ≡ back row p k
    one_back p k l = let same : suc p - 1 ≡ p = omega arith in back_more row ok (suc p) p k (in_a_row_back (suc p) (omega arith) (omega arith) ∙ ap Some same)

    -- steps back from a position in the row lead as far, where there are so many positions before it, and else nowhere
    back_steps : (steps p : ℕ) → p ≤ length units → steps ≤ p → back row p steps ≡ Some (p - steps)
    back_steps zero p within h = ap Some (omega arith)
    back_steps (suc k) zero within h = absurd (omega arith)
    back_steps (suc k) (suc p) within h = one_back p k (omega arith) ∙ back_steps k p (omega arith) (omega arith) ∙ ap Some (omega arith)

    back_short : (steps p : ℕ) → p ≤ length units → p < steps → back row p steps ≡ None
    back_short zero p within h = absurd (omega arith)
    back_short (suc k) zero within h = back_none row ok 0 k in_a_row_back_first
    back_short (suc k) (suc p) within h = one_back p k (omega arith) ∙ back_short k p (omega arith) (omega arith)

    -- the first step back from past the end is to the end
    back_in : (steps p : ℕ) → 0 < steps → length units < p → back row p steps ≡ back row (length units) (steps - 1)
    back_in steps p some l = back_step row ok p (length units) steps (steps - 1) (omega arith) (in_a_row_back_past p l)

    -- so a position past the end counts as the one after it
    pub in_a_row_back_steps : (steps p : ℕ) → 0 < steps → steps ≤ min p (length units + 1) → back row p steps ≡ Some (min p (length units + 1) - steps)
    in_a_row_back_steps steps p some h = ⊎_elim
        (λ l. back_in steps p some l ∙ back_steps (steps - 1) (length units) (omega arith) (omega arith) ∙ ap Some (omega arith))
        (λ l. back_steps steps p l (omega arith) ∙ ap Some (omega arith))
        (cases_lt (length units) p)

    pub in_a_row_back_short : (steps p : ℕ) → 0 < steps → min p (length units + 1) < steps → back row p steps ≡ None
    in_a_row_back_short steps p some h = ⊎_elim (λ l. back_in steps p some l ∙ back_short (steps - 1) (length units) (omega arith) (omega arith)) (λ l. back_short steps p l (omega arith)) (cases_lt (length units) p)

    pub in_a_row_back_checked : (steps p m : ℕ) (r : Option ℕ) → 0 < steps → m ≡ min p (length units + 1) → SomeIff r (steps ≤ m) (m - steps) → r ≡ back row p steps
    in_a_row_back_checked steps p m None some e h = ⊎_elim (λ l. sym (in_a_row_back_short steps p some (omega arith))) (λ l. absurd (h l)) (cases_lt m steps)
    in_a_row_back_checked steps p m (Some at) some e h =
        let reached : at ≡ min p (length units + 1) - steps = omega arith in
        ap Some reached ∙ sym (in_a_row_back_steps steps p some (omega arith))

  -- two positions in order cut the row
  unfoldable in_a_row_cut : (i j : ℕ) → i ≤ j → j ≤ length units → Cut (λ _. 1) codes i j
  in_a_row_cut i j up within =
      let first = front i (omega arith) in
      let fits : j - i ≤ length (drop i units) = omega (arith, length-drop i units) in
      let middle = span_one (map number (take (j - i) (drop i units))) ∙ length-map (take (j - i) (drop i units)) number ∙ length-take-le (j - i) (drop i units) fits in
      record {
        before = map number (take i units);
        between = map number (take (j - i) (drop i units));
        after = map number (drop (j - i) (drop i units));
        whole = split_at i ∙ ap (λ l. map number (take i units) ++ l) (ap (map number) (sym (take-append-drop (j - i) (drop i units))) ∙ map-append number (take (j - i) (drop i units)) (drop (j - i) (drop i units)));
        first = sym first;
        last = omega arith;
      }

  pub in_a_row_part : (i j : ℕ) → i ≤ j → j ≤ length units → cond (cuts row i j) (part row i j) empty ≡ in_a_row (map number (take (j - i) (drop i units)))
  unfolding in_a_row_cut
  in_a_row_part i j up within = part_cut (λ _. 1) (λ _. omega arith) codes i j (in_a_row_cut i j up within)

  pub in_a_row_no_part : (i j : ℕ) → (j < i) ⊎ (length units < j) → cond (cuts row i j) (part row i j) empty ≡ empty
  in_a_row_no_part i j h =
      let out : (leb i j && leb j row.size) ≡ false =
      ⊎_elim (λ l. and_left _ _ (lt-leb i j l)) (λ l. and_right (leb i j) _ (lt-leb j row.size (omega (arith, in_a_row_size)))) h in
      cond-false (cuts row i j) (part row i j) empty (and_left _ _ out)

pub in_a_row_none : {A : Type 0} (number : A → ℕ) → in_a_row (map number []) ≡ empty
in_a_row_none number = refl

-- what a range of the units gives, or none
pub in_a_row_got : {A : Type 0} (number : A → ℕ) (units : List A) (i j : ℕ) (r : Option (Bor (List A))) (none : Bor (List A)) → IsGetRangeResult units i j r → none.now ≡ [] → in_a_row (map number (unwrap_or r none).now) ≡ cond (cuts (in_a_row (map number units)) i j) (part (in_a_row (map number units)) i j) empty
in_a_row_got number units i j None none h e = ap (λ us. in_a_row (map number us)) e ∙ in_a_row_none number ∙ sym (in_a_row_no_part number units i j h.0)
in_a_row_got number units i j (Some x) none h e = ap (λ us. in_a_row (map number us)) h.0.2 ∙ sym (in_a_row_part number units i j h.0.0 h.0.1)

-- what units stand for is the row of the low 31 bits of each
module _ {A : Type 0} (number : A → ℕ) (units : List A) where
  pub row_size : (row_of number units).size ≡ length units
  unfolding row_of
  row_size = in_a_row_size (low number) units

  pub row_item : (p : ℕ) (u : A) → p < length units → u ≡ get_or units p u → item_at (row_of number units) p ≡ Some (low number u)
  unfolding row_of
  row_item = in_a_row_item (low number) units

  pub row_item_past : (p : ℕ) → length units ≤ p → item_at (row_of number units) p ≡ None
  unfolding row_of
  row_item_past = in_a_row_item_past (low number) units

  pub row_from : (p : ℕ) → p ≤ length units → start_from (row_of number units) p ≡ p
  unfolding row_of
  row_from = in_a_row_from (low number) units

  pub row_from_min : (p : ℕ) → start_from (row_of number units) p ≡ min p (length units)
  unfolding row_of
  row_from_min = in_a_row_from_min (low number) units

  pub row_back_first : back (row_of number units) 0 1 ≡ None
  unfolding row_of
  row_back_first = in_a_row_back_first (low number) units

  pub row_back : (p : ℕ) → 0 < p → p ≤ length units → back (row_of number units) p 1 ≡ Some (p - 1)
  unfolding row_of
  row_back = in_a_row_back (low number) units

  pub row_back_past : (p : ℕ) → length units < p → back (row_of number units) p 1 ≡ Some (length units)
  unfolding row_of
  row_back_past = in_a_row_back_past (low number) units

  module _ (few : length units ≤ 65536) where
    pub row_on : (steps p : ℕ) → p + steps ≤ length units → on (row_of number units) p steps ≡ Some (p + steps)
    unfolding row_of
    row_on = in_a_row_on (low number) units few

    pub row_on_none : (steps p : ℕ) → 0 < steps → length units < p + steps → on (row_of number units) p steps ≡ None
    unfolding row_of
    row_on_none = in_a_row_on_none (low number) units few

    pub row_on_tested : (steps p : ℕ) → 0 < steps → then_some (leb (p + steps) (length units)) (p + steps) ≡ on (row_of number units) p steps
    unfolding row_of
    row_on_tested = in_a_row_on_tested (low number) units few

    pub row_back_steps : (steps p : ℕ) → 0 < steps → steps ≤ min p (length units + 1) → back (row_of number units) p steps ≡ Some (min p (length units + 1) - steps)
    unfolding row_of
    row_back_steps = in_a_row_back_steps (low number) units few

    pub row_back_short : (steps p : ℕ) → 0 < steps → min p (length units + 1) < steps → back (row_of number units) p steps ≡ None
    unfolding row_of
    row_back_short = in_a_row_back_short (low number) units few

    pub row_back_checked : (steps p m : ℕ) (r : Option ℕ) → 0 < steps → m ≡ min p (length units + 1) → SomeIff r (steps ≤ m) (m - steps) → r ≡ back (row_of number units) p steps
    unfolding row_of
    row_back_checked = in_a_row_back_checked (low number) units few

  pub row_part : (i j : ℕ) → i ≤ j → j ≤ length units → cond (cuts (row_of number units) i j) (part (row_of number units) i j) empty ≡ row_of number (take (j - i) (drop i units))
  unfolding row_of
  row_part = in_a_row_part (low number) units

  pub row_no_part : (i j : ℕ) → (j < i) ⊎ (length units < j) → cond (cuts (row_of number units) i j) (part (row_of number units) i j) empty ≡ empty
  unfolding row_of
  row_no_part = in_a_row_no_part (low number) units

pub row_none : {A : Type 0} (number : A → ℕ) → row_of number [] ≡ empty
unfolding row_of
row_none number = in_a_row_none (low number)

pub row_got : {A : Type 0} (number : A → ℕ) (units : List A) (i j : ℕ) (r : Option (Bor (List A))) (none : Bor (List A)) → IsGetRangeResult units i j r → none.now ≡ [] → row_of number (unwrap_or r none).now ≡ cond (cuts (row_of number units) i j) (part (row_of number units) i j) empty
unfolding row_of
row_got number = in_a_row_got (low number)
