-- What follows from what is held. Assumes nothing.
use Rattle.std.proofs.Common.{◌≡◌, ℕ, suc, ◌+◌, ◌-◌, ◌<◌, ◌≤◌, min, true, false, eqb, ltb, ◌⊎◌, List, [], ◌∷◌, ◌++◌, length, get_or, take, drop, Some, None, sym, ap, ◌∙◌, inl, inr, ⊎_elim, add-one, arith}
use Rattle.std.specs.List.{between}
use Rattle.std.proofs.lemmas.List.{length_push, length-drop, drop_more, drop-drop, drop-take}
use Rattle.std.proofs.lemmas.List.Edits.{between_more, get_or-between}
use Rattle.std.proofs.lemmas.Option.{slice_get-get_or, slice_get_past}
use Rattle.std.proofs.lemmas.Bool.{lt-ltb, le-ltb, eqb-true, eqb-false, cond-true, cond-false, cases_lt, false≢true}
use Rattle.tokens.specs.declared.token.Token.{Token}
use Rattle.tokens.specs.Sources.{Pulls}
use Rattle.windows.specs.Lists.{stamped, stamps, blank}
use Rattle.windows.specs.Windows.{View, end, full, pushed, token_of, without}
use Rattle.windows.specs.Held.{Holds, eof_is, at_end}
use Rattle.windows.proofs.Stamps.{length_stamps, eof_stamped}

-- a window's token by its index
pub token_below : (v : View) (i : ℕ) → i < v.start → token_of v i ≡ None
token_below v i h = cond-true (ltb i v.start) None _ (lt-ltb i v.start h)

pub token_inside : (v : View) (i : ℕ) → v.start ≤ i → i < end v → token_of v i ≡ Some (get_or v.tokens (i - v.start) blank)
token_inside v i low high = cond-false (ltb i v.start) None _ (le-ltb i v.start low) ∙ slice_get-get_or v.tokens (i - v.start) blank (omega arith)

pub token_past : (v : View) (i : ℕ) → end v ≤ i → token_of v i ≡ None
token_past v i h = cond-false (ltb i v.start) None _ (le-ltb i v.start (omega arith)) ∙ slice_get_past v.tokens (i - v.start) (omega arith)

module _ (list : List Token) (v : View) (coming : List Token) (h : Holds list v coming) where
  pub held_at : (i : ℕ) → v.start ≤ i → i < end v → get_or v.tokens (i - v.start) blank ≡ get_or (stamps 0 list) i blank
  held_at i low high =
      let at : v.start + (i - v.start) ≡ i = omega arith in
      ap (λ ks. get_or ks (i - v.start) blank) h.held
      ∙ get_or-between (stamps 0 list) v.start (end v) (i - v.start) blank (omega arith) ∙ ap (λ n. get_or (stamps 0 list) n blank) at

  pub token_held : (i : ℕ) → v.start ≤ i → i < end v → token_of v i ≡ Some (get_or (stamps 0 list) i blank)
  token_held i low high = token_inside v i low high ∙ ap Some (held_at i low high)

  -- the last token held is the EOF just where all were pulled
  at_end_is : at_end v ≡ eqb (end v) (length list) ⊎ (length v.tokens ≡ 0)
  at_end_is = ⊎_elim none some (cases_lt (length v.tokens) 1)
    where
      none : length v.tokens < 1 → at_end v ≡ eqb (end v) (length list) ⊎ (length v.tokens ≡ 0)
      none l = inr (omega arith)

      some : 1 ≤ length v.tokens → at_end v ≡ eqb (end v) (length list) ⊎ (length v.tokens ≡ 0)
      some l =
          let last : suc (end v - 1) ≡ end v = omega arith in
          let inside : end v - 1 < length list = omega (arith, h.within) in
          inl (ap eof_is (token_held (end v - 1) (omega arith) (omega arith)) ∙ eof_stamped list (end v - 1) h.ended inside ∙ ap (λ n. eqb n (length list)) last)

  empty_open : length v.tokens ≡ 0 → at_end v ≡ false
  empty_open e = ap eof_is (⊎_elim below past (cases_lt (end v - 1) v.start))
    where
      below : end v - 1 < v.start → token_of v (end v - 1) ≡ None
      below l = token_below v (end v - 1) l

      past : v.start ≤ end v - 1 → token_of v (end v - 1) ≡ None
      past l = token_past v (end v - 1) (omega arith)

  pub at_end_all : at_end v ≡ true → end v ≡ length list
  at_end_all e = ⊎_elim (λ is. eqb-true (end v) (length list) (sym is ∙ e)) (λ none. absurd (false≢true (sym (empty_open none) ∙ e))) at_end_is

  pub at_end_more : at_end v ≡ false → end v < length list
  at_end_more e = ⊎_elim
      (λ is. let apart = eqb-false (end v) (length list) (sym is ∙ e) in ⊎_elim (λ l. l) (λ l. absurd (apart (omega (arith, h.within)))) (cases_lt (end v) (length list)))
      (λ none. omega (arith, h.begun)) at_end_is

-- the first of what a source has left, with its index
front : (i : ℕ) (coming left : List Token) (k : Token) → Pulls coming k left → stamps i coming ≡ stamped i k ∷ drop 1 (stamps i coming)
front i [] left k p = absurd p
front i (l ∷ []) left k p = ap (λ t. stamped i t ∷ []) (sym p.0)
front i (l ∷ m ∷ ks) left k p = ap (λ t. stamped i t ∷ stamps (suc i) (m ∷ ks)) (sym p.0)

-- and what is left of it
others : (i : ℕ) (coming left : List Token) (k : Token) → Pulls coming k left → 0 < length (drop 1 (stamps i coming)) → drop 1 (stamps i coming) ≡ stamps (suc i) left
others i [] left k p h = absurd p
others i (l ∷ []) left k p h = absurd (omega arith)
others i (l ∷ m ∷ ks) left k p h = ap (stamps (suc i)) (sym p.1)

-- a window that takes a token in
grown : (v : View) (k : Token) → full v ≡ false → pushed v k ≡ record { start = v.start; tokens = v.tokens ++ stamped (end v) k ∷ []; capacity = v.capacity }
grown v k room = ap (λ ks. record { start = v.start; tokens = ks; capacity = v.capacity }) (cond-false (full v) v.tokens _ room)

pub end_grown : (v : View) (k : Token) → full v ≡ false → end (pushed v k) ≡ end v + 1
end_grown v k room = ap end (grown v k room) ∙ omega (arith, length_push v.tokens (stamped (end v) k))

module _ (list : List Token) (v : View) (coming left : List Token) (k : Token) (h : Holds list v coming) (more : end v < length list) (room : full v ≡ false) (p : Pulls coming k left) where
  longer_end : end (pushed v k) ≡ end v + 1
  longer_end = end_grown v k room

  -- one token more is the list's next
  next : drop (end v) (stamps 0 list) ≡ stamped (end v) k ∷ drop 1 (stamps (end v) coming)
  next = h.rest more ∙ front (end v) coming left k p

  next_at : get_or (stamps 0 list) (end v) blank ≡ stamped (end v) k
  next_at =
      let inside : end v < length (stamps 0 list) = omega (arith, length_stamps 0 list) in
      ap (λ ks. get_or ks 0 blank) (sym (drop_more (stamps 0 list) (end v) blank inside) ∙ next)

  rest_at : drop (end v + 1) (stamps 0 list) ≡ drop 1 (stamps (end v) coming)
  rest_at =
      let inside : end v < length (stamps 0 list) = omega (arith, length_stamps 0 list) in
      ap (drop 1) (sym (drop_more (stamps 0 list) (end v) blank inside) ∙ next)

  pub holds_more : Holds list (pushed v k) left
  holds_more = record {
    ended = h.ended;
    few = h.few;
    begun = h.begun;
    within = omega (arith, longer_end);
    held = tokens;
    rest = λ l. ap (λ n. drop n (stamps 0 list)) longer_end ∙ rest_at ∙ others (end v) coming left k p (longer (omega (arith, longer_end))) ∙ ap (λ n. stamps n left) (sym (add-one (end v)) ∙ sym longer_end);
  }
    where
      tokens : (pushed v k).tokens ≡ between v.start (end (pushed v k)) (stamps 0 list)
      tokens =
          let inside : end v < length (stamps 0 list) = omega (arith, length_stamps 0 list) in
          ap (λ u. u.tokens) (grown v k room) ∙ (λ i. h.held i ++ sym next_at i ∷ [])
          ∙ sym (between_more (stamps 0 list) v.start (end v) blank (omega arith) inside) ∙ ap (λ n. between v.start n (stamps 0 list)) (sym longer_end)

      longer : end v + 1 < length list → 0 < length (drop 1 (stamps (end v) coming))
      longer l = omega (arith, ap length rest_at, length-drop (end v + 1) (stamps 0 list), length_stamps 0 list)

-- without its first tokens a window holds the others
module _ (list : List Token) (v : View) (coming : List Token) (h : Holds list v coming) (i : ℕ) (low : v.start ≤ i) (high : i ≤ end v) where
  counted : min (i - v.start) (length v.tokens) ≡ i - v.start
  counted = omega arith

  pub start_without : (without v i).start ≡ i
  start_without = omega (arith, counted)

  tokens_without : (without v i).tokens ≡ drop (i - v.start) v.tokens
  tokens_without = ap (λ n. drop n v.tokens) counted

  pub end_without : end (without v i) ≡ end v
  end_without = omega (arith, start_without, ap length tokens_without, length-drop (i - v.start) v.tokens)

  pub holds_without : i < length list → Holds list (without v i) coming
  holds_without inside = record {
    ended = h.ended;
    few = h.few;
    begun = omega (arith, start_without);
    within = omega (arith, end_without, h.within);
    held = tokens_without ∙ ap (drop (i - v.start)) h.held ∙ inner ∙ (λ n. between (sym start_without n) (sym end_without n) (stamps 0 list));
    rest = λ l. ap (λ n. drop n (stamps 0 list)) end_without ∙ h.rest (omega (arith, end_without)) ∙ ap (λ n. stamps n coming) (sym end_without);
  }
    where
      inner : drop (i - v.start) (between v.start (end v) (stamps 0 list)) ≡ between i (end v) (stamps 0 list)
      inner =
          let size : end v - v.start ≡ i - v.start + (end v - i) = omega arith in
          let at : v.start + (i - v.start) ≡ i = omega arith in
          ap (λ n. drop (i - v.start) (take n (drop v.start (stamps 0 list)))) size
          ∙ drop-take (i - v.start) (end v - i) (drop v.start (stamps 0 list))
          ∙ ap (take (end v - i)) (drop-drop (i - v.start) v.start (stamps 0 list) ∙ ap (λ n. drop n (stamps 0 list)) at)
