-- What each call answers and leaves, by the position that is shown. Assumes nothing.
use Rattle.std.proofs.Common.{◌≡◌, ℕ, suc, ◌+◌, ◌-◌, ◌≤◌, List, [], reverse, length, ℤ, pos, negsuc, nat_abs, ◌<ℤ◌, Some, None, Less, Greater, int_cmp, sym, refl, ap, ◌∙◌, arith}
use Rattle.std.specs.List.{slice_get}
use Rattle.std.proofs.lemmas.Cmp.{int_ranked}
use Rattle.std.proofs.lemmas.Int.{ints}
use Rattle.std.proofs.lemmas.Bool.{le-ltb}
use Rattle.refusals.specs.Answers.{gives, refuses, unless, if_given}
use Rattle.characters.specs.Text.{Text, Lawful, start_from, item_at, on, back}
use Rattle.characters.proofs.Starts.{start_from_start, start_from_within}
use Rattle.characters.proofs.Onward.{onward_all, onward_some}
use Rattle.streams.specs.Streams.{Stream, place, ahead, is_eof, minus_one, moved}
use Rattle.streams.specs.Calls.{seen, la, consume, consumed, seek, sought_out, arrives, went, index_answer}
use Rattle.input_streams.specs.Symbols.{symbols, characters, Shows, number_of, number_at, reached}
use Rattle.input_streams.proofs.Around.{place_and_rest, from_cursor, to_cursor, place_start}
use Rattle.input_streams.proofs.Looks.{number_on, number_back, index_here}

-- a number that a caller passed counts symbols ahead, or behind
pub counts_ahead : (k : ℤ) → Greater ≡ int_cmp k (pos 0) → k ≡ pos (suc (nat_abs k - 1))
counts_ahead k h = let above : pos 0 <ℤ k = int_ranked k (pos 0) Greater h in omega (arith, ints)

pub counts_behind : (k : ℤ) → Less ≡ int_cmp k (pos 0) → (n : ℕ) × (k ≡ negsuc n) × (nat_abs k ≡ suc n)
counts_behind (pos n) h = let below : pos n <ℤ pos 0 = int_ranked (pos n) (pos 0) Less h in absurd (omega (arith, ints))
counts_behind (negsuc n) h = (n, refl, refl)

module _ (t : Text) (ok : Lawful t) where
  -- every start fits
  pub start_small : (i n : ℕ) → i ≡ start_from t n → i ≤ 65536
  start_small i n e = omega (arith, start_from_within t ok n, ok.few)

  pub start_is : (i n : ℕ) → i ≡ start_from t n → start_from t i ≡ i
  start_is i n e = ap (start_from t) e ∙ start_from_start t ok n ∙ sym e

  -- the first symbol
  place_first : place (symbols t) (start_from t 0) ≡ 0
  place_first = place_start t ok 0 ∙ omega (arith, place_and_rest t 0, ap length (onward_all t ok))

  pub shows_front : (i : ℕ) (marks : List ℤ) → i ≡ start_from t 0 → Shows t i marks (characters t marks 0)
  shows_front i marks at = record { stream = ap (characters t marks) (sym (ap (place (symbols t)) at ∙ place_first)); start = start_is i 0 at }

  pub shows_first : (i : ℕ) (marks : List ℤ) → i ≡ start_from t 0 → marks ≡ [] → Shows t i marks (characters t [] 0)
  shows_first i marks at none = record {
    stream = (λ j. characters t (sym none j) (sym (ap (place (symbols t)) at ∙ place_first) j));
    start = start_is i 0 at;
  }

  -- the next symbol
  place_next : (i c : ℕ) → item_at t i ≡ Some c → place (symbols t) i + 1 ≡ place (symbols t) (start_from t (suc i))
  place_next i c e = omega (arith, place_and_rest t i, place_and_rest t (start_from t (suc i)), ap length (onward_some t ok i c e))

  -- no index lies below the floor, and none at or above a reach
  goes_to : (marks : List ℤ) (n k : ℕ) → sought_out (characters t marks n) (pos k) ≡ characters t marks (place (symbols t) k)
  goes_to marks n k = ap (λ b. went (characters t marks n) (unless b 4 (gives (place (symbols t) k)))) (le-ltb k 0 (omega arith))

  arrives_at : (marks : List ℤ) (n k : ℕ) → seek (characters t marks n) (pos k) ≡ gives tt
  arrives_at marks n k = ap (λ b. arrives (unless b 4 (gives (place (symbols t) k)))) (le-ltb k 0 (omega arith))

module _ (t : Text) (ok : Lawful t) (i : ℕ) (marks : List ℤ) (s : Stream) (shown : Shows t i marks s) where
  pub looked_ahead : (k : ℤ) (n : ℕ) (z : ℤ) → k ≡ pos (suc n) → z ≡ reached t (negsuc 0) (on t i n) → gives z ≡ la s (negsuc 0) k
  looked_ahead k n z e v =
      ap gives (v ∙ sym (number_on t ok n i shown.start) ∙ sym (ap (λ y. y.number) (from_cursor t ok i n)))
      ∙ (λ j. la (sym shown.stream j) (negsuc 0) (sym e j))

  pub looked_behind : (k : ℤ) (n m : ℕ) (z : ℤ) → k ≡ negsuc n → m ≡ suc n → z ≡ reached t (negsuc 0) (back t i m) → gives z ≡ la s (negsuc 0) k
  looked_behind k n m z e f v =
      let now = characters t marks (place (symbols t) i) in
      ap gives (v ∙ ap (λ m. reached t (negsuc 0) (back t i m)) f) ∙ sym (number_back t ok now refl n i (negsuc 0) shown.start)
      ∙ ap (λ ys. seen now n (negsuc 0) (slice_get (reverse ys) n)) (sym (to_cursor t ok i))
      ∙ (λ j. la (sym shown.stream j) (negsuc 0) (sym e j))

  pub index_is : gives (pos i) ≡ index_answer s
  index_is = ap (λ n. gives (pos n)) (sym (ap (λ y. y.index) (from_cursor t ok i 0) ∙ index_here t ok i shown.start)) ∙ ap index_answer (sym shown.stream)

  -- whether the cursor is on the EOF
  on_eof : is_eof (ahead (characters t marks (place (symbols t) i)) 0) ≡ minus_one (number_at t i)
  on_eof = ap minus_one (ap (λ y. y.number) (from_cursor t ok i 0) ∙ number_on t ok 0 i shown.start)

  pub not_consumed : item_at t i ≡ None → (refuses 2 ≡ consume s) × Shows t i marks (consumed s)
  not_consumed e =
      let now = characters t marks (place (symbols t) i) in
      let refused : consume now ≡ refuses 2 = ap (λ b. unless b 2 (gives tt)) (on_eof ∙ ap (λ r. minus_one (number_of r)) e) in (
        sym refused ∙ ap consume (sym shown.stream),
        record {
          stream = ap consumed shown.stream ∙ ap (λ a. if_given a (moved now (now.cursor + 1)) now) refused;
          start = shown.start;
        },
      )

  pub is_consumed : (c next : ℕ) → item_at t i ≡ Some c → next ≡ start_from t (suc i) → (gives tt ≡ consume s) × Shows t next marks (consumed s)
  is_consumed c next e at =
      let now = characters t marks (place (symbols t) i) in
      let granted : consume now ≡ gives tt = ap (λ b. unless b 2 (gives tt)) (on_eof ∙ ap (λ r. minus_one (number_of r)) e) in (
        sym granted ∙ ap consume (sym shown.stream),
        record {
          stream = ap consumed shown.stream ∙ ap (λ a. if_given a (moved now (now.cursor + 1)) now) granted ∙ ap (characters t marks) (place_next t ok i c e ∙ ap (place (symbols t)) (sym at));
          start = start_is t ok next (suc i) at;
        },
      )

  pub is_sought : (k : ℤ) (n next : ℕ) → k ≡ pos n → next ≡ start_from t n → (gives tt ≡ seek s k) × Shows t next marks (sought_out s k)
  is_sought k n next e at = (
    sym (arrives_at t ok marks (place (symbols t) i) n) ∙ (λ j. seek (sym shown.stream j) (sym e j)),
    record {
      stream = (λ j. sought_out (shown.stream j) (e j)) ∙ goes_to t ok marks (place (symbols t) i) n ∙ ap (characters t marks) (sym (ap (place (symbols t)) at ∙ place_start t ok n));
      start = start_is t ok next n at;
    },
  )

  pub is_reset : (next : ℕ) → next ≡ start_from t 0 → Shows t next marks (moved s 0)
  is_reset next at = record {
    stream = ap (λ s. moved s 0) shown.stream ∙ ap (characters t marks) (sym (ap (place (symbols t)) at ∙ place_first t ok));
    start = start_is t ok next 0 at;
  }
