-- What a token stream answers is what its symbols answer. Assumes nothing.
use Rattle.std.proofs.Common.{◌≡◌, ℕ, zero, suc, ◌+◌, ◌-◌, ◌<◌, ◌≤◌, min, Bool, true, false, cond, not, ◌&&◌, eqb, ltb, leb, List, [], ◌∷◌, map, reverse, length, get_or, take, drop, ℤ, pos, negsuc, Some, None, filter, Option, sym, refl, ap, ◌∙◌, ⊎_elim, arith}
use Rattle.std.proofs.lemmas.List.{length-take-le, length-reverse, get_or-drop, get_or-take, get_or-map, get_or_past, get_or-reverse}
use Rattle.std.proofs.lemmas.Option.{slice_get-get_or, slice_get_past}
use Rattle.std.proofs.lemmas.Bool.{lt-ltb, le-ltb, eq-eqb, ne_eqb, eqb-false, and_parts, not-true, cond-true, cond-false, cases_lt}
use Rattle.refusals.specs.Answers.{Answer, gives, refuses, unless, if_given}
use Rattle.tokens.specs.declared.token.Token.{Token}
use Rattle.tokens.specs.Tokens as tokens
use Rattle.tokens.specs.Tokens.{ends}
use Rattle.streams.specs.Streams as streams
use Rattle.streams.specs.Streams.{Symbol, Status, Stream, last_of, sliding, resting}
use Rattle.streams.specs.Calls as symbols
use Rattle.streams.specs.Calls.{when_open}
use Rattle.characters.proofs.Kept.{keeps, leaves}
use Rattle.windows.specs.Lists.{stamps, stamped, blank}
use Rattle.windows.proofs.Stamps.{length_stamps, eof_stamped}
use Rattle.token_streams.specs.Unbuffered as unbuffered
use Rattle.token_streams.specs.Unbuffered.{Unbuffered, token_at, eof_index, clamped, needed, moved, with_status}
use Rattle.token_streams.specs.Calls as calls
use Rattle.token_streams.specs.Symbols.{symbol, stream_of}
use Rattle.token_streams.specs.Keeps.{eof_same, count, here, index_at}

abbrev done : Answer (Unit {0})
done = gives tt

module _ (u : Unbuffered) (ended : ends u.feed.list ≡ true) (on_token : u.cursor < length u.feed.list) where
  ys : List Symbol
  ys = map symbol (unbuffered.tokens u)

  -- the last symbol is the EOF's
  last_is : (i : ℕ) (ks : List Token) → 0 < length ks → last_of (map symbol (stamps i ks)) ≡ get_or (map symbol (stamps i ks)) (length ks - 1) (last_of (map symbol (stamps i ks)))
  last_is i [] h = absurd (omega arith)
  last_is i (k ∷ []) h = refl
  last_is i (k ∷ l ∷ ks) h =
      let less : length (k ∷ l ∷ ks) - 1 ≡ suc (length (l ∷ ks) - 1) = omega arith in
      last_is (suc i) (l ∷ ks) (omega arith) ∙ ap (λ n. get_or (map symbol (stamps i (k ∷ l ∷ ks))) n (last_of (map symbol (stamps (suc i) (l ∷ ks))))) (sym less)

  at : (i : ℕ) (d : Symbol) → i < length u.feed.list → get_or (map symbol (unbuffered.tokens u)) i d ≡ symbol (token_at u i)
  at i d h = get_or-map symbol (unbuffered.tokens u) i blank d (omega (arith, length_stamps 0 u.feed.list))

  last_symbol : last_of (map symbol (unbuffered.tokens u)) ≡ symbol (token_at u (eof_index u))
  last_symbol = last_is 0 u.feed.list (omega arith) ∙ at (eof_index u) _ (omega arith)

  -- a symbol of the whole list, or the EOF past its end
  pub wherever : (i : ℕ) → get_or (map symbol (unbuffered.tokens u)) i (last_of (map symbol (unbuffered.tokens u))) ≡ symbol (token_at u (clamped u i))
  wherever i = ⊎_elim
      (λ l. at i _ l ∙ ap (λ n. symbol (token_at u n)) (let same : i ≡ clamped u i = omega arith in same))
      (λ l. get_or_past (map symbol (unbuffered.tokens u)) i _ (omega (arith, count u)) ∙ last_symbol ∙ ap (λ n. symbol (token_at u n)) (let same : eof_index u ≡ clamped u i = omega arith in same))
      (cases_lt i (length u.feed.list))

  pub ahead_is : (k : ℕ) → streams.ahead (stream_of u) k ≡ symbol (token_at u (clamped u (u.cursor + k)))
  ahead_is k = get_or-drop u.cursor (map symbol (unbuffered.tokens u)) k _ ∙ wherever (u.cursor + k)

  pub index_clamped : (i : ℕ) → (symbol (token_at u (clamped u i))).index ≡ clamped u i
  index_clamped i = index_at u (clamped u i) (omega arith)

  pub eof_is : (i : ℕ) → i < length u.feed.list → streams.is_eof (symbol (token_at u i)) ≡ eqb (suc i) (length u.feed.list)
  eof_is i h = eof_same (token_at u i).token_type ∙ eof_stamped u.feed.list i ended h

  -- the tokens before the cursor
  pub behind_some : (k : ℕ) → k < u.cursor → streams.behind (stream_of u) k ≡ Some (symbol (token_at u (u.cursor - suc k)))
  behind_some k h =
      let all = map symbol (unbuffered.tokens u) in
      let front = take u.cursor all in
      let long : length front ≡ u.cursor = length-take-le u.cursor all (omega (arith, count u)) in
      let d = symbol blank in
      let back : length front - 1 - k ≡ u.cursor - suc k = omega (arith, long) in
      slice_get-get_or (reverse front) k d (omega (arith, long, length-reverse front))
      ∙ ap Some (get_or-reverse front k d (omega (arith, long)) ∙ ap (λ n. get_or front n d) back ∙ get_or-take u.cursor all (u.cursor - suc k) d (omega arith) ∙ at (u.cursor - suc k) d (omega arith))

  pub behind_none : (k : ℕ) → u.cursor ≤ k → streams.behind (stream_of u) k ≡ None
  behind_none k h =
      let all = map symbol (unbuffered.tokens u) in
      let front = take u.cursor all in
      let long : length front ≡ u.cursor = length-take-le u.cursor all (omega (arith, count u)) in
      slice_get_past (reverse front) k (omega (arith, long, length-reverse front))

  -- how many symbols lie before an index
  place_from : (j : ℕ) (ks : List Token) (i : ℕ) → ends ks ≡ true → streams.place (map symbol (stamps j ks)) i ≡ min (i - j) (length ks - 1)
  place_from j [] i e = omega arith
  place_from j (k ∷ []) i e =
      ap length (leaves (λ y. not (streams.is_eof y) && ltb y.index i) (symbol (stamped j k)) [] (ap (λ b. not b && ltb j i) (eof_same k.token_type ∙ e)))
      ∙ (let none : 0 ≡ min (i - j) (length (k ∷ []) - 1) = omega arith in none)
  place_from j (k ∷ l ∷ ks) i e =
      let parts = and_parts (not (tokens.is_eof k)) (ends (l ∷ ks)) e in
      let test : Symbol → Bool = λ y. not (streams.is_eof y) && ltb y.index i in
      let more = map symbol (stamps (suc j) (l ∷ ks)) in
      let is : test (symbol (stamped j k)) ≡ ltb j i = ap (λ b. not b && ltb j i) (eof_same k.token_type ∙ not-true (tokens.is_eof k) parts.0) in
      let rest = place_from (suc j) (l ∷ ks) i parts.1 in
      ⊎_elim
      (λ low. ap length (keeps test (symbol (stamped j k)) more (is ∙ lt-ltb j i low)) ∙ (let on : suc (length (filter test more)) ≡ min (i - j) (length (k ∷ l ∷ ks) - 1) = omega (arith, rest) in on))
      (λ high. ap length (leaves test (symbol (stamped j k)) more (is ∙ le-ltb j i high)) ∙ (let on : length (filter test more) ≡ min (i - j) (length (k ∷ l ∷ ks) - 1) = omega (arith, rest) in on))
      (cases_lt j i)

  pub place_is : (i : ℕ) → streams.place (map symbol (unbuffered.tokens u)) i ≡ clamped u i
  place_is i = place_from 0 u.feed.list i ended ∙ (let same : min (i - 0) (length u.feed.list - 1) ≡ clamped u i = omega arith in same)

  typed_when : (a : Answer (Option Token)) (b : Bool) → calls.typed (unless (not b) 9 a) ≡ unless (not b) 9 (calls.typed a)
  typed_when a true = refl
  typed_when a false = refl

  typed_unless : (a : Answer (Option Token)) (n : ℕ) (b : Bool) → unless b n (calls.typed a) ≡ calls.typed (unless b n a)
  typed_unless a n true = refl
  typed_unless a n false = refl

  -- a look back
  seen_same : (k : ℕ) → symbols.seen (stream_of u) k (pos 0) (streams.behind (stream_of u) k) ≡ calls.typed (calls.behind u (suc k))
  seen_same k = ⊎_elim
      (λ h.
      let back = u.cursor - suc k in
      let token = token_at u back in
      ap (symbols.seen (stream_of u) k (pos 0)) (behind_some k h)
      ∙ (λ i. unless (further k i && ltb (index_at u back (omega arith) i) u.floor) 4 (gives token.token_type))
      ∙ typed_unless (gives (Some token)) 4 (ltb 1 (suc k) && ltb back u.floor)
      ∙ ap calls.typed (sym (cond-false (ltb u.cursor (suc k)) (gives None) _ (le-ltb u.cursor (suc k) h))))
      (λ h.
      ap (symbols.seen (stream_of u) k (pos 0)) (behind_none k h)
      ∙ ap calls.typed (sym (cond-true (ltb u.cursor (suc k)) (gives None) _ (lt-ltb u.cursor (suc k) (omega arith)))))
      (cases_lt k u.cursor)
    where
      further : (k : ℕ) → not (eqb k 0) ≡ ltb 1 (suc k)
      further zero = refl
      further (suc k) = ap not (ne_eqb (suc k) 0 (λ e. omega arith)) ∙ sym (lt-ltb 1 (suc (suc k)) (omega arith))

  looked_same : (k : ℤ) → symbols.looked (stream_of u) (pos 0) k ≡ calls.typed (calls.looked u k)
  looked_same (pos zero) = refl
  looked_same (pos (suc k)) =
      let c = clamped u (u.cursor + k) in
      (λ i. unless (leb (unbuffered.reach u) (ahead_is k i).index) 3 (gives (ahead_is k i).number))
      ∙ ap (λ n. unless (leb (unbuffered.reach u) n) 3 (gives (token_at u c).token_type)) (index_clamped (u.cursor + k))
      ∙ typed_unless (gives (Some (token_at u c))) 3 (leb (unbuffered.reach u) c)
  looked_same (negsuc k) = seen_same k

  pub la_same : (k : ℤ) → symbols.la (stream_of u) (pos 0) k ≡ calls.la u k
  la_same k = ap (when_open u.status) (looked_same k) ∙ sym (typed_when (calls.looked u k) u.status.opened)

  here_index : (streams.ahead (stream_of u) 0).index ≡ u.cursor
  here_index = ap (λ y. y.index) (here u _ u.cursor on_token) ∙ index_at u u.cursor on_token

  pub index_same : symbols.index_answer (stream_of u) ≡ calls.index_of u
  index_same = ap (λ n. when_open u.status (gives (pos n))) here_index

  -- a move
  pub moved_same : (n : ℕ) → n < length u.feed.list → streams.moved (stream_of u) n ≡ stream_of (moved u n)
  moved_same n h =
      let s = stream_of u in
      let there : (get_or (drop n s.symbols) 0 (last_of s.symbols)).index ≡ n = ap (λ y. y.index) (here u (last_of s.symbols) n h) ∙ index_at u n h in
      ap (λ i. record { status = u.status; symbols = s.symbols; cursor = n; floor = resting (sliding u.capacity) u.status.marks i u.floor; sight = sliding u.capacity }) there

  pub marks_same : (ms : List ℤ) → streams.with_marks (stream_of u) ms ≡ stream_of (with_status u (symbols.status_with u.status ms))
  marks_same ms =
      ap (λ i. record { status = symbols.status_with u.status ms; symbols = (stream_of u).symbols; cursor = u.cursor; floor = resting (sliding u.capacity) ms i u.floor; sight = sliding u.capacity }) here_index

  -- consume
  last_same : streams.is_eof (streams.ahead (stream_of u) 0) ≡ eqb u.cursor (eof_index u)
  last_same = ap streams.is_eof (here u _ u.cursor on_token) ∙ eof_is u.cursor on_token ∙ ⊎_elim
      (λ l. ne_eqb (suc u.cursor) (length u.feed.list) (λ e. omega arith) ∙ sym (ne_eqb u.cursor (eof_index u) (λ e. omega arith)))
      (λ l. eq-eqb (suc u.cursor) (length u.feed.list) (omega arith) ∙ sym (eq-eqb u.cursor (eof_index u) (omega arith)))
      (cases_lt u.cursor (eof_index u))

  next_same : (b : Bool) → eqb u.cursor (eof_index u) ≡ b → unless b 2 (unless (streams.beyond (stream_of u) (streams.ahead (stream_of u) 1).index) 3 done) ≡ unless b 2 (unless (leb (unbuffered.reach u) (u.cursor + 1)) 3 done)
  next_same true e = refl
  next_same false e =
      let apart = eqb-false u.cursor (eof_index u) e in
      let on : clamped u (u.cursor + 1) ≡ u.cursor + 1 = ⊎_elim (λ l. omega arith) (λ l. absurd (apart (omega arith))) (cases_lt u.cursor (eof_index u)) in
      ap (λ n. unless (leb (unbuffered.reach u) n) 3 (gives tt)) (ap (λ y. y.index) (ahead_is 1) ∙ index_clamped (u.cursor + 1) ∙ on)

  pub consume_same : symbols.consume (stream_of u) ≡ calls.consume u
  consume_same =
      ap (when_open u.status)
      (ap (λ b. unless b 2 (unless (streams.beyond (stream_of u) (streams.ahead (stream_of u) 1).index) 3 (gives tt))) last_same ∙ next_same (eqb u.cursor (eof_index u)) refl)

  -- a consume that is given leads to a token
  consume_inside : (b c d : Bool) → u.status.opened ≡ b → eqb u.cursor (eof_index u) ≡ c → leb (unbuffered.reach u) (u.cursor + 1) ≡ d → unless (not b) 9 (unless c 2 (unless d 3 done)) ≡ done → (u.status.opened ≡ true) × (u.cursor + 1 < length u.feed.list)
  consume_inside false c d o e f g = let z : ◌≡◌ {A = ℕ} 0 1 = cc in absurd (omega arith)
  consume_inside true true d o e f g = let z : ◌≡◌ {A = ℕ} 0 1 = cc in absurd (omega arith)
  consume_inside true false d o e f g =
      let apart = eqb-false u.cursor (eof_index u) e in
      (o, ⊎_elim (λ l. omega arith) (λ l. absurd (apart (omega arith))) (cases_lt u.cursor (eof_index u)))

  pub consumed_same : symbols.consumed (stream_of u) ≡ stream_of (calls.after_consume u)
  consumed_same = go (calls.consume u) refl
    where
      stays : (b : Bool) → stream_of u ≡ stream_of (cond b (needed u (clamped u (u.cursor + 1))) u)
      stays true = refl
      stays false = refl

      go : (a : Answer (Unit {0})) → calls.consume u ≡ a → symbols.consumed (stream_of u) ≡ stream_of (calls.after_consume u)
      go (gives x) e =
          let inside = consume_inside u.status.opened (eqb u.cursor (eof_index u)) (leb (unbuffered.reach u) (u.cursor + 1)) refl refl refl e in
          let seen = needed u (clamped u (u.cursor + 1)) in
          ap (λ a. if_given a (streams.moved (stream_of u) (u.cursor + 1)) (stream_of u)) (consume_same ∙ e)
          ∙ moved_same (u.cursor + 1) inside.1
          ∙ ap (λ a. stream_of (if_given a (moved seen (u.cursor + 1)) seen)) (sym e)
          ∙ ap stream_of (sym (cond-true u.status.opened (if_given (calls.consume u) (moved seen (u.cursor + 1)) seen) u inside.0))
      go (refuses n) e =
          let seen = needed u (clamped u (u.cursor + 1)) in
          ap (λ a. if_given a (streams.moved (stream_of u) (u.cursor + 1)) (stream_of u)) (consume_same ∙ e)
          ∙ stays u.status.opened
          ∙ ap (λ a. stream_of (cond u.status.opened (if_given a (moved seen (u.cursor + 1)) seen) u)) (sym e)

  -- seek
  target_index : (i : ℕ) → (symbols.target (stream_of u) i).index ≡ clamped u i
  target_index i =
      let again : clamped u (clamped u i) ≡ clamped u i = omega arith in
      ap (λ y. y.index) (ap (λ n. get_or (stream_of u).symbols n (last_of (stream_of u).symbols)) (place_is i) ∙ wherever (clamped u i)) ∙ index_clamped (clamped u i) ∙ again

  sought_same : (i : ℕ) → symbols.sought (stream_of u) (pos i) ≡ unless (ltb i u.floor) 4 (unless (leb (unbuffered.reach u) (clamped u i)) 3 (gives (clamped u i)))
  sought_same i = (λ j. unless (ltb i u.floor) 4 (unless (leb (unbuffered.reach u) (target_index i j)) 3 (gives (place_is i j))))

  seek_cases : (o low far : Bool) (n : ℕ) → symbols.arrives (unless (not o) 9 (unless low 4 (unless far 3 (gives n)))) ≡ unless (not o) 9 (unless low 4 (unless far 3 done))
  seek_cases false low far n = refl
  seek_cases true true far n = refl
  seek_cases true false true n = refl
  seek_cases true false false n = refl

  refused_cases : (o : Bool) → symbols.arrives (unless (not o) 9 (refuses 5)) ≡ unless (not o) 9 (refuses 5)
  refused_cases true = refl
  refused_cases false = refl

  pub seek_same : (i : ℤ) → symbols.seek (stream_of u) i ≡ calls.seek u i
  seek_same (pos i) = ap (λ a. symbols.arrives (when_open u.status a)) (sought_same i) ∙ seek_cases u.status.opened (ltb i u.floor) (leb (unbuffered.reach u) (clamped u i)) (clamped u i)
  seek_same (negsuc i) = refused_cases u.status.opened

  went_cases : (i : ℕ) (o low far : Bool) → symbols.went (stream_of u) (unless (not o) 9 (unless low 4 (unless far 3 (gives (clamped u i))))) ≡ stream_of (cond o (cond low u (if_given (unless low 4 (unless far 3 done)) (moved (needed u (clamped u i)) (clamped u i)) (needed u (clamped u i)))) u)
  went_cases i false low far = refl
  went_cases i true true far = refl
  went_cases i true false true = refl
  went_cases i true false false = moved_same (clamped u i) (omega arith)

  refused_stays : (o : Bool) → symbols.went (stream_of u) (unless (not o) 9 (refuses 5)) ≡ stream_of u
  refused_stays true = refl
  refused_stays false = refl

  pub sought_out_same : (i : ℤ) → symbols.sought_out (stream_of u) i ≡ stream_of (calls.after_seek u i)
  sought_out_same (pos i) = ap (λ a. symbols.went (stream_of u) (when_open u.status a)) (sought_same i) ∙ went_cases i u.status.opened (ltb i u.floor) (leb (unbuffered.reach u) (clamped u i))
  sought_out_same (negsuc i) = refused_stays u.status.opened

-- no call alters the list or the texts
pub feed_lt : (u : Unbuffered) (k : ℤ) → (calls.after_lt u k).feed ≡ u.feed
feed_lt u k = go u.status.opened k
  where
    go : (b : Bool) (k : ℤ) → (cond b (calls.looked_for u k) u).feed ≡ u.feed
    go true (pos zero) = refl
    go true (pos (suc k)) = refl
    go true (negsuc k) = refl
    go false k = refl

pub feed_consume : (u : Unbuffered) → (calls.after_consume u).feed ≡ u.feed
feed_consume u = go u.status.opened (calls.consume u)
  where
    go : (b : Bool) (a : Answer (Unit {0})) → (cond b (if_given a (moved (needed u (clamped u (u.cursor + 1))) (u.cursor + 1)) (needed u (clamped u (u.cursor + 1)))) u).feed ≡ u.feed
    go true (gives x) = refl
    go true (refuses n) = refl
    go false a = refl

pub feed_seek : (u : Unbuffered) (i : ℤ) → (calls.after_seek u i).feed ≡ u.feed
feed_seek u (negsuc i) = refl
feed_seek u (pos i) = go u.status.opened (ltb i u.floor) (calls.sought u i)
  where
    go : (b c : Bool) (a : Answer (Unit {0})) → (cond b (cond c u (if_given a (moved (needed u (clamped u i)) (clamped u i)) (needed u (clamped u i)))) u).feed ≡ u.feed
    go true true a = refl
    go true false (gives x) = refl
    go true false (refuses n) = refl
    go false c a = refl
