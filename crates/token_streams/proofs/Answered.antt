-- What each call answers, by the cases of its tests. Assumes nothing.
use Rattle.std.proofs.Common.{◌≡◌, ℕ, suc, ◌+◌, ◌<◌, ◌≤◌, Bool, true, false, not, eqb, ltb, leb, length, ℤ, pos, Some, sym, refl, ap, ◌∙◌, ⊎_elim, arith}
use Rattle.std.proofs.lemmas.Bool.{le-leb, lt-leb, le-ltb, eq-eqb, ne_eqb, cond-true, cond-false, cases_lt}
use Rattle.refusals.specs.Answers.{Answer, gives, refuses, unless, if_given}
use Rattle.streams.specs.Streams.{Status}
use Rattle.streams.specs.Calls.{when_open}
use Rattle.token_streams.specs.Unbuffered.{Unbuffered, token_at, eof_index, reach, clamped, needed, moved}
use Rattle.token_streams.specs.Calls.{ahead, lt, consume, after_consume, sought, after_sought}

pub when_opened : {A : Type 0} (t : Status) (a : Answer A) → t.opened ≡ true → a ≡ when_open t a
when_opened t a e = ap (λ b. unless (not b) 9 a) (sym e)

module _ (u : Unbuffered) where
  pub ahead_some : (k : ℕ) → clamped u (u.cursor + k) < reach u → gives (Some (token_at u (clamped u (u.cursor + k)))) ≡ ahead u k
  ahead_some k h = sym (cond-false (leb (reach u) (clamped u (u.cursor + k))) (refuses 3) _ (lt-leb (reach u) (clamped u (u.cursor + k)) h))

  module _ (is_open : u.status.opened ≡ true) where
    pub lt_ahead : (k : ℤ) (n : ℕ) → k ≡ pos (suc n) → ahead u n ≡ lt u k
    lt_ahead k n e = when_opened u.status (ahead u n) is_open ∙ ap (lt u) (sym e)

    -- a consume, once the next token was looked for
    consume_tests : (last full : Bool) → eqb u.cursor (eof_index u) ≡ last → leb (reach u) (u.cursor + 1) ≡ full → consume u ≡ unless last 2 (unless full 3 (gives tt))
    consume_tests last full l f = sym (when_opened u.status (unless (eqb u.cursor (eof_index u)) 2 (unless (leb (reach u) (u.cursor + 1)) 3 (gives tt))) is_open) ∙ (λ i. unless (l i) 2 (unless (f i) 3 (gives tt)))

    after_tests : (a : Answer (Unit {0})) → consume u ≡ a → after_consume u ≡ if_given a (moved (needed u (clamped u (u.cursor + 1))) (u.cursor + 1)) (needed u (clamped u (u.cursor + 1)))
    after_tests a e =
        cond-true u.status.opened (if_given (consume u) (moved (needed u (clamped u (u.cursor + 1))) (u.cursor + 1)) (needed u (clamped u (u.cursor + 1)))) u is_open
        ∙ ap (λ a. if_given a (moved (needed u (clamped u (u.cursor + 1))) (u.cursor + 1)) (needed u (clamped u (u.cursor + 1)))) e

    module _ (sees : u.cursor < reach u) (inside : u.cursor < length u.feed.list) where
      pub consume_full : reach u ≤ clamped u (u.cursor + 1) → (consume u ≡ refuses 3) × (after_consume u ≡ needed u (clamped u (u.cursor + 1)))
      consume_full h =
          let far : u.cursor ≡ eof_index u → ⊥ = λ e. omega arith in
          let is = consume_tests false true (ne_eqb u.cursor (eof_index u) far) (le-leb (reach u) (u.cursor + 1) (omega arith)) in
          (is, after_tests (refuses 3) is)

      pub consume_last : clamped u (u.cursor + 1) ≡ u.cursor → (consume u ≡ refuses 2) × (after_consume u ≡ needed u (clamped u (u.cursor + 1)))
      consume_last h =
          let is = consume_tests true (leb (reach u) (u.cursor + 1)) (eq-eqb u.cursor (eof_index u) (omega arith)) refl in
          (is, after_tests (refuses 2) is)

      pub consume_on : (clamped u (u.cursor + 1) ≡ u.cursor → ⊥) → clamped u (u.cursor + 1) < reach u → (consume u ≡ gives tt) × (after_consume u ≡ moved (needed u (clamped u (u.cursor + 1))) (clamped u (u.cursor + 1)))
      consume_on far h =
          let apart : u.cursor ≡ eof_index u → ⊥ = λ e. far (omega arith) in
          let on : u.cursor + 1 ≡ clamped u (u.cursor + 1) = ⊎_elim (λ l. omega arith) (λ l. absurd (far (omega arith))) (cases_lt u.cursor (eof_index u)) in
          let is = consume_tests false false (ne_eqb u.cursor (eof_index u) apart) (lt-leb (reach u) (u.cursor + 1) (omega arith)) in
          (is, after_tests (gives tt) is ∙ ap (moved (needed u (clamped u (u.cursor + 1)))) on)

  -- a seek to an index
  sought_tests : (i : ℕ) (low full : Bool) → ltb i u.floor ≡ low → leb (reach u) (clamped u i) ≡ full → sought u i ≡ unless low 4 (unless full 3 (gives tt))
  sought_tests i low full l f = (λ j. unless (l j) 4 (unless (f j) 3 (gives tt)))

  after_sought_tests : (i : ℕ) (a : Answer (Unit {0})) → u.floor ≤ i → sought u i ≡ a → after_sought u i ≡ if_given a (moved (needed u (clamped u i)) (clamped u i)) (needed u (clamped u i))
  after_sought_tests i a l e =
      cond-false (ltb i u.floor) u _ (le-ltb i u.floor l)
      ∙ ap (λ a. if_given a (moved (needed u (clamped u i)) (clamped u i)) (needed u (clamped u i))) e

  pub sought_full : (i : ℕ) → u.floor ≤ i → reach u ≤ clamped u i → (sought u i ≡ refuses 3) × (after_sought u i ≡ needed u (clamped u i))
  sought_full i l h =
      let is = sought_tests i false true (le-ltb i u.floor l) (le-leb (reach u) (clamped u i) h) in
      (is, after_sought_tests i (refuses 3) l is)

  pub sought_on : (i : ℕ) → u.floor ≤ i → clamped u i < reach u → (sought u i ≡ gives tt) × (after_sought u i ≡ moved (needed u (clamped u i)) (clamped u i))
  sought_on i l h =
      let is = sought_tests i false false (le-ltb i u.floor l) (lt-leb (reach u) (clamped u i) h) in
      (is, after_sought_tests i (gives tt) l is)
