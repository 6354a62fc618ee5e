-- How the parts of a stream hold together from call to call. Assumes nothing.
use Rattle.std.proofs.Common.{◌≡◌, ℕ, zero, suc, ◌+◌, ◌-◌, ◌<◌, ◌≤◌, Bool, true, false, eqb, ltb, List, [], ◌∷◌, length, ℤ, Some, None, Option, sym, refl, ap, ◌∙◌, subst, ⊎_elim, arith}
use Rattle.std.specs.Option.{option_or}
use Rattle.std.proofs.lemmas.Bool.{lt-ltb, le-ltb, cond-true, cond-false, cases_lt, ne_eqb, false≢true}
use Rattle.tokens.specs.declared.token.Token.{Token}
use Rattle.streams.specs.Streams.{Status, sliding, resting}
use Rattle.streams.specs.declared.mark.Numbering.{Numbering}
use Rattle.streams.specs.Marks.{numbers}
use Rattle.windows.specs.Windows as window
use Rattle.windows.specs.Windows.{View, end, token_of, without}
use Rattle.windows.specs.Held.{Holds, pulled_to, seen_at}
use Rattle.windows.proofs.Held.{token_below, token_held, start_without, end_without, holds_without}
use Rattle.token_streams.specs.Unbuffered.{Unbuffered, token_at, reach, clamped, needed}
use Rattle.token_streams.specs.Settled.{settled_view, settled_before}
use Rattle.token_streams.specs.Shown.{Together}

-- no mark is out, or one is
abbrev pub Frees : Bool → List ℤ → Type 0
Frees true [] = Unit {0}
Frees true (m ∷ ms) = ⊥
Frees false [] = ⊥
Frees false (m ∷ ms) = Unit {0}

pub frees : (how : Numbering) (out : ℕ) → Frees (eqb out 0) (numbers how out)
frees how zero = tt
frees how (suc out) = subst (λ b. Frees b (numbers how (suc out))) (sym (ne_eqb (suc out) 0 (λ e. omega arith))) tt

-- the stream with another status and cursor, its floor at rest
abbrev pub rested : Unbuffered → Status → ℕ → Unbuffered
rested u t i = record { feed = u.feed; status = t; capacity = u.capacity; cursor = i; floor = resting (sliding u.capacity) t.marks i u.floor; pulled = u.pulled }

module _ {u : Unbuffered} {v : View} {coming : List Token} {text : Token → List ℕ} {cursor : ℕ} {before : Option Token} {status : Status} (t : Together u v coming text cursor before status) where
  same_reach : window.reach v ≡ reach u
  same_reach = (λ i. t.same_floor i + t.same_capacity i)

  -- once the token of an index was asked for
  pub together_seen : (w : View) (left : List Token) (words : Token → List ℕ) (index : ℕ) → u.status.opened ≡ true → w.start ≡ v.start → w.capacity ≡ v.capacity → Holds u.feed.list w left → end w ≡ pulled_to (length u.feed.list) v index → words ≡ text → Together (needed u (clamped u index)) w left words cursor before status
  together_seen w left words index is_open start capacity holds all same = record {
    holds = holds;
    same_text = same ∙ t.same_text;
    same_status = t.same_status;
    same_capacity = capacity ∙ t.same_capacity;
    same_cursor = t.same_cursor;
    same_floor = start ∙ t.same_floor;
    same_pulled = omega (arith, all, same_reach, t.same_pulled, t.on_token);
    above_floor = t.above_floor;
    on_token = t.on_token;
    seen = omega (arith, t.seen);
    in_window = omega (arith, t.in_window);
    nothing_yet = λ e. absurd (false≢true (sym e ∙ is_open));
    room = t.room;
    sees = t.sees;
    at_rest = t.at_rest;
    token_before = t.token_before;
  }

  -- and the token that it is seen at
  pub token_seen : (w : View) (left : List Token) (words : Token → List ℕ) (index : ℕ) → Together (needed u (clamped u index)) w left words cursor before status → u.floor ≤ index → clamped u index < reach u → token_of w (clamped u index) ≡ Some (token_at u (clamped u index))
  token_seen w left words index on low near =
      token_held u.feed.list w left on.holds (clamped u index) (omega (arith, on.same_floor, t.above_floor, t.on_token)) (omega (arith, on.same_pulled))

  -- where it is seen
  pub seen_some : (index at : ℕ) → Some at ≡ seen_at (length u.feed.list) v index → (at ≡ clamped u index) × (clamped u index < reach u)
  seen_some index at e = ⊎_elim
      (λ l.
      let is = e ∙ cond-true (ltb (clamped u index) (window.reach v)) (Some (clamped u index)) None (lt-ltb (clamped u index) (window.reach v) l) in
      let same : at ≡ clamped u index = cc in
      (same, omega (arith, l, same_reach)))
      (λ l. let z : ◌≡◌ {A = ℕ} 0 1 = cc (e ∙ cond-false (ltb (clamped u index) (window.reach v)) (Some (clamped u index)) None (le-ltb (clamped u index) (window.reach v) l)) in absurd (omega arith))
      (cases_lt (clamped u index) (window.reach v))

  pub seen_none : (index : ℕ) → None ≡ seen_at (length u.feed.list) v index → reach u ≤ clamped u index
  seen_none index e = ⊎_elim
      (λ l. let z : ◌≡◌ {A = ℕ} 0 1 = cc (e ∙ cond-true (ltb (clamped u index) (window.reach v)) (Some (clamped u index)) None (lt-ltb (clamped u index) (window.reach v) l)) in absurd (omega arith))
      (λ l. omega (arith, l, same_reach))
      (cases_lt (clamped u index) (window.reach v))

  -- a token that is held
  pub token_shown : (i : ℕ) → u.floor ≤ i → i < u.pulled → token_of v i ≡ Some (token_at u i)
  token_shown i low high = token_held u.feed.list v coming t.holds i (omega (arith, t.same_floor)) (omega (arith, t.same_pulled))

  -- the same, as a call finds it that asks for so many tokens on from its cursor
  module _ (w : View) (left : List Token) (words : Token → List ℕ) (k : ℕ) (is_open : u.status.opened ≡ true) (start : w.start ≡ v.start) (capacity : w.capacity ≡ v.capacity) (after : (list : List Token) → Holds list v coming → Holds list w left) (pulled : (list : List Token) → Holds list v coming → end w ≡ pulled_to (length list) v (cursor + k)) (same : words ≡ text) where
    pub ahead_on : Together (needed u (clamped u (u.cursor + k))) w left words cursor before status
    ahead_on =
        together_seen w left words (u.cursor + k) is_open start capacity (after u.feed.list t.holds)
        (subst (λ n. end w ≡ pulled_to (length u.feed.list) v (n + k)) t.same_cursor (pulled u.feed.list t.holds)) same

    pub ahead_token : clamped u (u.cursor + k) < reach u → token_of w (clamped u (u.cursor + k)) ≡ Some (token_at u (clamped u (u.cursor + k)))
    ahead_token near = token_seen w left words (u.cursor + k) ahead_on (omega (arith, t.above_floor)) near

  pub ahead_at : (k at : ℕ) → ((list : List Token) → Holds list v coming → Some at ≡ seen_at (length list) v (cursor + k)) → (at ≡ clamped u (u.cursor + k)) × (clamped u (u.cursor + k) < reach u)
  ahead_at k at e = seen_some (u.cursor + k) at (subst (λ n. Some at ≡ seen_at (length u.feed.list) v (n + k)) t.same_cursor (e u.feed.list t.holds))

  pub ahead_nowhere : (k : ℕ) → ((list : List Token) → Holds list v coming → None ≡ seen_at (length list) v (cursor + k)) → reach u ≤ clamped u (u.cursor + k)
  ahead_nowhere k e = seen_none (u.cursor + k) (subst (λ n. None ≡ seen_at (length u.feed.list) v (n + k)) t.same_cursor (e u.feed.list t.holds))

  -- the floor comes to the cursor where no mark is out, and stays where one is
  module _ (at : ℕ) (low : u.floor ≤ at) (high : at ≤ u.pulled) (inside : at < length u.feed.list) (is : Status) (same_open : is.opened ≡ u.status.opened) (near : u.status.opened ≡ true → at < reach u) (rest : u.status.opened ≡ false → at ≡ u.cursor) where
    start_at : (without v at).start ≡ at
    start_at = start_without u.feed.list v coming t.holds at (omega (arith, t.same_floor)) (omega (arith, t.same_pulled))

    nearest : 0 < at → option_or (token_of v (at - 1)) before ≡ Some (token_at u (at - 1))
    nearest some = ⊎_elim
        (λ l. ap (λ o. option_or o before) (token_shown (at - 1) (omega arith) (omega arith)))
        (λ l.
        let floor : u.floor ≡ at = omega arith in
        ap (λ o. option_or o before) (token_below v (at - 1) (omega (arith, t.same_floor))) ∙ t.token_before (omega arith) ∙ ap (λ n. Some (token_at u (n - 1))) floor)
        (cases_lt u.floor at)

    pub together_rests : (b : Bool) → Frees b is.marks → (st : Status) → st ≡ is → Together (rested u is at) (settled_view b v at) coming text at (settled_before b v at before) st
    together_rests b f st e = go b is.marks refl f
      where
        go : (b : Bool) (ms : List ℤ) → is.marks ≡ ms → Frees b ms → Together (rested u is at) (settled_view b v at) coming text at (settled_before b v at before) st
        go true [] none f =
            let floor : (rested u is at).floor ≡ at = ap (λ ms. resting (sliding u.capacity) ms at u.floor) none in
            record {
              holds = holds_without u.feed.list v coming t.holds at (omega (arith, t.same_floor)) (omega (arith, t.same_pulled)) inside;
              same_text = t.same_text;
              same_status = e;
              same_capacity = t.same_capacity;
              same_cursor = refl;
              same_floor = start_at ∙ sym floor;
              same_pulled = end_without u.feed.list v coming t.holds at (omega (arith, t.same_floor)) (omega (arith, t.same_pulled)) ∙ t.same_pulled;
              above_floor = omega (arith, floor);
              on_token = inside;
              seen = high;
              in_window = omega (arith, floor, t.in_window);
              nothing_yet = λ c. let d = rest (sym same_open ∙ c) in let e = t.nothing_yet (sym same_open ∙ c) in omega (arith, floor);
              room = λ o. t.room (sym same_open ∙ o);
              sees = λ o. let m = t.room (sym same_open ∙ o) in omega (arith, floor);
              at_rest = λ _. floor;
              token_before = λ some. nearest (omega (arith, floor)) ∙ ap (λ n. Some (token_at u (n - 1))) (sym floor);
            }
        go false (m ∷ ms) some f =
            let floor : (rested u is at).floor ≡ u.floor = ap (λ ms. resting (sliding u.capacity) ms at u.floor) some in
            record {
              holds = t.holds;
              same_text = t.same_text;
              same_status = e;
              same_capacity = t.same_capacity;
              same_cursor = refl;
              same_floor = t.same_floor ∙ sym floor;
              same_pulled = t.same_pulled;
              above_floor = omega (arith, floor);
              on_token = inside;
              seen = high;
              in_window = omega (arith, floor, t.in_window);
              nothing_yet = λ c. let e = t.nothing_yet (sym same_open ∙ c) in omega (arith, floor);
              room = λ o. t.room (sym same_open ∙ o);
              sees = λ o. let n = near (sym same_open ∙ o) in omega (arith, floor);
              at_rest = λ none. let z : ◌≡◌ {A = ℕ} 0 1 = cc in absurd (omega arith);
              token_before = λ l. t.token_before (omega (arith, floor)) ∙ ap (λ n. Some (token_at u (n - 1))) (sym floor);
            }
        go true (m ∷ ms) some f = absurd f
        go false [] none f = absurd f
