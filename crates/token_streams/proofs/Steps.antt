-- What the moves of a stream answer and leave, from what they find. Assumes nothing.
use Rattle.std.proofs.Common.{◌≡◌, ℕ, ◌+◌, ◌<◌, ◌≤◌, Bool, true, false, List, length, Some, None, Option, sym, refl, ap, ◌∙◌, subst, arith}
use Rattle.refusals.specs.Answers.{gives, refuses}
use Rattle.tokens.specs.declared.token.Token.{Token}
use Rattle.streams.specs.Streams.{Status}
use Rattle.windows.specs.Windows.{View, end}
use Rattle.windows.specs.Held.{Holds, pulled_to, seen_at}
use Rattle.token_streams.specs.Unbuffered.{Unbuffered, reach, clamped, needed, moved}
use Rattle.token_streams.specs.Calls.{consume, after_consume, sought, after_sought}
use Rattle.token_streams.specs.Settled.{settled_view, settled_before}
use Rattle.token_streams.specs.Shown.{Together}
use Rattle.token_streams.proofs.Together.{together_seen, seen_some, seen_none, ahead_on, ahead_at, ahead_nowhere, Frees, together_rests}
use Rattle.token_streams.proofs.Answered.{consume_full, consume_last, consume_on, sought_full, sought_on}

-- the same parts under other names
pub together_as : {u w : Unbuffered} {v v' : View} {coming coming' : List Token} {text text' : Token → List ℕ} {cursor cursor' : ℕ} {before before' : Option Token} {status status' : Status} → w ≡ u → v' ≡ v → coming' ≡ coming → text' ≡ text → cursor' ≡ cursor → before' ≡ before → status' ≡ status → Together u v coming text cursor before status → Together w v' coming' text' cursor' before' status'
together_as e f g h i j k t = subst (λ A. A) (λ n. Together (sym e n) (sym f n) (sym g n) (sym h n) (sym i n) (sym j n) (sym k n)) t

module _ {u : Unbuffered} {v : View} {coming : List Token} {text : Token → List ℕ} {cursor : ℕ} {before : Option Token} {status : Status} (t : Together u v coming text cursor before status) (opened : status.opened ≡ true) where
  pub is_open : u.status.opened ≡ true
  is_open = ap (λ s. s.opened) (sym t.same_status) ∙ opened

  module _ (w : View) (left : List Token) (words : Token → List ℕ) (start : w.start ≡ v.start) (capacity : w.capacity ≡ v.capacity) (after : (list : List Token) → Holds list v coming → Holds list w left) (same : words ≡ text) where
    -- a move to a token that was seen
    module _ (index : ℕ) (on : Together (needed u (clamped u index)) w left words cursor before status) (low : u.floor ≤ index) (at : ℕ) (here : at ≡ clamped u index) (near : clamped u index < reach u) (b : Bool) (f : Frees b status.marks) where
      arrives : Together (moved (needed u (clamped u index)) (clamped u index)) (settled_view b w at) left words at (settled_before b w at before) status
      arrives =
          let marks : status.marks ≡ u.status.marks = ap (λ s. s.marks) t.same_status in
          let to = together_rests on (clamped u index) (omega (arith, t.above_floor, t.on_token)) (omega arith) (omega (arith, t.on_token)) u.status refl (λ o. near) (λ c. absurd (closed c)) b (subst (Frees b) marks f) status t.same_status in
          subst (λ n. Together (moved (needed u (clamped u index)) (clamped u index)) (settled_view b w n) left words n (settled_before b w n before) status) (sym here) to
        where
          closed : u.status.opened ≡ false → ⊥
          closed c = let z : true ≡ false = sym is_open ∙ c in let y : ◌≡◌ {A = ℕ} 0 1 = cc in omega arith

    module _ (pulled : (list : List Token) → Holds list v coming → end w ≡ pulled_to (length list) v (cursor + 1)) where
      next_on : Together (needed u (clamped u (u.cursor + 1))) w left words cursor before status
      next_on = ahead_on t w left words 1 is_open start capacity after pulled same

      pub consume_finds_full : ((list : List Token) → Holds list v coming → None ≡ seen_at (length list) v (cursor + 1)) → (refuses 3 ≡ consume u) × Together (after_consume u) w left words cursor before status
      consume_finds_full e =
          let c = consume_full u is_open (t.sees is_open) t.on_token (ahead_nowhere t 1 e) in
          (sym c.0, subst (λ x. Together x w left words cursor before status) (sym c.1) next_on)

      pub consume_finds_eof : (at : ℕ) → ((list : List Token) → Holds list v coming → Some at ≡ seen_at (length list) v (cursor + 1)) → at ≡ cursor → (refuses 2 ≡ consume u) × Together (after_consume u) w left words cursor before status
      consume_finds_eof at e same_place =
          let here = ahead_at t 1 at e in
          let c = consume_last u is_open (t.sees is_open) t.on_token (sym here.0 ∙ same_place ∙ t.same_cursor) in
          (sym c.0, subst (λ x. Together x w left words cursor before status) (sym c.1) next_on)

      pub consume_finds_next : (at : ℕ) → ((list : List Token) → Holds list v coming → Some at ≡ seen_at (length list) v (cursor + 1)) → (at ≡ cursor → ⊥) → (b : Bool) → Frees b status.marks → (gives tt ≡ consume u) × Together (after_consume u) (settled_view b w at) left words at (settled_before b w at before) status
      consume_finds_next at e apart b f =
          let here = ahead_at t 1 at e in
          let c = consume_on u is_open (t.sees is_open) t.on_token (λ q. apart (here.0 ∙ q ∙ sym t.same_cursor)) here.1 in
          (sym c.0, subst (λ x. Together x (settled_view b w at) left words at (settled_before b w at before) status) (sym c.1) (arrives (u.cursor + 1) next_on (omega (arith, t.above_floor)) at here.0 here.1 b f))

    module _ (index : ℕ) (low : v.start ≤ index) (pulled : (list : List Token) → Holds list v coming → end w ≡ pulled_to (length list) v index) where
      index_on : Together (needed u (clamped u index)) w left words cursor before status
      index_on = together_seen t w left words index is_open start capacity (after u.feed.list t.holds) (pulled u.feed.list t.holds) same

      above : u.floor ≤ index
      above = omega (arith, t.same_floor)

      pub seek_finds_full : ((list : List Token) → Holds list v coming → None ≡ seen_at (length list) v index) → (refuses 3 ≡ sought u index) × Together (after_sought u index) w left words cursor before status
      seek_finds_full e =
          let c = sought_full u index above (seen_none t index (e u.feed.list t.holds)) in
          (sym c.0, subst (λ x. Together x w left words cursor before status) (sym c.1) index_on)

      pub seek_finds : (at : ℕ) → ((list : List Token) → Holds list v coming → Some at ≡ seen_at (length list) v index) → (b : Bool) → Frees b status.marks → (gives tt ≡ sought u index) × Together (after_sought u index) (settled_view b w at) left words at (settled_before b w at before) status
      seek_finds at e b f =
          let here = seen_some t index at (e u.feed.list t.holds) in
          let c = sought_on u index above here.1 in
          (sym c.0, subst (λ x. Together x (settled_view b w at) left words at (settled_before b w at before) status) (sym c.1) (arrives index index_on above at here.0 here.1 b f))
