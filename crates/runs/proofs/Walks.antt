-- A walk through a window. Assumes nothing.
use Rattle.std.proofs.Common.{◌≡◌, ℕ, Option, ◌+◌, ◌-◌, ◌<◌, ◌≤◌, min, true, List, [], length, get_or, ℤ, pos, Some, sym, refl, ap, ◌∙◌, ⊎_elim, arith}
use Rattle.std.proofs.lemmas.Bool.{cases_eq}
use Rattle.refusals.specs.Answers.{gives, refuses, if_given}
use Rattle.tokens.specs.declared.token.Token.{Token}
use Rattle.streams.specs.Streams.{Status}
use Rattle.windows.specs.Lists.{stamps, blank}
use Rattle.windows.specs.Windows.{View, admission}
use Rattle.windows.specs.Reads.{follow}
use Rattle.token_streams.specs.Unbuffered.{Feed, Unbuffered, unopened, token_at, eof_index, reach, clamped}
use Rattle.token_streams.specs.Calls.{lt, after_consume, after_open, opened_with}
use Rattle.token_streams.specs.Shown.{Together}
use Rattle.runs.specs.Walks.{come_to}
use Rattle.token_streams.proofs.Answered.{consume_last, consume_on, lt_ahead, ahead_some}

-- after some steps with no mark out, the cursor is as far along the list
pub record Walking (shown : Unbuffered → Type 0) (list : List Token) (steps : ℕ) : Type 0 where
  pub stream : Unbuffered
  pub is_shown : shown stream
  pub list_is : stream.feed.list ≡ list
  pub is_open : stream.status.opened ≡ true
  pub unmarked : stream.status.marks ≡ []
  pub cursor_is : stream.cursor ≡ min steps (length list - 1)

module _ (u : Unbuffered) (v : View) (coming : List Token) (text : Token → List ℕ) (cursor : ℕ) (before : Option Token) (status : Status) (t : Together u v coming text cursor before status) (o : u.status.opened ≡ true) (none : u.status.marks ≡ []) where
  -- the next token is always in the window
  near : (i : ℕ) → clamped u (u.cursor + i) ≤ u.cursor + 1 → clamped u (u.cursor + i) < reach u
  near i h = let room = t.room o in let rest = t.at_rest none in omega arith

  pub step : ((after_consume u).status ≡ u.status) × ((after_consume u).cursor ≡ min (u.cursor + 1) (eof_index u)) × ((after_consume u).feed ≡ u.feed)
  step = ⊎_elim
      (λ last.
      let c = consume_last u o (t.sees o) t.on_token last in
      (ap (λ w. w.status) c.1, ap (λ w. w.cursor) c.1 ∙ sym last, ap (λ w. w.feed) c.1))
      (λ on.
      let c = consume_on u o (t.sees o) t.on_token on (near 1 (omega arith)) in
      (ap (λ w. w.status) c.1, ap (λ w. w.cursor) c.1, ap (λ w. w.feed) c.1))
      (cases_eq (clamped u (u.cursor + 1)) u.cursor)

  pub look : lt u (pos 1) ≡ gives (Some (token_at u u.cursor))
  look =
      let here : clamped u (u.cursor + 0) ≡ u.cursor = omega (arith, t.on_token) in
      sym (ahead_some u 0 (near 0 (omega arith)) ∙ lt_ahead u o (pos 1) 0 refl) ∙ ap (λ n. gives (Some (token_at u n))) here

-- one step more
pub walking_on : (shown : Unbuffered → Type 0) (shown' : Unbuffered → Type 0) (list : List Token) (steps : ℕ) → (w : Walking shown list steps) → (v : View) (coming : List Token) (text : Token → List ℕ) (cursor : ℕ) (before : Option Token) (status : Status) → Together w.stream v coming text cursor before status → shown' (after_consume w.stream) → Walking shown' list (steps + 1)
walking_on shown shown' list steps w v coming text cursor before status t next =
    let u = w.stream in
    let s = step u v coming text cursor before status t w.is_open w.unmarked in
    let long : length u.feed.list ≡ length list = ap length w.list_is in
    record {
      stream = after_consume u;
      is_shown = next;
      list_is = ap (λ f. f.list) s.2 ∙ w.list_is;
      is_open = ap (λ x. x.opened) s.0 ∙ w.is_open;
      unmarked = ap (λ x. x.marks) s.0 ∙ w.unmarked;
      cursor_is = omega (arith, s.1, w.cursor_is, long);
    }

-- a stream that is not opened
pub stays_closed : (list : List Token) (capacity : ℤ) (steps n : ℕ) → refuses n ≡ admission capacity → refuses n ≡ come_to list capacity steps
stays_closed list capacity steps n e = ap (λ a. follow a (gives (Some (get_or (stamps 0 list) (min steps (length list - 1)) blank)))) e

-- one that is, and what it comes to
pub opens : (f : Feed) (capacity : ℤ) → gives tt ≡ admission capacity → after_open (unopened f) capacity ≡ opened_with (unopened f) capacity
opens f capacity e = ap (λ a. if_given a (opened_with (unopened f) capacity) (unopened f)) (sym e)

pub comes : (shown : Unbuffered → Type 0) (list : List Token) (capacity : ℤ) (steps : ℕ) → (w : Walking shown list steps) → (v : View) (coming : List Token) (text : Token → List ℕ) (cursor : ℕ) (before : Option Token) (status : Status) → Together w.stream v coming text cursor before status → gives tt ≡ admission capacity → lt w.stream (pos 1) ≡ come_to list capacity steps
comes shown list capacity steps w v coming text cursor before status t e =
    look w.stream v coming text cursor before status t w.is_open w.unmarked
    ∙ (λ i. gives (Some (get_or (stamps 0 (w.list_is i)) (w.cursor_is i) blank)))
    ∙ ap (λ a. follow a (gives (Some (get_or (stamps 0 list) (min steps (length list - 1)) blank)))) e
