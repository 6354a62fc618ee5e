-- Tokens and texts by their indexes. Assumes nothing.
use Rattle.std.proofs.Common.{◌≡◌, ℕ, ◌+◌, ◌-◌, ◌<◌, ◌≤◌, Bool, true, false, ltb, leb, List, get_or, take, drop, ℤ, pos, negsuc, Option, sym, refl, ap, ◌∙◌, ⊎_elim, arith}
use lib.Signed.{lt_z}
use Rattle.std.specs.List.{between}
use Rattle.std.proofs.lemmas.List.{take-take, drop-take, drop-drop}
use Rattle.std.proofs.lemmas.Bool.{lt-ltb, le-leb, ltb-false, cond-true, cases_lt}
use Rattle.refusals.specs.Answers.{Answer, gives, refuses, unless, if_given}
use Rattle.refusals.specs.Outputs.{written, overwritten}
use Rattle.characters.specs.Signed.{upward, past, backward}
use Rattle.characters.proofs.Intervals.{ordered}
use Rattle.tokens.specs.declared.token.Token.{Token}
use Rattle.streams.specs.Streams.{Status}
use Rattle.windows.specs.Lists.{blank}
use Rattle.windows.specs.Windows.{View, end}
use Rattle.windows.specs.Reads as window
use Rattle.windows.specs.Reads.{token_answer, follow, texts_of, interval_tokens, text_answer, text_after}
use Rattle.windows.proofs.Held.{held_at}
use Rattle.token_streams.specs.Unbuffered.{Unbuffered, tokens, token_at}
use Rattle.token_streams.specs.Calls.{get, interval_held, interval_text}
use Rattle.token_streams.specs.Calls as calls
use Rattle.token_streams.specs.Shown.{Together}
use Rattle.token_streams.proofs.Answered.{when_opened}

-- a part of a part
inner : (ts : List Token) (s e a b : ℕ) → s ≤ a → a ≤ b → b ≤ e → between (a - s) (b - s) (between s e ts) ≡ between a b ts
inner ts s e a b low mid high =
    let size : e - s ≡ a - s + (e - a) = omega arith in
    let at : s + (a - s) ≡ a = omega arith in
    let count : b - s - (a - s) ≡ b - a = omega arith in
    ap (λ n. take (b - s - (a - s)) (drop (a - s) (take n (drop s ts)))) size
    ∙ ap (take (b - s - (a - s))) (drop-take (a - s) (e - a) (drop s ts) ∙ ap (take (e - a)) (drop-drop (a - s) s ts ∙ ap (λ n. drop n ts) at))
    ∙ take-take (b - s - (a - s)) (e - a) (drop a ts) (omega arith) ∙ ap (λ n. take n (drop a ts)) count

module _ {u : Unbuffered} {v : View} {coming : List Token} {text : Token → List ℕ} {cursor : ℕ} {before : Option Token} {status : Status} (t : Together u v coming text cursor before status) (is_open : u.status.opened ≡ true) where
  found : (i : ℕ) → token_answer v (pos i) ≡ unless (ltb i u.floor) 4 (unless (leb u.pulled i) 6 (gives (token_at u i)))
  found i =
      (λ n. unless (ltb i (t.same_floor n)) 4 (unless (leb (t.same_pulled n) i) 6 (gives (get_or v.tokens (i - v.start) blank))))
      ∙ ⊎_elim below (λ low. ⊎_elim (inside low) past (cases_lt i u.pulled)) (cases_lt i u.floor)
    where
      held : Token
      held = get_or v.tokens (i - v.start) blank

      below : i < u.floor → unless (ltb i u.floor) 4 (unless (leb u.pulled i) 6 (gives held)) ≡ unless (ltb i u.floor) 4 (unless (leb u.pulled i) 6 (gives (token_at u i)))
      below l = cond-true (ltb i u.floor) (refuses 4) _ (lt-ltb i u.floor l) ∙ sym (cond-true (ltb i u.floor) (refuses 4) _ (lt-ltb i u.floor l))

      past : u.pulled ≤ i → unless (ltb i u.floor) 4 (unless (leb u.pulled i) 6 (gives held)) ≡ unless (ltb i u.floor) 4 (unless (leb u.pulled i) 6 (gives (token_at u i)))
      past l = ap (λ a. unless (ltb i u.floor) 4 a) (cond-true (leb u.pulled i) (refuses 6) _ (le-leb u.pulled i l) ∙ sym (cond-true (leb u.pulled i) (refuses 6) _ (le-leb u.pulled i l)))

      inside : u.floor ≤ i → i < u.pulled → unless (ltb i u.floor) 4 (unless (leb u.pulled i) 6 (gives held)) ≡ unless (ltb i u.floor) 4 (unless (leb u.pulled i) 6 (gives (token_at u i)))
      inside low high = ap (λ k. unless (ltb i u.floor) 4 (unless (leb u.pulled i) 6 (gives k))) (held_at u.feed.list v coming t.holds i (omega (arith, t.same_floor)) (omega (arith, t.same_pulled)))

  pub get_found : (i : ℤ) → token_answer v i ≡ get u i
  get_found (pos i) = found i ∙ when_opened u.status (unless (ltb i u.floor) 4 (unless (leb u.pulled i) 6 (gives (token_at u i)))) is_open
  get_found (negsuc i) = when_opened u.status (refuses 5) is_open

  -- the interval of a text, and its bytes
  same_interval : (start stop : ℤ) → window.interval_held v start stop ≡ interval_held u start stop
  same_interval start stop = (λ n. unless (lt_z start (pos 0)) 5 (unless (backward start stop) 13 (unless (ltb (upward start) (t.same_floor n)) 4 (unless (ltb (t.same_pulled n) (past stop)) 6 (gives tt)))))

  granted : {A : Type 0} (b : Bool) (n : ℕ) (a : Answer A) (x : A) → unless b n a ≡ gives x → (b ≡ false) × (a ≡ gives x)
  granted true n a x e = let z : ◌≡◌ {A = ℕ} 0 1 = cc in absurd (omega arith)
  granted false n a x e = (refl, e)

  same_bytes : (start stop : ℤ) → interval_held u start stop ≡ gives tt → texts_of text (interval_tokens v start stop) ≡ interval_text u start stop
  same_bytes start stop e =
      let one = granted (lt_z start (pos 0)) 5 _ tt e in
      let two = granted (backward start stop) 13 _ tt one.1 in
      let three = granted (ltb (upward start) u.floor) 4 _ tt two.1 in
      let four = granted (ltb u.pulled (past stop)) 6 _ tt three.1 in
      let low = ltb-false (upward start) u.floor three.0 in
      let high = ltb-false u.pulled (past stop) four.0 in
      (λ n. texts_of (t.same_text n) (between (upward start - v.start) (past stop - v.start) (t.holds.held n)))
      ∙ ap (texts_of u.feed.text) (inner (tokens u) v.start (end v) (upward start) (past stop) (omega (arith, t.same_floor)) (ordered start stop two.0) (omega (arith, t.same_pulled)))

  pub text_found : (start stop : ℤ) (out : List ℕ) → text_answer text v start stop out ≡ calls.text u start stop out
  text_found start stop out =
      ap (λ a. follow a (written (texts_of text (interval_tokens v start stop)) out)) (same_interval start stop)
      ∙ go (interval_held u start stop) refl ∙ when_opened u.status (follow (interval_held u start stop) (written (interval_text u start stop) out)) is_open
    where
      go : (a : Answer (Unit {0})) → interval_held u start stop ≡ a → follow (interval_held u start stop) (written (texts_of text (interval_tokens v start stop)) out) ≡ follow (interval_held u start stop) (written (interval_text u start stop) out)
      go (gives x) e = ap (λ bytes. follow (interval_held u start stop) (written bytes out)) (same_bytes start stop e)
      go (refuses n) e = ap (λ a. follow a (written (texts_of text (interval_tokens v start stop)) out)) e ∙ ap (λ a. follow a (written (interval_text u start stop) out)) (sym e)

  pub text_left_found : (start stop : ℤ) (out : List ℕ) → text_after text v start stop out ≡ calls.text_left u start stop out
  text_left_found start stop out =
      ap (λ a. if_given a (overwritten (texts_of text (interval_tokens v start stop)) out) out) (same_interval start stop)
      ∙ go (interval_held u start stop) refl
      ∙ sym (cond-true u.status.opened (if_given (interval_held u start stop) (overwritten (interval_text u start stop) out) out) out is_open)
    where
      go : (a : Answer (Unit {0})) → interval_held u start stop ≡ a → if_given (interval_held u start stop) (overwritten (texts_of text (interval_tokens v start stop)) out) out ≡ if_given (interval_held u start stop) (overwritten (interval_text u start stop) out) out
      go (gives x) e = ap (λ bytes. if_given (interval_held u start stop) (overwritten bytes out) out) (same_bytes start stop e)
      go (refuses n) e = ap (λ a. if_given a (overwritten (texts_of text (interval_tokens v start stop)) out) out) e ∙ ap (λ a. if_given a (overwritten (interval_text u start stop) out) out) (sym e)
