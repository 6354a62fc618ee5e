-- Marks that are made and come back. Assumes nothing.
use Rattle.std.proofs.Common.{◌≡◌, ℕ, ◌-◌, ◌<◌, Bool, true, false, leb, List, [], ◌∷◌, length, ℤ, negsuc, Some, Option, sym, refl, ap, ◌∙◌, subst, arith}
use Rattle.std.proofs.lemmas.Bool.{cond-true, false≢true}
use Rattle.refusals.specs.Answers.{gives, unless, if_given}
use Rattle.tokens.specs.declared.token.Token.{Token}
use Rattle.streams.specs.declared.mark.Numbering.{Numbering}
use Rattle.streams.specs.declared.mark.Numbering.TheVariants.{Fixed, Falling}
use Rattle.streams.specs.Streams.{Status}
use Rattle.streams.specs.Marks.{falls, numbered, numbers, marking, after_marking, after_releasing}
use Rattle.streams.specs.Calls.{marks_after_mark, marks_after_release, status_with}
use Rattle.streams.proofs.Numbers.{length_numbers}
use Rattle.windows.specs.Windows.{View}
use Rattle.token_streams.specs.Unbuffered.{Unbuffered, token_at, with_status}
use Rattle.token_streams.specs.Settled.{settled_view, settled_before}
use Rattle.token_streams.specs.Shown.{Together}
use Rattle.token_streams.proofs.Together.{together_rests, Frees}
use Rattle.token_streams.proofs.Answered.{when_opened}

pub next_number : (how : Numbering) (out : ℕ) → falls how ≡ true → numbered how out ≡ negsuc (length (numbers how out))
next_number (Fixed z) out e = absurd (false≢true e)
next_number Falling out e = ap negsuc (sym (length_numbers Falling out))

-- an open stream's marks are those of its ledger
module _ (t : Status) (is_open : t.opened ≡ true) (n : ℤ) where
  pub marks_as_marking : after_marking t.marks n ≡ marks_after_mark t n
  marks_as_marking = ap (λ a. if_given a (n ∷ t.marks) t.marks) (when_opened t (marking t.marks n) is_open)

  pub marks_as_releasing : after_releasing t.marks n ≡ marks_after_release t n
  marks_as_releasing = sym (cond-true t.opened (after_releasing t.marks n) t.marks is_open)

-- a mark more is none less
pub marking_keeps : (ms : List ℤ) (n : ℤ) → after_marking ms n ≡ [] → ms ≡ []
marking_keeps ms n e = go (leb 255 (length ms)) e
  where
    go : (b : Bool) → if_given (unless b 8 (gives n)) (n ∷ ms) ms ≡ [] → ms ≡ []
    go true e = e
    go false e = let z : ◌≡◌ {A = ℕ} 0 1 = cc in absurd (omega arith)

module _ {u : Unbuffered} {v : View} {coming : List Token} {text : Token → List ℕ} {cursor : ℕ} {before : Option Token} {status : Status} (t : Together u v coming text cursor before status) where
  -- marks that leave the floor where it is
  pub together_marked : (ms : List ℤ) (st : Status) → (ms ≡ [] → u.status.marks ≡ []) → st ≡ status_with u.status ms → Together (with_status u (status_with u.status ms)) v coming text cursor before st
  together_marked [] st keeps e =
      let rest = t.at_rest (keeps refl) in
      record {
        holds = t.holds;
        same_text = t.same_text;
        same_status = e;
        same_capacity = t.same_capacity;
        same_cursor = t.same_cursor;
        same_floor = t.same_floor ∙ rest;
        same_pulled = t.same_pulled;
        above_floor = omega arith;
        on_token = t.on_token;
        seen = t.seen;
        in_window = omega (arith, t.in_window, rest);
        nothing_yet = λ c. let n = t.nothing_yet c in omega (arith, rest);
        room = t.room;
        sees = λ o. let n = t.room o in omega arith;
        at_rest = λ _. refl;
        token_before = subst (λ f. 0 < f → before ≡ Some (token_at u (f - 1))) rest t.token_before;
      }
  together_marked (m ∷ ms) st keeps e =
      subst (λ n. Together (with_status u (status_with u.status (m ∷ ms))) v coming text n before st) (sym t.same_cursor)
      (together_rests t u.cursor t.above_floor t.seen t.on_token (status_with u.status (m ∷ ms)) refl t.sees (λ c. refl) false tt st e)

  -- marks that may let the floor come to the cursor
  pub together_released : (ms : List ℤ) (st : Status) (b : Bool) → Frees b ms → st ≡ status_with u.status ms → Together (with_status u (status_with u.status ms)) (settled_view b v cursor) coming text cursor (settled_before b v cursor before) st
  together_released ms st b f e =
      subst (λ n. Together (with_status u (status_with u.status ms)) (settled_view b v n) coming text n (settled_before b v n before) st) (sym t.same_cursor)
      (together_rests t u.cursor t.above_floor t.seen t.on_token (status_with u.status ms) refl t.sees (λ c. refl) b f st e)
