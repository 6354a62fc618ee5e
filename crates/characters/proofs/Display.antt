-- The text in UTF-8, one code point after the other. Assumes nothing.
use Rattle.std.proofs.Common.{◌≡◌, ℕ, suc, ◌+◌, ◌-◌, ◌*◌, ◌<◌, ◌≤◌, cond, List, ◌++◌, map, length, take, drop, Some, None, sym, refl, ap, ◌∙◌, subst, append_assoc, append-nil, arith, length-append, length-drop, take-append-drop, length-take-le}
use borrow.Rule.Slice.PartMut.{put_mid}
use Rattle.std.proofs.lemmas.Slice.{take-put_mid, drop-put_mid}
use Rattle.std.proofs.lemmas.List.{drop-drop}
use lib.Utf8.{encode, encodes}
use Rattle.std.specs.Char.{len_utf8}
use Rattle.std.proofs.lemmas.Str.{length-encode, len_utf8_bounds}
use Rattle.std.proofs.lemmas.Bool.{le-ltb}
use Rattle.refusals.specs.Answers.{gives, unless}
use Rattle.refusals.specs.Outputs.{written, overwritten}
use Rattle.characters.specs.Text.{Point, Text, Lawful, start_from, item_at, shown, display}
use Rattle.characters.proofs.Starts.{start_from_above, start_from_start}
use Rattle.characters.proofs.Onward.{onward, onward_all, onward_start, onward_some, onward_none, item_within}

abbrev pub encoded : List Point → List ℕ
encoded ps = encodes (map shown (map (λ p. p.code) ps))

-- what is shown before a start, counted
pub record Counted (t : Text) (at n : ℕ) : Type 0 where
  pub start : start_from t at ≡ at
  pub count : n + length (encoded (onward t at)) ≡ length (display t)
  pub small : n ≤ 4 * at

module _ (t : Text) (ok : Lawful t) where
  pub begins : onward t (start_from t 0) ≡ t.points
  begins = onward_start t ok 0 ∙ onward_all t ok

  pub counted_none : Counted t (start_from t 0) 0
  counted_none = record { start = start_from_start t ok 0; count = omega (arith, ap (λ l. length (encoded l)) begins); small = omega arith }

  encoded_more : (at code : ℕ) → item_at t at ≡ Some code → encoded (onward t at) ≡ encode (shown code) ++ encoded (onward t (start_from t (suc at)))
  encoded_more at code e = ap encoded (onward_some t ok at code e)

  pub next_above : (at : ℕ) → at < t.size → at < start_from t (suc at)
  next_above at h = start_from_above t ok (suc at) h

  pub counted_more : (at n code next w : ℕ) → Counted t at n → item_at t at ≡ Some code → next ≡ start_from t (suc at) → w ≡ len_utf8 (shown code) → Counted t next (n + w)
  counted_more at n code next w old e on wide =
      let more = ap length (encoded_more at code e) ∙ length-append (encode (shown code)) _ in
      let further = next_above at (item_within t ok at code e) in
      subst (λ k. Counted t k (n + w)) (sym on) (record {
        start = start_from_start t ok (suc at);
        count = omega (arith, old.count, more, length-encode (shown code));
        small = omega (arith, old.small, len_utf8_bounds (shown code), further);
      })

  pub counted_all : (at n : ℕ) → Counted t at n → item_at t at ≡ None → n ≡ length (display t)
  counted_all at n old e = omega (arith, old.count, ap (λ l. length (encoded l)) (onward_none t ok at old.start e).0)

-- what is shown before a start, written to the front of an output
pub record Written (t : Text) (at n : ℕ) (old out : List ℕ) : Type 0 where
  pub start : start_from t at ≡ at
  pub front : take n out ++ encoded (onward t at) ≡ display t
  pub rest : drop n out ≡ drop n old
  pub long : length out ≡ length old
  pub fits : length (display t) ≤ length old

module _ (t : Text) (ok : Lawful t) where
  pub written_none : (out : List ℕ) → length (display t) ≤ length out → Written t (start_from t 0) 0 out out
  written_none out fits = record { start = start_from_start t ok 0; front = ap encoded (begins t ok); rest = refl; long = refl; fits = fits }

  -- how far the front reaches
  pub written_front : (at n : ℕ) (old out : List ℕ) → Written t at n old out → n ≤ length out → n + length (encoded (onward t at)) ≤ length out
  written_front at n old out w h = omega (arith, w.long, w.fits, ap length (sym w.front) ∙ length-append (take n out) _, length-take-le n out h)

  -- one code point more
  pub written_end : (at n code : ℕ) (old out : List ℕ) → Written t at n old out → n ≤ length out → item_at t at ≡ Some code → n + len_utf8 (shown code) ≤ length out
  written_end at n code old out w h e =
      omega (arith, written_front at n old out w h, ap length (encoded_more t ok at code e) ∙ length-append (encode (shown code)) _, length-encode (shown code))

  pub written_more : (at n code next e : ℕ) (old out new : List ℕ) → Written t at n old out → n ≤ length out → item_at t at ≡ Some code → next ≡ start_from t (suc at) → e ≡ n + len_utf8 (shown code) → new ≡ put_mid n (e - n) out (encode (shown code)) → Written t next e old new
  written_more at n code next e old out new w h is on end put =
      let bytes = encode (shown code) in
      let size : length bytes ≡ e - n = omega (arith, length-encode (shown code)) in
      let reach : e ≤ length out = omega (arith, written_end at n code old out w h is) in
      let front : take e new ≡ take n out ++ bytes = ap (take e) put ∙ take-put_mid n (e - n) out bytes e (omega arith) h in
      let rest : drop e new ≡ drop e out = ap (drop e) put ∙ drop-put_mid n (e - n) out bytes e (omega arith) h size in
      let long : length new ≡ length out = omega (arith, ap length (sym (take-append-drop e new)) ∙ length-append (take e new) (drop e new), ap length front ∙ length-append (take n out) bytes, length-take-le n out h, ap length rest ∙ length-drop e out) in
      record {
        start = ap (start_from t) on ∙ start_from_start t ok (suc at) ∙ sym on;
        front =
            ap (λ l. l ++ encoded (onward t next)) front ∙ append_assoc (take n out) bytes (encoded (onward t next))
            ∙ ap (λ l. take n out ++ (bytes ++ encoded (onward t l))) on ∙ ap (λ l. take n out ++ l) (sym (encoded_more t ok at code is)) ∙ w.front;
        rest = rest ∙ beyond out old n e w.rest (omega arith);
        long = long ∙ w.long;
        fits = w.fits;
      }
    where
      beyond : (xs ys : List ℕ) (n e : ℕ) → drop n xs ≡ drop n ys → n ≤ e → drop e xs ≡ drop e ys
      beyond xs ys n e same h =
          let sum : n + (e - n) ≡ e = omega arith in
          ap (λ k. drop k xs) (sym sum) ∙ sym (drop-drop (e - n) n xs) ∙ ap (drop (e - n)) same ∙ drop-drop (e - n) n ys ∙ ap (λ k. drop k ys) sum

  pub written_all : (at n : ℕ) (old out : List ℕ) → Written t at n old out → n ≤ length out → item_at t at ≡ None → (n ≡ length (display t)) × (out ≡ display t ++ drop n old)
  written_all at n old out w h e =
      let left = (onward_none t ok at w.start e).0 in
      let front : take n out ≡ display t = sym (append-nil (take n out)) ∙ ap (λ l. take n out ++ encoded l) (sym left) ∙ w.front in
      (sym (length-take-le n out h) ∙ ap length front, sym (take-append-drop n out) ∙ (λ i. front i ++ w.rest i))

  -- what the call answers and leaves
  pub written_answer : (out : List ℕ) → length (display t) ≤ length out → gives (length (display t)) ≡ written (display t) out
  written_answer out h = ap (λ b. unless b 14 (gives (length (display t)))) (sym (le-ltb _ _ h))

  pub written_leaves : (out : List ℕ) → length (display t) ≤ length out → display t ++ drop (length (display t)) out ≡ overwritten (display t) out
  written_leaves out h = ap (λ b. cond b out (display t ++ drop (length (display t)) out)) (sym (le-ltb _ _ h))
