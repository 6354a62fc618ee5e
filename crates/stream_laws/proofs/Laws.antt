-- What holds of a step, and of looks at the end. Assumes nothing.
use Rattle.std.proofs.Common.{◌≡◌, ℕ, zero, suc, ◌+◌, ◌<◌, ◌≤◌, true, false, not, [], ◌∷◌, reverse, length, get_or, take, ℤ, pos, negsuc, ◌≤ℤ◌, ◌<ℤ◌, Some, sym, ap, ◌∙◌, subst, ⊎_elim, arith}
use Rattle.std.specs.List.{slice_get}
use Rattle.std.proofs.lemmas.List.{take_more, reverse-append}
use Rattle.std.proofs.lemmas.Int.{ints}
use Rattle.std.proofs.lemmas.Bool.{cases_lt, both_ways}
use Rattle.refusals.specs.Answers.{Answer, gives, unless}
use Rattle.streams.specs.Streams.{Stream, minus_one, is_eof, last_of, ahead, behind, beyond, moved, Lawful}
use Rattle.streams.specs.Calls.{when_open, seen, looked, la, consume, consumed, index_answer}
use Rattle.streams.proofs.Symbols.{index_rises, eof_not_yet, last_read}
use Rattle.streams.proofs.Moves.{ahead_at, ahead_here}
use Rattle.streams.proofs.Steps.{unless_passed, eof_later, consumed_on}

-- an open stream passes its first test
when_opened : {A : Type 0} (s : Stream) (follows : Answer A) (x : A) → when_open s.status follows ≡ gives x → (not s.status.opened ≡ false) × (follows ≡ gives x)
when_opened s follows x e = unless_passed (not s.status.opened) 9 follows x e

given_same : {A : Type 0} (x y : A) → gives x ≡ gives y → x ≡ y
given_same x y e = cc

-- after a step the symbol that was under the cursor is the nearest behind
nearest : (s : Stream) → Lawful s → behind (moved s (s.cursor + 1)) 0 ≡ Some (ahead s 0)
nearest s ok =
    let front = take_more s.symbols s.cursor (last_of s.symbols) ok.inside in
    ap (λ l. slice_get (reverse l) 0) front ∙ ap (λ l. slice_get l 0) (reverse-append (take s.cursor s.symbols) (get_or s.symbols s.cursor (last_of s.symbols) ∷ []))
    ∙ ap Some (sym (ahead_here s))

pub behind_was_ahead : (s : Stream) (nothing z : ℤ) → Lawful s → la s nothing (pos 1) ≡ gives z → consume s ≡ gives tt → la (consumed s) nothing (negsuc 0) ≡ gives z
behind_was_ahead s nothing z ok looks steps =
    let opened = when_opened s (looked s nothing (pos 1)) z looks in
    let z_is = given_same (ahead s 0).number z (unless_passed (beyond s (ahead s 0).index) 3 (gives (ahead s 0).number) z opened.1).1 in
    let u = moved s (s.cursor + 1) in
    ap (λ u. la u nothing (negsuc 0)) (consumed_on s steps) ∙ ap (λ b. unless b 9 (seen u 0 nothing (behind u 0))) opened.0 ∙ ap (seen u 0 nothing) (nearest s ok) ∙ ap gives z_is

pub index_after : (s : Stream) (y : ℤ) → Lawful s → index_answer s ≡ gives y → consume s ≡ gives tt → (z : ℤ) × (index_answer (consumed s) ≡ gives z) × (y <ℤ z)
index_after s y ok noted steps =
    let opened = when_opened s (gives (pos (ahead s 0).index)) y noted in
    let y_is = given_same (pos (ahead s 0).index) y opened.1 in
    let u = moved s (s.cursor + 1) in
    let stepped = when_opened s (unless (is_eof (ahead s 0)) 2 (unless (beyond s (ahead s 1).index) 3 (gives tt))) tt steps in
    let more = (unless_passed (is_eof (ahead s 0)) 2 (unless (beyond s (ahead s 1).index) 3 (gives tt)) tt stepped.1).0 in
    let rises : (ahead s 0).index < (ahead u 0).index =
    omega (arith, ap (λ y. y.index) (ahead_here s), ap (λ y. y.index) (ahead_here u), index_rises 0 s.symbols s.cursor (s.cursor + 1) (last_of s.symbols) ok.rising (omega arith) (eof_later s ok more)) in
    (pos (ahead u 0).index, ap index_answer (consumed_on s steps) ∙ ap (λ b. unless b 9 (gives (pos (ahead u 0).index))) opened.0, subst (λ y. y <ℤ pos (ahead u 0).index) y_is (omega (arith, ints)))

-- past the end there is nothing but the EOF
ahead_end : (s : Stream) (k m : ℕ) → Lawful s → k ≤ m → is_eof (ahead s k) ≡ true → ahead s m ≡ ahead s k
ahead_end s k m ok h eof =
    ⊎_elim
    (λ l. absurd (both_ways _ (ap is_eof (ahead_at s k) ∙ eof_not_yet 0 s.symbols (s.cursor + k) (last_of s.symbols) ok.rising l) eof))
    (λ l. ahead_at s m ∙ last_read 0 s.symbols (s.cursor + m) ok.rising (omega (arith, l)) ∙ sym (ahead_at s k ∙ last_read 0 s.symbols (s.cursor + k) ok.rising l))
    (cases_lt (suc (s.cursor + k)) (length s.symbols))

pub end_stays : (s : Stream) (nothing near far : ℤ) → Lawful s → pos 1 ≤ℤ near → near ≤ℤ far → la s nothing near ≡ gives (negsuc 0) → la s nothing far ≡ gives (negsuc 0)
end_stays s nothing (negsuc k) far ok one h e = absurd (omega (arith, ints))
end_stays s nothing (pos zero) far ok one h e = absurd (omega (arith, ints))
end_stays s nothing (pos (suc k)) (negsuc m) ok one h e = absurd (omega (arith, ints))
end_stays s nothing (pos (suc k)) (pos zero) ok one h e = absurd (omega (arith, ints))
end_stays s nothing (pos (suc k)) (pos (suc m)) ok one h e =
    let opened = when_opened s (looked s nothing (pos (suc k))) (negsuc 0) e in
    let number = given_same (ahead s k).number (negsuc 0) (unless_passed (beyond s (ahead s k).index) 3 (gives (ahead s k).number) (negsuc 0) opened.1).1 in
    let same = ahead_end s k m ok (omega (arith, ints)) (ap minus_one number) in
    ap (λ y. when_open s.status (unless (beyond s y.index) 3 (gives y.number))) same ∙ e
