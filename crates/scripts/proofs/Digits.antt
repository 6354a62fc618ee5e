-- A number read digit by digit, and words that are none. Assumes nothing.
use Rattle.std.proofs.Common.{◌≡◌, ℕ, zero, suc, ◌+◌, ◌*◌, ◌<◌, ◌≤◌, Bool, true, false, ◌&&◌, cond, eqb, ltb, nat_lt, List, [], ◌∷◌, length, get_or, drop, Some, None, sym, refl, ap, ◌∙◌, mul-le-mul_left, mul-one, add-one, arith, lit<, drop_of_length-le, drop-cons}
use Rattle.std.proofs.lemmas.Bool.{le-leb, lt-leb, le-ltb, lt-ltb, ltb-true, ltb-false, eqb-true}
use Rattle.std.proofs.lemmas.Bool.Decides.{Decides-ltb, Decides-and}
use Rattle.std.proofs.lemmas.Str.{IsUtf8-from_ascii}
use Rattle.std.specs.Bool.{Decides}
use Rattle.std.specs.Str.{IsAscii, IsUtf8}
use Rattle.std.specs.Str.Parse.{AllDigits, IsNumeral, digits_value, digits_value_after}
use Rattle.std.specs.Char.{digit_value}
use Rattle.scripts.specs.Numerals.{digit, digits, numeral, natural, number}

-- after i digits of a word: the number that they write, and that the whole is read on from there
pub record SoFar (base : ℕ) (word : List ℕ) (i n : ℕ) : Type 0 where
  pub reads : digits_value base word ≡ digits_value_after base n (drop i word)
  pub passes : digits base word ≡ digits base (drop i word)

-- a number only grows with more digits
grows : (base n : ℕ) (ds : List ℕ) → 1 ≤ base → n ≤ digits_value_after base n ds
grows base n [] h = omega arith
grows base n (d ∷ ds) h =
    let m : n * 1 ≤ n * base = mul-le-mul_left n h in
    omega (arith, m, mul-one n, grows base (n * base + digit_value d) ds h)

numeral_fails : (base : ℕ) (word : List ℕ) → digits base word ≡ false → numeral base word ≡ false
numeral_fails base [] e = refl
numeral_fails base (c ∷ cs) e = e

numeral_passes : (base : ℕ) (word : List ℕ) → 0 < length word → digits base word ≡ true → numeral base word ≡ true
numeral_passes base [] h e = absurd (omega arith)
numeral_passes base (c ∷ cs) h e = e

and_false : (x : Bool) → (x && false) ≡ false
and_false true = refl
and_false false = refl

module _ (base : ℕ) (word : List ℕ) (i n : ℕ) (so_far : SoFar base word i n) where
  -- one digit x more
  pub digit_more : (x m : ℕ) → x ≡ get_or word i 0 → i < length word → digit_value x < base → m ≡ n * base + digit_value x → SoFar base word (i + 1) m
  digit_more x m is h small e =
      let front = drop-cons word i 0 h ∙ ap (λ y. y ∷ drop (suc i) word) (sym is) in
      let reads = so_far.reads ∙ ap (digits_value_after base n) front ∙ ap (λ k. digits_value_after base k (drop (suc i) word)) (sym e) in
      let passes = so_far.passes ∙ ap (digits base) front ∙ ap (λ b. b && digits base (drop (suc i) word)) (lt-ltb _ _ small) in
      rw add-one (record { reads = reads; passes = passes })

  -- a byte x that is no digit
  pub digit_missing : (most x : ℕ) → x ≡ get_or word i 0 → i < length word → (digit_value x < base → ⊥) → None ≡ natural base most word
  digit_missing most x is h none =
      let front = drop-cons word i 0 h ∙ ap (λ y. y ∷ drop (suc i) word) (sym is) in
      let large : base ≤ digit_value x = omega (arith, none) in
      let passes = so_far.passes ∙ ap (digits base) front ∙ ap (λ b. b && digits base (drop (suc i) word)) (le-ltb _ _ large) in
      rw (numeral_fails base word passes) refl

  pub too_large : (most : ℕ) → 1 ≤ base → most < n → None ≡ natural base most word
  too_large most one h =
      let large : most < digits_value base word = omega (arith, so_far.reads, grows base n (drop i word) one) in
      rw (lt-leb _ _ large) (rw (and_false (numeral base word)) refl)

  pub all_digits : (most : ℕ) → 0 < length word → length word ≤ i → n ≤ most → Some n ≡ natural base most word
  all_digits most some over h =
      let none = drop_of_length-le word over in
      let reads = so_far.reads ∙ ap (digits_value_after base n) none in
      let passes = so_far.passes ∙ ap (digits base) none in
      rw (numeral_passes base word some passes, reads) (rw (le-leb n most h) refl)

-- the product and the sum as they were computed
pub sum_is : (m n b b' d d' e : ℕ) → m ≡ n * b' + d' → b' ≡ b → d' ≡ d → d ≡ e → m ≡ n * b + e
sum_is m n b b' d d' e p q r s = cc

-- Digits are ASCII, so that a word that is no text, or that begins with a plus, is no number. What follows is stated for the
-- reader, since no proof cites it.
decides_digits : (base : ℕ) (w : List ℕ) → Decides (digits base w) (AllDigits base w)
decides_digits base [] = (λ _. tt, λ _. refl)
decides_digits base (c ∷ cs) = Decides-and (digit base c) (digits base cs) (Decides-ltb (digit_value c) base) (decides_digits base cs)

numeral_is : (base : ℕ) (w : List ℕ) → numeral base w ≡ true → IsNumeral base w
numeral_is base [] e = cc
numeral_is base (c ∷ cs) e = (omega arith, (decides_digits base (c ∷ cs)).0 e)

no_digit : (c : ℕ) → 128 ≤ c → digit_value c ≡ 36
no_digit c h =
    let a : 48 ≤ c = omega arith in
    let b : 58 ≤ c = omega arith in
    let d : 65 ≤ c = omega arith in
    let e : 91 ≤ c = omega arith in
    let f : 97 ≤ c = omega arith in
    let g : 123 ≤ c = omega arith in
    rw (le-ltb c 48 a, le-ltb c 58 b, le-ltb c 65 d, le-ltb c 91 e, le-ltb c 97 f, le-ltb c 123 g) refl

digit_small : (c : ℕ) → digit_value c < 16 → c < 128
digit_small c h = go (ltb c 128) refl
  where
    go : (b : Bool) → ltb c 128 ≡ b → c < 128
    go true e = ltb-true c 128 e
    go false e = let k = no_digit c (ltb-false c 128 e) in absurd (omega (arith, k))

ascii_digits : (base : ℕ) → base ≤ 16 → (w : List ℕ) → AllDigits base w → IsAscii w
ascii_digits base small [] h i = lit< tt
ascii_digits base small (c ∷ cs) h zero = let d : digit_value c < 16 = omega (arith, h.0) in digit_small c d
ascii_digits base small (c ∷ cs) h (suc i) = ascii_digits base small cs h.1 i

module _ (w : List ℕ) (unread : IsUtf8 w → get_or w 0 0 ≡ 43) where
  no_numeral : (base : ℕ) → base ≤ 16 → IsNumeral base w → ⊥
  no_numeral base small h = plus w (unread (IsUtf8-from_ascii w (ascii_digits base small w h.1))) h
    where
      plus : (v : List ℕ) → get_or v 0 0 ≡ 43 → IsNumeral base v → ⊥
      plus [] e h = omega (arith, h.0)
      plus (c ∷ cs) e h = let k : digit_value c ≡ 36 = ap digit_value e in omega (arith, h.1.0, k)

  not_numeral : (base : ℕ) → base ≤ 16 → numeral base w ≡ false
  not_numeral base small = go (numeral base w) refl
    where
      go : (b : Bool) → numeral base w ≡ b → numeral base w ≡ false
      go true e = absurd (no_numeral base small (numeral_is base w e))
      go false e = e

  pub no_hexadecimal : (most : ℕ) → length w ≤ most → None ≡ cond (nat_lt most (length w)) None (natural 16 4294967295 w)
  no_hexadecimal most short = rw (le-ltb most (length w) short, not_numeral 16 (omega arith)) refl

pub no_number : (w : List ℕ) → (IsUtf8 w → get_or w 0 0 ≡ 43) → None ≡ number w
no_number [] unread = refl
no_number (c ∷ cs) unread = go (eqb c 45) refl
  where
    ascii : AllDigits 10 cs → c ≡ 45 → IsAscii (c ∷ cs)
    ascii h e zero = let d : c < 128 = omega arith in d
    ascii h e (suc i) = ascii_digits 10 (omega arith) cs h i

    rest : c ≡ 45 → (b : Bool) → numeral 10 cs ≡ b → numeral 10 cs ≡ false
    rest e true k = absurd (let p : c ≡ 43 = unread (IsUtf8-from_ascii (c ∷ cs) (ascii (numeral_is 10 cs k).1 e)) in omega arith)
    rest e false k = k

    go : (b : Bool) → eqb c 45 ≡ b → None ≡ number (c ∷ cs)
    go true e = rw (e, rest (eqb-true c 45 e) (numeral 10 cs) refl) refl
    go false e = rw (e, not_numeral (c ∷ cs) unread 10 (omega arith)) refl
