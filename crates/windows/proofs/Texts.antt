-- Tokens and texts out of a window. Assumes nothing.
use Rattle.std.proofs.Common.{◌≡◌, ℕ, suc, ◌+◌, ◌-◌, ◌<◌, ◌≤◌, true, false, not, ltb, List, [], ◌∷◌, ◌++◌, length, get_or, take, drop, Some, None, Option, sym, refl, ap, ◌∙◌, subst, ⊎_elim, arith}
use borrow.Rule.Slice.PartMut.{put_mid}
use Rattle.std.specs.List.{between, flat_map}
use Rattle.std.proofs.lemmas.List.{append_assoc, append-nil, length-append, length-drop, drop_more, drop-drop, drop_all, take_at, drop_at}
use Rattle.std.proofs.lemmas.Bool.{le-ltb, lt-ltb, cond-true, cond-false, cases_lt, cases_Bool}
use Rattle.refusals.specs.Outputs.{overwritten}
use Rattle.tokens.specs.declared.token.Token.{Token}
use Rattle.tokens.specs.Tokens.{is_eof}
use Rattle.windows.specs.Lists.{blank}
use Rattle.windows.specs.Windows.{View, end, token_of}
use Rattle.windows.specs.Reads.{unless_eof, before_eof, texts_of}
use Rattle.std.proofs.Math.Seq.{take-nil}
use Rattle.windows.proofs.Held.{token_inside, token_past}

-- an output of just the length of some bytes takes them
pub just_written : (bytes out : List ℕ) → length out ≡ length bytes → overwritten bytes out ≡ bytes
just_written bytes out e =
    cond-false (ltb (length out) (length bytes)) out (bytes ++ drop (length bytes) out) (le-ltb (length out) (length bytes) (omega arith))
    ∙ ap (λ l. bytes ++ l) (drop_all (length bytes) out (omega arith)) ∙ append-nil bytes

-- the tokens from an index on and below another, one after the other
abbrev pub part : View → ℕ → ℕ → List Token
part v i j = between (i - v.start) (j - v.start) v.tokens

-- where the other is no higher there are none: stated for the reader, since no proof cites it
pub part_none : (v : View) (i j : ℕ) → j ≤ i → part v i j ≡ []
part_none v i j h = let none : j - v.start - (i - v.start) ≡ 0 = omega arith in ap (λ n. take n (drop (i - v.start) v.tokens)) none

-- no token of an index is held from the window's end on
held_below : (v : View) (i : ℕ) (k : Token) → Some k ≡ token_of v i → i < end v
held_below v i k is = ⊎_elim (λ l. l) (λ l. let z : ◌≡◌ {A = ℕ} 0 1 = cc (is ∙ token_past v i l) in absurd (omega arith)) (cases_lt i (end v))

held_above : (v : View) (i : ℕ) → v.start ≤ i → None ≡ token_of v i → end v ≤ i
held_above v i low none = ⊎_elim (λ l. let z : ◌≡◌ {A = ℕ} 0 1 = cc (none ∙ token_inside v i low l) in absurd (omega arith)) (λ l. l) (cases_lt i (end v))

part_past : (v : View) (i j : ℕ) → v.start ≤ i → end v ≤ i → part v i j ≡ []
part_past v i j low past = ap (take (j - v.start - (i - v.start))) (drop_all (i - v.start) v.tokens (omega arith)) ∙ take-nil (j - v.start - (i - v.start))

pub part_more : (v : View) (i j : ℕ) (k : Token) → v.start ≤ i → i < j → Some k ≡ token_of v i → part v i j ≡ k ∷ part v (i + 1) j
part_more v i j k low less is =
    let high : i < end v = held_below v i k is in
    let at : i - v.start < length v.tokens = omega (arith, high) in
    let one : j - v.start - (i - v.start) ≡ suc (j - v.start - (i + 1 - v.start)) = omega arith in
    let on : i - v.start + 1 ≡ i + 1 - v.start = omega arith in
    let same : get_or v.tokens (i - v.start) blank ≡ k = cc (is ∙ token_inside v i low high) in
    (λ n. take (one n) (drop_more v.tokens (i - v.start) blank at n))
    ∙ (λ n. same n ∷ take (j - v.start - (i + 1 - v.start)) (drop (on n) v.tokens))

-- a token that is no EOF, where there is one
unless_some : (o : Option Token) (k : Token) → Some k ≡ unless_eof o → (Some k ≡ o) × (is_eof k ≡ false)
unless_some None k is = let z : ◌≡◌ {A = ℕ} 0 1 = cc in absurd (omega arith)
unless_some (Some t) k is = ⊎_elim
    (λ (e : is_eof t ≡ true). let none : Some k ≡ None = is ∙ cond-true (is_eof t) None (Some t) e in let z : ◌≡◌ {A = ℕ} 0 1 = cc in absurd (omega arith))
    (λ (e : is_eof t ≡ false).
    let same : Some k ≡ Some t = is ∙ cond-false (is_eof t) None (Some t) e in
    let one : k ≡ t = cc in
    (same, ap is_eof one ∙ e))
    (cases_Bool (is_eof t))

unless_none : (k : Token) → None ≡ unless_eof (Some k) → is_eof k ≡ true
unless_none k none = ⊎_elim
    (λ (e : is_eof k ≡ true). e)
    (λ (e : is_eof k ≡ false). let some : None ≡ Some k = none ∙ cond-false (is_eof k) None (Some k) e in let z : ◌≡◌ {A = ℕ} 0 1 = cc in absurd (omega arith))
    (cases_Bool (is_eof k))

-- the texts of tokens, one after the other
module _ (text : Token → List ℕ) where
  pub texts_more : (k : Token) (ks : List Token) → is_eof k ≡ false → texts_of text (k ∷ ks) ≡ text k ++ texts_of text ks
  texts_more k ks e = ap (flat_map text) (cond-false (is_eof k) [] (k ∷ before_eof ks) e)

  pub texts_end : (k : Token) (ks : List Token) → is_eof k ≡ true → texts_of text (k ∷ ks) ≡ []
  texts_end k ks e = ap (flat_map text) (cond-true (is_eof k) [] (k ∷ before_eof ks) e)

  -- from an index that holds no token, or the EOF, there are no texts
  no_texts : (v : View) (at to : ℕ) → v.start ≤ at → at < to → None ≡ unless_eof (token_of v at) → texts_of text (part v at to) ≡ []
  no_texts v at to low less none = go (token_of v at) refl none
    where
      go : (o : Option Token) → o ≡ token_of v at → None ≡ unless_eof o → texts_of text (part v at to) ≡ []
      go None is none = ap (texts_of text) (part_past v at to low (held_above v at low is))
      go (Some k) is none = ap (texts_of text) (part_more v at to k low less is) ∙ texts_end k (part v (at + 1) to) (unless_none k none)

  -- what is left of a room, and of the texts
  abbrev pub Tells : View → ℕ → ℕ → ℕ → ℕ → ℕ → Type 0
  Tells v from to room at left = ltb room (length (texts_of text (part v from to))) ≡ ltb left (length (texts_of text (part v at to)))

  pub tells_stop : (v : View) (from to room at left : ℕ) → v.start ≤ at → at < to → None ≡ unless_eof (token_of v at) → Tells v from to room at left → true ≡ not (ltb room (length (texts_of text (part v from to))))
  tells_stop v from to room at left low less none t = ap not (sym (t ∙ le-ltb left (length (texts_of text (part v at to))) (omega (arith, ap length (no_texts v at to low less none)))))

  module _ (v : View) (from to room at left : ℕ) (k : Token) (low : v.start ≤ at) (less : at < to) (is : Some k ≡ unless_eof (token_of v at)) where
    next_texts : texts_of text (part v at to) ≡ text k ++ texts_of text (part v (at + 1) to)
    next_texts =
        let some = unless_some (token_of v at) k is in
        ap (texts_of text) (part_more v at to k low less some.0) ∙ texts_more k (part v (at + 1) to) some.1

    next_length : length (texts_of text (part v at to)) ≡ length (text k) + length (texts_of text (part v (at + 1) to))
    next_length = ap length next_texts ∙ length-append (text k) (texts_of text (part v (at + 1) to))

    pub tells_short : Tells v from to room at left → left < length (text k) → false ≡ not (ltb room (length (texts_of text (part v from to))))
    tells_short t l = ap not (sym (t ∙ lt-ltb left (length (texts_of text (part v at to))) (omega (arith, next_length))))

    pub tells_more : Tells v from to room at left → length (text k) ≤ left → Tells v from to room (at + 1) (left - length (text k))
    tells_more t l =
        let rest = length (texts_of text (part v (at + 1) to)) in
        let here = length (texts_of text (part v at to)) in
        t ∙ ⊎_elim
        (λ (m : left < here). lt-ltb left here m ∙ sym (lt-ltb (left - length (text k)) rest (omega (arith, next_length))))
        (λ m. le-ltb left here m ∙ sym (le-ltb (left - length (text k)) rest (omega (arith, next_length))))
        (cases_lt left here)

  -- the texts that are written so far, with the rest of the output as it was, and those still to come
  pub record Put (v : View) (from to at len : ℕ) (old out : List ℕ) : Type 0 where
    pub done : List ℕ
    pub long : length done ≡ len
    pub all : done ++ texts_of text (part v at to) ≡ texts_of text (part v from to)
    pub is : out ≡ done ++ drop len old
    pub fits : length (texts_of text (part v from to)) ≤ length old

  put_done : (v : View) (from to at len : ℕ) (old out : List ℕ) → texts_of text (part v at to) ≡ [] → Put v from to at len old out → (len ≡ length (texts_of text (part v from to))) × (out ≡ texts_of text (part v from to) ++ drop len old)
  put_done v from to at len old out none p =
      let done : p.done ≡ texts_of text (part v from to) = sym (append-nil p.done) ∙ ap (λ l. p.done ++ l) (sym none) ∙ p.all in
      (sym p.long ∙ ap length done, p.is ∙ ap (λ l. l ++ drop len old) done)

  module _ (v : View) (from to at len : ℕ) (k : Token) (old out : List ℕ) (low : v.start ≤ at) (less : at < to) (is : Some k ≡ unless_eof (token_of v at)) (p : Put v from to at len old out) where
    -- the text of the token at hand ends within the output
    pub put_end : (n : ℕ) → n ≡ length (text k) → len + n ≤ length out
    put_end n long = omega (arith, ap length p.is, length-append p.done (drop len old), length-drop len old, p.fits, ap length p.all, length-append p.done (texts_of text (part v at to)), p.long, next_length v from to 0 at 0 k low less is)

    put_next : (new : List ℕ) → new ≡ put_mid len (length (text k)) out (text k) → Put v from to (at + 1) (len + length (text k)) old new
    put_next new written = record {
      done = p.done ++ text k;
      long = length-append p.done (text k) ∙ ap (λ n. n + length (text k)) p.long;
      all = append_assoc p.done (text k) (texts_of text (part v (at + 1) to)) ∙ ap (λ l. p.done ++ l) (sym (next_texts v from to 0 at 0 k low less is)) ∙ p.all;
      is = written ∙ (λ i. front i ++ (text k ++ back i)) ∙ sym (append_assoc p.done (text k) (drop (len + length (text k)) old));
      fits = p.fits;
    }
      where
        front : take len out ≡ p.done
        front = ap (take len) p.is ∙ take_at p.done (drop len old) len p.long

        back : drop (length (text k)) (drop len out) ≡ drop (len + length (text k)) old
        back = ap (λ l. drop (length (text k)) (drop len l)) p.is ∙ ap (drop (length (text k))) (drop_at p.done (drop len old) len p.long) ∙ drop-drop (length (text k)) len old

    pub put_more : (n : ℕ) (part : List ℕ) → n ≡ length (text k) → part ≡ text k → Put v from to (at + 1) (len + n) old (put_mid len (len + n - len) out part)
    put_more n part long written =
        let width : len + n - len ≡ length (text k) = omega arith in
        let end : len + n ≡ len + length (text k) = omega arith in
        let put = put_next (put_mid len (len + n - len) out part) (λ i. put_mid len (width i) out (written i)) in
        subst (λ m. Put v from to (at + 1) m old (put_mid len (len + n - len) out part)) (sym end) put

  pub put_stop : (v : View) (from to at len : ℕ) (old out : List ℕ) → v.start ≤ at → at < to → None ≡ unless_eof (token_of v at) → Put v from to at len old out → (len ≡ length (texts_of text (part v from to))) × (out ≡ texts_of text (part v from to) ++ drop len old)
  put_stop v from to at len old out low less none p = put_done v from to at len old out (no_texts v at to low less none) p
