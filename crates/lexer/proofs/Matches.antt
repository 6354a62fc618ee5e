-- The symbols that a match takes make a lexeme, and no more of them do. Assumes nothing.
use Rattle.std.proofs.Common.{◌≡◌, ℕ, zero, suc, ◌+◌, ◌<◌, ◌≤◌, Bool, true, false, cond, not, ◌||◌, eqb, leb, ◌⊎◌, List, [], ◌∷◌, ◌++◌, length, take, drop, sym, refl, ap, ◌∙◌, subst, inl, inr, ⊎_elim, add-zero, arith, length-append, take-append-drop, length-take-le, take-add}
use Rattle.std.specs.List.{prefix_len, AllByRecursion}
use Rattle.std.proofs.lemmas.List.Sums.{prefix_len-le-length}
use Rattle.std.proofs.lemmas.List.{append_assoc, take_at, drop_at}
use Rattle.std.proofs.lemmas.Bool.{eqb-true, leb-true, lt-leb, and_parts, and_left, or_from, or_cases, not_from_false, not-true}
use Rattle.lexer.specs.declared.class.Class.{Class}
use Rattle.lexer.specs.declared.class.Class.TheVariants.{Letter, Digit, LineFeed, Blank, Hash, Other}
use Rattle.lexer.specs.Classes.{letter, digit, line_feed, blank, hash, class}
use Rattle.lexer.specs.Lexemes.{Run, Lexeme, word, whole, decimal, newline, space, remark, other}
use Rattle.lexer.specs.Lexed.{type_of, pointed, fraction, number, more}

-- a symbol of each class
pub data Kind (c : ℕ) : Class → Type 0 where
  letters : letter c ≡ true → Kind c Letter
  digits : digit c ≡ true → Kind c Digit
  feeds : line_feed c ≡ true → Kind c LineFeed
  blanks : blank c ≡ true → Kind c Blank
  hashes : hash c ≡ true → Kind c Hash
  others : class c ≡ Other → Kind c Other

pub kind : (c : ℕ) → Kind c (class c)
kind c = go (letter c) (digit c) (line_feed c) (blank c) (hash c) refl refl refl refl refl
  where
    go : (x y z u v : Bool) → letter c ≡ x → digit c ≡ y → line_feed c ≡ z → blank c ≡ u → hash c ≡ v → Kind c (cond x Letter (cond y Digit (cond z LineFeed (cond u Blank (cond v Hash Other)))))
    go true y z u v a b d e f = letters a
    go false true z u v a b d e f = digits b
    go false false true u v a b d e f = feeds d
    go false false false true v a b d e f = blanks e
    go false false false false true a b d e f = hashes f
    go false false false false false a b d e f = others (λ i. cond (a i) Letter (cond (b i) Digit (cond (d i) LineFeed (cond (e i) Blank (cond (f i) Hash Other)))))

-- the class of the line feed has no other symbol, and its type no other class
pub kind_feed : {c : ℕ} {k : Class} → Kind c k → k ≡ LineFeed → line_feed c ≡ true
kind_feed (letters e) is = absurd cc
kind_feed (digits e) is = absurd cc
kind_feed (feeds e) is = e
kind_feed (blanks e) is = absurd cc
kind_feed (hashes e) is = absurd cc
kind_feed (others e) is = absurd cc

pub feed_cases : (k : Class) → (k ≡ LineFeed) ⊎ ((k ≡ LineFeed → ⊥) × (type_of k ≡ 3 → ⊥))
feed_cases Letter = inr (λ e. cc, λ e. omega arith)
feed_cases Digit = inr (λ e. cc, λ e. omega arith)
feed_cases LineFeed = inl refl
feed_cases Blank = inr (λ e. cc, λ e. omega arith)
feed_cases Hash = inr (λ e. cc, λ e. omega arith)
feed_cases Other = inr (λ e. cc, λ e. omega arith)

-- the tests exclude each other
pub class_letter : (c : ℕ) → letter c ≡ true → class c ≡ Letter
class_letter c e = rw e

pub class_digit : (c : ℕ) → digit c ≡ true → class c ≡ Digit
class_digit c e =
    let low : c ≤ 57 = leb-true c 57 (and_parts (leb 48 c) (leb c 57) e).1 in
    let no_letter : letter c ≡ false = or_from _ _ (and_left (leb 65 c) (leb c 90) (lt-leb 65 c (omega arith))) (and_left (leb 97 c) (leb c 122) (lt-leb 97 c (omega arith))) in
    rw (no_letter, e)

pub class_blank : (c : ℕ) → blank c ≡ true → class c ≡ Blank
class_blank c e =
    ⊎_elim (λ h. ap class (eqb-true c 32 h)) (λ h. ⊎_elim (λ h. ap class (eqb-true c 9 h)) (λ h. ap class (eqb-true c 13 h)) (or_cases (eqb c 9) (eqb c 13) h)) (or_cases (eqb c 32) (eqb c 9 || eqb c 13) e)

-- what a run takes passes its test
pub leading_all : (test : ℕ → Bool) (cs : List ℕ) → AllByRecursion (λ c. test c ≡ true) (take (prefix_len test cs) cs)
leading_all test [] = tt
leading_all test (c ∷ cs) = go (test c) refl (leading_all test cs)
  where
    go : (b : Bool) → test c ≡ b → AllByRecursion (λ c. test c ≡ true) (take (prefix_len test cs) cs) → AllByRecursion (λ c. test c ≡ true) (take (cond b (1 + prefix_len test cs) 0) (c ∷ cs))
    go true e rest =
        let next : suc (prefix_len test cs) ≡ 1 + prefix_len test cs = omega arith in
        subst (λ n. AllByRecursion (λ c. test c ≡ true) (take n (c ∷ cs))) next (e, rest)
    go false e rest = tt

-- and no longer front does
pub leading_most : (test : ℕ → Bool) (cs : List ℕ) (m : ℕ) → m ≤ length cs → AllByRecursion (λ c. test c ≡ true) (take m cs) → m ≤ prefix_len test cs
leading_most test cs zero h all = omega arith
leading_most test [] (suc m) h all = omega arith
leading_most test (c ∷ cs) (suc m) h all =
    let more : suc m ≤ 1 + prefix_len test cs = omega (arith, leading_most test cs m (omega arith) all.1) in
    subst (λ b. suc m ≤ cond b (1 + prefix_len test cs) 0) (sym all.0) more

-- a run that begins with a symbol of its own
begun : (test : ℕ → Bool) (c : ℕ) (cs : List ℕ) → test c ≡ true → Run test (c ∷ take (prefix_len test cs) cs)
begun test c cs e = (omega arith, (e, leading_all test cs))

-- the symbols of a remark after its `#`
not_feeds : (cs : List ℕ) → AllByRecursion (λ c. not (line_feed c) ≡ true) cs → AllByRecursion (λ c. line_feed c ≡ false) cs
not_feeds [] all = tt
not_feeds (c ∷ cs) all = (not-true (line_feed c) all.0, not_feeds cs all.1)

feeds_not : (cs : List ℕ) → AllByRecursion (λ c. line_feed c ≡ false) cs → AllByRecursion (λ c. not (line_feed c) ≡ true) cs
feeds_not [] all = tt
feeds_not (c ∷ cs) all = (not_from_false (line_feed c) all.0, feeds_not cs all.1)

-- the whole part of a number, and what is left after it
number_rest : (cs rest : List ℕ) → drop (prefix_len digit cs) cs ≡ rest → number cs ≡ prefix_len digit cs + fraction rest
number_rest cs rest e = ap (λ l. prefix_len digit cs + fraction l) e

module _ (c : ℕ) (cs : List ℕ) (first : digit c ≡ true) where
  plain : (rest : List ℕ) → drop (prefix_len digit cs) cs ≡ rest → fraction rest ≡ 0 → Lexeme 2 (c ∷ take (number cs) cs)
  plain rest e none =
      let same : number cs ≡ prefix_len digit cs = number_rest cs rest e ∙ ap (λ n. prefix_len digit cs + n) none ∙ add-zero (prefix_len digit cs) in
      subst (λ n. Lexeme 2 (c ∷ take n cs)) (sym same) (whole (begun digit c cs first))

  with_point : (xs : List ℕ) (n : ℕ) → drop (prefix_len digit cs) cs ≡ 46 ∷ xs → prefix_len digit xs ≡ suc n → Lexeme 2 (c ∷ take (number cs) cs)
  with_point xs n e f =
      let same : number cs ≡ prefix_len digit cs + suc (suc n) = number_rest cs (46 ∷ xs) e ∙ ap (λ m. prefix_len digit cs + pointed m) f in
      let split : take (number cs) cs ≡ take (prefix_len digit cs) cs ++ 46 ∷ take (suc n) xs =
      ap (λ m. take m cs) same ∙ take-add (prefix_len digit cs) (suc (suc n)) cs ∙ ap (λ l. take (prefix_len digit cs) cs ++ take (suc (suc n)) l) e in
      let long : suc n ≤ length xs = omega (arith, prefix_len-le-length digit xs) in
      let some : 0 < length (take (suc n) xs) = omega (arith, length-take-le (suc n) xs long) in
      subst (λ l. Lexeme 2 (c ∷ l)) (sym split) (decimal (c ∷ take (prefix_len digit cs) cs) (take (suc n) xs) (begun digit c cs first) (some, subst (λ m. AllByRecursion (λ c. digit c ≡ true) (take m xs)) f (leading_all digit xs)))

  number_lexeme : Lexeme 2 (c ∷ take (number cs) cs)
  number_lexeme = go (drop (prefix_len digit cs) cs) refl
    where
      point : (b : Bool) (x : ℕ) (xs : List ℕ) → eqb x 46 ≡ b → drop (prefix_len digit cs) cs ≡ x ∷ xs → (n : ℕ) → prefix_len digit xs ≡ n → Lexeme 2 (c ∷ take (number cs) cs)
      point false x xs same e n f = plain (x ∷ xs) e (ap (λ b. cond b (pointed (prefix_len digit xs)) 0) same)
      point true x xs same e zero f = plain (x ∷ xs) e (ap (λ b. cond b (pointed (prefix_len digit xs)) 0) same ∙ ap pointed f)
      point true x xs same e (suc n) f = with_point xs n (e ∙ ap (λ x. x ∷ xs) (eqb-true x 46 same)) f

      go : (rest : List ℕ) → drop (prefix_len digit cs) cs ≡ rest → Lexeme 2 (c ∷ take (number cs) cs)
      go [] f = plain [] f refl
      go (x ∷ xs) f = point (eqb x 46) x xs refl f (prefix_len digit xs) refl

pub lexeme_of : (c : ℕ) (cs : List ℕ) (k : Class) → Kind c k → Lexeme (type_of k) (c ∷ take (more k cs) cs)
lexeme_of c cs Letter (letters e) = word (begun letter c cs e)
lexeme_of c cs Digit (digits e) = number_lexeme c cs e
lexeme_of c cs LineFeed (feeds e) = subst (λ c. Lexeme 3 (c ∷ [])) (sym (eqb-true c 10 e)) newline
lexeme_of c cs Blank (blanks e) = space (begun blank c cs e)
lexeme_of c cs Hash (hashes e) = subst (λ c. Lexeme 5 (c ∷ take (more Hash cs) cs)) (sym (eqb-true c 35 e)) (remark (not_feeds _ (leading_all (λ c. not (line_feed c)) cs)))
lexeme_of c cs Other (others e) = other e

-- a run stops before a symbol that does not pass
leading_stops : (test : ℕ → Bool) (xs : List ℕ) (y : ℕ) (zs : List ℕ) → AllByRecursion (λ c. test c ≡ true) xs → test y ≡ false → prefix_len test (xs ++ y ∷ zs) ≡ length xs
leading_stops test [] y zs all stop = ap (λ b. cond b (1 + prefix_len test zs) 0) stop
leading_stops test (x ∷ xs) y zs all stop =
    let more : 1 + prefix_len test (xs ++ y ∷ zs) ≡ suc (length xs) = omega (arith, leading_stops test xs y zs all.1 stop) in
    ap (λ b. cond b (1 + prefix_len test (xs ++ y ∷ zs)) 0) all.0 ∙ more

pointed_more : (n : ℕ) → 0 < n → n + 1 ≤ pointed n
pointed_more zero h = absurd (omega arith)
pointed_more (suc n) h = omega arith

-- digits, a point and digits: a number takes at least these
number_least : (xs ds zs : List ℕ) → AllByRecursion (λ c. digit c ≡ true) xs → Run digit ds → length xs + (1 + length ds) ≤ number (xs ++ 46 ∷ (ds ++ zs))
number_least xs ds zs front back =
    let whole = leading_stops digit xs 46 (ds ++ zs) front refl in
    let left : drop (prefix_len digit (xs ++ 46 ∷ (ds ++ zs))) (xs ++ 46 ∷ (ds ++ zs)) ≡ 46 ∷ (ds ++ zs) = drop_at xs (46 ∷ (ds ++ zs)) _ (sym whole) in
    let more = leading_most digit (ds ++ zs) (length ds) (omega (arith, length-append ds zs)) (subst (AllByRecursion (λ c. digit c ≡ true)) (sym (take_at ds zs (length ds) refl)) back.1) in
    omega (arith, whole, number_rest (xs ++ 46 ∷ (ds ++ zs)) (46 ∷ (ds ++ zs)) left, pointed_more (prefix_len digit (ds ++ zs)) (omega (arith, back.0, more)), more)

-- a longer piece is no lexeme of any type
module _ (c : ℕ) (cs : List ℕ) (m : ℕ) (held : m ≤ length cs) (longer : more (class c) cs < m) where
  -- a run of one test stops before
  stops : (test : ℕ → Bool) (k : Class) → class c ≡ k → prefix_len test cs ≤ more k cs → AllByRecursion (λ c. test c ≡ true) (take m cs) → ⊥
  stops test k is same all = omega (arith, leading_most test cs m held all, ap (λ k. more k cs) is, same)

  single : {x : ℕ} → x ∷ [] ≡ c ∷ take m cs → ⊥
  single e = omega (arith, ap length e, length-take-le m cs held)

  rest_all : (test : ℕ → Bool) (xs : List ℕ) → xs ≡ c ∷ take m cs → AllByRecursion (λ c. test c ≡ true) xs → (test c ≡ true) × AllByRecursion (λ c. test c ≡ true) (take m cs)
  rest_all test xs e all = subst (AllByRecursion (λ c. test c ≡ true)) e all

  no_decimal : (xs ds : List ℕ) → Run digit xs → Run digit ds → xs ++ 46 ∷ ds ≡ c ∷ take m cs → ⊥
  no_decimal [] ds front back e = omega (arith, front.0)
  no_decimal (x ∷ xs) ds front back e =
      let first : x ≡ c = cc in
      let rest : xs ++ 46 ∷ ds ≡ take m cs = cc in
      let all : cs ≡ xs ++ 46 ∷ (ds ++ drop m cs) = sym (take-append-drop m cs) ∙ ap (λ l. l ++ drop m cs) (sym rest) ∙ append_assoc xs (46 ∷ ds) (drop m cs) in
      let is = class_digit c (subst (λ c. digit c ≡ true) first front.1.0) in
      omega (arith, number_least xs ds (drop m cs) front.1.1 back, ap number all, ap (λ k. more k cs) is, ap length rest ∙ length-take-le m cs held, length-append xs (46 ∷ ds))

  pub none_longer : {type : ℕ} {xs : List ℕ} → Lexeme type xs → xs ≡ c ∷ take m cs → ⊥
  none_longer (word run) e = let all = rest_all letter _ e run.1 in stops letter Letter (class_letter c all.0) (omega arith) all.1
  none_longer (whole run) e = let all = rest_all digit _ e run.1 in stops digit Digit (class_digit c all.0) (omega arith) all.1
  none_longer (decimal bs ds front back) e = no_decimal bs ds front back e
  none_longer newline e = single e
  none_longer (space run) e = let all = rest_all blank _ e run.1 in stops blank Blank (class_blank c all.0) (omega arith) all.1
  none_longer (remark quiet) e =
      let first : 35 ≡ c = cc in
      stops (λ c. not (line_feed c)) Hash (ap class (sym first)) (omega arith) (subst (AllByRecursion (λ c. not (line_feed c) ≡ true)) (ap (drop 1) e) (feeds_not _ quiet))
  none_longer (other is) e = single e
