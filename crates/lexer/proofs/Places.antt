-- The line and the column after a match. Assumes nothing.
use Rattle.std.proofs.Common.{◌≡◌, ℕ, suc, ◌+◌, Bool, true, false, cond, not, List, [], ◌∷◌, ◌++◌, reverse, length, count_by, sym, refl, ap, ◌∙◌, subst, ⊎_elim, arith}
use Rattle.std.specs.List.{prefix_len, suffix_len, AllByRecursion}
use Rattle.std.proofs.ByRecursion.{All-append, All-weaker}
use Rattle.std.proofs.lemmas.List.{reverse-append, length-reverse}
use Rattle.std.proofs.lemmas.List.Sums.{sum_by-append, sum_by-cons}
use Rattle.std.proofs.lemmas.Bool.{eqb-true, cases_Bool, not_from_false, not_from_true}
use Rattle.lexer.specs.declared.class.Class.{Class}
use Rattle.lexer.specs.declared.class.Class.TheVariants.{Letter, Digit, LineFeed, Blank, Other}
use Rattle.lexer.specs.Classes.{letter, digit, line_feed, blank, class}
use Rattle.lexer.specs.Lexemes.{Lexeme, word, whole, decimal, newline, space, remark, other}
use Rattle.lexer.specs.Lexed.{next_line, next_column}
use Rattle.lexer.proofs.Matches.{class_letter, class_digit, class_blank}
use Rattle.lexer.proofs.Pulling.{line_feed_line, line_feed_column, same_line, same_line_column}

abbrev pub Quiet : List ℕ → Type 0
Quiet cs = AllByRecursion (λ c. line_feed c ≡ false) cs

-- only the line feed is of its class
not_feed : (c : ℕ) → (class c ≡ LineFeed → ⊥) → line_feed c ≡ false
not_feed c h = ⊎_elim (λ e. absurd (h (ap class (eqb-true c 10 e)))) (λ e. e) (cases_Bool (line_feed c))

of_class : (c : ℕ) (k : Class) → class c ≡ k → (k ≡ LineFeed → ⊥) → line_feed c ≡ false
of_class c k e h = not_feed c (λ f. h (sym e ∙ f))

letter_is_none : Letter ≡ LineFeed → ⊥
letter_is_none e = cc

digit_is_none : Digit ≡ LineFeed → ⊥
digit_is_none e = cc

blank_is_none : Blank ≡ LineFeed → ⊥
blank_is_none e = cc

other_is_none : Other ≡ LineFeed → ⊥
other_is_none e = cc

digits_quiet : (cs : List ℕ) → AllByRecursion (λ c. digit c ≡ true) cs → Quiet cs
digits_quiet cs all = All-weaker (λ c. digit c ≡ true) (λ c. line_feed c ≡ false) (λ c e. of_class c Digit (class_digit c e) digit_is_none) cs all

-- a lexeme of another type holds no line feed
pub lexeme_quiet : {type : ℕ} {cs : List ℕ} → Lexeme type cs → (type ≡ 3 → ⊥) → Quiet cs
lexeme_quiet (word run) h = All-weaker (λ c. letter c ≡ true) (λ c. line_feed c ≡ false) (λ c e. of_class c Letter (class_letter c e) letter_is_none) _ run.1
lexeme_quiet (whole run) h = digits_quiet _ run.1
lexeme_quiet (decimal bs ds front back) h = All-append (λ c. line_feed c ≡ false) bs (46 ∷ ds) (digits_quiet bs front.1) (refl, digits_quiet ds back.1)
lexeme_quiet newline h = absurd (h refl)
lexeme_quiet (space run) h = All-weaker (λ c. blank c ≡ true) (λ c. line_feed c ≡ false) (λ c e. of_class c Blank (class_blank c e) blank_is_none) _ run.1
lexeme_quiet (remark quiet) h = (refl, quiet)
lexeme_quiet (other is) h = (of_class _ Other is other_is_none, tt)

pub quiet_count : (cs : List ℕ) → Quiet cs → count_by line_feed cs ≡ 0
quiet_count [] q = refl
quiet_count (c ∷ cs) q = sum_by-cons (λ c. cond (line_feed c) 1 0) c cs ∙ (λ i. cond (q.0 i) 1 0 + quiet_count cs q.1 i)

pub lines_add : (xs ys : List ℕ) → count_by line_feed (xs ++ ys) ≡ count_by line_feed xs + count_by line_feed ys
lines_add xs ys = sum_by-append (λ c. cond (line_feed c) 1 0) xs ys

leading_past : (test : ℕ → Bool) (xs ys : List ℕ) → AllByRecursion (λ c. test c ≡ true) xs → prefix_len test (xs ++ ys) ≡ length xs + prefix_len test ys
leading_past test [] ys all = omega arith
leading_past test (x ∷ xs) ys all =
    let more : 1 + prefix_len test (xs ++ ys) ≡ suc (length xs) + prefix_len test ys = omega (arith, leading_past test xs ys all.1) in
    ap (λ b. cond b (1 + prefix_len test (xs ++ ys)) 0) all.0 ∙ more

all_reverse : (P : ℕ → Type 0) (cs : List ℕ) → AllByRecursion P cs → AllByRecursion P (reverse cs)
all_reverse P [] all = tt
all_reverse P (c ∷ cs) all = subst (AllByRecursion P) (sym (reverse-append (c ∷ []) cs)) (All-append P (reverse cs) (c ∷ []) (all_reverse P cs all.1) (all.0, tt))

-- symbols of the same line add to the column
pub columns_add : (xs ys : List ℕ) → Quiet ys → suffix_len (λ c. not (line_feed c)) (xs ++ ys) ≡ suffix_len (λ c. not (line_feed c)) xs + length ys
columns_add xs ys q =
    let test = λ (c : ℕ). not (line_feed c) in
    let passes = all_reverse (λ c. not (line_feed c) ≡ true) ys (All-weaker (λ c. line_feed c ≡ false) (λ c. not (line_feed c) ≡ true) (λ c e. not_from_false (line_feed c) e) ys q) in
    ap (prefix_len test) (reverse-append xs ys) ∙ leading_past test (reverse ys) (reverse xs) passes ∙ omega (arith, length-reverse ys)

-- and a line feed starts a line
pub columns_end : (xs : List ℕ) (c : ℕ) → line_feed c ≡ true → suffix_len (λ c. not (line_feed c)) (xs ++ c ∷ []) ≡ 0
columns_end xs c e =
    ap (prefix_len (λ c. not (line_feed c))) (reverse-append xs (c ∷ [])) ∙ ap (λ b. cond b (1 + prefix_len (λ c. not (line_feed c)) (reverse xs)) 0) (not_from_true (line_feed c) e)

-- after the symbols of a match, on the same line or on the next
pub next_place_line : (k : Class) (xs ys : List ℕ) → (k ≡ LineFeed → ⊥) → Quiet ys → next_line k (1 + count_by line_feed xs) ≡ 1 + count_by line_feed (xs ++ ys)
next_place_line k xs ys h q = same_line k _ h ∙ omega (arith, lines_add xs ys, quiet_count ys q)

pub next_place_column : (k : Class) (xs ys : List ℕ) (n : ℕ) → (k ≡ LineFeed → ⊥) → Quiet ys → length ys ≡ 1 + n → next_column k n (suffix_len (λ c. not (line_feed c)) xs) ≡ suffix_len (λ c. not (line_feed c)) (xs ++ ys)
next_place_column k xs ys n h q long = same_line_column k n _ h ∙ sym (columns_add xs ys q ∙ ap (λ m. suffix_len (λ c. not (line_feed c)) xs + m) long)

pub feed_place_line : (k : Class) (xs : List ℕ) (c : ℕ) → k ≡ LineFeed → line_feed c ≡ true → next_line k (1 + count_by line_feed xs) ≡ 1 + count_by line_feed (xs ++ c ∷ [])
feed_place_line k xs c is e =
    let one : count_by line_feed (c ∷ []) ≡ 1 = ap (λ b. 0 + cond b 1 0) e in
    line_feed_line k _ is ∙ omega (arith, lines_add xs (c ∷ []), one)

pub feed_place_column : (k : Class) (xs : List ℕ) (c n : ℕ) → k ≡ LineFeed → line_feed c ≡ true → next_column k n (suffix_len (λ c. not (line_feed c)) xs) ≡ suffix_len (λ c. not (line_feed c)) (xs ++ c ∷ [])
feed_place_column k xs c n is e = line_feed_column k n _ is ∙ sym (columns_end xs c e)
