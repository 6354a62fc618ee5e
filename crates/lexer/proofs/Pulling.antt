-- What one pull from the lexer gives and leaves. Assumes nothing.
use Rattle.std.proofs.Common.{◌≡◌, ℕ, zero, suc, ◌+◌, ◌≤◌, Bool, true, false, cond, eqb, List, [], ◌∷◌, drop, Some, None, Option, sym, refl, ap, ◌∙◌, subst, arith}
use Rattle.std.proofs.lemmas.Bool.{eq-eqb, eqb-true}
use Rattle.characters.specs.Text.{Text, Point, Lawful, start_from, item_at}
use Rattle.characters.proofs.Onward.{onward_some, onward_none, item_start}
use Rattle.tokens.specs.declared.token.Token.{Token}
use Rattle.tokens.specs.Sources.{Pulls}
use Rattle.lexer.specs.declared.class.Class.{Class}
use Rattle.lexer.specs.declared.class.Class.TheVariants.{Letter, Digit, LineFeed, Blank, Hash, Other}
use Rattle.lexer.specs.Classes.{class}
use Rattle.lexer.specs.Lexed.{type_of, more, next_line, next_column, made, made_eof, first_at, tokens_of, left, lexed}
use Rattle.lexer.specs.Listed.{tokens_some}
use Rattle.lexer.specs.Passed.{Passed, onward, rest}
use Rattle.lexer.proofs.Passing.{left_more, next_above}

skip_drop : (size skipped line column : ℕ) (ps : List Point) → tokens_of size skipped line column ps ≡ tokens_of size 0 line column (drop skipped ps)
skip_drop size zero line column ps = refl
skip_drop size (suc skipped) line column [] = refl
skip_drop size (suc skipped) line column (p ∷ ps) = skip_drop size skipped line column ps

module _ (t : Text) (ok : Lawful t) where
  left_start : (i : ℕ) → start_from t i ≡ i → left t i ≡ onward t i
  left_start i s = ap (λ b. cond b (onward t i) []) (eq-eqb _ _ s)

  pub lexed_eof : (i line column : ℕ) → item_at t i ≡ None → lexed t i line column ≡ made_eof t.size line column ∷ []
  lexed_eof i line column e = ap (tokens_of t.size 0 line column) (go (eqb (start_from t i) i) refl)
    where
      go : (b : Bool) → eqb (start_from t i) i ≡ b → cond b (onward t i) [] ≡ []
      go true s = (onward_none t ok i (eqb-true _ _ s) e).0
      go false s = refl

  -- the first of what is left at a start stands there
  first_at_start : (i : ℕ) → start_from t i ≡ i → first_at t.size (onward t i) ≡ i
  first_at_start i s = go (item_at t i) refl
    where
      go : (o : Option ℕ) → item_at t i ≡ o → first_at t.size (onward t i) ≡ i
      go None e = let none = onward_none t ok i s e in ap (first_at t.size) none.0 ∙ sym none.1
      go (Some c) e = ap (first_at t.size) (onward_some t ok i c e)

  pub lexed_more : (i c next end count line column : ℕ) → item_at t i ≡ Some c → next ≡ start_from t (suc i) → Passed t next (more (class c) (rest t next)) end count
      → lexed t i line column ≡ made (type_of (class c)) i end line column ∷ lexed t end (next_line (class c) line) (next_column (class c) count column)
  lexed_more i c next end count line column e on passed =
      let n = more (class c) (rest t next) in
      let first = left_start i (item_start t ok i c e) ∙ left_more t ok i c next e on in
      let stop : first_at t.size (drop n (onward t next)) ≡ end = ap (first_at t.size) (sym passed.left) ∙ first_at_start end passed.start in
      let rest : drop n (onward t next) ≡ left t end = sym passed.left ∙ sym (left_start end passed.start) in
      ap (tokens_of t.size 0 line column) first
      ∙ (λ k. made (type_of (class c)) i (stop k) line column ∷ skip_drop t.size n (next_line (class c) line) (next_column (class c) n column) (onward t next) k)
      ∙ (λ k. made (type_of (class c)) i end line column ∷ tokens_of t.size 0 (next_line (class c) line) (next_column (class c) (sym passed.counted k) column) (rest k))

  pub lexed_some : (i line column : ℕ) → (k : Token) × ((ks : List Token) × (lexed t i line column ≡ k ∷ ks))
  lexed_some i line column = tokens_some t.size 0 line column (left t i)

  -- the EOF stays
  pub pulled_eof : (i line column : ℕ) (given : Token) → item_at t i ≡ None → given ≡ made_eof t.size line column → Pulls (lexed t i line column) given (lexed t i line column)
  pulled_eof i line column given e is =
      let one = lexed_eof i line column e in
      subst (λ ks. Pulls ks given (lexed t i line column)) (sym one) (is, one)

  -- a match is given and passed
  pub pulled_more : (i c next end count line column line' column' : ℕ) (k : Class) (given : Token) → item_at t i ≡ Some c → next ≡ start_from t (suc i) → k ≡ class c
      → Passed t next (more k (rest t next)) end count → given ≡ made (type_of k) i end line column → line' ≡ next_line k line → column' ≡ next_column k count column
      → Pulls (lexed t i line column) given (lexed t end line' column')
  pulled_more i c next end count line column line' column' k given e on is passed made_so lines columns =
      let all = lexed_more i c next end count line column e on (subst (λ k. Passed t next (more k (rest t next)) end count) is passed) in
      let after : lexed t end line' column' ≡ lexed t end (next_line (class c) line) (next_column (class c) count column) =
      (λ j. lexed t end (lines j) (columns j)) ∙ ap (λ k. lexed t end (next_line k line) (next_column k count column)) is in
      let some = lexed_some end line' column' in
      let whole = all ∙ ap (λ ks. made (type_of (class c)) i end line column ∷ ks) (sym after ∙ some.1.1) in
      subst (λ ks. Pulls ks given (lexed t end line' column')) (sym whole) (made_so ∙ ap (λ k. made (type_of k) i end line column) is, some.1.1)

  -- a match of some symbols takes at least as many positions
  pub passed_wide : (i c next end n count : ℕ) → item_at t i ≡ Some c → next ≡ start_from t (suc i) → Passed t next n end count → i + (1 + count) ≤ end
  passed_wide i c next end n count e on passed = omega (arith, next_above t ok i c next e on, passed.wide, passed.counted)

pub line_feed_line : (c : Class) (line : ℕ) → c ≡ LineFeed → next_line c line ≡ line + 1
line_feed_line c line e = ap (λ c. next_line c line) e

pub line_feed_column : (c : Class) (n column : ℕ) → c ≡ LineFeed → next_column c n column ≡ 0
line_feed_column c n column e = ap (λ c. next_column c n column) e

pub same_line : (c : Class) (line : ℕ) → (c ≡ LineFeed → ⊥) → next_line c line ≡ line
same_line Letter line h = refl
same_line Digit line h = refl
same_line LineFeed line h = absurd (h refl)
same_line Blank line h = refl
same_line Hash line h = refl
same_line Other line h = refl

pub same_line_column : (c : Class) (n column : ℕ) → (c ≡ LineFeed → ⊥) → next_column c n column ≡ column + (1 + n)
same_line_column Letter n column h = refl
same_line_column Digit n column h = refl
same_line_column LineFeed n column h = absurd (h refl)
same_line_column Blank n column h = refl
same_line_column Hash n column h = refl
same_line_column Other n column h = refl
