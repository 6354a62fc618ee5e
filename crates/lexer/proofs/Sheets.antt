-- The computed tokens are the tokens of the sheet. Assumes nothing.
use Rattle.std.proofs.Common.{◌≡◌, ℕ, zero, suc, ◌+◌, ◌<◌, ◌≤◌, Bool, true, false, cond, not, eqb, List, [], ◌∷◌, ◌++◌, length, take, drop, Some, None, count_by, Option, sym, refl, ap, ◌∙◌, subst, ⊎_elim, add-one, one-add, arith, length-drop, length-take-le}
use lib.ListN.{length-map}
use Rattle.std.specs.List.{prefix_len, suffix_len}
use Rattle.std.proofs.lemmas.List.Sums.{prefix_len-le-length}
use Rattle.characters.specs.Text.{Text, Lawful, start_from, item_at}
use Rattle.characters.proofs.Starts.{start_from_start}
use Rattle.characters.proofs.Onward.{onward_none, onward_start, item_within, item_start}
use Rattle.lexer.specs.declared.class.Class.{Class}
use Rattle.lexer.specs.declared.class.Class.TheVariants.{Letter, Digit, LineFeed, Blank, Hash, Other}
use Rattle.lexer.specs.Classes.{letter, digit, line_feed, blank, class}
use Rattle.lexer.specs.Lexemes.{Lexeme}
use Rattle.lexer.specs.Sheets.{between, line_at, column_at, Match, Tokens, ended, then, Sheet}
use Rattle.lexer.specs.Lexed.{type_of, pointed, fraction, more, next_line, next_column, made_eof, lexed}
use Rattle.lexer.specs.Passed.{Passed, onward, rest}
use Rattle.lexer.proofs.Passing.{passed_none, passed_more, passed_both, rest_more}
use Rattle.lexer.proofs.Pulling.{lexed_eof, lexed_more, passed_wide}
use Rattle.lexer.proofs.Matches.{kind, kind_feed, feed_cases, lexeme_of, none_longer}
use Rattle.lexer.proofs.Betweens.{passed_between, further_between, between_both}
use Rattle.lexer.proofs.Places.{lexeme_quiet, next_place_line, next_place_column, feed_place_line, feed_place_column}

-- a match takes no more than there is
pointed_le : (n : ℕ) → pointed n ≤ n + 1
pointed_le zero = omega arith
pointed_le (suc n) = omega arith

fraction_le : (cs : List ℕ) → fraction cs ≤ length cs
fraction_le [] = omega arith
fraction_le (c ∷ cs) = go (eqb c 46)
  where
    go : (b : Bool) → cond b (pointed (prefix_len digit cs)) 0 ≤ length (c ∷ cs)
    go true = omega (arith, pointed_le (prefix_len digit cs), prefix_len-le-length digit cs)
    go false = omega arith

more_le : (k : Class) (cs : List ℕ) → more k cs ≤ length cs
more_le Letter cs = prefix_len-le-length letter cs
more_le Digit cs = omega (arith, fraction_le (drop (prefix_len digit cs) cs), length-drop (prefix_len digit cs) cs, prefix_len-le-length digit cs)
more_le LineFeed cs = omega arith
more_le Blank cs = prefix_len-le-length blank cs
more_le Hash cs = prefix_len-le-length (λ c. not (line_feed c)) cs
more_le Other cs = omega arith

module _ (t : Text) (ok : Lawful t) where
  -- symbols that there are can be passed
  passes : (n i : ℕ) → start_from t i ≡ i → n ≤ length (onward t i) → (end : ℕ) × Passed t i n end n
  passes zero i s h = (i, passed_none t ok i s)
  passes (suc n) i s h = go (passes n i s (omega arith))
    where
      go : (end : ℕ) × Passed t i n end n → (end : ℕ) × Passed t i (suc n) end (suc n)
      go p = by_item (item_at t p.0) refl
        where
          by_item : (o : Option ℕ) → item_at t p.0 ≡ o → (end : ℕ) × Passed t i (suc n) end (suc n)
          by_item None e = absurd (omega (arith, ap length (sym p.1.left ∙ (onward_none t ok p.0 p.1.start e).0), length-drop n (onward t i)))
          by_item (Some c) e = (start_from t (suc p.0), subst (λ k. Passed t i k (start_from t (suc p.0)) k) (add-one n) (passed_more t ok i n p.0 n c (start_from t (suc p.0)) p.1 e refl))

-- where the second symbol stands, and how many more than the first a match takes
abbrev next_of : Text → ℕ → ℕ
next_of t i = start_from t (suc i)

abbrev taken : Text → ℕ → ℕ → ℕ
taken t i c = more (class c) (rest t (next_of t i))

-- the match at a symbol
module _ (t : Text) (ok : Lawful t) (i c : ℕ) (e : item_at t i ≡ Some c) (end : ℕ) (passed : Passed t (next_of t i) (taken t i c) end (taken t i c)) where
  whole_match : Passed t i (1 + taken t i c) end (1 + taken t i c)
  whole_match = passed_both t ok i 1 (next_of t i) (taken t i c) (taken t i c) end (passed_more t ok i 0 i 0 c (next_of t i) (passed_none t ok i (item_start t ok i c e)) e refl) passed

  rest_is : rest t i ≡ c ∷ rest t (next_of t i)
  rest_is = rest_more t ok i c (next_of t i) e refl

  held : 1 + taken t i c ≤ length (onward t i)
  held = omega (arith, more_le (class c) (rest t (next_of t i)), ap length rest_is, length-map (onward t i) (λ p. p.code))

  piece : between t i end ≡ c ∷ take (taken t i c) (rest t (next_of t i))
  piece = passed_between t ok i (1 + taken t i c) end (1 + taken t i c) whole_match held ∙ (λ k. take (one-add (taken t i c) k) (rest_is k))

  lexeme_here : Lexeme (type_of (class c)) (between t i end)
  lexeme_here = subst (Lexeme (type_of (class c))) (sym piece) (lexeme_of c (rest t (next_of t i)) (class c) (kind c))

  none_further : (k other : ℕ) → end < k → k ≤ t.size → Lexeme other (between t i k) → ⊥
  none_further k other further within lexeme =
      let f = further_between t ok i (1 + taken t i c) end (1 + taken t i c) k whole_match held further within in
      go f.0 f.1 f.2 f.3
    where
      go : (m : ℕ) → 1 + taken t i c < m → m ≤ length (rest t i) → between t i k ≡ take m (rest t i) → ⊥
      go zero more there is = omega arith
      go (suc m) more there is = none_longer c (rest t (next_of t i)) m (omega (arith, ap length rest_is)) (omega arith) lexeme (is ∙ ap (take (suc m)) rest_is)

  match : Match t i end (type_of (class c))
  match = record { some = omega (arith, passed_wide t ok i c (next_of t i) end _ _ e refl passed); start = passed.start; lexeme = lexeme_here; longest = none_further }

  before_is : between t 0 end ≡ between t 0 i ++ between t i end
  before_is = between_both t ok i end (omega (arith, match.some))

  piece_feed : class c ≡ LineFeed → between t i end ≡ c ∷ []
  piece_feed is = piece ∙ ap (λ k. c ∷ take (more k (rest t (next_of t i))) (rest t (next_of t i))) is

  line_is : next_line (class c) (line_at t i) ≡ line_at t end
  line_is = ⊎_elim
      (λ is. feed_place_line (class c) (between t 0 i) c is (kind_feed (kind c) is) ∙ ap (λ l. 1 + count_by line_feed l) (sym (before_is ∙ ap (λ l. between t 0 i ++ l) (piece_feed is))))
      (λ other. next_place_line (class c) (between t 0 i) (between t i end) other.0 (lexeme_quiet lexeme_here other.1) ∙ ap (λ l. 1 + count_by line_feed l) (sym before_is))
      (feed_cases (class c))

  long : length (between t i end) ≡ 1 + taken t i c
  long = ap length piece ∙ omega (arith, length-take-le (taken t i c) (rest t (next_of t i)) (more_le (class c) (rest t (next_of t i))))

  column_is : next_column (class c) (taken t i c) (column_at t i) ≡ column_at t end
  column_is = ⊎_elim
      (λ is. feed_place_column (class c) (between t 0 i) c (taken t i c) is (kind_feed (kind c) is) ∙ ap (suffix_len (λ c. not (line_feed c))) (sym (before_is ∙ ap (λ l. between t 0 i ++ l) (piece_feed is))))
      (λ other. next_place_column (class c) (between t 0 i) (between t i end) (taken t i c) other.0 (lexeme_quiet lexeme_here other.1) long ∙ ap (suffix_len (λ c. not (line_feed c))) (sym before_is))
      (feed_cases (class c))

  -- a token, and then those from its end on
  token_first : Tokens t end (lexed t end (line_at t end) (column_at t end)) → Tokens t i (lexed t i (line_at t i) (column_at t i))
  token_first later =
      subst (Tokens t i) (sym (lexed_more t ok i c (next_of t i) end (taken t i c) (line_at t i) (column_at t i) e refl passed))
      (then match (subst (Tokens t end) (λ k. lexed t end (sym line_is k) (sym column_is k)) later))

module _ (t : Text) (ok : Lawful t) where
  eof_last : (i : ℕ) → start_from t i ≡ i → item_at t i ≡ None → Tokens t i (lexed t i (line_at t i) (column_at t i))
  eof_last i s e =
      let same = (onward_none t ok i s e).1 in
      subst (Tokens t i) (sym (lexed_eof t ok i (line_at t i) (column_at t i) e)) (subst (λ j. Tokens t j (made_eof t.size (line_at t j) (column_at t j) ∷ [])) (sym same) ended)

  -- from a start on, on its line and in its column; each match goes at least one position on
  sheet_from : (fuel i : ℕ) → start_from t i ≡ i → t.size ≤ i + fuel → Tokens t i (lexed t i (line_at t i) (column_at t i))
  sheet_from zero i s h = go (item_at t i) refl
    where
      go : (o : Option ℕ) → item_at t i ≡ o → Tokens t i (lexed t i (line_at t i) (column_at t i))
      go None e = eof_last i s e
      go (Some c) e = absurd (omega (arith, item_within t ok i c e))
  sheet_from (suc fuel) i s h = go (λ j s h. sheet_from fuel j s h) (item_at t i) refl
    where
      go : ((j : ℕ) → start_from t j ≡ j → t.size ≤ j + fuel → Tokens t j (lexed t j (line_at t j) (column_at t j))) → (o : Option ℕ) → item_at t i ≡ o → Tokens t i (lexed t i (line_at t i) (column_at t i))
      go later None e = eof_last i s e
      go later (Some c) e =
          let there : taken t i c ≤ length (onward t (next_of t i)) = omega (arith, more_le (class c) (rest t (next_of t i)), length-map (onward t (next_of t i)) (λ p. p.code)) in
          let p = passes t ok (taken t i c) (next_of t i) (start_from_start t ok (suc i)) there in
          token_first t ok i c e p.0 p.1 (later p.0 p.1.start (omega (arith, passed_wide t ok i c (next_of t i) p.0 _ _ e refl p.1)))

  -- nothing lies before the first start
  front_empty : (i : ℕ) → i ≡ start_from t 0 → between t 0 i ≡ []
  front_empty i e =
      passed_between t ok 0 0 i 0 (record { counted = refl; start = ap (start_from t) e ∙ start_from_start t ok 0 ∙ sym e; left = ap (onward t) e ∙ onward_start t ok 0; wide = omega arith }) (omega arith)

  pub sheet : (i : ℕ) → i ≡ start_from t 0 → Sheet t (lexed t i 1 0)
  sheet i e =
      let none = front_empty i e in
      let place : lexed t i (line_at t i) (column_at t i) ≡ lexed t i 1 0 = λ k. lexed t i (1 + count_by line_feed (none k)) (suffix_len (λ c. not (line_feed c)) (none k)) in
      subst (λ j. Tokens t j (lexed t i 1 0)) e (subst (Tokens t i) place (sheet_from t.size i (ap (start_from t) e ∙ start_from_start t ok 0 ∙ sym e) (omega arith)))
