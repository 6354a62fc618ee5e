-- The tokens of a sheet keep values, remarks and space apart. Assumes nothing.
use Rattle.std.proofs.Common.{◌≡◌, ℕ, zero, suc, ◌<◌, ◌≤◌, Bool, true, false, ◌&&◌, leb, ◌⊎◌, List, [], ◌∷◌, ◌++◌, pos, Some, None, filter, Option, sym, refl, ap, ◌∙◌, subst, inl, inr, ⊎_elim, arith}
use lib.Signed.{le_z}
use Rattle.std.specs.List.{AllByRecursion}
use Rattle.std.proofs.ByRecursion.{All-append, All-push, All-weaker}
use Rattle.std.proofs.lemmas.Bool.{false≢true, true≢false, leb-true, le-leb, lt-leb, ne_eqb, and_parts, and_from, and_left, and_right, cases_lt, cases_eq}
use Rattle.characters.specs.Text.{Text, Lawful, start_from, item_at}
use Rattle.characters.proofs.Kept.{keeps, leaves}
use Rattle.characters.proofs.Starts.{start_from_within, start_from_above, start_from_start}
use Rattle.characters.proofs.Onward.{onward_none, item_within}
use Rattle.tokens.specs.declared.token.Token.{Token}
use Rattle.tokens.specs.Tokens.{is_eof}
use Rattle.lexer.specs.declared.class.Class.TheVariants.{Hash, Other}
use Rattle.lexer.specs.Classes.{letter, digit, line_feed, blank, class}
use Rattle.lexer.specs.Lexemes.{Lexeme, word, whole, decimal, newline, space, remark, other, channel}
use Rattle.lexer.specs.Sheets.{between, before, token, eof, Match, Tokens, ended, then, Sheet}
use Rattle.lexer.specs.Remarks.{InRemark, covers, Apart, ToldApart}
use Rattle.lexer.proofs.Betweens.{between_more, between_first, all_between, none_before}

-- a test that fails at 35 tells a symbol from `#`
not_hash : (test : ℕ → Bool) → test 35 ≡ false → (cs : List ℕ) → AllByRecursion (λ c. test c ≡ true) cs → AllByRecursion (λ c. c ≡ 35 → ⊥) cs
not_hash test fails cs a = All-weaker (λ c. test c ≡ true) (λ c. c ≡ 35 → ⊥) (λ c passes is. false≢true (sym fails ∙ ap test (sym is) ∙ passes)) cs a

-- a lexeme of another type than 5 holds no `#`, and on channel 1 it is blank
record Plain (type : ℕ) (cs : List ℕ) : Type 0 where
  apart : pos (channel type) ≡ pos 2 → ⊥
  unmarked : AllByRecursion (λ c. c ≡ 35 → ⊥) cs
  blanks : pos (channel type) ≡ pos 1 → AllByRecursion (λ c. blank c ≡ true) cs

-- one of type 5 is a `#` and what follows on its line
record Marked (type : ℕ) (cs : List ℕ) : Type 0 where
  typed : type ≡ 5
  follows : List ℕ
  first : cs ≡ 35 ∷ follows
  line : AllByRecursion (λ c. line_feed c ≡ false) follows

-- equal channels have equal numbers
same_channel : (m n : ℕ) → pos m ≡ pos n → m ≡ n
same_channel m n e = cc

-- on channel 0 there is only that no `#` is held
plain_value : (type : ℕ) (cs : List ℕ) → channel type ≡ 0 → AllByRecursion (λ c. c ≡ 35 → ⊥) cs → Plain type cs
plain_value type cs zeroth a = record {
  apart = λ e. omega (arith, zeroth, same_channel (channel type) 2 e);
  unmarked = a;
  blanks = λ e. absurd (omega (arith, zeroth, same_channel (channel type) 1 e));
}

-- 35 is no letter, digit, point, line feed or blank, and its class is Hash
sorted : {type : ℕ} {cs : List ℕ} → Lexeme type cs → Plain type cs ⊎ Marked type cs
sorted (word {cs} r) = inl (plain_value 1 cs refl (not_hash letter refl cs r.1))
sorted (whole {cs} r) = inl (plain_value 2 cs refl (not_hash digit refl cs r.1))
sorted (decimal cs ds r s) = inl (plain_value 2 (cs ++ 46 ∷ ds) refl (All-append (λ c. c ≡ 35 → ⊥) cs (46 ∷ ds) (not_hash digit refl cs r.1) (λ e. omega arith, not_hash digit refl ds s.1)))
sorted newline = inl (plain_value 3 (10 ∷ []) refl (λ e. omega arith, tt))
sorted (space {cs} r) = inl (record { apart = λ e. omega (arith, same_channel 1 2 e); unmarked = not_hash blank refl cs r.1; blanks = λ e. r.1 })
sorted (remark {cs} a) = inr (record { typed = refl; follows = cs; first = refl; line = a })
sorted (other {c} k) = inl (plain_value 6 (c ∷ []) refl (λ is. hash_other (sym (ap class is) ∙ k), tt))
  where
    hash_other : Hash ≡ Other → ⊥
    hash_other e = cc

-- a symbol that fails the test for a line feed is none
not_feed : (c : ℕ) → line_feed c ≡ false → c ≡ 10 → ⊥
not_feed c fails is = true≢false (sym (ap line_feed is) ∙ fails)

-- no remark that began before i reaches i or further
abbrev Closed : Text → ℕ → Type 0
Closed t i = (p c : ℕ) (r : InRemark t p) → r.hash < i → i ≤ p → item_at t p ≡ Some c → ⊥

module _ (t : Text) (ok : Lawful t) where
  -- nothing stands before the first start, so no remark begins there
  closed_first : Closed t (start_from t 0)
  closed_first p c r l m e = omega (arith, none_before t ok r.hash 35 r.marked)

  -- a piece with no `#`, where no remark reaches in, lies outside of remarks
  outside : (i j : ℕ) → Closed t i → AllByRecursion (λ c. c ≡ 35 → ⊥) (between t i j) → (p c : ℕ) → item_at t p ≡ Some c → i ≤ p → p < j → InRemark t p → ⊥
  outside i j closed plain p c e l m r = ⊎_elim
      (λ k. closed p c r k l e)
      (λ k. all_between t ok (λ c. c ≡ 35 → ⊥) i j r.hash 35 plain r.marked k (omega (arith, r.before)) refl)
      (cases_lt r.hash i)

  -- the longest match of a remark ends at a line feed or at the size
  ends_line : (i j type : ℕ) → Match t i j type → Marked type (between t i j) → (p c : ℕ) → j ≤ p → item_at t p ≡ Some c → item_at t j ≡ Some 10
  ends_line i j type m k p c l e = go (item_at t j) refl
    where
      longer : (d : ℕ) → item_at t j ≡ Some d → (d ≡ 10 → ⊥) → ⊥
      longer d f feed =
          let all : AllByRecursion (λ c. line_feed c ≡ false) (k.follows ++ d ∷ []) = All-push (λ c. line_feed c ≡ false) k.follows d k.line (ne_eqb d 10 feed) in
          let is : between t i (start_from t (suc j)) ≡ 35 ∷ (k.follows ++ d ∷ []) = between_more t ok i j d (omega (arith, m.some)) f ∙ ap (λ l. l ++ d ∷ []) k.first in
          m.longest (start_from t (suc j)) 5 (start_from_above t ok (suc j) (item_within t ok j d f)) (start_from_within t ok (suc j)) (subst (Lexeme 5) (sym is) (remark all))

      go : (o : Option ℕ) → item_at t j ≡ o → item_at t j ≡ Some 10
      go None f = absurd (omega (arith, (onward_none t ok j m.start f).1, item_within t ok p c e))
      go (Some d) f = ⊎_elim (λ feed. f ∙ ap Some feed) (λ apart. absurd (longer d f apart)) (cases_eq d 10)

  -- a `#` in a match makes it a remark, which the next line feed or the size ends: none reaches past it
  closed_next : (i j type : ℕ) → Match t i j type → Closed t i → Closed t j
  closed_next i j type m closed p c r l n e = ⊎_elim
      (λ k. closed p c r k (omega (arith, m.some)) e)
      (λ k.
      ⊎_elim
      (λ plain. all_between t ok (λ c. c ≡ 35 → ⊥) i j r.hash 35 plain.unmarked r.marked k l refl)
      (λ marked. r.unbroken j (omega arith) n (ends_line i j type m marked p c n e))
      (sorted m.lexeme))
      (cases_lt r.hash i)

-- a token covers the positions from its start on and before its end
covered : (i j p : ℕ) → (le_z (pos i) (pos p) && le_z (pos p) (before j)) ≡ true → (i ≤ p) × (p < j)
covered i zero p e = absurd (false≢true (and_parts (leb i p) false e).1)
covered i (suc j) p e = let both = and_parts (leb i p) (leb p j) e in (leb-true i p both.0, omega (arith, leb-true p j both.1))

covers_yes : (i j p : ℕ) → i ≤ p → p < j → (le_z (pos i) (pos p) && le_z (pos p) (before j)) ≡ true
covers_yes i zero p l m = absurd (omega arith)
covers_yes i (suc j) p l m = and_from (leb i p) (leb p j) (le-leb i p l) (le-leb p j (omega arith))

covers_no : (i j p : ℕ) → (p < i) ⊎ (j ≤ p) → (le_z (pos i) (pos p) && le_z (pos p) (before j)) ≡ false
covers_no i zero p (inl l) = and_left (leb i p) false (lt-leb i p l)
covers_no i (suc j) p (inl l) = and_left (leb i p) (leb p j) (lt-leb i p l)
covers_no i zero p (inr l) = and_right (leb i p) false refl
covers_no i (suc j) p (inr l) = and_right (leb i p) (leb p j) (lt-leb p j l)

module _ (t : Text) (ok : Lawful t) where
  -- the EOF covers nothing
  apart_eof : Apart t (eof t)
  apart_eof = record { value = λ h p c e k r. never p k; remark = λ h p c e k. absurd (never p k); space = λ h p c e k. absurd (never p k) }
    where
      never : (p : ℕ) → covers (eof t) p ≡ true → ⊥
      never p k = let both = covered t.size t.size p k in omega (arith, both.0, both.1)

  -- what is no remark lies outside of remarks
  apart_plain : (i j type : ℕ) → Closed t i → Plain type (between t i j) → Apart t (token t i j type)
  apart_plain i j type closed plain = record {
    value = λ h p c e k. out p c e k;
    remark = λ h p c e k. absurd (plain.apart h);
    space = λ h p c e k. let both = covered i j p k in (all_between t ok (λ c. blank c ≡ true) i j p c (plain.blanks h) e both.0 both.1, out p c e k);
  }
    where
      out : (p c : ℕ) → item_at t p ≡ Some c → covers (token t i j type) p ≡ true → InRemark t p → ⊥
      out p c e k = let both = covered i j p k in outside t ok i j closed plain.unmarked p c e both.0 both.1

  -- in a remark, its own `#` is the one before each symbol, with no line feed between
  apart_marked : (i j type : ℕ) → start_from t i ≡ i → i < j → Marked type (between t i j) → Apart t (token t i j type)
  apart_marked i j type s less marked = record {
    value = λ h p c e k r. omega (arith, same_channel 2 0 (sym on ∙ h));
    remark = λ h p c e k. inside p (covered i j p k);
    space = λ h p c e k. absurd (omega (arith, same_channel 2 1 (sym on ∙ h)));
  }
    where
      on : pos (channel type) ≡ pos 2
      on = ap (λ type. pos (channel type)) marked.typed

      unfed : AllByRecursion (λ c. c ≡ 10 → ⊥) (between t i j)
      unfed = subst (AllByRecursion (λ c. c ≡ 10 → ⊥)) (sym marked.first) (λ e. omega arith, All-weaker (λ c. line_feed c ≡ false) (λ c. c ≡ 10 → ⊥) not_feed marked.follows marked.line)

      inside : (p : ℕ) → (i ≤ p) × (p < j) → InRemark t p
      inside p both = record {
        hash = i;
        before = both.0;
        marked = between_first t ok i j 35 marked.follows s less marked.first;
        unbroken = λ l above below feed. all_between t ok (λ c. c ≡ 10 → ⊥) i j l 10 unfed feed above (omega (arith, both.1)) refl;
      }

  apart_token : (i j type : ℕ) → start_from t i ≡ i → Closed t i → Match t i j type → Apart t (token t i j type)
  apart_token i j type s closed m = ⊎_elim (apart_plain i j type closed) (apart_marked i j type s m.some) (sorted m.lexeme)

  each_apart : {i : ℕ} {ks : List Token} → Tokens t i ks → start_from t i ≡ i → Closed t i → AllByRecursion (Apart t) ks
  each_apart ended s closed = (apart_eof, tt)
  each_apart (then {i} {j} {type} m rest) s closed = (apart_token i j type s closed m, each_apart rest m.start (closed_next t ok i j type m closed))

  -- the tokens from i on cover nothing before i
  none_covers : {i : ℕ} {ks : List Token} → Tokens t i ks → (p : ℕ) → p < i → filter (λ k. covers k p) ks ≡ []
  none_covers ended p l = leaves (λ k. covers k p) (eof t) [] (covers_no t.size t.size p (inl l))
  none_covers (then {i} {j} {type} {ks} m rest) p l =
      leaves (λ k. covers k p) (token t i j type) ks (covers_no i j p (inl l)) ∙ none_covers rest p (omega (arith, m.some))

  -- each symbol from i on lies in exactly one of the tokens from i on
  one_covers : {i : ℕ} {ks : List Token} → Tokens t i ks → (p c : ℕ) → item_at t p ≡ Some c → i ≤ p → (k : Token) × (is_eof k ≡ false) × (filter (λ k. covers k p) ks ≡ k ∷ [])
  one_covers ended p c e l = absurd (omega (arith, item_within t ok p c e))
  one_covers (then {i} {j} {type} {ks} m rest) p c e l = ⊎_elim
      (λ less.
      (token t i j type, refl, keeps (λ k. covers k p) (token t i j type) ks (covers_yes i j p l less) ∙ ap (λ l. token t i j type ∷ l) (none_covers rest p less)))
      (λ past.
      let later = one_covers rest p c e past in
      (later.0, later.1, leaves (λ k. covers k p) (token t i j type) ks (covers_no i j p (inr past)) ∙ later.2))
      (cases_lt p j)

pub told_apart : (t : Text) → Lawful t → (ks : List Token) → Sheet t ks → ToldApart t ks
told_apart t ok ks sheet = record {
  each = each_apart t ok sheet (start_from_start t ok 0) (closed_first t ok);
  once = λ p c e. one_covers t ok sheet p c e (none_before t ok p c e);
}
