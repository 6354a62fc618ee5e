-- Passing over symbols, one after the other. Assumes nothing.
use Rattle.std.proofs.Common.{◌≡◌, ℕ, suc, ◌+◌, ◌<◌, ◌≤◌, Bool, true, false, List, [], ◌∷◌, drop, Some, None, sym, refl, ap, ◌∙◌, arith}
use Rattle.std.specs.List.{prefix_len}
use Rattle.std.proofs.lemmas.List.{drop-drop}
use Rattle.characters.specs.Text.{Text, Lawful, start_from, item_at}
use Rattle.characters.proofs.Starts.{start_from_within, start_from_above, start_from_start}
use Rattle.characters.proofs.Onward.{onward_some, onward_none, item_within}
use Rattle.lexer.specs.Lexed.{codes_of}
use Rattle.lexer.specs.Passed.{Passed, onward, rest}

module _ (t : Text) (ok : Lawful t) where
  pub passed_none : (i : ℕ) → start_from t i ≡ i → Passed t i 0 i 0
  passed_none i s = record { counted = refl; start = s; left = refl; wide = omega arith }

  -- where the next symbol starts, or the size
  pub next_start : (i next : ℕ) → next ≡ start_from t i → start_from t next ≡ next
  next_start i next on = ap (start_from t) on ∙ start_from_start t ok i ∙ sym on

  pub next_above : (end c next : ℕ) → item_at t end ≡ Some c → next ≡ start_from t (suc end) → end < next
  next_above end c next e n = omega (arith, n, start_from_above t ok (suc end) (item_within t ok end c e))

  pub end_within : (end : ℕ) → start_from t end ≡ end → end ≤ 65536
  end_within end s = omega (arith, s, start_from_within t ok end, ok.few)

  pub left_more : (end c next : ℕ) → item_at t end ≡ Some c → next ≡ start_from t (suc end) → onward t end ≡ record { at = end; code = c } ∷ onward t next
  left_more end c next e n = onward_some t ok end c e ∙ ap (λ k. record { at = end; code = c } ∷ onward t k) (sym n)

  pub rest_more : (end c next : ℕ) → item_at t end ≡ Some c → next ≡ start_from t (suc end) → rest t end ≡ c ∷ rest t next
  rest_more end c next e n = ap codes_of (left_more end c next e n)

  pub rest_none : (end : ℕ) → start_from t end ≡ end → item_at t end ≡ None → rest t end ≡ []
  rest_none end s e = ap codes_of (onward_none t ok end s e).0

  pub passed_more : (i n end count c next : ℕ) → Passed t i n end count → item_at t end ≡ Some c → next ≡ start_from t (suc end) → Passed t i (n + 1) next (count + 1)
  passed_more i n end count c next old e on = record {
    counted = ap (λ k. k + 1) old.counted;
    start = next_start (suc end) next on;
    left = ap (drop 1) (sym (left_more end c next e on) ∙ old.left) ∙ drop-drop 1 n (onward t i);
    wide = omega (arith, old.wide, next_above end c next e on);
  }

  -- a piece and then another
  pub passed_both : (i n j k m end : ℕ) → Passed t i n j n → Passed t j m end k → Passed t i (n + m) end (n + k)
  passed_both i n j k m end one two = record {
    counted = ap (λ k. n + k) two.counted;
    start = two.start;
    left = two.left ∙ ap (drop m) one.left ∙ drop-drop m n (onward t i);
    wide = omega (arith, one.wide, two.wide);
  }

-- a run goes on with a symbol that passes, and ends before one that does not
pub leading_yes : (test : ℕ → Bool) (c : ℕ) (cs : List ℕ) → test c ≡ true → prefix_len test (c ∷ cs) ≡ 1 + prefix_len test cs
leading_yes test c cs e = rw e

pub leading_no : (test : ℕ → Bool) (c : ℕ) (cs : List ℕ) → test c ≡ false → prefix_len test (c ∷ cs) ≡ 0
leading_no test c cs e = rw e
