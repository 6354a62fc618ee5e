-- The tally of what agrees, one symbol after the other. Assumes nothing.
use Rattle.std.proofs.Common.{◌≡◌, ℕ, zero, suc, ◌+◌, min, Bool, true, false, cond, ◌||◌, List, [], ◌∷◌, map, length, take, ℤ, refl, ap, ◌∙◌, add_assoc, arith}
use Rattle.refusals.specs.Answers.{Answer, gives, refuses, unless}
use Rattle.tokens.specs.Tokens.{same}
use Rattle.streams.specs.Streams.{Symbol, Stream, beyond}
use Rattle.count_ahead.specs.Agreement.{agreed, some_beyond}

-- what is tallied of any symbols, as the stream sees them
abbrev pub tally : Stream → List Symbol → List ℤ → Answer ℕ
tally s ys ws = unless (some_beyond s (take (min (agreed (map (λ y. y.number) ys) ws + 1) (length ws)) ys)) 3 (gives (agreed (map (λ y. y.number) ys) ws))

-- so many were tallied before
abbrev pub raised : ℕ → Answer ℕ → Answer ℕ
raised n (gives m) = gives (n + m)
raised n (refuses m) = refuses m

pub raised_more : (n : ℕ) (a : Answer ℕ) → raised (n + 1) a ≡ raised n (raised 1 a)
raised_more n (gives m) = ap gives (add_assoc n 1 m)
raised_more n (refuses m) = refl

pub tally_unwanted : (s : Stream) (ys : List Symbol) → tally s ys [] ≡ gives 0
tally_unwanted s [] = refl
tally_unwanted s (y ∷ ys) = refl

pub tally_ended : (s : Stream) (ws : List ℤ) → tally s [] ws ≡ gives 0
tally_ended s ws = go (min (0 + 1) (length ws))
  where
    go : (n : ℕ) → unless {A = ℕ} (some_beyond s (take n [])) 3 (gives 0) ≡ gives 0
    go zero = refl
    go (suc n) = refl

-- by the first symbol and the first number that is wanted
module _ (s : Stream) (y : Symbol) (ys : List Symbol) (w : ℤ) (ws : List ℤ) where
  -- where so many agree
  told : ℕ → Answer ℕ
  told n = unless (some_beyond s (take (min (n + 1) (length (w ∷ ws))) (y ∷ ys))) 3 (gives n)

  one_at_least : (n : ℕ) → told n ≡ unless (beyond s y.index || some_beyond s (take (min n (length ws)) ys)) 3 (gives n)
  unfolding told
  one_at_least n = let e : min (n + 1) (suc (length ws)) ≡ suc (min n (length ws)) = omega arith in ap (λ k. unless (some_beyond s (take k (y ∷ ys))) 3 (gives n)) e

  abbrev rest : ℕ
  rest = agreed (map (λ y. y.number) ys) ws

  as_told : (b : Bool) → same y.number w ≡ b → tally s (y ∷ ys) (w ∷ ws) ≡ told (cond b (suc rest) 0)
  unfolding told
  as_told b e = ap (λ b. told (cond b (suc rest) 0)) e

  pub tally_beyond : beyond s y.index ≡ true → tally s (y ∷ ys) (w ∷ ws) ≡ refuses 3
  tally_beyond e = as_told _ refl ∙ one_at_least _ ∙ ap (λ b. unless (b || some_beyond s (take (min (cond (same y.number w) (suc rest) 0) (length ws)) ys)) 3 (gives (cond (same y.number w) (suc rest) 0))) e

  pub tally_differs : beyond s y.index ≡ false → same y.number w ≡ false → tally s (y ∷ ys) (w ∷ ws) ≡ gives 0
  tally_differs seen e =
      let none : min 0 (length ws) ≡ 0 = omega arith in
      as_told false e ∙ one_at_least 0 ∙ (λ i. unless (seen i || some_beyond s (take (none i) ys)) 3 (gives 0))

  pub tally_agrees : beyond s y.index ≡ false → same y.number w ≡ true → tally s (y ∷ ys) (w ∷ ws) ≡ raised 1 (tally s ys ws)
  tally_agrees seen e =
      let more : suc rest ≡ rest + 1 = omega arith in
      as_told true e ∙ one_at_least (suc rest) ∙ (λ i. unless (seen i || some_beyond s (take (min (more i) (length ws)) ys)) 3 (gives (suc rest)))
      ∙ go (some_beyond s (take (min (rest + 1) (length ws)) ys))
    where
      go : (b : Bool) → unless b 3 (gives (suc rest)) ≡ raised 1 (unless b 3 (gives rest))
      go true = refl
      go false = ap gives (omega arith)
