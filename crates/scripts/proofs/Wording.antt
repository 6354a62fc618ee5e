-- The first word of a line. Assumes nothing.
use Rattle.std.proofs.Common.{◌≡◌, ℕ, suc, Bool, true, false, cond, List, [], ◌∷◌, take, drop, filter, sym, refl, ap, ◌∙◌, one-add, arith}
use Rattle.std.specs.List.{prefix_len, flat_map}
use Rattle.scripts.specs.Words.{space, dark, words, spelled, lengthened}

-- the spaces before the first word
pub past_spaces : (cs : List ℕ) → words (drop (prefix_len space cs) cs) ≡ words cs
past_spaces [] = refl
past_spaces (c ∷ cs) = go (space c) refl (past_spaces cs)
  where
    go : (b : Bool) → space c ≡ b → words (drop (prefix_len space cs) cs) ≡ words cs → words (drop (prefix_len space (c ∷ cs)) (c ∷ cs)) ≡ words (c ∷ cs)
    go true e later = rw (e, one-add) later
    go false e later = rw e (rw e refl)

-- what follows them begins with no space
pub no_space : (cs : List ℕ) → prefix_len space (drop (prefix_len space cs) cs) ≡ 0
no_space [] = refl
no_space (c ∷ cs) = go (space c) refl (no_space cs)
  where
    go : (b : Bool) → space c ≡ b → prefix_len space (drop (prefix_len space cs) cs) ≡ 0 → prefix_len space (drop (prefix_len space (c ∷ cs)) (c ∷ cs)) ≡ 0
    go true e later = rw (e, one-add) later
    go false e later = rw e (rw e refl)

-- a byte that is no space begins a word, which goes on up to a space
pub begins : (c : ℕ) (cs : List ℕ) → space c ≡ false → words (c ∷ cs) ≡ (c ∷ take (prefix_len dark cs) cs) ∷ words (drop (prefix_len dark cs) cs)
begins c [] e = rw e refl
begins c (d ∷ ds) e = go (space d) refl (begins d ds)
  where
    go : (b : Bool) → space d ≡ b → (space d ≡ false → words (d ∷ ds) ≡ (d ∷ take (prefix_len dark ds) ds) ∷ words (drop (prefix_len dark ds) ds)) → words (c ∷ d ∷ ds) ≡ (c ∷ take (prefix_len dark (d ∷ ds)) (d ∷ ds)) ∷ words (drop (prefix_len dark (d ∷ ds)) (d ∷ ds))
    go true f later = rw (e, f) (rw f refl)
    go false f later = let h = rw f at (later f) in rw (e, f, one-add) (ap (lengthened c) h)

-- where no space is in front, the words are those of the front and of the rest
pub word_first : (cs : List ℕ) (n : ℕ) → prefix_len space cs ≡ 0 → n ≡ prefix_len dark cs → (n ≡ 0 → ⊥) → words cs ≡ take n cs ∷ words (drop n cs)
word_first [] n p e some = absurd (some e)
word_first (c ∷ cs) n p e some = go (space c) refl
  where
    go : (b : Bool) → space c ≡ b → words (c ∷ cs) ≡ take n (c ∷ cs) ∷ words (drop n (c ∷ cs))
    go true f = absurd (some (e ∙ rw f refl))
    go false f = let n_is : n ≡ suc (prefix_len dark cs) = e ∙ rw f (one-add (prefix_len dark cs)) in rw n_is (begins c cs f)

pub word_none : (cs : List ℕ) → prefix_len space cs ≡ 0 → prefix_len dark cs ≡ 0 → words cs ≡ []
word_none [] p e = refl
word_none (c ∷ cs) p e = go (space c) refl
  where
    go : (b : Bool) → space c ≡ b → words (c ∷ cs) ≡ []
    go true f = let h = rw f at p in absurd (omega (arith, h))
    go false f = let h = rw f at e in absurd (omega (arith, h))

module _ (line text : List ℕ) (n e : ℕ) (spaces_are : n ≡ prefix_len space line) (text_is : text ≡ drop n line) (end_is : e ≡ prefix_len dark text) where
  same_words : words text ≡ words line
  same_words = ap words text_is ∙ ap (λ i. words (drop i line)) spaces_are ∙ past_spaces line

  at_word : prefix_len space text ≡ 0
  at_word = ap (prefix_len space) text_is ∙ ap (λ i. prefix_len space (drop i line)) spaces_are ∙ no_space line

  -- a line with a word, by its first
  pub some_word : (word rest : List ℕ) → (e ≡ 0 → ⊥) → word ≡ take e text → rest ≡ drop e text → words line ≡ word ∷ words rest
  some_word word rest some p q = sym same_words ∙ word_first text e at_word end_is some ∙ (let h : take e text ∷ words (drop e text) ≡ word ∷ words rest = cc in h)

  pub no_word : e ≡ 0 → words line ≡ []
  no_word z = sym same_words ∙ word_none text at_word (sym end_is ∙ z)

-- what is no space is what the words are, joined
pub joined_words : (cs : List ℕ) → filter dark cs ≡ flat_map (λ w. w) (words cs)
joined_words [] = refl
joined_words (c ∷ cs) = go (space c) refl (joined_words cs)
  where
    longer : (ws : List (List ℕ)) → flat_map (λ w. w) (lengthened c ws) ≡ c ∷ flat_map (λ w. w) ws
    longer [] = refl
    longer (w ∷ ws) = refl

    first : (ds : List ℕ) (ws : List (List ℕ)) → flat_map (λ w. w) (spelled c ds ws) ≡ c ∷ flat_map (λ w. w) ws
    first [] ws = refl
    first (d ∷ ds) ws = by (space d)
      where
        by : (b : Bool) → flat_map (λ w. w) (cond b ((c ∷ []) ∷ ws) (lengthened c ws)) ≡ c ∷ flat_map (λ w. w) ws
        by true = refl
        by false = longer ws

    go : (b : Bool) → space c ≡ b → filter dark cs ≡ flat_map (λ w. w) (words cs) → filter dark (c ∷ cs) ≡ flat_map (λ w. w) (words (c ∷ cs))
    go true e later = rw e later
    go false e later = rw e (ap (λ l. c ∷ l) later ∙ sym (first cs (words cs)))
