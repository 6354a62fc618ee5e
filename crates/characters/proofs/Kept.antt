-- What a test keeps of a list. Assumes nothing.
use Rattle.std.proofs.Common.{◌≡◌, Bool, true, false, cond, ◌&&◌, List, [], ◌∷◌, filter, refl, ap, ◌∙◌}
use Rattle.std.specs.List.{AllByRecursion}

module _ {X : Type 0} (test : X → Bool) where
  -- by what it says of the first
  pub keeps : (x : X) (xs : List X) → test x ≡ true → filter test (x ∷ xs) ≡ x ∷ filter test xs
  keeps x xs e = rw e

  pub leaves : (x : X) (xs : List X) → test x ≡ false → filter test (x ∷ xs) ≡ filter test xs
  leaves x xs e = rw e

  -- where it says the same of every element
  pub kept_all : (xs : List X) → AllByRecursion (λ x. test x ≡ true) xs → filter test xs ≡ xs
  kept_all [] h = refl
  kept_all (x ∷ xs) h = keeps x xs h.0 ∙ ap (λ l. x ∷ l) (kept_all xs h.1)

  pub kept_none : (xs : List X) → AllByRecursion (λ x. test x ≡ false) xs → filter test xs ≡ []
  kept_none [] h = refl
  kept_none (x ∷ xs) h = leaves x xs h.0 ∙ kept_none xs h.1

-- two tests at once are one after the other
pub kept_both : {X : Type 0} (a b : X → Bool) (xs : List X) → filter (λ x. a x && b x) xs ≡ filter b (filter a xs)
kept_both a b [] = refl
kept_both {X} a b (x ∷ xs) = go (a x) (filter (λ x. a x && b x) xs) (kept_both a b xs)
  where
    go : (y : Bool) (both : List X) → both ≡ filter b (filter a xs) → cond (y && b x) (x ∷ both) both ≡ filter b (cond y (x ∷ filter a xs) (filter a xs))
    go true both rest = ap (λ l. cond (b x) (x ∷ l) l) rest
    go false both rest = rest
