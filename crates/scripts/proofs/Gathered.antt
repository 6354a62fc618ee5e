-- What a loop has gathered, and what is still to come. Assumes nothing.
use Rattle.std.proofs.Common.{◌≡◌, ℕ, List, [], ◌∷◌, ◌++◌, Some, None, Option, sym, refl, ap, ◌∙◌, append_assoc, append-nil}
use Rattle.std.specs.Iterator.{AlwaysYields}
use Rattle.std.proofs.lemmas.Iterator.{YieldsList}
use Rattle.std.specs.Option.{option_map}
use Rattle.scripts.specs.Numerals.{before, pair, paired}

abbrev pub onto : {A : Type 0} → List A → Option (List A) → Option (List A)
onto xs o = option_map (λ ys. xs ++ ys) o

pub onto_more : {A : Type 0} (xs : List A) (x : A) (o : Option (List A)) → onto xs (before (Some x) o) ≡ onto (xs ++ x ∷ []) o
onto_more xs x None = refl
onto_more xs x (Some ys) = ap Some (sym (append_assoc xs (x ∷ []) ys))

-- what an iterator of digits still gives, which makes the whole with what was gathered
module _ {S A : Type 0} (steps : S → Option A → S → Type 0) (v : A → ℕ) (all : Option (List ℕ)) where
  abbrev pub Coming : S → List ℕ → Type 0
  Coming s xs = (zs : List ℕ) × YieldsList steps v s zs × (all ≡ onto xs (paired zs))

  first_of : (zs : List ℕ) {s t : S} {x : A} → AlwaysYields steps v s zs → steps s (Some x) t → (ys : List ℕ) × (zs ≡ v x ∷ ys) × AlwaysYields steps v t ys
  first_of [] {s} {t} {x} h k = absurd (h x t k)
  first_of (y ∷ ys) {s} {t} {x} h k = let p = h.1 x t k in (ys, ap (λ z. z ∷ ys) (sym p.0), p.1)

  none_of : (zs : List ℕ) {s t : S} → AlwaysYields steps v s zs → steps s None t → zs ≡ []
  none_of [] h k = refl
  none_of (y ∷ ys) {s} {t} h k = absurd (h.0 t k)

  pub coming_end : {s t : S} (xs : List ℕ) → Coming s xs → steps s None t → Some xs ≡ all
  coming_end xs c k =
      sym (c.2 ∙ ap (λ l. onto xs (paired l)) (none_of c.0 c.1.runs k) ∙ ap Some (append-nil xs))

  pub coming_one : {s t u : S} {x : A} (xs : List ℕ) → Coming s xs → steps s (Some x) t → steps t None u → None ≡ all
  coming_one {x = x} xs c k l =
      let p = first_of c.0 c.1.runs k in
      sym (c.2 ∙ ap (λ l. onto xs (paired l)) (p.1 ∙ ap (λ l. v x ∷ l) (none_of p.0 p.2 l)))

  -- two digits more
  two_of : {s t u : S} {x y : A} (xs : List ℕ) → Coming s xs → steps s (Some x) t → steps t (Some y) u → (zs : List ℕ) × YieldsList steps v u zs × (all ≡ onto xs (before (pair (v x) (v y)) (paired zs)))
  two_of {x = x} xs c k l =
      let p = first_of c.0 c.1.runs k in
      let q = first_of p.0 p.2 l in
      (q.0, record { runs = q.2 }, c.2 ∙ ap (λ l. onto xs (paired l)) (p.1 ∙ ap (λ l. v x ∷ l) q.1))

  pub coming_no_pair : {s t u : S} {x y : A} (xs : List ℕ) → Coming s xs → steps s (Some x) t → steps t (Some y) u → None ≡ pair (v x) (v y) → None ≡ all
  coming_no_pair xs c k l none =
      let p = two_of xs c k l in
      sym (p.2 ∙ ap (λ o. onto xs (before o (paired p.0))) (sym none))

  pub coming_pair : {s t u : S} {x y : A} (xs ys : List ℕ) (b : ℕ) → Coming s xs → steps s (Some x) t → steps t (Some y) u → Some b ≡ pair (v x) (v y) → ys ≡ xs ++ b ∷ [] → Coming u ys
  coming_pair xs ys b c k l some more =
      let p = two_of xs c k l in
      (p.0, p.1, p.2 ∙ ap (λ o. onto xs (before o (paired p.0))) (sym some) ∙ onto_more xs b (paired p.0) ∙ ap (λ l. onto l (paired p.0)) (sym more))

pub coming_first : {S A : Type 0} (steps : S → Option A → S → Type 0) (v : A → ℕ) (zs : List ℕ) {s : S} (xs : List ℕ) → xs ≡ [] → YieldsList steps v s zs → Coming steps v (paired zs) s xs
coming_first steps v zs xs e y = (zs, y, same (paired zs) ∙ ap (λ l. onto l (paired zs)) (sym e))
  where
    same : (o : Option (List ℕ)) → o ≡ onto [] o
    same None = refl
    same (Some ys) = refl
