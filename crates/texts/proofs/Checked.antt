-- What the check of units says of them. Assumes nothing.
use Rattle.std.proofs.Common.{◌≡◌, ℕ, ◌+◌, ◌%◌, ◌^◌, ◌<◌, ◌≤◌, Bool, Ok, Err, Result, true, false, ◌&&◌, List, [], ◌∷◌, map, length, get_or, drop, sym, refl, ap, ◌∙◌, ⊎_elim, arith}
use Rattle.std.proofs.lemmas.List.{drop_more}
use Rattle.std.proofs.lemmas.Bool.{ltb-true, lt-ltb, le-ltb, cases_lt, cases_Bool, true≢false}
use Rattle.std.specs.List.{All, list_all}
use Rattle.std.proofs.lemmas.List.Elements.{All-tail}
use Rattle.std.proofs.lemmas.List.Folds.{list_all-map}
use Rattle.std.proofs.lemmas.List.Sums.{AllPass-from_list_all}
use Rattle.refusals.specs.Answers.{gives, refuses, answer, if_given}
use Rattle.refusals.specs.declared.Refusal.{Refusal}
use Rattle.std.specs.Result.{is_ok}
use Rattle.characters.specs.Text.{empty}
use Rattle.texts.specs.Units.{small, all_small, units_check, in_a_row, units_text, row_of}

pub check_long : (ns : List ℕ) → 65536 < length ns → units_check ns ≡ refuses 12
check_long ns h = rw (lt-ltb 65536 (length ns) h)

pub check_bad : (ns : List ℕ) → length ns ≤ 65536 → all_small ns ≡ false → units_check ns ≡ refuses 11
check_bad ns h e = rw (le-ltb 65536 (length ns) h, e)

pub check_good : (ns : List ℕ) → length ns ≤ 65536 → all_small ns ≡ true → units_check ns ≡ gives tt
check_good ns h e = rw (le-ltb 65536 (length ns) h, e)

given_refused : {A : Type 0} (a : A) (n : ℕ) → gives a ≡ refuses n → ⊥
given_refused a n e = let z : ◌≡◌ {A = ℕ} 0 1 = cc in omega arith

pub few_given : (ns : List ℕ) (u : Unit {0}) → gives u ≡ units_check ns → length ns ≤ 65536
few_given ns u e = ⊎_elim (λ l. absurd (given_refused u 12 (e ∙ check_long ns l))) (λ l. l) (cases_lt 65536 (length ns))

pub small_given : (ns : List ℕ) (u : Unit {0}) → gives u ≡ units_check ns → all_small ns ≡ true
small_given ns u e = ⊎_elim (λ t. t) (λ f. absurd (given_refused u 11 (e ∙ check_bad ns (few_given ns u e) f))) (cases_Bool (all_small ns))

-- numbers that are accepted, in a row, are the text
pub numbers_given : (ns : List ℕ) (u : Unit {0}) → gives u ≡ units_check ns → in_a_row ns ≡ units_text ns
numbers_given ns u e = ap (λ a. if_given a (in_a_row ns) empty) e

module _ {A : Type 0} (number : A → ℕ) where
  -- where the numbers pass, each unit's does
  pub each_small : (units : List A) → all_small (map number units) ≡ true → All (λ unit. number unit < 2 ^ 31) units
  each_small units e =
      let test : A → Bool = λ unit. small (number unit) in
      let passed : list_all test units ≡ true = sym (list_all-map small number units) ∙ e in
      λ k d l. ltb-true _ (2 ^ 31) (AllPass-from_list_all test units passed k d l)

  low_same : (units : List A) → All (λ unit. number unit < 2 ^ 31) units → map (λ unit. number unit % 2 ^ 31) units ≡ map number units
  low_same [] h = refl
  low_same (u ∷ us) h =
      let less : number u < 2 ^ 31 = h 0 u (omega arith) in
      let same : number u % 2 ^ 31 ≡ number u = omega arith in
      λ k. same k ∷ low_same us (All-tail (λ unit. number unit < 2 ^ 31) u us h) k

  -- a text of small units is the one that the low 31 bits of each make
  pub low_row : (units : List A) → All (λ unit. number unit < 2 ^ 31) units → in_a_row (map (λ unit. number unit % 2 ^ 31) units) ≡ in_a_row (map number units)
  low_row units h = ap in_a_row (low_same units h)

  pub text_given : (units : List A) (u : Unit {0}) → gives u ≡ units_check (map number units) → row_of number units ≡ units_text (map number units)
  unfolding row_of
  text_given units u e =
      let ns : List ℕ = map number units in
      low_row units (each_small units (small_given ns u e)) ∙ numbers_given ns u e

  -- the units from a place on are all small where the one there is, and all that follow it
  pub small_more : (units : List A) (i : ℕ) (u : A) (b : Bool) → i < length units → u ≡ get_or units i u → small (number u) ≡ b → all_small (map number (drop i units)) ≡ (b && all_small (map number (drop (i + 1) units)))
  small_more units i u b h e t =
      ap (λ l. all_small (map number l)) (drop_more units i u h)
      ∙ ap (λ x. small (number x) && all_small (map number (drop (i + 1) units))) (sym e)
      ∙ ap (λ x. x && all_small (map number (drop (i + 1) units))) t

pub text_refused : (ns : List ℕ) (r : Result (Unit {0}) Refusal) → answer r ≡ units_check ns → is_ok r ≡ false → empty ≡ units_text ns
text_refused ns (Ok u) e f = absurd (true≢false f)
text_refused ns (Err x) e f = ap (λ a. if_given a (in_a_row ns) empty) e
