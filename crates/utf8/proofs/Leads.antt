-- How many ones a byte begins with, by the range that it is in. Assumes nothing.
use lib.Count.{count_leading_zeros, leading_length, leading_unique}
use Rattle.std.proofs.Common.{◌≡◌, ℕ, ◌+◌, ◌-◌, ◌*◌, ◌^◌, ◌<◌, ◌≤◌, ◌⊎◌, sym, refl, inl, inr, arith, pow_mono}
use Rattle.std.proofs.lemmas.Bool.{cases_lt}
use Rattle.std.specs.Int.{IsInRange}

abbrev Leads : ℕ → ℕ → Type 0
Leads a n = ((a < 0x80) × (n ≡ 0))
    ⊎ ((IsInRange 0x80 0xBF a × (n ≡ 1))
    ⊎ ((IsInRange 0xC0 0xDF a × (n ≡ 2))
    ⊎ ((IsInRange 0xE0 0xEF a × (n ≡ 3))
    ⊎ ((IsInRange 0xF0 0xF7 a × (n ≡ 4))
    ⊎ ((0xF8 ≤ a) × (5 ≤ n))))))

-- a byte's ones are the zeros of 255 less the byte
module _ (a : ℕ) (byte : a < 256) where
  exactly : (n m : ℕ) → n + m ≡ 8 → 255 - a < 2 ^ m → 2 ^ m ≤ 2 * (255 - a) + 1 → count_leading_zeros 8 (255 - a) ≡ n
  exactly n m e h l = sym (leading_unique 8 (255 - a) n m e h l)

  at_least_five : 0xF8 ≤ a → 5 ≤ count_leading_zeros 8 (255 - a)
  at_least_five h =
      let t = leading_length 8 (255 - a) (omega arith) in
      elim (cases_lt t.0 4) [ inl m ↦ omega arith | inr m ↦ let p : 2 ^ 4 ≤ 2 ^ t.0 = pow_mono m in absurd (omega arith) ]

  pub leads : Leads a (count_leading_zeros 8 (255 - a))
  leads = by (cases_lt a 0x80) (cases_lt a 0xC0) (cases_lt a 0xE0) (cases_lt a 0xF0) (cases_lt a 0xF8)
    where
      by : (a < 0x80) ⊎ (0x80 ≤ a) → (a < 0xC0) ⊎ (0xC0 ≤ a) → (a < 0xE0) ⊎ (0xE0 ≤ a) → (a < 0xF0) ⊎ (0xF0 ≤ a) → (a < 0xF8) ⊎ (0xF8 ≤ a) → Leads a (count_leading_zeros 8 (255 - a))
      by (inl h) _ _ _ _ = inl (h, exactly 0 8 refl (omega arith) (omega arith))
      by (inr l) (inl h) _ _ _ = inr (inl (omega arith, exactly 1 7 refl (omega arith) (omega arith)))
      by (inr _) (inr l) (inl h) _ _ = inr (inr (inl (omega arith, exactly 2 6 refl (omega arith) (omega arith))))
      by (inr _) (inr _) (inr l) (inl h) _ = inr (inr (inr (inl (omega arith, exactly 3 5 refl (omega arith) (omega arith)))))
      by (inr _) (inr _) (inr _) (inr l) (inl h) = inr (inr (inr (inr (inl (omega arith, exactly 4 4 refl (omega arith) (omega arith))))))
      by (inr _) (inr _) (inr _) (inr _) (inr l) = inr (inr (inr (inr (inr (l, at_least_five l)))))
