-- The one to four bytes of a scalar value, as facts about numbers: what bytes say of the value that they begin with, and back.
-- Assumes nothing.
use Rattle.std.proofs.Common.{◌≡◌, ℕ, ◌+◌, ◌-◌, ◌*◌, ◌/◌, ◌<◌, ◌≤◌, true, ◌⊎◌, List, [], ◌∷◌, ◌++◌, length, get_or, drop, sym, subst, inl, inr, arith}
use lib.Utf8.{scalar, encode, next, scalar_cases}
use Rattle.std.proofs.lemmas.Nat.{shr-shr}
use Rattle.std.proofs.lemmas.List.{drop_more}
use Rattle.std.proofs.lemmas.Bool.{cases_lt}
use Rattle.std.proofs.lemmas.Str.{encode_ascii}
use Rattle.std.proofs.lemmas.Bool.Decides.{nat_tests}
use Rattle.std.specs.Int.{IsInRange}
use Rattle.utf8.specs.Reading.{Begins, Proper}
use Rattle.utf8.specs.Rfc3629.{Tail}

-- ---- the bytes of a value, by the range that it is in

encode_two : (c : ℕ) → IsInRange 0x80 0x7FF c → encode c ≡ (0xC0 + c / 64) ∷ next c ∷ []
unfolding encode
encode_two c h = grind (arith, nat_tests)

encode_three : (c : ℕ) → IsInRange 0x800 0xFFFF c → encode c ≡ (0xE0 + c / 4096) ∷ next (c / 64) ∷ next c ∷ []
unfolding encode
encode_three c h = grind (arith, nat_tests)

encode_four : (c : ℕ) → IsInRange 0x10000 0x10FFFF c → encode c ≡ (0xF0 + c / 262144) ∷ next (c / 4096) ∷ next (c / 64) ∷ next c ∷ []
unfolding encode
encode_four c h = grind (arith, nat_tests)

-- what holds of the bytes in each range holds of the bytes of any scalar value
pub by_width : (P : List ℕ → Type 0) (c : ℕ) → scalar c ≡ true
    → (c < 0x80 → P (c ∷ []))
    → (IsInRange 0x80 0x7FF c → P ((0xC0 + c / 64) ∷ next c ∷ []))
    → (IsInRange 0x800 0xFFFF c → P ((0xE0 + c / 4096) ∷ next (c / 64) ∷ next c ∷ []))
    → (IsInRange 0x10000 0x10FFFF c → P ((0xF0 + c / 262144) ∷ next (c / 4096) ∷ next (c / 64) ∷ next c ∷ []))
    → P (encode c)
by_width P c s one two three four = by (cases_lt c 0x80) (cases_lt c 0x800) (cases_lt c 0x10000)
  where
    by : (c < 0x80) ⊎ (0x80 ≤ c) → (c < 0x800) ⊎ (0x800 ≤ c) → (c < 0x10000) ⊎ (0x10000 ≤ c) → P (encode c)
    by (inl h) _ _ = subst P (sym (encode_ascii c h)) (one h)
    by (inr l) (inl h) _ = let in2 : IsInRange 0x80 0x7FF c = omega arith in subst P (sym (encode_two c in2)) (two in2)
    by (inr _) (inr l) (inl h) = let in3 : IsInRange 0x800 0xFFFF c = omega arith in subst P (sym (encode_three c in3)) (three in3)
    by (inr _) (inr _) (inr l) =
        let in4 : IsInRange 0x10000 0x10FFFF c = omega (arith, scalar_cases c s) in subst P (sym (encode_four c in4)) (four in4)

-- ---- the value of bytes, by how many they are

abbrev pub code2 : ℕ → ℕ → ℕ
code2 a b = (a - 0xC0) * 64 + (b - 0x80)

abbrev pub code3 : ℕ → ℕ → ℕ → ℕ
code3 a b c = ((a - 0xE0) * 64 + (b - 0x80)) * 64 + (c - 0x80)

abbrev pub code4 : ℕ → ℕ → ℕ → ℕ → ℕ
code4 a b c d = (((a - 0xF0) * 64 + (b - 0x80)) * 64 + (c - 0x80)) * 64 + (d - 0x80)

pub record OneByte (bytes : List ℕ) (c : ℕ) : Type 0 where
  pub long : 1 ≤ length bytes
  pub small : c < 0x80
  pub code : c ≡ get_or bytes 0 0

pub record TwoBytes (bytes : List ℕ) (c : ℕ) : Type 0 where
  pub long : 2 ≤ length bytes
  pub lead : IsInRange 0xC0 0xDF (get_or bytes 0 0)
  pub tail : Tail (get_or bytes 1 0)
  pub shortest : 0x80 ≤ c
  pub code : c ≡ code2 (get_or bytes 0 0) (get_or bytes 1 0)

pub record ThreeBytes (bytes : List ℕ) (c : ℕ) : Type 0 where
  pub long : 3 ≤ length bytes
  pub lead : IsInRange 0xE0 0xEF (get_or bytes 0 0)
  pub tails : Tail (get_or bytes 1 0) × Tail (get_or bytes 2 0)
  pub shortest : 0x800 ≤ c
  pub code : c ≡ code3 (get_or bytes 0 0) (get_or bytes 1 0) (get_or bytes 2 0)

pub record FourBytes (bytes : List ℕ) (c : ℕ) : Type 0 where
  pub long : 4 ≤ length bytes
  pub lead : IsInRange 0xF0 0xF7 (get_or bytes 0 0)
  pub tails : Tail (get_or bytes 1 0) × Tail (get_or bytes 2 0) × Tail (get_or bytes 3 0)
  pub shortest : 0x10000 ≤ c
  pub code : c ≡ code4 (get_or bytes 0 0) (get_or bytes 1 0) (get_or bytes 2 0) (get_or bytes 3 0)

module _ (bytes : List ℕ) (c : ℕ) (s : scalar c ≡ true) where
  pub one : OneByte bytes c → Begins bytes c (drop 1 bytes)
  one f = record { value = s; whole = rw (encode_ascii c f.small) (cc (drop_more bytes 0 0 (omega arith))) }

  pub two : TwoBytes bytes c → Begins bytes c (drop 2 bytes)
  two f =
      let a : get_or bytes 0 0 ≡ 0xC0 + c / 64 = omega arith in
      let b : get_or bytes 1 0 ≡ next c = omega arith in
      record {
        value = s;
        whole = rw (encode_two c (omega arith)) (cc (drop_more bytes 0 0 (omega arith), drop_more bytes 1 0 (omega arith)));
      }

  pub three : ThreeBytes bytes c → Begins bytes c (drop 3 bytes)
  three f =
      let a : get_or bytes 0 0 ≡ 0xE0 + c / 4096 = omega arith in
      let b : get_or bytes 1 0 ≡ next (c / 64) = omega arith in
      let d : get_or bytes 2 0 ≡ next c = omega arith in
      record {
        value = s;
        whole = rw (encode_three c (omega arith))
            (cc (drop_more bytes 0 0 (omega arith), drop_more bytes 1 0 (omega arith), drop_more bytes 2 0 (omega arith)));
      }

  pub four : FourBytes bytes c → Begins bytes c (drop 4 bytes)
  four f =
      let a : get_or bytes 0 0 ≡ 0xF0 + c / 262144 = omega arith in
      let b : get_or bytes 1 0 ≡ next (c / 4096) = omega arith in
      let d : get_or bytes 2 0 ≡ next (c / 64) = omega arith in
      let e : get_or bytes 3 0 ≡ next c = omega arith in
      record {
        value = s;
        whole = rw (encode_four c (omega (arith, scalar_cases c s)))
            (cc (drop_more bytes 0 0 (omega arith), drop_more bytes 1 0 (omega arith), drop_more bytes 2 0 (omega arith), drop_more bytes 3 0 (omega arith)));
      }

-- ---- the other way: bytes that begin with a scalar value begin with one of its forms

abbrev Forms : List ℕ → ℕ → Type 0
Forms bytes c = OneByte bytes c ⊎ (TwoBytes bytes c ⊎ (ThreeBytes bytes c ⊎ FourBytes bytes c))

pub forms : {bytes rest : List ℕ} {c : ℕ} → Begins bytes c rest → Forms bytes c
forms {bytes} {rest} {c} b =
    rw b.whole (by_width (λ p. Forms (p ++ rest) c) c b.value
    (λ h. inl (omega arith))
    (λ h. inr (inl (omega arith)))
    (λ h. inr (inr (inl (omega arith))))
    (λ h. inr (inr (inr (omega (arith, shr-shr c 6 6, shr-shr c 12 6))))))

-- the value that bytes begin with is proper wherever the code computes it
pub proper_at : {bytes rest : List ℕ} {least c code : ℕ} → Begins bytes c rest → (least ≤ c) × (c ≡ code) → Proper least code
proper_at {least = least} b h = subst (Proper least) h.1 record { shortest = h.0; value = b.value }
