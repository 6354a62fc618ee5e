-- The grammar describes the texts that encode scalar values. Assumes nothing.
use lib.Utf8.{scalar, scalars, encode, encodes, next, scalar_cases, low_scalar}
use Rattle.std.proofs.Common.{◌≡◌, ℕ, ◌+◌, ◌/◌, ◌<◌, ◌≤◌, true, ◌⊎◌, List, [], ◌∷◌, ◌++◌, IsUtf8, subst, inl, inr, arith}
use Rattle.std.proofs.lemmas.Bool.{cases_lt, and_parts}
use Rattle.std.proofs.lemmas.Str.{IsUtf8-nil}
use Rattle.std.proofs.lemmas.Bool.Decides.{nat_tests}
use Rattle.std.specs.Int.{IsInRange}
use Rattle.utf8.proofs.Forms.{by_width, code2, code3, code4, one, two, three, four}
use Rattle.utf8.proofs.Texts.{utf8_whole}
use Rattle.utf8.specs.Reading.{Agrees, Begins}
use Rattle.utf8.specs.Rfc3629.{Char, Octets, utf8_1, utf8_2, utf8_3_e0, utf8_3_e1_ec, utf8_3_ed, utf8_3_ee_ef, utf8_4_f0, utf8_4_f1_f3, utf8_4_f4, none, more}

-- ---- from the grammar to scalar values

high_scalar : (c : ℕ) → IsInRange 0xE000 0x10FFFF c → scalar c ≡ true
high_scalar c h = grind (arith, nat_tests)

value : {cs : List ℕ} → Char cs → (bs : List ℕ) → (c : ℕ) × Begins (cs ++ bs) c bs
value (utf8_1 {a} ha) bs = (a, one (a ∷ bs) a (low_scalar a (omega arith)) (omega arith))
value (utf8_2 {a} {b} ha hb) bs = let n : ℕ = code2 a b in (n, two (a ∷ b ∷ bs) n (low_scalar n (omega arith)) (omega arith))
value (utf8_3_e0 {b} {c} hb hc) bs = let n : ℕ = code3 0xE0 b c in (n, three (0xE0 ∷ b ∷ c ∷ bs) n (low_scalar n (omega arith)) (omega arith))
value (utf8_3_e1_ec {a} {b} {c} ha hb hc) bs = let n : ℕ = code3 a b c in (n, three (a ∷ b ∷ c ∷ bs) n (low_scalar n (omega arith)) (omega arith))
value (utf8_3_ed {b} {c} hb hc) bs = let n : ℕ = code3 0xED b c in (n, three (0xED ∷ b ∷ c ∷ bs) n (low_scalar n (omega arith)) (omega arith))
value (utf8_3_ee_ef {a} {b} {c} ha hb hc) bs = let n : ℕ = code3 a b c in (n, three (a ∷ b ∷ c ∷ bs) n (high_scalar n (omega arith)) (omega arith))
value (utf8_4_f0 {b} {c} {d} hb hc hd) bs = let n : ℕ = code4 0xF0 b c d in (n, four (0xF0 ∷ b ∷ c ∷ d ∷ bs) n (high_scalar n (omega arith)) (omega arith))
value (utf8_4_f1_f3 {a} {b} {c} {d} ha hb hc hd) bs = let n : ℕ = code4 a b c d in (n, four (a ∷ b ∷ c ∷ d ∷ bs) n (high_scalar n (omega arith)) (omega arith))
value (utf8_4_f4 {b} {c} {d} hb hc hd) bs = let n : ℕ = code4 0xF4 b c d in (n, four (0xF4 ∷ b ∷ c ∷ d ∷ bs) n (high_scalar n (omega arith)) (omega arith))

utf8_from_octets : {bytes : List ℕ} → Octets bytes → IsUtf8 bytes
utf8_from_octets none = IsUtf8-nil
utf8_from_octets (more {bs = bs} char octets) = utf8_whole (value char bs).1 (utf8_from_octets octets)

-- ---- and back

module _ (c : ℕ) (s : scalar c ≡ true) where
  char_three : IsInRange 0x800 0xFFFF c → Char ((0xE0 + c / 4096) ∷ next (c / 64) ∷ next c ∷ [])
  char_three h = by (cases_lt c 0x1000) (cases_lt c 0xD000) (cases_lt c 0xE000)
    where
      by : (c < 0x1000) ⊎ (0x1000 ≤ c) → (c < 0xD000) ⊎ (0xD000 ≤ c) → (c < 0xE000) ⊎ (0xE000 ≤ c) → Char ((0xE0 + c / 4096) ∷ next (c / 64) ∷ next c ∷ [])
      by (inl u) _ _ = let e : 0xE0 + c / 4096 ≡ 0xE0 = omega arith in rw e (utf8_3_e0 {b = next (c / 64)} {c = next c} (omega arith) (omega arith))
      by (inr l) (inl u) _ = utf8_3_e1_ec (omega arith) (omega arith) (omega arith)
      by (inr _) (inr l) (inl u) =
          let e : 0xE0 + c / 4096 ≡ 0xED = omega arith in
          rw e (utf8_3_ed {b = next (c / 64)} {c = next c} (omega (arith, scalar_cases c s)) (omega arith))
      by (inr _) (inr _) (inr l) = utf8_3_ee_ef (omega arith) (omega arith) (omega arith)

  char_four : IsInRange 0x10000 0x10FFFF c → Char ((0xF0 + c / 262144) ∷ next (c / 4096) ∷ next (c / 64) ∷ next c ∷ [])
  char_four h = by (cases_lt c 0x40000) (cases_lt c 0x100000)
    where
      by : (c < 0x40000) ⊎ (0x40000 ≤ c) → (c < 0x100000) ⊎ (0x100000 ≤ c) → Char ((0xF0 + c / 262144) ∷ next (c / 4096) ∷ next (c / 64) ∷ next c ∷ [])
      by (inl u) _ =
          let e : 0xF0 + c / 262144 ≡ 0xF0 = omega arith in
          rw e (utf8_4_f0 {b = next (c / 4096)} {c = next (c / 64)} {d = next c} (omega arith) (omega arith) (omega arith))
      by (inr l) (inl u) = utf8_4_f1_f3 (omega arith) (omega arith) (omega arith) (omega arith)
      by (inr _) (inr l) =
          let e : 0xF0 + c / 262144 ≡ 0xF4 = omega arith in
          rw e (utf8_4_f4 {b = next (c / 4096)} {c = next (c / 64)} {d = next c} (omega arith) (omega arith) (omega arith))

  char : Char (encode c)
  char = by_width Char c s (λ h. utf8_1 (omega arith)) (λ h. utf8_2 (omega arith) (omega arith)) char_three char_four

octets_from_scalars : (cs : List ℕ) → scalars cs ≡ true → Octets (encodes cs)
octets_from_scalars [] s = none
octets_from_scalars (c ∷ cs) s =
    let parts = and_parts (scalar c) (scalars cs) s in more (char c parts.0) (octets_from_scalars cs parts.1)

pub agrees : (bytes : List ℕ) → Agrees bytes
agrees bytes = (utf8_from_octets, λ u. subst Octets u.1.1 (octets_from_scalars u.0 u.1.0))
