-- The grammar of UTF-8, as RFC 3629 gives it in section 4. A byte is its number, and each alternative of the ABNF is one line here.
-- Assumes nothing.
use Rattle.std.specs.Prelude.{ℕ, List, [], ◌∷◌, ◌++◌}
use Rattle.std.specs.Int.{IsInRange}

-- UTF8-tail = %x80-BF
abbrev pub Tail : ℕ → Type 0
Tail x = IsInRange 0x80 0xBF x

-- UTF8-char = UTF8-1 / UTF8-2 / UTF8-3 / UTF8-4
pub data Char : List ℕ → Type 0 where
  -- UTF8-1 = %x00-7F
  utf8_1 : {a : ℕ} → IsInRange 0x00 0x7F a → Char (a ∷ [])
  -- UTF8-2 = %xC2-DF UTF8-tail
  utf8_2 : {a b : ℕ} → IsInRange 0xC2 0xDF a → Tail b → Char (a ∷ b ∷ [])
  -- UTF8-3 = %xE0 %xA0-BF UTF8-tail / %xE1-EC 2( UTF8-tail ) / %xED %x80-9F UTF8-tail / %xEE-EF 2( UTF8-tail )
  utf8_3_e0 : {b c : ℕ} → IsInRange 0xA0 0xBF b → Tail c → Char (0xE0 ∷ b ∷ c ∷ [])
  utf8_3_e1_ec : {a b c : ℕ} → IsInRange 0xE1 0xEC a → Tail b → Tail c → Char (a ∷ b ∷ c ∷ [])
  utf8_3_ed : {b c : ℕ} → IsInRange 0x80 0x9F b → Tail c → Char (0xED ∷ b ∷ c ∷ [])
  utf8_3_ee_ef : {a b c : ℕ} → IsInRange 0xEE 0xEF a → Tail b → Tail c → Char (a ∷ b ∷ c ∷ [])
  -- UTF8-4 = %xF0 %x90-BF 2( UTF8-tail ) / %xF1-F3 3( UTF8-tail ) / %xF4 %x80-8F 2( UTF8-tail )
  utf8_4_f0 : {b c d : ℕ} → IsInRange 0x90 0xBF b → Tail c → Tail d → Char (0xF0 ∷ b ∷ c ∷ d ∷ [])
  utf8_4_f1_f3 : {a b c d : ℕ} → IsInRange 0xF1 0xF3 a → Tail b → Tail c → Tail d → Char (a ∷ b ∷ c ∷ d ∷ [])
  utf8_4_f4 : {b c d : ℕ} → IsInRange 0x80 0x8F b → Tail c → Tail d → Char (0xF4 ∷ b ∷ c ∷ d ∷ [])

-- UTF8-octets = *( UTF8-char )
pub data Octets : List ℕ → Type 0 where
  none : Octets []
  more : {cs bs : List ℕ} → Char cs → Octets bs → Octets (cs ++ bs)
