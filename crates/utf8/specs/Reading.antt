-- What `front` and `check` answer. Refusal 11 is 'bad text', and 12 is 'too long'. Assumes nothing.
use Rattle.std.specs.Borrow.{Bor}
use Rattle.std.specs.Prelude.{◌≡◌, ℕ, ◌<◌, ◌≤◌, true, ◌⊎◌, List, ◌++◌, length, IsUtf8, Option, MatchOption}
use Rattle.std.proofs.Math.Utf8.{scalar, scalars, encode, encodes}
use Rattle.refusals.specs.Answers.{Answer, gives, refuses}
use Rattle.std.specs.Str.{chars}
use Rattle.utf8.specs.Rfc3629.{Octets}

-- the bytes are the UTF-8 form of the scalar value c, and then the rest
pub record Begins (bytes : List ℕ) (c : ℕ) (rest : List ℕ) : Type 0 where
  pub value : scalar c ≡ true
  pub whole : bytes ≡ encode c ++ rest

-- the code point that the bytes begin with, and the bytes after it: nothing where they begin with none
abbrev pub Front : List ℕ → Option (ℕ × Bor (List ℕ)) → Type 0
Front bytes r = MatchOption r ((c : ℕ) (rest : List ℕ) → Begins bytes c rest → ⊥) (λ x. Begins bytes x.0 x.1.now)

-- a code that a form for codes from the least on may hold: no shorter form is there for it, and it is a scalar value
pub record Proper (least c : ℕ) : Type 0 where
  pub shortest : least ≤ c
  pub value : scalar c ≡ true

-- the length is judged first, so a text that is too long and ill-formed is too long
abbrev pub Checked : List ℕ → Answer (Unit {0}) → Type 0
Checked bytes (gives _) = (length bytes ≤ 65536) × Octets bytes
Checked bytes (refuses n) = ((n ≡ 12) × (65536 < length bytes)) ⊎ ((n ≡ 11) × (length bytes ≤ 65536) × (Octets bytes → ⊥))

-- the grammar describes what the standard library takes for text
abbrev pub Agrees : List ℕ → Type 0
Agrees bytes = (Octets bytes → IsUtf8 bytes) × (IsUtf8 bytes → Octets bytes)

-- bytes that pass are the UTF-8 form of their code points, each a scalar value
abbrev pub Decoded : List ℕ → Answer (Unit {0}) → Type 0
Decoded bytes (gives _) = (encodes (chars bytes) ≡ bytes) × (scalars (chars bytes) ≡ true)
Decoded bytes (refuses _) = Unit {0}
