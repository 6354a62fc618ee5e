-- A text and the code point that it begins with. Assumes nothing.
use Rattle.std.proofs.Common.{ℕ, ◌<◌, List, [], ◌∷◌, length, IsUtf8, sym, ap, arith, length-append}
use lib.Utf8.{scalar, scalars, encode, encodes}
use Rattle.std.proofs.lemmas.Bool.{and_parts}
use Rattle.std.proofs.lemmas.Str.{length-encode, len_utf8_bounds, IsUtf8-append, IsUtf8-encode}
use Rattle.utf8.specs.Reading.{Begins}

-- the rest is text: so is the whole
pub utf8_whole : {bytes rest : List ℕ} {c : ℕ} → Begins bytes c rest → IsUtf8 rest → IsUtf8 bytes
utf8_whole {rest = rest} {c = c} b u = rw b.whole (IsUtf8-append (encode c) rest (IsUtf8-encode c b.value) u)

pub rest_shorter : {bytes rest : List ℕ} {c : ℕ} → Begins bytes c rest → length rest < length bytes
rest_shorter {c = c} b = omega (arith, simp length-append at (ap length b.whole), length-encode c, len_utf8_bounds c)

-- a text of some bytes begins with a code point
pub begun : (bytes : List ℕ) → IsUtf8 bytes → 0 < length bytes → (c : ℕ) × (rest : List ℕ) × Begins bytes c rest
begun bytes ([], (s, e)) h = absurd (omega (arith, ap length e))
begun bytes (c ∷ cs, (s, e)) h = (c, encodes cs, record { value = (and_parts (scalar c) (scalars cs) s).0; whole = sym e })
