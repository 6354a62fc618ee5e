-- Texts in UTF-8, where a code point starts at the first of its bytes. Assumes nothing.
use Rattle.std.specs.Prelude.{◌≡◌, ℕ, ◌<◌, ◌≤◌, Bool, true, ◌&&◌, List, length, nat_le, slice_index}
use Rattle.std.proofs.Math.Utf8.{scalars, encodes}
use Rattle.std.specs.Char.{len_utf8}
use Rattle.std.specs.Str.{chars}
use Rattle.characters.specs.Text.{Text, empty, codes}
use Rattle.utf8.specs.Rfc3629.{Octets}
use Rattle.texts.specs.Laid.{laid_out}

-- the code points that the bytes encode, each as wide as its encoding
abbrev pub encoded_text : List ℕ → Text
encoded_text bytes = laid_out len_utf8 (chars bytes)

-- a byte that goes on with a code point, where others start one
abbrev pub goes_on : ℕ → Bool
goes_on b = nat_le 0x80 b && nat_le b 0xBF

-- from a place on, all bytes go on with code points
abbrev pub AllGoOn : List ℕ → ℕ → Type 0
AllGoOn bytes i = (k : ℕ) → i ≤ k → k < length bytes → goes_on (slice_index bytes k) ≡ true

-- bytes that can be read: well formed, and not too many
pub record Readable (bytes : List ℕ) : Type 0 where
  pub few : length bytes ≤ 65536
  pub formed : Octets bytes

-- t is the text of the bytes: its code points are scalar values whose encodings, one after the other, are the bytes;
-- where they cannot be read, it is empty
pub record Reads (bytes : List ℕ) (t : Text) : Type 0 where
  pub whole : Readable bytes → t ≡ encoded_text bytes
  pub decoded : Readable bytes → (encodes (codes t) ≡ bytes) × (scalars (codes t) ≡ true)
  pub else_empty : (Readable bytes → ⊥) → t ≡ empty
