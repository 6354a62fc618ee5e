-- Laid-out texts keep to the rules of a text, which their `InputData` cites. Assumes nothing.
use Rattle.std.specs.Prelude.{◌≡◌, ℕ, suc, ◌+◌, ◌≤◌, List, [], ◌∷◌, map, length, refl}
use Rattle.std.proofs.Common.{ap, arith, length-append}
use Rattle.std.proofs.lemmas.List.{length-map}
use Rattle.std.proofs.Math.Utf8.{encode, encodes}
use Rattle.std.specs.Char.{len_utf8}
use Rattle.std.specs.Str.{chars}
use Rattle.std.proofs.lemmas.Str.{length-encode, len_utf8_bounds}
use Rattle.characters.specs.Text.{Rises, Lawful}
use Rattle.texts.specs.Laid.{laid, span, laid_out}
use Rattle.texts.specs.Encoded.{encoded_text}
use Rattle.texts.specs.Units.{in_a_row, low, row_of}

module _ (w : ℕ → ℕ) (wide : (c : ℕ) → 1 ≤ w c) where
  rises : (low i size : ℕ) (cs : List ℕ) → low ≤ i → size ≡ i + span w cs → Rises low (laid w i cs) size
  rises low i size [] h e = omega arith
  rises low i size (c ∷ cs) h e = (h, rises (suc i) (i + w c) size cs (omega (arith, wide c)) (omega arith))

  pub laid_lawful : (cs : List ℕ) → span w cs ≤ 65536 → Lawful (laid_out w cs)
  laid_lawful cs h = record { rises = rises 0 0 (span w cs) cs (omega arith) (omega arith); few = h }

pub span_one : (cs : List ℕ) → span (λ _. 1) cs ≡ length cs
span_one [] = refl
span_one (c ∷ cs) = omega (arith, span_one cs)

pub in_a_row_lawful : {A : Type 0} (number : A → ℕ) (units : List A) → length units ≤ 65536 → Lawful (in_a_row (map number units))
in_a_row_lawful number units h = laid_lawful (λ _. 1) (λ _. omega arith) (map number units) (omega (arith, span_one (map number units), length-map units number))

pub row_lawful : {A : Type 0} (number : A → ℕ) (units : List A) → length units ≤ 65536 → Lawful (row_of number units)
unfolding row_of
row_lawful number units h = in_a_row_lawful (low number) units h

pub span_width : (cs : List ℕ) → span len_utf8 cs ≡ length (encodes cs)
span_width [] = refl
span_width (c ∷ cs) = omega (arith, span_width cs, length-encode c, length-append (encode c) (encodes cs))

pub encoded_lawful : (bytes : List ℕ) → length bytes ≤ 65536 → encodes (chars bytes) ≡ bytes → Lawful (encoded_text bytes)
encoded_lawful bytes few e = laid_lawful len_utf8 (λ c. (len_utf8_bounds c).0) (chars bytes) (omega (arith, span_width (chars bytes), ap length e))
