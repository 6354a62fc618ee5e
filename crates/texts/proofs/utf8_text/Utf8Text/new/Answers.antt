use Rattle.std.proofs.Common.{◌≡◌, ℕ, ◌+◌, Ok, Err, Result, true, false, List, [], ◌∷◌, map, sym, refl, ap, ◌∙◌, subst, ⊎_elim, arith}
use lib.Utf8.{scalars, encodes}
use Rattle.std.specs.Char.{len_utf8 as width}
use Rattle.std.specs.Str.{chars}
use Rattle.std.specs.Result.{is_ok}
use Rattle.std.proofs.lemmas.Bool.{true≢false}
use Rattle.refusals.specs.Answers.{answer}
use Rattle.refusals.specs.declared.Refusal.{Refusal}
use Rattle.utf8.specs.Reading.{Checked, Decoded}
use Rattle.utf8.specs.Rfc3629.{Octets}
use Rattle.characters.specs.Text.{codes}
use Rattle.texts.specs.Laid.{laid}
use Rattle.texts.specs.Encoded.{Readable, encoded_text}
use Rattle.texts.proofs.Encoded.{Fit, none_fit, none_text}
use Rattle.texts.proofs.utf8_text.Utf8Text.new.Goals as goal
use Rattle.texts.proofs.utf8_text.Utf8Text.new.Goals.{then-is_ok, else-is_ok}

-- the codes of a text that is laid out are those that were laid
codes_laid : (width : ℕ → ℕ) (i : ℕ) (cs : List ℕ) → map (λ p. p.code) (laid width i cs) ≡ cs
codes_laid width i [] = refl
codes_laid width i (c ∷ cs) = ap (λ l. c ∷ l) (codes_laid width (i + width c) cs)

decodings : (bytes : List ℕ) → Fit bytes → (encodes (codes (encoded_text bytes)) ≡ bytes) × (scalars (codes (encoded_text bytes)) ≡ true)
decodings bytes f =
    let laid_codes = codes_laid width 0 (chars bytes) in
    (ap encodes laid_codes ∙ f.encoded, ap scalars laid_codes ∙ f.valid)

-- what the check granted, or not
granted : (bytes : List ℕ) (r : Result (Unit {0}) Refusal) → is_ok r ≡ true → Checked bytes (answer r) → Decoded bytes (answer r) → Fit bytes × Octets bytes
granted bytes (Ok u) e h d = (record { few = h.0; encoded = d.0; valid = d.1 }, h.1)
granted bytes (Err x) e h d = absurd (true≢false (sym e))

refused : (bytes : List ℕ) (r : Result (Unit {0}) Refusal) → is_ok r ≡ false → Checked bytes (answer r) → Readable bytes → ⊥
refused bytes (Ok u) e h readable = true≢false e
refused bytes (Err x) e h readable = ⊎_elim (λ long. omega (arith, long.1, readable.few)) (λ bad. bad.2 readable.formed) h

fit : (c : goal.Joined-is_ok) → Fit c.if-is_ok.bytes.now
fit c =
    elim c.if-is_ok.branch [
      | then-is_ok w ↦ subst (λ r. Fit r.now) (sym w.bytes-is) (granted c.args.bytes.now c.check.result (sym c.is_ok.ensures.value ∙ w.if-is_ok.true) c.check.ensures.checked c.check.ensures.decoded).0
      | else-is_ok w ↦ subst (λ r. Fit r.now) (sym w.bytes-is) none_fit
    ]

pub invariant_of-result : goal.invariant_of-result
invariant_of-result c = record { few = (fit c).few; encoded = (fit c).encoded; valid = (fit c).valid }

pub returns : goal.returns
returns c =
    record {
      value =
          elim c.if-is_ok.branch [
            | then-is_ok w ↦
                let told = granted c.args.bytes.now c.check.result (sym c.is_ok.ensures.value ∙ w.if-is_ok.true) c.check.ensures.checked c.check.ensures.decoded in
                record {
                  whole = λ _. ap (λ r. encoded_text r.now) w.bytes-is;
                  decoded = λ _. subst (λ r. (encodes (codes (encoded_text r.now)) ≡ c.args.bytes.now) × (scalars (codes (encoded_text r.now)) ≡ true)) (sym w.bytes-is) (decodings c.args.bytes.now told.0);
                  else_empty = λ not. absurd (not (record { few = told.0.few; formed = told.1 }));
                }
            | else-is_ok w ↦
                let none = refused c.args.bytes.now c.check.result (sym c.is_ok.ensures.value ∙ w.if-is_ok.false) c.check.ensures.checked in
                record {
                  whole = λ readable. absurd (none readable);
                  decoded = λ readable. absurd (none readable);
                  else_empty = λ _. ap (λ r. encoded_text r.now) w.bytes-is ∙ none_text;
                }
          ];
    }
