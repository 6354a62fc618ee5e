use Rattle.std.proofs.Common.{◌≡◌, ℕ, ◌<◌, List, [], ◌∷◌, ◌++◌, length, codes, sym, ap, ◌∙◌, append_assoc, arith}
use Rattle.std.proofs.lemmas.Bool.{eqb-false}
use Rattle.std.proofs.lemmas.Result.{on_ok_weaker}
use Rattle.std.specs.List.{flat_map}
use Rattle.scripts.specs.Printed.{hex_byte, bytes_text}
use Rattle.scripts.proofs.answers.push_bytes.Goals as goal

bytes_added : (a b d bytes : List ℕ) → 0 < length bytes → b ≡ a ++ codes " : " → d ≡ b ++ flat_map hex_byte bytes → d ≡ a ++ bytes_text bytes
bytes_added a b d [] some p q = absurd (omega arith)
bytes_added a b d (x ∷ xs) some p q = q ∙ ap (λ l. l ++ flat_map hex_byte (x ∷ xs)) p ∙ append_assoc a (codes " : ") (flat_map hex_byte (x ∷ xs))

pub returns : goal.returns
returns c =
    let some = eqb-false _ _ (sym c.if-is_empty.ensures) in
    record { after = on_ok_weaker _ (bytes_added _ _ _ c.args.bytes.now (omega (arith, some)) c.in_ok-extend_from_slice.ensures.items) c.push_hex.ensures.after }
