-- The first line of a script. Assumes nothing.
use Rattle.std.proofs.Common.{◌≡◌, ℕ, suc, ◌+◌, ◌<◌, Bool, true, false, eqb, List, [], ◌∷◌, length, refl, ap, ◌∙◌, one-add, arith}
use Rattle.scripts.specs.Words.{first_line, later_lines, lengthened, lines}

front : (c : ℕ) (cs : List ℕ) → lines (c ∷ cs) ≡ first_line (c ∷ cs) ∷ lines (later_lines (c ∷ cs))
front c [] = go (eqb c 10) refl
  where
    go : (b : Bool) → eqb c 10 ≡ b → lines (c ∷ []) ≡ first_line (c ∷ []) ∷ lines (later_lines (c ∷ []))
    go true e = rw e refl
    go false e = rw e refl
front c (d ∷ ds) = go (eqb c 10) refl (front d ds)
  where
    next : (n : ℕ) → suc n + 1 ≡ suc (n + 1)
    next n = omega arith

    go : (b : Bool) → eqb c 10 ≡ b → lines (d ∷ ds) ≡ first_line (d ∷ ds) ∷ lines (later_lines (d ∷ ds)) → lines (c ∷ d ∷ ds) ≡ first_line (c ∷ d ∷ ds) ∷ lines (later_lines (c ∷ d ∷ ds))
    go true e later = rw e refl
    go false e later = rw (e, one-add, next) (ap (lengthened c) later)

lines_front : (cs : List ℕ) → 0 < length cs → lines cs ≡ first_line cs ∷ lines (later_lines cs)
lines_front [] some = absurd (omega arith)
lines_front (c ∷ cs) some = front c cs

pub lines_parted : (rest text more : List ℕ) → 0 < length rest → text ≡ first_line rest → more ≡ later_lines rest → lines rest ≡ text ∷ lines more
lines_parted rest text more some p q = lines_front rest some ∙ (let h : first_line rest ∷ lines (later_lines rest) ≡ text ∷ lines more = cc in h)
