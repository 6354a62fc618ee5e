-- A text of code points laid one after the other, each as wide as its code says. Assumes nothing.
use Rattle.std.specs.Prelude.{ℕ, ◌+◌, List, [], ◌∷◌}
use Rattle.characters.specs.Text.{Point, Text}

-- each code point starts where the one before it ends, the first at a position
abbrev pub laid : (ℕ → ℕ) → ℕ → List ℕ → List Point
laid width i [] = []
laid width i (c ∷ cs) = record { at = i; code = c } ∷ laid width (i + width c) cs

-- how many positions they take
abbrev pub span : (ℕ → ℕ) → List ℕ → ℕ
span width [] = 0
span width (c ∷ cs) = width c + span width cs

abbrev pub laid_out : (ℕ → ℕ) → List ℕ → Text
laid_out width cs = record { points = laid width 0 cs; size = span width cs }
