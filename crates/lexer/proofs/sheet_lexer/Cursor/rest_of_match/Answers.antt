use Rattle.std.proofs.Common.{◌≡◌, ℕ, List, [], ◌∷◌, refl, subst}
use Rattle.std.specs.List.{prefix_len}
use Rattle.lexer.specs.declared.class.Class.{Class}
use Rattle.lexer.specs.declared.class.Class.TheVariants.{Letter, Digit, LineFeed, Blank, Hash, Other}
use Rattle.lexer.specs.Lexed.{goes_on, more}
use Rattle.lexer.specs.Passed.{Passed, rest}
use Rattle.lexer.proofs.sheet_lexer.Cursor.rest_of_match.Goals as goal

-- but for a number, a match goes on as a run does
run_is_more : (class : Class) (cs : List ℕ) → (class ≡ Digit → ⊥) → prefix_len (goes_on class) cs ≡ more class cs
run_is_more Letter cs no_digit = refl
run_is_more Digit cs no_digit = absurd (no_digit refl)
run_is_more LineFeed [] no_digit = refl
run_is_more LineFeed (c ∷ cs) no_digit = refl
run_is_more Blank cs no_digit = refl
run_is_more Hash cs no_digit = refl
run_is_more Other [] no_digit = refl
run_is_more Other (c ∷ cs) no_digit = refl

pub returns-in_default : goal.returns-in_default
returns-in_default g c =
    let t = g.D.InputData.meaning c.args.self.now.input.now in
    record { passed = subst (λ n. Passed t c.args.self.now.at n c.run.result.end c.run.result.count) (run_is_more c.args.class (rest t c.args.self.now.at) c.in_default.not-Digit) c.run.ensures.passed }
