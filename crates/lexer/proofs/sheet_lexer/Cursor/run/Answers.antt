use Rattle.std.proofs.Common.{◌≡◌, ℕ, ◌+◌, Bool, sym, ap, ◌∙◌, subst, arith}
use Rattle.std.specs.List.{prefix_len}
use Rattle.characters.specs.Text.{Text}
use Rattle.characters.proofs.Onward.{item_within}
use Rattle.lexer.specs.Lexed.{goes_on}
use Rattle.lexer.specs.Passed.{Passed, rest}
use Rattle.lexer.proofs.Passing.{passed_more, next_above, end_within, rest_more, rest_none, leading_yes, leading_no}
use Rattle.lexer.proofs.sheet_lexer.Cursor.run.Goals as goal

pub overflow_add-count : goal.overflow_add-count
overflow_add-count g c =
    let input = g.D.InputData in
    let old = c.walk.invariant.0 in
    record { fits = omega (arith, old.wide, end_within (input.meaning c.args.self.now.input.now) (input.lawful c.args.self.now.input.now) _ old.start) }

pub walk-smaller : goal.walk-smaller
walk-smaller g c =
    let input = g.D.InputData in
    let t = input.meaning c.args.self.now.input.now in
    let ok = input.lawful c.args.self.now.input.now in
    let found = c.in-Some.ensures in
    omega (arith, item_within t ok _ _ (sym found.value), next_above t ok _ _ _ (sym found.value) found.next)

pub walk-preserved : goal.walk-preserved
walk-preserved g c =
    let input = g.D.InputData in
    let t = input.meaning c.args.self.now.input.now in
    let ok = input.lawful c.args.self.now.input.now in
    let found = c.in-Some.ensures in
    let test = goes_on c.args.class in
    let step = ap (prefix_len test) (rest_more t ok _ _ _ (sym found.value) found.next) ∙ leading_yes test _ _ (sym c.if-not-goes_on.ensures.value) in
    (passed_more t ok _ _ _ _ _ _ c.walk.invariant.0 (sym found.value) found.next, omega (arith, c.walk.invariant.1, step))

-- where the run ends, it has passed all that it goes on with
ended : (t : Text) (i end count : ℕ) (test : ℕ → Bool) → Passed t i count end count → count + prefix_len test (rest t end) ≡ prefix_len test (rest t i) → prefix_len test (rest t end) ≡ 0 → Passed t i (prefix_len test (rest t i)) end count
ended t i end count test old sum none = subst (λ n. Passed t i n end count) (omega arith) old

pub returns-then-not-goes_on : goal.returns-then-not-goes_on
returns-then-not-goes_on g c =
    let input = g.D.InputData in
    let t = input.meaning c.args.self.now.input.now in
    let found = c.in-Some.ensures in
    let test = goes_on c.args.class in
    let none = ap (prefix_len test) (rest_more t (input.lawful c.args.self.now.input.now) _ _ _ (sym found.value) found.next) ∙ leading_no test _ _ (sym c.if-not-goes_on.ensures.value) in
    record { passed = ended t _ _ _ test c.walk.invariant.0 c.walk.invariant.1 none }

pub returns-in_default : goal.returns-in_default
returns-in_default g c =
    let input = g.D.InputData in
    let t = input.meaning c.args.self.now.input.now in
    let test = goes_on c.args.class in
    let none = ap (prefix_len test) (rest_none t (input.lawful c.args.self.now.input.now) _ c.walk.invariant.0.start (sym c.in_default.ensures.value)) in
    record { passed = ended t _ _ _ test c.walk.invariant.0 c.walk.invariant.1 none }
