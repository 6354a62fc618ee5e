use Rattle.std.proofs.Common.{sym, ap, ◌∙◌, arith}
use Rattle.lexer.specs.Lexed.{fraction, pointed}
use Rattle.lexer.specs.Passed.{rest}
use Rattle.lexer.proofs.Passing.{next_start, rest_more, rest_none, end_within}
use Rattle.lexer.proofs.Numbers.{number_whole, number_pointed, fraction_other, fraction_point}
use Rattle.lexer.proofs.sheet_lexer.Cursor.number.Goals as goal

pub returns-in_default : goal.returns-in_default
returns-in_default g c =
    let input = g.D.InputData in
    let t = input.meaning c.args.self.now.input.now in
    let whole = c.run-whole.ensures.passed in
    record { passed = number_whole t _ _ _ whole (ap fraction (rest_none t (input.lawful c.args.self.now.input.now) _ whole.start (sym c.in_default.ensures.value))) }

pub returns-then-point-ne-POINT : goal.returns-then-point-ne-POINT
returns-then-point-ne-POINT g c =
    let input = g.D.InputData in
    let t = input.meaning c.args.self.now.input.now in
    let found = c.in-Some.ensures in
    record { passed = number_whole t _ _ _ c.run-whole.ensures.passed (ap fraction (rest_more t (input.lawful c.args.self.now.input.now) _ _ _ (sym found.value) found.next) ∙ fraction_other _ (rest t c.in-Some.point.next) c.if-point-ne-POINT.true) }

pub invariant_of-after : goal.invariant_of-after
invariant_of-after g c =
    let input = g.D.InputData in
    record { start = next_start (input.meaning c.args.self.now.input.now) (input.lawful c.args.self.now.input.now) _ _ c.in-Some.ensures.next }

pub returns-then-fraction-eq0 : goal.returns-then-fraction-eq0
returns-then-fraction-eq0 g c =
    let input = g.D.InputData in
    let t = input.meaning c.args.self.now.input.now in
    let found = c.in-Some.ensures in
    let none = sym c.run-fraction.ensures.passed.counted ∙ c.if-fraction-eq0.true in
    record {
      passed =
          number_whole t _ _ _ c.run-whole.ensures.passed
          (ap fraction (rest_more t (input.lawful c.args.self.now.input.now) _ _ _ (sym found.value) found.next)
          ∙ fraction_point _ (rest t c.in-Some.point.next) c.if-point-ne-POINT.false ∙ ap pointed none);
    }

pub overflow_add-result : goal.overflow_add-result
overflow_add-result g c =
    let input = g.D.InputData in
    let whole = c.run-whole.ensures.passed in
    record { fits = omega (arith, whole.counted, whole.wide, end_within (input.meaning c.args.self.now.input.now) (input.lawful c.args.self.now.input.now) _ whole.start) }

pub overflow_add-result-2 : goal.overflow_add-result-2
overflow_add-result-2 g c =
    let input = g.D.InputData in
    let t = input.meaning c.args.self.now.input.now in
    let ok = input.lawful c.args.self.now.input.now in
    let whole = c.run-whole.ensures.passed in
    let part = c.run-fraction.ensures.passed in
    record { fits = omega (arith, whole.counted, whole.wide, part.counted, part.wide, end_within t ok _ whole.start, end_within t ok _ part.start) }

pub returns : goal.returns
returns g c =
    let input = g.D.InputData in
    let found = c.in-Some.ensures in
    record { passed = number_pointed (input.meaning c.args.self.now.input.now) (input.lawful c.args.self.now.input.now) _ _ _ _ _ _ _ c.run-whole.ensures.passed (sym found.value) found.next c.if-point-ne-POINT.false c.run-fraction.ensures.passed c.if-fraction-eq0.false }
