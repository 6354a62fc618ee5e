use Rattle.std.proofs.Common.{refl, arith}
use Rattle.characters.proofs.Starts.{start_from_within}
use Rattle.lexer.proofs.Sheets.{sheet}
use Rattle.lexer.proofs.Remarks.{told_apart}
use Rattle.lexer.proofs.sheet_lexer.SheetLexer.new.Goals as goal

pub invariant_of-result : goal.invariant_of-result
invariant_of-result g c =
    let input = g.D.InputData in
    let ok = input.lawful c.args.input in
    record { inside = omega (arith, c.start_from-at.ensures.value, start_from_within (input.meaning c.args.input) ok 0, ok.few); lines = omega arith; columns = omega arith }

pub returns : goal.returns
returns g c =
    let input = g.D.InputData in
    let t = input.meaning c.args.input in
    let ok = input.lawful c.args.input in
    let tokens = sheet t ok _ c.start_from-at.ensures.value in
    record { tokens = tokens; remark_is_never_a_value = told_apart t ok _ tokens; input = refl }
