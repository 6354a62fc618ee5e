use Rattle.std.proofs.Common.{◌<◌, length, sym, rules, arith, ap}
use Rattle.std.proofs.lemmas.Bool.{eqb-false}
use Rattle.scripts.proofs.Lining.{lines_parted}
use Rattle.scripts.proofs.words.LinesIterator.next.Goals as goal

pub returns-clause-steps : goal.returns-clause-steps
returns-clause-steps c =
    let some : 0 < length c.args.self.now.script.now = omega (arith, eqb-false _ _ (sym c.if-is_empty.ensures)) in
    lines_parted _ _ _ some c.front_line.ensures.line c.front_line.ensures.rest

pub returns-clause-goes : goal.returns-clause-goes
returns-clause-goes c =
    let some : 0 < length c.args.self.now.script.now = omega (arith, eqb-false _ _ (sym c.if-is_empty.ensures)) in
    let e = ap length (lines_parted _ _ _ some c.front_line.ensures.line c.front_line.ensures.rest) in
    search rules
