use Rattle.std.proofs.Common.{◌≡◌, codes, rules, arith}
use Rattle.std.proofs.lemmas.Slice.Eq.{text_from_reads}
use Rattle.scripts.proofs.line.with_three.Goals as goal

pub returns-in-104 : goal.returns-in-104
returns-in-104 c =
    let e : c.args.name.now ≡ codes "hidden-left" = text_from_reads _ _ (omega arith) (search rules) in
    record { value = rw e (search rules) }

pub returns-in-104-2 : goal.returns-in-104-2
returns-in-104-2 c =
    let e : c.args.name.now ≡ codes "hidden-right" = text_from_reads _ _ (omega arith) (search rules) in
    record { value = rw e (search rules) }
