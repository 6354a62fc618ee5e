use Rattle.std.proofs.Common.{◌≡◌, codes, rules, arith}
use Rattle.std.proofs.lemmas.Slice.Eq.{text_from_reads}
use Rattle.scripts.proofs.line.with_one.Goals as goal

pub returns-in-release : goal.returns-in-release
returns-in-release c =
    let e : c.args.name.now ≡ codes "release" = text_from_reads _ _ (omega arith) (search rules) in
    record { value = rw e (search rules) }

pub returns-in-97 : goal.returns-in-97
returns-in-97 c =
    let e : c.args.name.now ≡ codes "all-text" = text_from_reads _ _ (omega arith) (search rules) in
    record { value = rw e (search rules) }
