use Rattle.std.proofs.Common.{◌≡◌, codes, rules, arith}
use Rattle.std.proofs.lemmas.Slice.Eq.{text_from_reads}
use Rattle.scripts.proofs.line.bare.Goals as goal

pub returns-in-consume : goal.returns-in-consume
returns-in-consume c =
    let e : c.args.name.now ≡ codes "consume" = text_from_reads _ _ (omega arith) (search rules) in
    record { value = rw e (search rules) }
