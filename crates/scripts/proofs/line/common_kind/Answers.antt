use Rattle.std.proofs.Common.{◌≡◌, codes, rules, arith}
use Rattle.std.proofs.lemmas.Slice.Eq.{text_from_reads}
use Rattle.scripts.proofs.line.common_kind.Goals as goal

pub returns-in-common : goal.returns-in-common
returns-in-common c =
    let e : c.args.kind.now ≡ codes "common" = text_from_reads _ _ (omega arith) (search rules) in
    record { value = rw e (search rules) }
